pub mod AnswerLaws
pub mod Apart
pub mod Found
pub mod JsonLaws
pub mod KeyLaws
pub mod KeysPass
pub mod NameLaws
