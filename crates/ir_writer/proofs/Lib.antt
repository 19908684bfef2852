pub mod Bytes
pub mod CallTexts
pub mod ConstantTexts
pub mod ItemTexts
pub mod LineTexts
pub mod StraightFormed
pub mod TypeTexts
