pub mod Heading
pub mod Splitting
pub mod Resolving
pub mod FormingItems
pub mod FormingModules
pub mod OneModule
pub mod Within
pub mod Exactly
