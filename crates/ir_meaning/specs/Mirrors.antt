-- How the code leaves frames, numbers results, and keeps calls, and what it says of the definition's answer.
pub mod Numbering
pub mod Opening
pub mod Outcomes
pub mod Passing
pub mod Showing
pub mod Stacks
pub mod Typing
pub mod Walking
