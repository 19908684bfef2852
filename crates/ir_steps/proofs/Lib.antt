pub mod Fits
mod Safely
mod NamingTypes
mod NamingConstants
mod Naming
mod NamingPlaces
mod Showing
mod StartingConstants
mod Starting
mod Values
mod Accessing
mod AccessingValues
mod AccessingMade
mod AccessingRanges
mod AccessingPointers
mod Evaluating
mod EvaluatingPointers
mod EvaluatingInsts
mod Replying
mod Copied
mod ReplyingBuiltins
mod ReplyingCalls
mod NumberingLists
mod Numbering
mod FramesSound
pub mod Frames
mod FramesKept
mod Entering
mod Branching
mod Returning
pub mod CallingTypes
mod Calling
pub mod Stepping
mod WorkedSteps
