pub mod Back
pub mod Next
pub mod Trying
pub mod Turns
