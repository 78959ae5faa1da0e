pub mod Members
pub mod Removed
mod Steps
mod Walking
mod Reaching
mod Joining
mod Shown
pub mod Cutting
mod ByNumber
pub mod Stepping
mod Writing
