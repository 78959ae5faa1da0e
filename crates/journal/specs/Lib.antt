pub mod Record
pub mod Replay
pub mod Opening
pub mod Calls
pub mod Theorems
pub mod Viewed
