pub mod Walks
pub mod Block
pub mod Leading
pub mod Ends
pub mod Found
pub mod Drafting
pub mod Settles
