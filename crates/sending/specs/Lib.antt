pub mod Sending
pub mod Counting
pub mod Relation
pub mod Receiving
pub mod Theorems
