pub mod Requests
pub mod Settled
pub mod Theorems
