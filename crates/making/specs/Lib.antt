pub mod Request
pub mod Sorted
pub mod Making
pub mod Known
pub mod Theorems
