pub mod Removed
mod Counts
mod Lowest
mod Going
