pub mod There
pub mod Telling
pub mod Listing
pub mod Gathering
pub mod Walking
pub mod Sizes
pub mod Sending
