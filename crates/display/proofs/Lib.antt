mod OfSheet
mod Backwards
mod Spared
mod Gathering
mod Adding
pub mod Sure
pub mod Slots
pub mod Numbered
pub mod TextOf
pub mod Orders
pub mod Shown
pub mod Listed
