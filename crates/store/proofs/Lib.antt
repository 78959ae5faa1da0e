pub mod Entries
pub mod Joined
pub mod Laid
pub mod Places
pub mod Pushed
pub mod Removed
pub mod Firsts
