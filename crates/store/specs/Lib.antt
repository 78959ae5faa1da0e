pub mod Entries
pub mod First
pub mod InUse
pub mod Kept
pub mod Laid
pub mod Pushed
pub mod Room
