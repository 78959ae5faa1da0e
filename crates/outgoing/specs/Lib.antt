pub mod Places
pub mod NameList
pub mod Theorems
pub mod Lacking
pub mod Sent
