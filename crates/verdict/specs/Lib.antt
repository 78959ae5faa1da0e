pub mod FromNeeds
pub mod Verdict
pub mod Theorems
