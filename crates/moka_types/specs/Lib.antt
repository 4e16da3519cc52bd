pub mod Policy
pub mod Restores
pub mod Texts
