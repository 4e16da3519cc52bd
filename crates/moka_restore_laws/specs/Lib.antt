pub mod Again
pub mod Looks
pub mod Among
