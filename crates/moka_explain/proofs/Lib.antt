pub mod Looked
pub mod Room
pub mod Grounds
pub mod Ran
mod Lines
mod InTurn
