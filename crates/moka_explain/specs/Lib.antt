pub mod Looks
pub mod Grounds
pub mod Explained
pub mod Text
