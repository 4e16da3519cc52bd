pub mod Made
pub mod Lists
pub mod Anytime
mod Counting
mod Registering
mod Telling
pub mod InTime
pub mod Limits
