pub mod Sessions
pub mod Borrowed
pub mod Restarted
pub mod Logins
pub mod Joined
pub mod Shared
