pub mod Expirations
pub mod Gets
pub mod Inserts
pub mod Sights
pub mod Snapshot
