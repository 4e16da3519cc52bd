pub mod Linked
pub mod Lookups
pub mod Orders
pub mod Parts
pub mod Rings
pub mod Kept
pub mod Newest
pub mod Tickets
