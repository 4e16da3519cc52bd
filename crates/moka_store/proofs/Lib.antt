mod Fitting
pub mod Gets
pub mod Keys
pub mod KnownOrders
pub mod Listed
pub mod Looked
pub mod Members
pub mod Nodes
pub mod Orders
pub mod Places
pub mod Slots
pub mod Steps
pub mod Ties
pub mod Timed
pub mod Weights
pub mod Written
