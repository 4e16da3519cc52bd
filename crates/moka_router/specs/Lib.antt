pub mod Capacity
pub mod Routing
pub mod Lending
