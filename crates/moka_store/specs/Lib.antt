pub mod Hashing
pub mod WriteList
pub mod Store
pub mod Rows
pub mod StoreTies
pub mod Timers
pub mod Weights
