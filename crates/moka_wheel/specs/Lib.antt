pub mod TimerWheel
pub mod Slots
pub mod Nodes
pub mod Levels
pub mod Buckets
pub mod Invariant
