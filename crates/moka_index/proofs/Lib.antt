pub mod Bits
pub mod Changes
pub mod Gets
pub mod Lanes
pub mod Maps
pub mod Moves
pub mod Probes
pub mod Search
