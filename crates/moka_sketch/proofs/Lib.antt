pub mod Word
pub mod Counters
pub mod Lengths
pub mod Examples
