pub mod Reads
pub mod Fifo
pub mod Line
pub mod Optimum
pub mod Ratios
pub mod Rows
pub mod Through
