pub mod Popped
pub mod Listed
pub mod Placed
pub mod Told
pub mod Fates
pub mod Stepped
pub mod Seen
pub mod Timing
pub mod Upkeep
pub mod Fronts
mod WritesApplied
mod ReadsApplied
pub mod Walking
pub mod Sweeping
pub mod Expiring
pub mod Grounded
pub mod PassSteps
pub mod Passing
pub mod Fewer
pub mod Promises
pub mod Dropping
pub mod Walked
pub mod Rounds
pub mod ScanEnds
pub mod Scanned
