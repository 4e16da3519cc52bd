pub mod Chains
pub mod EntryMaps
pub mod FinMaps
pub mod Nodes
