pub mod Chains
pub mod EntryMap
pub mod Links
