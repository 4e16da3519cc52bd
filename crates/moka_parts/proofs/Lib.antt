pub mod Types
pub mod Removals
pub mod Counting
pub mod Entries
pub mod RunsGoOn
pub mod Registry
