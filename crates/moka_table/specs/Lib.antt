pub mod Rows
pub mod RecordTable
pub mod Slots
pub mod States
pub mod Updates
