pub mod ColdRows
pub mod Reserving
pub mod RowCalls
pub mod TableCalls
pub mod TableMaps
pub mod WholeMaps
