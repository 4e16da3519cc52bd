pub mod Maps
pub mod Options
pub mod Values
pub mod AccessList
pub mod WriteList
pub mod Lookup
pub mod Tested
