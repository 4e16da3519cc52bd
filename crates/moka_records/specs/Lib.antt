pub mod Time
pub mod Records
pub mod RecordParts
pub mod Hashing
pub mod KeyTests
