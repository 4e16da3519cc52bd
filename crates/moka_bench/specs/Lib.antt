pub mod Config
pub mod Phases
pub mod Engines
