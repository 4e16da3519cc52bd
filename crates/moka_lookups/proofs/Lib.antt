pub mod FindSteps
pub mod Passing
