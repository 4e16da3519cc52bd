pub mod Arguments
pub mod Replay
