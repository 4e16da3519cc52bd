pub mod Values
pub mod Interior
pub mod Inner
pub mod ReadNumber
