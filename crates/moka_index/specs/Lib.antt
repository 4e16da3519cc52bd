pub mod Group
pub mod Groups
pub mod PlaceIndex
