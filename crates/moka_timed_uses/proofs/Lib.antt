pub mod LookedUp
pub mod Idle
pub mod Named
pub mod Among
pub mod Limited
pub mod LoggedOut
pub mod Bound
