pub mod Waiting
pub mod Posting
pub mod Asking
pub mod Gone
pub mod ByTest
pub mod Stays
pub mod Put
pub mod Getting
pub mod Alike
mod Listing
pub mod Entries
pub mod Computing
pub mod InOrder
pub mod Gotten
pub mod Keeping
pub mod Roomy
pub mod Lasting
pub mod Restoring
pub mod There
pub mod Membership
pub mod Saving
mod Settings
mod EachOne
pub use Rattle.moka_calls.proofs.Made
pub use Rattle.moka_calls.proofs.Lists
pub use Rattle.moka_calls.proofs.Anytime
pub use Rattle.moka_calls.proofs.Limits
