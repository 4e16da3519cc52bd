-- The types of moka_calls and the counters as contracts see them.
pub use Rattle.moka_calls.specs.declared.compute.CompResult
pub use Rattle.moka_calls.specs.declared.compute.ComputeRefused
pub use Rattle.moka_calls.specs.declared.compute.Op
pub use Rattle.moka_calls.specs.declared.entry.CacheEntry
pub use Rattle.moka_calls.specs.declared.error.GetWithRefused
pub use Rattle.moka_calls.specs.declared.error.NotTold
pub use Rattle.moka_calls.specs.declared.many.GetManyRefused
pub use Rattle.moka_calls.specs.declared.many.InsertManyRefused
pub use Rattle.moka_calls.specs.declared.many.InvalidateManyRefused
pub use Rattle.moka_calls.specs.declared.removals.CountingListener
pub use Rattle.moka_calls.specs.declared.removals.Removals
pub use Rattle.moka_parts.specs.declared.stats.Stats
