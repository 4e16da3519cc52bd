-- The types of the crate and of its reference cache, with their variants, which proofs take from here.
pub use Rattle.moka_records.specs.declared.records.Member.{Member}
pub use Rattle.moka_records.specs.declared.records.Record.{Record}
pub use Rattle.moka_parts.specs.declared.records.Registered.{Registered}
pub use Rattle.moka_types.specs.declared.calls.Call.{Call}
pub use Rattle.moka_types.specs.declared.calls.Reply.{Reply}
pub use Rattle.moka_types.specs.declared.error.PredicateError.{PredicateError}
pub use Rattle.moka_types.specs.declared.error.PredicateRefused.{PredicateRefused}
pub use Rattle.moka_parts.specs.declared.notification.RemovalCause.{RemovalCause}
pub use Rattle.moka_records.specs.declared.instant.Instant.{Instant}
pub use Rattle.moka_records.specs.Records.{Records}
pub use Rattle.moka_parts.specs.Notices.{Notice}
pub use Rattle.moka_parts.specs.State.{State, Meaning}
pub use Rattle.moka_parts.specs.Maintenance.{Freedom, Terms, Course}
pub use Rattle.moka_parts.specs.Runs.{Engine, Step}
