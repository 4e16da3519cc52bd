-- The types of the crate and of its reference cache, with their variants, which proofs take from here.
pub use Rattle.moka_records.specs.declared.records.Member.{Member}
pub use Rattle.moka_records.specs.declared.records.Operation.{Operation}
pub use Rattle.moka_records.specs.declared.records.Operation.TheVariants.{Upsert, Removal}
pub use Rattle.moka_records.specs.declared.records.ReadOperation.{ReadOperation}
pub use Rattle.moka_records.specs.declared.records.ReadOperation.TheVariants.{Miss, Hit}
pub use Rattle.moka_records.specs.declared.records.Record.{Record}
pub use Rattle.moka_parts.specs.declared.records.Registered.{Registered}
pub use Rattle.moka_records.specs.declared.records.Ticketed.{Ticketed}
pub use Rattle.moka_types.specs.declared.calls.Call.{Call}
pub use Rattle.moka_types.specs.declared.calls.Entry.{Entry}
pub use Rattle.moka_types.specs.declared.calls.KvEntry.{KvEntry}
pub use Rattle.moka_types.specs.declared.calls.Reply.{Reply}
pub use Rattle.moka_types.specs.declared.calls.Ticket.{Ticket}
pub use Rattle.moka_types.specs.declared.error.InsertRefused.{InsertRefused}
pub use Rattle.moka_types.specs.declared.error.OutOfMemory.{OutOfMemory}
pub use Rattle.moka_types.specs.declared.error.SendError.{SendError}
pub use Rattle.moka_types.specs.declared.error.SendError.TheVariants.{UnknownTicket, QueueFull}
pub use Rattle.moka_parts.specs.declared.notification.RemovalCause.{RemovalCause}
pub use Rattle.moka_parts.specs.declared.notification.RemovalCause.TheVariants.{Size, Expired, Explicit, Replaced}
pub use Rattle.moka_types.specs.declared.policy.EvictionPolicy.{EvictionPolicy}
pub use Rattle.moka_types.specs.declared.policy.EvictionPolicy.TheVariants.{TinyLfu, Lru}
pub use Rattle.moka_records.specs.declared.instant.Instant.{Instant}
pub use Rattle.moka_records.specs.Records.{Records, Operations}
pub use Rattle.moka_parts.specs.Notices.{Notice}
pub use Rattle.moka_parts.specs.State.{State, Settings, Contents, Meaning, Events}
pub use Rattle.moka_parts.specs.Housekeeping.{Housekeeping}
pub use Rattle.moka_parts.specs.Writes.{Fate, Ignored, Overtaken, Counted, Admitted, TooHeavy, Preferred, Refused}
pub use Rattle.moka_parts.specs.Maintenance.{Choice, Removes, MovesToBack, Drops, Freedom, Terms, Course, Tests}
pub use Rattle.moka_parts.specs.Runs.{Engine, Step}
