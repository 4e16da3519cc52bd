-- The records, the access list and the write list of moka_records, with notices, for the crates above the engine.
pub use Rattle.moka_records.specs.Records.{Records, Operations, is_applied, record_of_key, with_record, member, counted_of, is_member, numbers_of, without_member, to_back, all_to_back, without_members, total_weight, has_room, is_listed, without_number, number_to_back, without_numbers, entered_by, IsListOf, is_settled, settled_numbers, settled_members}
pub use Rattle.moka_parts.specs.Notices.{Notice, when_listening}
