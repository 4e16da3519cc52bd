-- A store that a record has left.
use Rattle.std.specs.Prelude.{◌≡◌, ℕ, Option}
use Rattle.std.specs.FinMap as finite
use Rattle.moka_records.specs.Records.{without_member, without_number}
use Rattle.moka_parts.specs.declared.notification.RemovalCause.{RemovalCause}
use Rattle.moka_parts.specs.Maintenance.{Removes, left_by_choice}
use Rattle.moka_store.specs.Store.{Kept, cursor_past}
use Rattle.moka_maintenance.specs.Steps.{contents_in, stock_in, after_step, Told}
use Rattle.moka_maintenance.specs.Upkeep.{SetsNoTimer}

-- the store without this number, with so much room: it has left the map, both orders and the timers, and its row is
-- given back
abbrev pub without_record : {K V S : Type 0} → ℕ → ℕ → Kept K V S → Kept K V S
without_record n room k = record k {
  records = finite.remove k.records n;
  access = without_member n k.access;
  written = without_number n k.written;
  timers = finite.remove k.timers n;
  cursor = cursor_past n k.written k.cursor;
  places = finite.remove k.places n;
  room = room;
}

-- the record of the number leaves with this cause: it is that step, the store is without the number, and the listener
-- is told
pub record Expels {K V L S : Type 0} (tells : L → K → V → RemovalCause → L → Type 0) (n : ℕ) (cause : RemovalCause)
    (old new : Kept K V S) (l m : Option L) : Type 0 where
  pub step : stock_in new ≡ after_step (stock_in old) (Removes n cause)
  pub told : Told tells l (left_by_choice (contents_in old) (Removes n cause)) m
  pub whole : new ≡ without_record n new.room old
  pub upkeep : SetsNoTimer old new
