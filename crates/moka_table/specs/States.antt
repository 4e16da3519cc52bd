-- What a place of the table stands for. No public clause cites this module.
use Rattle.std.specs.Prelude.{Bool, Some, None, is_some}
use Rattle.slab.specs.declared.Entry.{Entry}
use Rattle.slab.specs.declared.Entry.TheVariants.{Vacant, Occupied}
use Rattle.moka_records.specs.declared.instant.Instant.{Instant}
use Rattle.moka_records.specs.declared.record_ref.Front.{Front}
use Rattle.moka_table.specs.declared.table.Update.{Update}
use Rattle.moka_table.specs.declared.table.slot.FrontRef.{FrontRef}
use Rattle.moka_table.specs.declared.table.slot.State.{State}
use Rattle.moka_table.specs.declared.table.slot.State.TheVariants.{Live, Gone, Vacant as VacantPlace}
use Rattle.moka_table.specs.RecordTable.{Row}
use Rattle.moka_table.specs.Slots.{membership_of, slot_of}

module _ {K V : Type 0} where
  -- the row of a place with its record or without, or the next vacant place
  abbrev pub entry_of : State K V → Entry (Row (Front K V))
  entry_of (Live expiring access number hot written timer) =
      Occupied (record {
        number = number;
        stored = Some (record { hot = hot; expiring = expiring });
        membership = membership_of access written;
        timer = slot_of timer;
      })
  entry_of (Gone access number written timer) =
      Occupied (record {
        number = number;
        stored = None;
        membership = membership_of access written;
        timer = slot_of timer;
      })
  entry_of (VacantPlace next) = Vacant next

  -- what is lent
  abbrev pub front_of : FrontRef K V → Front K V
  front_of f = record { hot = f.hot.now; expiring = f.expiring }

  -- a front that was read at this moment, and then expires by itself or does not
  abbrev pub touched : Instant → Bool → Front K V → Front K V
  touched moment expiring f = record f { hot = record f.hot { read = moment }; expiring = expiring }

  -- a front with what an update brings
  abbrev pub rewritten : Update V → Front K V → Front K V
  rewritten update f = record {
    hot = record f.hot { value = update.value; read = update.now; written = update.now };
    expiring = is_some update.expires;
  }
