use Rattle.std.proofs.Common.{ap, None}
use Rattle.slab.specs.declared.Entry.{Entry}
use Rattle.slab.specs.declared.Entry.TheVariants.{Vacant, Occupied}
use Rattle.moka_table.specs.RecordTable.{Row}
use Rattle.moka_table.proofs.table.slot.Slot.take.Goals as goal

-- a place without its record
abbrev without_record : {R : Type 0} → Entry (Row R) → Entry (Row R)
without_record (Vacant next) = Vacant next
without_record (Occupied row) = Occupied (record row { stored = None })

pub returns-clause-left : goal.returns-clause-left
returns-clause-left g c row is = rw c.replace.ensures.after (ap without_record (rw (← c.self.view_is, c.in-Live.is) at is))
