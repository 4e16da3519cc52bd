-- Records by a test of the key in place of a key.
use Rattle.std.specs.Prelude.{Bool, find, Option}
use Rattle.std.specs.FinMap.{values}
use Rattle.moka_records.specs.declared.records.Record.{Record}
use Rattle.moka_records.specs.Records.{Records}

-- the record whose key passes
abbrev pub record_by : {K V : Type 0} → (K → Bool) → Records K V → Option (Record K V)
record_by passes records = find (λ r. passes r.key) (values records)
