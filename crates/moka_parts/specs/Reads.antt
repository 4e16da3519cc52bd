-- Queued reads applied.
use Rattle.std.specs.Prelude.{List, [], ◌∷◌, is_some, if◌then◌else◌}
use Rattle.std.specs.FinMap.{get}
use Rattle.moka_records.specs.declared.records.ReadOperation.{ReadOperation}
use Rattle.moka_records.specs.declared.records.ReadOperation.TheVariants.{Hit, Miss}
use Rattle.moka_records.specs.Records.{to_back}
use Rattle.moka_parts.specs.State.{Contents}
use Rattle.moka_parts.specs.Frequency.{counted_once}

module _ {K V : Type 0} where
  -- a read counts its hash; a hit of a record in the map moves its member, if it has one, to the back
  abbrev pub after_read : Contents K V → ReadOperation → Contents K V
  after_read c (Hit number hash renewed) = record c {
    sketch = counted_once c.sketch hash;
    access = if is_some (get c.records number) then to_back number c.access else c.access;
  }
  after_read c (Miss hash) = record c { sketch = counted_once c.sketch hash }

  -- all reads, in order
  abbrev pub after_reads : Contents K V → List ReadOperation → Contents K V
  after_reads c [] = c
  after_reads c (r ∷ rs) = after_reads (after_read c r) rs
