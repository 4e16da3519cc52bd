-- Operations and reads that wait, with the places of their records' rows.
use Rattle.std.specs.Prelude.{◌≡◌, ℕ, true, false, List, [], ◌∷◌, Contains, map, Option, Some}
use Rattle.std.specs.FinMap.{FinMap, get}
use Rattle.std.specs.Ordering.{nat_cmp}
use Rattle.moka_records.specs.declared.records.ReadOperation.{ReadOperation}
use Rattle.moka_records.specs.declared.records.ReadOperation.TheVariants.{Hit, Miss}
use Rattle.moka_records.specs.declared.records.Ticketed.{Ticketed}
use Rattle.moka_parts.specs.Frequency.{SketchTable, counted_once}
use Rattle.moka_maintenance.specs.declared.queued.QueuedWrite.{QueuedWrite}
use Rattle.moka_maintenance.specs.declared.queued.Outcome.{Outcome}
use Rattle.moka_maintenance.specs.declared.queued.Outcome.TheVariants as O
use Rattle.moka_maintenance.specs.declared.queued.QueuedRead.{QueuedRead}

-- the operation under its ticket, without the place
abbrev pub handed_of : QueuedWrite → Ticketed
handed_of q = record { ticket = q.ticket; operation = q.write.operation }

-- the queued operations
abbrev pub writes_of : List QueuedWrite → List Ticketed
writes_of writes = map handed_of writes

-- the read of this outcome
abbrev pub read_with : Outcome → ℕ → ℕ → ReadOperation
read_with O.Hit number hash = Hit number hash false
read_with O.Renewal number hash = Hit number hash true
read_with O.Miss number hash = Miss hash

-- the read without the place
abbrev pub read_of : QueuedRead → ReadOperation
read_of q = read_with q.outcome q.number q.hash

-- the queued reads
abbrev pub reads_of : List QueuedRead → List ReadOperation
reads_of reads = map read_of reads

-- the sketch once the hash of each of these reads was counted, in order
abbrev pub counted_all : Option SketchTable → List QueuedRead → Option SketchTable
counted_all sketch [] = sketch
counted_all sketch (q ∷ qs) = counted_all (counted_once sketch q.hash) qs

-- if the number has a row, that is at the place
abbrev pub IsAt : FinMap nat_cmp ℕ → ℕ → ℕ → Type 0
IsAt places number place = (p : ℕ) → get places number ≡ Some p → p ≡ place

-- if the record of a hit has a row, that is at the place
abbrev pub IsReadAt : FinMap nat_cmp ℕ → ℕ → ReadOperation → Type 0
IsReadAt places place (Hit number hash renewed) = IsAt places number place
IsReadAt places place (Miss hash) = Unit {0}

-- the read is a hit of the number that renewed its record's expiry
abbrev pub IsRenewed : ReadOperation → ℕ → Type 0
IsRenewed read n = (hash : ℕ) × (read ≡ Hit n hash true)

-- one of the reads is
abbrev pub IsRenewedBy : List QueuedRead → ℕ → Type 0
IsRenewedBy reads n = (q : QueuedRead) × Contains reads q × IsRenewed (read_of q) n
