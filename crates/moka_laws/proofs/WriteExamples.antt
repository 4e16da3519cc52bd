-- What writes do on worked cases.
use Rattle.std.proofs.Common.{◌≡◌, refl, ℕ, List, [], ◌∷◌, Option, Some, None, nat_cmp}
use Rattle.std.specs.FinMap.{get, remove, from_sorted, get-from_sorted}
use Rattle.moka_laws.proofs.Types.{Size, TinyLfu, Lru, Record, Member, Upsert, Records, Contents, Overtaken, Admitted, TooHeavy, Preferred, Refused}
use Rattle.moka_records.specs.Records.{member}
use Rattle.moka_parts.specs.Frequency.{SketchTable, table_after}
use Rattle.moka_parts.specs.Writes.{fate, after_write, left_by_write}

-- a record whose number, key and hash are the same
abbrev record_with : (number weight generation applied : ℕ) → Record ℕ ℕ
record_with number weight generation applied = record { number = number; key = number; hash = number; value = 7; written = record { 0 = 0 }; read = record { 0 = 0 }; expires = None; weight = weight; generation = generation; applied = applied }

-- two settled records and a candidate
abbrev listed : List (ℕ × Record ℕ ℕ)
listed = (1, record_with 1 1 1 1) ∷ (2, record_with 2 1 1 1) ∷ (3, record_with 3 1 1 0) ∷ []

abbrev records : Records ℕ ℕ
records = from_sorted listed

first : get records 1 ≡ Some (record_with 1 1 1 1)
first = get-from_sorted nat_cmp listed 1 tt

second : get records 2 ≡ Some (record_with 2 1 1 1)
second = get-from_sorted nat_cmp listed 2 tt

third : get records 3 ≡ Some (record_with 3 1 1 0)
third = get-from_sorted nat_cmp listed 3 tt

fourth : get records 4 ≡ None
fourth = get-from_sorted nat_cmp listed 4 tt

abbrev full : List Member → Option SketchTable → Contents ℕ ℕ
full access sketch = record { records = records; access = access; sketch = sketch }

abbrev seen : List ℕ → Option SketchTable
seen hashes = Some (table_after 128 hashes)

-- a tie is refused, since nothing was seen of either: the candidate leaves the map, and that is told
pub tie_refused :
    (fate (Some 2) TinyLfu (full (member 1 1 ∷ member 2 1 ∷ []) None) (Upsert 3 1 1 3) ≡ Refused)
    × (after_write (Some 2) TinyLfu (full (member 1 1 ∷ member 2 1 ∷ []) None) (Upsert 3 1 1 3) [] ≡ record (full (member 1 1 ∷ member 2 1 ∷ []) None) { records = remove records 3 })
    × (left_by_write (Some 2) TinyLfu (full (member 1 1 ∷ member 2 1 ∷ []) None) (Upsert 3 1 1 3) ≡ (3, 7, Size) ∷ [])
tie_refused = rw (third, first, second) (refl, refl, refl)

-- after reads of 3 and 1 the candidate 3 takes the place of 2
pub seen_more_often : fate (Some 2) TinyLfu (full (member 2 1 ∷ member 1 1 ∷ []) (seen (3 ∷ 1 ∷ []))) (Upsert 3 1 1 3) ≡ Preferred (member 2 1 ∷ [])
seen_more_often = rw (third, second, first) rw second refl

-- by recency alone it enters without victims
pub by_recency : fate (Some 2) Lru (full (member 1 1 ∷ member 2 1 ∷ []) None) (Upsert 3 1 1 3) ≡ Admitted
by_recency = rw third refl

-- one that is heavier than the capacity is refused
pub too_heavy : fate (Some 2) Lru (full (member 1 1 ∷ member 2 1 ∷ []) None) (Upsert 3 1 3 3) ≡ TooHeavy
too_heavy = rw third refl

-- an upsert that comes late for a record that left does nothing
pub late_upsert : after_write (Some 2) Lru (full (member 1 1 ∷ []) None) (Upsert 4 1 1 4) [] ≡ full (member 1 1 ∷ []) None
late_upsert = rw fourth refl

-- an overtaken upsert of a member moves it and no more
pub overtaken_upsert :
    (fate None Lru (full (member 1 1 ∷ member 2 1 ∷ []) None) (Upsert 1 1 9 1) ≡ Overtaken)
    × ((after_write None Lru (full (member 1 1 ∷ member 2 1 ∷ []) None) (Upsert 1 1 9 1) []).access ≡ member 2 1 ∷ member 1 1 ∷ [])
overtaken_upsert = rw first (refl, refl)

-- a newer upsert of a member brings its weight
pub newer_upsert : (after_write None Lru (full (member 1 1 ∷ member 2 1 ∷ []) None) (Upsert 1 2 9 1) []).access ≡ member 2 1 ∷ member 1 9 ∷ []
newer_upsert = rw first refl
