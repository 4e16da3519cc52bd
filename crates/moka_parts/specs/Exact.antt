-- When counts and weights are exactly the records'.
use Rattle.std.specs.Prelude.{◌≡◌, ℕ, ◌==◌, ◌≤◌, min, List, sum_by, Option, Some, None, option_map, ⊤}
use Rattle.std.specs.List.{IsDistinct}
use Rattle.std.specs.FinMap.{get, len, values}
use Rattle.moka_records.specs.declared.records.Member.{Member}
use Rattle.moka_records.specs.Records.{Records, counted_of, numbers_of, total_weight}
use Rattle.moka_parts.specs.State.{State}
use Rattle.moka_records.specs.Time.{greatest}

-- the sum of the records' weights
abbrev pub weight_of_records : {K V : Type 0} → Records K V → ℕ
weight_of_records records = sum_by (λ r. r.weight) (values records)

-- the access list has just the records' numbers, each once and with the record's own weight
pub record AreExactMembers {K V : Type 0} (records : Records K V) (access : List Member) : Type 0 where
  pub once : IsDistinct (◌==◌) (numbers_of access)
  pub members : (n : ℕ) → counted_of n access ≡ option_map (λ r. r.weight) (get records n)

-- the same, and the report is the records' number and weight
pub record IsExact {K V X P W : Type 0} (s : State K V X P W) : Type 0 where
  pub exact : AreExactMembers s.records s.access
  pub count : s.count ≡ len s.records
  pub weight : s.weight ≡ min (weight_of_records s.records) greatest

-- the weight is within the capacity, if there is one
abbrev pub IsWithin : Option ℕ → List Member → Type 0
IsWithin None members = ⊤
IsWithin (Some capacity) members = total_weight members ≤ capacity
