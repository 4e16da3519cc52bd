-- How TinyLFU compares a candidate with the members that would make room for it.
use Rattle.std.specs.Prelude.{ℕ, Bool, false, ◌==◌, not, ◌&&◌, ◌||◌, ◌+◌, ◌-◌, nat_lt, nat_le, List, [], ◌∷◌, option_map, Option, Some, None, sum_by, if◌then◌else◌}
use Rattle.std.specs.List.{before_first, last_or, list_all}
use Rattle.std.specs.Option.{option_map_or}
use Rattle.std.specs.FinMap.{get}
use Rattle.moka_records.specs.declared.records.Member.{Member}
use Rattle.moka_records.specs.Records.{Records, is_settled, settled_members}
use Rattle.moka_parts.specs.State.{Contents}
use Rattle.moka_parts.specs.Frequency.{frequency}

-- the shortest front whose counted weights sum to at least the weight, if there is one
abbrev pub prefix : List Member → ℕ → Option (List Member)
prefix [] weight = if weight == 0 then Some [] else None
prefix (a ∷ members) weight = if weight == 0 then Some []
    else option_map (λ front. a ∷ front) (prefix members (weight - a.counted))

-- the members in front of the last of the victims
abbrev pub before_last_of : List Member → List Member → List Member
before_last_of victims members =
    option_map_or (λ (last : Member). before_first (λ a. a.number == last.number) members) (last_or None victims) []

module _ {K V : Type 0} (records : Records K V) where
  -- six members side by side are unsettled, if so many unsettled ones stand right before the list
  abbrev pub has_six_unsettled : ℕ → List Member → Bool
  has_six_unsettled before [] = false
  has_six_unsettled before (a ∷ members) = if is_settled records a.number then has_six_unsettled 0 members
      else (nat_le 5 before || has_six_unsettled (before + 1) members)

  -- none of the numbers is a settled record's
  abbrev pub are_unsettled : List ℕ → Bool
  are_unsettled moved = list_all (λ n. not (is_settled records n)) moved

module _ {K V : Type 0} (c : Contents K V) where
  -- the hash of a member's record
  abbrev pub hash_of : Member → ℕ
  hash_of a = option_map_or (λ r. r.hash) (get c.records a.number) 0

  -- the summed frequencies of the members' records
  abbrev pub frequency_of_all : List Member → ℕ
  frequency_of_all members = sum_by (λ a. frequency c.sketch (hash_of a)) members

  -- the settled members, from the front, that would make room for the weight
  abbrev pub victims_for : ℕ → Option (List Member)
  victims_for weight = prefix (settled_members c.records c.access) weight

  -- the candidate was seen more often than the victims together, and no six unsettled members stand in a row before the
  -- last of them
  abbrev pub is_preferred : ℕ → List Member → Bool
  is_preferred hash victims = nat_lt (frequency_of_all victims)
      (frequency c.sketch hash) && not (has_six_unsettled c.records 0 (before_last_of victims c.access))
