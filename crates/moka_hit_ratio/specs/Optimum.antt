-- Which read of its key follows a read.
use Rattle.std.specs.Prelude.{◌≡◌, ℕ, zero, suc, ◌<◌, ◌^◌, ◌+◌, ◌-◌, ◌&&◌, ◌==◌, ◌⊎◌, nat_le, nat_lt, List, [], length, take, get_or, if◌then◌else◌}
use Rattle.std.specs.BTreeMap.{is_at}
use Rattle.std.specs.BTreeSet.{insert_key}
use Rattle.std.specs.List.{list_any}
use Rattle.std.specs.Ordering.{nat_cmp}
use Rattle.std.specs.Set.{remove_key}

-- between these two places the key is not read
abbrev pub NoneBetween : List ℕ → ℕ → ℕ → ℕ → Type 0
NoneBetween keys from to key = (p : ℕ) → from < p → p < to → get_or keys p 0 ≡ key → ⊥

-- of the first so many reads this is the place of the next one of the key that is read at `place`; the greatest number
-- if there is none
abbrev pub IsNextRead : List ℕ → ℕ → ℕ → ℕ → Type 0
IsNextRead keys many place next = ((next ≡ 2 ^ 64 - 1) × NoneBetween keys place many (get_or keys place 0))
    ⊎ ((place < next) × (next < many) × (get_or keys next 0 ≡ get_or keys place 0)
    × NoneBetween keys place next (get_or keys place 0))

-- ---- what the optimum finds

-- what it keeps, by the places of the next accesses in order, and what was counted
pub record Played : Type 0 where
  pub kept : List ℕ
  pub hits : ℕ
  pub reads : ℕ

-- if there are too many, without the one that comes last
abbrev pub kept_within : ℕ → List ℕ → List ℕ
kept_within capacity places = if nat_lt capacity (length places) then take (length places - 1) places else places

-- with the key that was read, unless it does not come again
abbrev pub kept_with : (capacity next : ℕ) → List ℕ → List ℕ
kept_with capacity next places =
    kept_within capacity (if next == 2 ^ 64 - 1 then places else insert_key nat_cmp places next)

-- the access at the place finds its key if its place is kept; from the first place that counts it is counted
abbrev pub after_access : (first capacity place next : ℕ) → Played → Played
after_access first capacity place next p = record {
  kept = kept_with capacity next (remove_key (is_at (nat_cmp place)) p.kept);
  hits = p.hits + (if nat_le first place && list_any (is_at (nat_cmp place)) p.kept then 1 else 0);
  reads = p.reads + (if nat_le first place then 1 else 0);
}

-- after so many of the accesses
abbrev pub played : (first capacity : ℕ) → List ℕ → ℕ → Played
played first capacity nexts zero = record { kept = []; hits = 0; reads = 0 }
played first capacity nexts (suc place) =
    after_access first capacity place (get_or nexts place 0) (played first capacity nexts place)
