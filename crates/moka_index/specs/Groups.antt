-- How the groups of an index hold its places. No public clause cites this module.
use Rattle.std.specs.Prelude.{◌≡◌, ◌≢◌, ℕ, ◌+◌, ◌-◌, ◌*◌, ◌/◌, ◌%◌, ◌^◌, ◌<◌, ◌≤◌, cond, nat_lt, nat_le, Option, Some, List, length, slice_index_or, slice_set, ◌⊎◌}
use Rattle.std.specs.FinMap as finite
use Rattle.std.specs.FinMap.{FinMap}
use Rattle.std.specs.Ordering.{nat_cmp}
use Rattle.moka_index.specs.declared.group.Group.{Group}
use Rattle.moka_links.specs.EntryMap.{upto, IsApart}
use Rattle.moka_index.specs.Group.{home, empty_group, entry_in, with_entry, raised, HasLanes}

-- ---- round the table

-- the group that is k groups past the first, of n
abbrev pub probe : ℕ → ℕ → ℕ → ℕ
probe n first k = cond (nat_lt (first + k) n) (first + k) (first + k - n)

-- the group behind one, of n
abbrev pub behind : ℕ → ℕ → ℕ
behind n at = cond (nat_lt (at + 1) n) (at + 1) 0

-- how many groups one is past the first, of n
abbrev pub distance : ℕ → ℕ → ℕ → ℕ
distance n first at = cond (nat_le first at) (at - first) (at + n - first)

-- ---- the groups

-- the group at a position
abbrev pub group_at : List Group → ℕ → Group
group_at groups i = slice_index_or groups i empty_group

-- the groups with one more place in the group at a position
abbrev pub pushed : List Group → ℕ → ℕ → ℕ → List Group
pushed groups at hash place = slice_set groups at (with_entry (group_at groups at) hash place)

-- the groups, of which one has a reach of at least this
abbrev pub with_reach : List Group → ℕ → ℕ → List Group
with_reach groups first step = slice_set groups first (raised (group_at groups first) step)

-- the place and the hash in a lane, where the lanes of all groups are numbered through
abbrev pub entry_at : List Group → ℕ → Option (ℕ × ℕ)
entry_at groups q = entry_in (group_at groups (q / 7)) (q % 7)

-- the hash of each place
unfoldable pub entries_of : List Group → FinMap nat_cmp ℕ
entries_of groups = upto (entry_at groups) (7 * length groups)

-- the group has its lanes, and its reach does not go round the table of n groups
pub record IsShaped (n : ℕ) (g : Group) : Type 0 where
  pub lanes : HasLanes g
  pub reach : 0 < n → g.reach < n

-- each place is within reach of the home of its hash
pub record IsReached (n : ℕ) (at : ℕ → Option (ℕ × ℕ)) (reach : ℕ → ℕ) : Type 0 where
  pub within : (q : ℕ) (e : ℕ × ℕ) → at q ≡ Some e → distance n (home n e.1) (q / 7) ≤ reach (home n e.1)

-- a group's reach, of n groups, is 0, or a place whose home it is lies that far behind it
abbrev pub IsExactAt : ℕ → (ℕ → Option (ℕ × ℕ)) → (reach i : ℕ) → Type 0
IsExactAt n at reach i = (reach ≡ 0)
    ⊎ ((q : ℕ) × (e : ℕ × ℕ) × (at q ≡ Some e) × (home n e.1 ≡ i) × (distance n i (q / 7) ≡ reach))

-- no reach is longer than the places ask for
pub record IsTight (groups : List Group) : Type 0 where
  pub exact : (i : ℕ) → IsExactAt (length groups) (entry_at groups) (group_at groups i).reach i

-- the same of all groups but one
abbrev pub AreExactBut : List Group → ℕ → Type 0
AreExactBut groups first = (i : ℕ) → i ≢ first → IsExactAt (length groups) (entry_at groups) (group_at groups i).reach i

-- a reach stays exact if the place that leaves a lane has another home, or was not the farthest
abbrev pub StaysExact : (old new : List Group) → (group lane : ℕ) → Type 0
StaysExact old new group lane = (i : ℕ) →
    (((e : ℕ × ℕ) → entry_at old (7 * group + lane) ≡ Some e → home (length old) e.1 ≢ i)
    ⊎ (distance (length old) i group ≢ (group_at new i).reach)) →
    IsExactAt (length old) (entry_at old) (group_at old i).reach i
    → IsExactAt (length new) (entry_at new) (group_at new i).reach i

-- what holds of the groups of every index
pub record IsGroups (groups : List Group) : Type 0 where
  pub shaped : (i : ℕ) → IsShaped (length groups) (group_at groups i)
  pub apart : IsApart (entry_at groups)
  pub reached : IsReached (length groups) (entry_at groups) (λ i. (group_at groups i).reach)
  pub bounded : length groups ≤ 2 ^ 32

-- the places are counted, a group has at most four on average, and no search goes farther than it must
pub record IsPlaceIndex (groups : List Group) (len : ℕ) : Type 0 where
  pub groups_are : IsGroups groups
  pub counted : len ≡ finite.len (entries_of groups)
  pub fits : len ≤ 4 * length groups
  pub tight : IsTight groups
