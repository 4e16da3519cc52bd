-- What a search has seen so far.
use Rattle.std.proofs.Common.{◌≡◌, ◌≢◌, ℕ, ◌+◌, ◌*◌, ◌-◌, ◌/◌, ◌%◌, ◌<◌, ◌≤◌, Some, List, length, ◌⊎◌, inl, inr, sym, ap, subst, ◌∙◌, arith}
use Rattle.std.proofs.lemmas.Bool.{cases_eq}
use Rattle.std.proofs.lemmas.Option.{same_Some}
use Rattle.std_collections.specs.IndexTable.Group.{IsBitSet}
use Rattle.moka_index.specs.declared.group.Group.{Group}
use Rattle.moka_index.specs.Group.{entry_in, lane_hash, home}
use Rattle.moka_index.specs.Groups.{group_at, entry_at, probe, distance, IsGroups, IsExactAt, AreExactBut, IsTight, StaysExact}
use Rattle.moka_index.proofs.Probes.{home-lt, distance-lt, probe-distance}
use Rattle.moka_index.proofs.Lanes.{entry-is}
use Rattle.std_collections.proofs.IndexTableLemmas.Bits.{no_bit_zero}
use Rattle.moka_index.proofs.Changes.{inside-of}

-- each lane with the hash still has its bit, or its place failed the test, and no other lane has one
pub record LanesLeft (P : ℕ → Type 0) (g : Group) (hash matches : ℕ) : Type 0 where
  pub rest : (lane p : ℕ) → entry_in g lane ≡ Some (p, hash) → IsBitSet matches lane ⊎ P p
  pub only : (lane : ℕ) → lane < 7 → IsBitSet matches lane → lane_hash g lane ≡ hash

pub none-left : (P : ℕ → Type 0) (g : Group) (hash matches : ℕ) → LanesLeft P g hash matches → matches ≡ 0 → (lane p : ℕ) → entry_in g lane ≡ Some (p, hash) → P p
none-left P g hash matches l z lane p e = elim (l.rest lane p e) as (λ _. P p) [
  | inl set ↦ absurd (no_bit_zero lane (subst (λ n. IsBitSet n lane) z set))
  | inr done ↦ done
]

-- the places with the hash in the groups so far failed the test
pub record GroupsLeft (P : ℕ → Type 0) (groups : List Group) (hash step : ℕ) : Type 0 where
  pub seen : (k : ℕ) → k < step → (lane p : ℕ) → entry_in (group_at groups (probe (length groups) (home (length groups) hash) k)) lane ≡ Some (p, hash) → P p

-- the same, at the group that is next
pub record IsAt (P : ℕ → Type 0) (groups : List Group) (hash step at : ℕ) : Type 0 where
  pub left : GroupsLeft P groups hash step
  pub here : at ≡ probe (length groups) (home (length groups) hash) step
  pub within : at < length groups

pub all-seen : (P : ℕ → Type 0) (groups : List Group) (hash step : ℕ) → IsGroups groups → GroupsLeft P groups hash step → (group_at groups (home (length groups) hash)).reach < step → (q p : ℕ) → entry_at groups q ≡ Some (p, hash) → P p
all-seen P groups hash step g s far q p e =
    let within = (inside-of groups g q (p, hash) e).0 in
    let some : 0 < length groups = omega arith in
    let first_in = home-lt (length groups) hash some in
    let near = g.reached.within q (p, hash) e in
    let at = probe-distance (length groups) (home (length groups) hash) (q / 7) first_in within in
    s.seen (distance (length groups) (home (length groups) hash) (q / 7)) (omega arith) (q % 7) p (subst (λ i. entry_in (group_at groups i) (q % 7) ≡ Some (p, hash)) (sym at) e)

-- no group so far has a free lane
pub record Full (groups : List Group) (first step : ℕ) : Type 0 where
  pub full : (k : ℕ) → k < step → 7 ≤ (group_at groups (probe (length groups) first k)).count

pub full-all : (groups : List Group) (first : ℕ) → first < length groups → Full groups first (length groups) → (i : ℕ) → i < length groups → 7 ≤ (group_at groups i).count
full-all groups first l f i h =
    subst (λ j. 7 ≤ (group_at groups j).count) (probe-distance (length groups) first i l h) (f.full (distance (length groups) first i) (distance-lt (length groups) first i l h))

-- no place whose home is the first group is farther from it
pub record Falls (groups : List Group) (first r : ℕ) : Type 0 where
  pub less : r ≤ (group_at groups first).reach
  pub enough : (q : ℕ) (e : ℕ × ℕ) → entry_at groups q ≡ Some e → home (length groups) e.1 ≡ first → distance (length groups) first (q / 7) ≤ r

pub falls-next : (groups : List Group) (first r : ℕ) → IsGroups groups → first < length groups → Falls groups first r → ((lane : ℕ) → lane < (group_at groups (probe (length groups) first r)).count → home (length groups) (lane_hash (group_at groups (probe (length groups) first r)) lane) ≢ first) → Falls groups first (r - 1)
falls-next groups first r g l f none = record {
  less = omega (arith, f.less);
  enough = λ q e h s.
      let near = f.enough q e h s in
      elim (cases_eq (distance (length groups) first (q / 7)) r) as (λ _. distance (length groups) first (q / 7) ≤ r - 1) [
        | inl far ↦
            let within = (inside-of groups g q e h).0 in
            let there : probe (length groups) first r ≡ q / 7 = ap (probe (length groups) first) (sym far) ∙ probe-distance (length groups) first (q / 7) l within in
            let w = entry-is (group_at groups (q / 7)) (q % 7) e.0 e.1 h in
            let lane : q % 7 < (group_at groups (probe (length groups) first r)).count = subst (λ i. q % 7 < (group_at groups i).count) (sym there) w.0 in
            let hash : lane_hash (group_at groups (probe (length groups) first r)) (q % 7) ≡ e.1 = ap (λ i. lane_hash (group_at groups i) (q % 7)) there ∙ w.1.1 in
            absurd (none (q % 7) lane (ap (home (length groups)) hash ∙ s))
        | inr ne ↦ omega arith
      ];
}

-- ---- a place that left

module _ (old mid : List Group) (group lane place hash first : ℕ) (len : length mid ≡ length old) (first_is : first ≡ home (length mid) hash) (at : entry_at old (7 * group + lane) ≡ Some (place, hash)) (stays : StaysExact old mid group lane) (tight : IsTight old) where
  -- all reaches but that of its home stay exact
  pub others-exact : AreExactBut mid first
  others-exact i ne = stays i (inl foreign) (tight.exact i)
    where
      foreign : (e : ℕ × ℕ) → entry_at old (7 * group + lane) ≡ Some e → home (length old) e.1 ≢ i
      foreign e there = λ s. let same : e ≡ (place, hash) = same_Some e (place, hash) (sym there ∙ at) in
          ne (sym s ∙ ap (λ (x : ℕ × ℕ). home (length old) x.1) same ∙ ap (λ n. home n hash) (sym len) ∙ sym first_is)

  -- that too, if it is 0 or ends in another group
  pub all-exact : first < length mid → group < length mid → ((group_at mid first).reach ≡ 0) ⊎ (probe (length mid) first (group_at mid first).reach ≢ group) → IsTight mid
  all-exact first_in group_in ends = record {
    exact = λ i. elim (cases_eq i first) as (λ _. IsExactAt (length mid) (entry_at mid) (group_at mid i).reach i) [
      | inl s ↦ subst (λ j. IsExactAt (length mid) (entry_at mid) (group_at mid j).reach j) (sym s) (elim ends as (λ _. IsExactAt (length mid) (entry_at mid) (group_at mid first).reach first) [
        | inl none ↦ inl none
        | inr ne ↦ stays first (inr (λ far. ne (ap (probe (length mid) first) (sym far ∙ ap (λ n. distance n first group) (sym len)) ∙ probe-distance (length mid) first group first_in group_in))) (tight.exact first)
      ])
      | inr ne ↦ others-exact i ne
    ];
  }
