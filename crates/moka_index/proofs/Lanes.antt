-- What is in the lanes, and how a write to one group changes it.
use Rattle.std.proofs.Common.{◌≡◌, ◌≢◌, ℕ, ◌+◌, ◌-◌, ◌*◌, ◌/◌, ◌%◌, ◌<◌, ◌≤◌, Some, None, List, [], length, inl, inr, sym, ap, ◌∙◌, arith}
use Rattle.std.proofs.lemmas.Bool.{cases_lt}
use Rattle.std.proofs.lemmas.Bool.Decides.{nat_tests}
use Rattle.std.proofs.lemmas.List.{get_or-set_same, get_or-set_other, get_or_past, get_or_default, length-set}
use Rattle.std.specs.Prelude.{slice_index_or, slice_set}
use Rattle.std.proofs.lemmas.Option.{some_pair_parts}
use Rattle.moka_index.specs.declared.group.Group.{Group}
use Rattle.moka_index.specs.Group.{empty_group, lane_hash, lane_place, entry_in, with_entry, without_lane, HasLanes}
use Rattle.moka_index.specs.Groups.{entry_at, group_at}

-- ---- one group

pub entry-here : (g : Group) (lane : ℕ) → lane < g.count → entry_in g lane ≡ Some (lane_place g lane, lane_hash g lane)
unfolding entry_in
entry-here g lane l = grind (arith, nat_tests)

pub entry-free : (g : Group) (lane : ℕ) → g.count ≤ lane → entry_in g lane ≡ None
unfolding entry_in
entry-free g lane l = grind (arith, nat_tests)

pub entry-below : (g : Group) (lane : ℕ) (e : ℕ × ℕ) → entry_in g lane ≡ Some e → lane < g.count
unfolding entry_in
entry-below g lane e h = grind (arith, nat_tests)

pub entry-is : (g : Group) (lane p h : ℕ) → entry_in g lane ≡ Some (p, h) → (lane < g.count) × ((lane_place g lane ≡ p) × (lane_hash g lane ≡ h))
entry-is g lane p h e =
    let l = entry-below g lane (p, h) e in
    (l, some_pair_parts _ _ _ _ (sym (entry-here g lane l) ∙ e))

module _ (g : Group) (lanes : HasLanes g) (hash place : ℕ) (room : g.count < 7) where
  pub with-here : entry_in (with_entry g hash place) g.count ≡ Some (place, hash)
  unfolding entry_in
  with-here =
      let a = get_or-set_same g.places g.count place 0 (omega (arith, lanes.places)) in
      let b = get_or-set_same g.hashes g.count hash 0 (omega (arith, lanes.hashes)) in
      grind (arith, nat_tests)

  pub with-other : (lane : ℕ) → lane ≢ g.count → entry_in (with_entry g hash place) lane ≡ entry_in g lane
  unfolding entry_in
  with-other lane ne =
      let a = get_or-set_other g.places g.count lane place 0 ne in
      let b = get_or-set_other g.hashes g.count lane hash 0 ne in
      grind (arith, nat_tests)

  pub with-lanes : HasLanes (with_entry g hash place)
  with-lanes = record { hashes = length-set g.hashes g.count hash ∙ lanes.hashes; places = length-set g.places g.count place ∙ lanes.places; count = omega arith }

module _ (g : Group) (lanes : HasLanes g) (lane : ℕ) (within : lane < g.count) where
  pub without-last : entry_in (without_lane g lane) (g.count - 1) ≡ None
  without-last = entry-free (without_lane g lane) (g.count - 1) (omega arith)

  pub without-here : lane ≢ g.count - 1 → entry_in (without_lane g lane) lane ≡ entry_in g (g.count - 1)
  unfolding entry_in
  without-here ne =
      let a = get_or-set_same g.places lane (lane_place g (g.count - 1)) 0 (omega (arith, lanes.places, lanes.count)) in
      let b = get_or-set_same g.hashes lane (lane_hash g (g.count - 1)) 0 (omega (arith, lanes.hashes, lanes.count)) in
      grind (arith, nat_tests)

  pub without-other : (other : ℕ) → other ≢ lane → other ≢ g.count - 1 → entry_in (without_lane g lane) other ≡ entry_in g other
  unfolding entry_in
  without-other other ne nl =
      let a = get_or-set_other g.places lane other (lane_place g (g.count - 1)) 0 ne in
      let b = get_or-set_other g.hashes lane other (lane_hash g (g.count - 1)) 0 ne in
      grind (arith, nat_tests)

  pub without-lanes : HasLanes (without_lane g lane)
  without-lanes = record { hashes = length-set g.hashes lane (lane_hash g (g.count - 1)) ∙ lanes.hashes; places = length-set g.places lane (lane_place g (g.count - 1)) ∙ lanes.places; count = omega (arith, lanes.count) }

-- ---- all groups

pub group-set : (groups : List Group) (at : ℕ) (g : Group) → at < length groups → group_at (slice_set groups at g) at ≡ g
group-set groups at g l = get_or-set_same groups at g empty_group l

pub group-past_set : (groups : List Group) (at i : ℕ) (g : Group) → i ≢ at → group_at (slice_set groups at g) i ≡ group_at groups i
group-past_set groups at i g ne = get_or-set_other groups at i g empty_group ne

-- what a read past the last group gives
abbrev pub blank : Group
blank = record { hashes = []; count = 0; places = []; reach = 0 }

-- a group that is read with another default
pub group-read : (groups : List Group) (i : ℕ) (d : Group) → i < length groups → slice_index_or groups i d ≡ group_at groups i
group-read groups i d l = get_or_default groups i d empty_group l

pub entry-empty : (lane : ℕ) → entry_in empty_group lane ≡ None
entry-empty lane = entry-free empty_group lane (omega arith)

-- a lane that is in use is one of the table
pub entry-inside : (groups : List Group) → ((i : ℕ) → HasLanes (group_at groups i)) → (q : ℕ) (e : ℕ × ℕ) → entry_at groups q ≡ Some e → (q / 7 < length groups) × (q < 7 * length groups)
entry-inside groups lanes q e h =
    let l : q / 7 < length groups = elim (cases_lt (q / 7) (length groups)) as (λ _. q / 7 < length groups) [
      | inl l ↦ l
      | inr l ↦
          let none : entry_at groups q ≡ None = ap (λ g. entry_in g (q % 7)) (get_or_past groups (q / 7) empty_group l) ∙ entry-empty (q % 7) in
          let bad : None ≡ Some e = sym none ∙ h in absurd cc
    ] in
    (l, omega arith)

pub lane-group : (at lane : ℕ) → lane < 7 → (7 * at + lane) / 7 ≡ at
lane-group at lane l = omega arith

pub lane-rest : (at lane : ℕ) → lane < 7 → (7 * at + lane) % 7 ≡ lane
lane-rest at lane l = omega arith

pub entry-at_lane : (groups : List Group) (at lane : ℕ) → lane < 7 → entry_at groups (7 * at + lane) ≡ entry_in (group_at groups at) lane
entry-at_lane groups at lane l = ap (λ i. entry_in (group_at groups i) ((7 * at + lane) % 7)) (lane-group at lane l) ∙ ap (entry_in (group_at groups at)) (lane-rest at lane l)
