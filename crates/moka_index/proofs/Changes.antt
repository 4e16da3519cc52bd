-- The groups after each call.
use Rattle.std.proofs.Common.{◌≡◌, ◌≢◌, ℕ, ◌+◌, ◌-◌, ◌*◌, ◌/◌, ◌%◌, ◌^◌, ◌<◌, ◌≤◌, max, Option, Some, None, List, length, ◌⊎◌, inl, inr, refl, sym, ap, subst, ◌∙◌, arith}
use Rattle.std.proofs.lemmas.Bool.{cases_eq, cases_lt}
use Rattle.std.proofs.lemmas.List.{length-set}
use Rattle.std.specs.Prelude.{slice_index_or, slice_set}
use Rattle.std.specs.FinMap.{FinMap, get, insert, remove, len}
use Rattle.std.specs.Ordering.{nat_cmp}
use Rattle.std.proofs.lemmas.Option.{same_Some}
use Rattle.moka_index.specs.declared.group.Group.{Group}
use Rattle.moka_index.specs.Group.{lane_hash, lane_place, entry_in, with_entry, without_lane, raised, home, HasLanes}
use Rattle.moka_links.specs.EntryMap.{upto}
use Rattle.moka_index.specs.Groups.{entry_at, group_at, pushed, with_reach, probe, distance, entries_of, IsShaped, IsReached, IsGroups, IsExactAt, AreExactBut, IsTight}
use Rattle.moka_index.proofs.Probes.{distance-probe}
use Rattle.moka_index.proofs.Lanes.{blank, group-read, entry-here, entry-free, entry-below, with-here, with-other, with-lanes, without-last, without-here, without-other, without-lanes, group-set, group-past_set, entry-inside, entry-at_lane, lane-group}
use Rattle.moka_index.proofs.Maps.{Becomes, becomes-inserted, becomes-removed, becomes-same}
use Rattle.moka_links.proofs.EntryMaps.{has-upto, found-upto, len-full}

pub lanes-of : (groups : List Group) → IsGroups groups → (i : ℕ) → HasLanes (group_at groups i)
lanes-of groups g i = (g.shaped i).lanes

pub inside-of : (groups : List Group) → IsGroups groups → (q : ℕ) (e : ℕ × ℕ) → entry_at groups q ≡ Some e → (q / 7 < length groups) × (q < 7 * length groups)
inside-of groups g q e h = entry-inside groups (lanes-of groups g) q e h

-- a group that is written, and all others
pub group-cases : (groups : List Group) (at : ℕ) (g : Group) (i : ℕ) → at < length groups → ((i ≡ at) × (group_at (slice_set groups at g) i ≡ g)) ⊎ ((i ≢ at) × (group_at (slice_set groups at g) i ≡ group_at groups i))
group-cases groups at g i l = elim (cases_eq i at) as (λ _. ((i ≡ at) × (group_at (slice_set groups at g) i ≡ g)) ⊎ ((i ≢ at) × (group_at (slice_set groups at g) i ≡ group_at groups i))) [
  | inl s ↦ inl (s, ap (group_at (slice_set groups at g)) s ∙ group-set groups at g l)
  | inr ne ↦ inr (ne, group-past_set groups at i g ne)
]

-- what a write leaves of each group
group-keeps : {B : Type 0} (h : Group → B) (groups : List Group) (at : ℕ) (g : Group) → at < length groups → (i : ℕ) → (i ≡ at → h g ≡ h (group_at groups at)) → h (group_at (slice_set groups at g) i) ≡ h (group_at groups i)
group-keeps h groups at g l i same = elim (group-cases groups at g i l) as (λ _. h (group_at (slice_set groups at g) i) ≡ h (group_at groups i)) [
  | inl c ↦ ap h c.1 ∙ same c.0 ∙ ap (λ j. h (group_at groups j)) (sym c.0)
  | inr c ↦ ap h c.1
]

-- what holds of the group that is written, and of all others
group-all : (P : Group → Type 0) (groups : List Group) (at : ℕ) (g : Group) → at < length groups → P g → ((i : ℕ) → P (group_at groups i)) → (i : ℕ) → P (group_at (slice_set groups at g) i)
group-all P groups at g l own others i = elim (group-cases groups at g i l) as (λ _. P (group_at (slice_set groups at g) i)) [
  | inl c ↦ subst P (sym c.1) own
  | inr c ↦ subst P (sym c.1) (others i)
]

-- a place in a group that was read is in its lane of the table
pub lane-read : (groups : List Group) → IsGroups groups → (at lane p h : ℕ) → at < length groups → entry_in (slice_index_or groups at blank) lane ≡ Some (p, h) → (lane < 7) × (entry_at groups (7 * at + lane) ≡ Some (p, h))
lane-read groups g at lane p h at_in there =
    let here : entry_in (group_at groups at) lane ≡ Some (p, h) = ap (λ x. entry_in x lane) (sym (group-read groups at blank at_in)) ∙ there in
    let small : lane < 7 = omega (arith, entry-below (group_at groups at) lane (p, h) here, (lanes-of groups g at).count) in
    (small, entry-at_lane groups at lane small ∙ here)

-- the map has the hash of the place in each lane
pub get-entry : (groups : List Group) → IsGroups groups → (q p h : ℕ) → entry_at groups q ≡ Some (p, h) → get (entries_of groups) p ≡ Some h
unfolding entries_of
get-entry groups g q p h e = has-upto (entry_at groups) g.apart (7 * length groups) p h q (inside-of groups g q (p, h) e).1 e

-- the lane that a place of the map is in
pub entry-found : (groups : List Group) (p h : ℕ) → get (entries_of groups) p ≡ Some h → (q : ℕ) × ((q < 7 * length groups) × (entry_at groups q ≡ Some (p, h)))
unfolding entries_of
entry-found groups p h e = let w = found-upto (entry_at groups) (7 * length groups) p h e in (w.place, (w.within, w.at_is))

-- where no group has a free lane, the table is full
pub full-len : (groups : List Group) → IsGroups groups → ((i : ℕ) → i < length groups → 7 ≤ (group_at groups i).count) → len (entries_of groups) ≡ 7 * length groups
unfolding entries_of
full-len groups g full = len-full (entry_at groups) g.apart (7 * length groups) (λ q l none.
    let i : q / 7 < length groups = omega arith in
    let lane : q % 7 < (group_at groups (q / 7)).count = omega (arith, full (q / 7) i) in
    let some = entry-here (group_at groups (q / 7)) (q % 7) lane in
    cc)

-- the reach of a group changes no place
record-reach : (g : Group) (r lane : ℕ) → entry_in (record g { reach = r }) lane ≡ entry_in g lane
unfolding entry_in
record-reach g r lane = refl

reach-entry : (groups : List Group) (first r : ℕ) → first < length groups → (q : ℕ) → entry_at (slice_set groups first (record (group_at groups first) { reach = r })) q ≡ entry_at groups q
reach-entry groups first r l q = group-keeps (λ x. entry_in x (q % 7)) groups first (record (group_at groups first) { reach = r }) l (q / 7) (λ _. record-reach (group_at groups first) r (q % 7))

-- nor what a group must be
reach-shaped : (n r : ℕ) (g : Group) → HasLanes g → (0 < n → r < n) → IsShaped n (record g { reach = r })
reach-shaped n r g lanes less = record { lanes = record { hashes = lanes.hashes; places = lanes.places; count = lanes.count }; reach = less }

-- what was that far behind its home is so still, where places stay in their lanes
exact-kept : (n : ℕ) (old new : ℕ → Option (ℕ × ℕ)) (r i : ℕ) → ((q : ℕ) (e : ℕ × ℕ) → old q ≡ Some e → new q ≡ Some e) → IsExactAt n old r i → IsExactAt n new r i
exact-kept n old new r i same was = elim was as (λ _. IsExactAt n new r i) [ inl none ↦ inl none | inr w ↦ inr (w.0, w.1, same w.0 w.1 w.2, w.3, w.4) ]

-- all that a call leaves behind
pub record Leaves (old new : List Group) (m : FinMap nat_cmp ℕ) : Type 0 where
  pub groups : IsGroups new
  pub entries : entries_of new ≡ m
  pub len : length new ≡ length old

leaves : (old new : List Group) (m : FinMap nat_cmp ℕ) → length new ≡ length old → Becomes (entry_at new) (7 * length old) m → ((i : ℕ) → IsShaped (length old) (group_at new i)) → IsReached (length old) (entry_at new) (λ i. (group_at new i).reach) → length old ≤ 2 ^ 32 → Leaves old new m
unfolding entries_of
leaves old new m len b s r bound = record {
  groups = record {
    shaped = λ i. subst (λ n. IsShaped n (group_at new i)) (sym len) (s i);
    apart = b.apart;
    reached = subst (λ n. IsReached n (entry_at new) (λ i. (group_at new i).reach)) (sym len) r;
    bounded = omega arith;
  };
  entries = ap (λ n. upto (entry_at new) (7 * n)) len ∙ b.map_is;
  len = len;
}

-- ---- a place is added
module _ (groups : List Group) (g : IsGroups groups) (first at step hash place : ℕ) (from : first ≡ home (length groups) hash) (first_in : first < length groups) (at_in : at < length groups) (step_in : step < length groups) (there : at ≡ probe (length groups) first step) (room : (group_at groups at).count < 7) (fresh : get (entries_of groups) place ≡ None) where
  abbrev mid : List Group
  mid = pushed groups at hash place

  abbrev new : List Group
  new = with_reach mid first step

  mid-len : length mid ≡ length groups
  mid-len = length-set groups at (with_entry (group_at groups at) hash place)

  new-len : length new ≡ length groups
  new-len = length-set mid first (raised (group_at mid first) step) ∙ mid-len

  new-entry : (q : ℕ) → entry_at new q ≡ entry_at mid q
  new-entry = reach-entry mid first (max (group_at mid first).reach step) (omega (arith, mid-len))

  free : entry_at groups (7 * at + (group_at groups at).count) ≡ None
  free = entry-at_lane groups at (group_at groups at).count room ∙ entry-free (group_at groups at) (group_at groups at).count (omega arith)

  here : entry_at new (7 * at + (group_at groups at).count) ≡ Some (place, hash)
  here =
      new-entry (7 * at + (group_at groups at).count)
      ∙ entry-at_lane mid at (group_at groups at).count room
      ∙ ap (λ x. entry_in x (group_at groups at).count) (group-set groups at (with_entry (group_at groups at) hash place) at_in)
      ∙ with-here (group_at groups at) (lanes-of groups g at) hash place room

  others : (q : ℕ) → q ≢ 7 * at + (group_at groups at).count → entry_at new q ≡ entry_at groups q
  others q ne =
      new-entry q
      ∙ group-keeps (λ x. entry_in x (q % 7)) groups at (with_entry (group_at groups at) hash place) at_in (q / 7)
      (λ s. with-other (group_at groups at) (lanes-of groups g at) hash place room (q % 7) (λ t. ne (omega arith)))

  mid-reach : (i : ℕ) → (group_at mid i).reach ≡ (group_at groups i).reach
  mid-reach i = group-keeps (λ x. x.reach) groups at (with_entry (group_at groups at) hash place) at_in i (λ _. refl)

  first-reach : (group_at new first).reach ≡ max (group_at groups first).reach step
  first-reach = ap (λ x. x.reach) (group-set mid first (raised (group_at mid first) step) (omega (arith, mid-len))) ∙ ap (λ r. max r step) (mid-reach first)

  other-reach : (i : ℕ) → i ≢ first → (group_at new i).reach ≡ (group_at groups i).reach
  other-reach i ne = ap (λ x. x.reach) (group-past_set mid first i (raised (group_at mid first) step) ne) ∙ mid-reach i

  more-reach : (i : ℕ) → (group_at groups i).reach ≤ (group_at new i).reach
  more-reach i = elim (cases_eq i first) as (λ _. (group_at groups i).reach ≤ (group_at new i).reach) [
    | inl s ↦ subst (λ j. (group_at groups j).reach ≤ (group_at new j).reach) (sym s) (omega (arith, first-reach))
    | inr ne ↦ omega (arith, other-reach i ne)
  ]

  mid-lanes : (i : ℕ) → HasLanes (group_at mid i)
  mid-lanes = group-all HasLanes groups at (with_entry (group_at groups at) hash place) at_in (with-lanes (group_at groups at) (lanes-of groups g at) hash place room) (lanes-of groups g)

  new-shaped : (i : ℕ) → IsShaped (length groups) (group_at new i)
  new-shaped = group-all (IsShaped (length groups)) mid first (raised (group_at mid first) step) (omega (arith, mid-len))
      (reach-shaped (length groups) (max (group_at mid first).reach step) (group_at mid first) (mid-lanes first) (λ p. omega (arith, mid-reach first, (g.shaped first).reach p)))
      (λ i. record { lanes = mid-lanes i; reach = λ p. omega (arith, mid-reach i, (g.shaped i).reach p) })

  new-reached : IsReached (length groups) (entry_at new) (λ i. (group_at new i).reach)
  new-reached = record {
    within = λ q e h. elim (cases_eq q (7 * at + (group_at groups at).count)) as (λ _. distance (length groups) (home (length groups) e.1) (q / 7) ≤ (group_at new (home (length groups) e.1)).reach) [
      | inl s ↦
          let e_is : e ≡ (place, hash) = same_Some e (place, hash) (sym h ∙ ap (entry_at new) s ∙ here) in
          let begins : home (length groups) e.1 ≡ first = ap (λ (x : ℕ × ℕ). home (length groups) x.1) e_is ∙ sym from in
          let group_is : q / 7 ≡ at = ap (λ x. x / 7) s ∙ lane-group at (group_at groups at).count room in
          let far : distance (length groups) first at ≡ step = ap (distance (length groups) first) there ∙ distance-probe (length groups) first step first_in step_in in
          let distance_is : distance (length groups) (home (length groups) e.1) (q / 7) ≡ step = (λ i. distance (length groups) (begins i) (group_is i)) ∙ far in
          let reach_is : (group_at new (home (length groups) e.1)).reach ≡ max (group_at groups first).reach step = ap (λ j. (group_at new j).reach) begins ∙ first-reach in
          omega arith
      | inr ne ↦
          let was = g.reached.within q e (sym (others q ne) ∙ h) in
          let more = more-reach (home (length groups) e.1) in
          omega arith
    ];
  }

  pub pushed-leaves : Leaves groups new (insert (entries_of groups) place hash)
  unfolding entries_of
  pushed-leaves = leaves groups new (insert (entries_of groups) place hash) new-len
      (becomes-inserted (entry_at groups) (entry_at new) (7 * length groups) g.apart (7 * at + (group_at groups at).count) place hash (omega arith) (λ q e h. (inside-of groups g q e h).1) free here others fresh)
      new-shaped new-reached g.bounded

  persists : (r i : ℕ) → IsExactAt (length groups) (entry_at groups) r i → IsExactAt (length groups) (entry_at new) r i
  persists r i = exact-kept (length groups) (entry_at groups) (entry_at new) r i (λ q e there. others q (λ s. let none = free in cc) ∙ there)

  first-exact : IsExactAt (length groups) (entry_at groups) (group_at groups first).reach first → IsExactAt (length groups) (entry_at new) (group_at new first).reach first
  first-exact was = elim (cases_lt (group_at groups first).reach step) as (λ _. IsExactAt (length groups) (entry_at new) (group_at new first).reach first) [
    | inl less ↦
        let is : (group_at new first).reach ≡ step = omega (arith, first-reach) in
        let far : distance (length groups) first ((7 * at + (group_at groups at).count) / 7) ≡ step =
        ap (distance (length groups) first) (lane-group at (group_at groups at).count room ∙ there) ∙ distance-probe (length groups) first step first_in step_in in
        inr (7 * at + (group_at groups at).count, (place, hash), here, sym from, far ∙ sym is)
    | inr more ↦
        let is : (group_at groups first).reach ≡ (group_at new first).reach = omega (arith, first-reach) in
        subst (λ r. IsExactAt (length groups) (entry_at new) r first) is (persists (group_at groups first).reach first was)
  ]

  pub pushed-tight : IsTight groups → IsTight new
  pushed-tight t = record {
    exact = λ i. subst (λ n. IsExactAt n (entry_at new) (group_at new i).reach i) (sym new-len) (elim (cases_eq i first) as (λ _. IsExactAt (length groups) (entry_at new) (group_at new i).reach i) [
      | inl s ↦ subst (λ j. IsExactAt (length groups) (entry_at new) (group_at new j).reach j) (sym s) (first-exact (t.exact first))
      | inr ne ↦ subst (λ r. IsExactAt (length groups) (entry_at new) r i) (sym (other-reach i ne)) (persists (group_at groups i).reach i (t.exact i))
    ]);
  }

-- ---- a place is removed
module _ (groups : List Group) (g : IsGroups groups) (at lane p h : ℕ) (at_in : at < length groups) (lane_in : lane < 7) (there : entry_at groups (7 * at + lane) ≡ Some (p, h)) where
  abbrev left : List Group
  left = slice_set groups at (without_lane (group_at groups at) lane)

  left-len : length left ≡ length groups
  left-len = length-set groups at (without_lane (group_at groups at) lane)

  pub lane-below : lane < (group_at groups at).count
  lane-below = entry-below (group_at groups at) lane (p, h) (sym (entry-at_lane groups at lane lane_in) ∙ there)

  last-in : (group_at groups at).count - 1 < 7
  last-in = omega (arith, (lanes-of groups g at).count, lane-below)

  left-at : (other : ℕ) → other < 7 → entry_at left (7 * at + other) ≡ entry_in (without_lane (group_at groups at) lane) other
  left-at other l = entry-at_lane left at other l ∙ ap (λ x. entry_in x other) (group-set groups at (without_lane (group_at groups at) lane) at_in)

  gone : entry_at left (7 * at + ((group_at groups at).count - 1)) ≡ None
  gone = left-at ((group_at groups at).count - 1) last-in ∙ without-last (group_at groups at) (lanes-of groups g at) lane lane-below

  moved : 7 * at + lane ≢ 7 * at + ((group_at groups at).count - 1) → entry_at left (7 * at + lane) ≡ entry_at groups (7 * at + ((group_at groups at).count - 1))
  moved ne =
      left-at lane lane_in
      ∙ without-here (group_at groups at) (lanes-of groups g at) lane lane-below (λ s. ne (ap (λ x. 7 * at + x) s))
      ∙ sym (entry-at_lane groups at ((group_at groups at).count - 1) last-in)

  kept : (q : ℕ) → q ≢ 7 * at + lane → q ≢ 7 * at + ((group_at groups at).count - 1) → entry_at left q ≡ entry_at groups q
  kept q ne nl = group-keeps (λ x. entry_in x (q % 7)) groups at (without_lane (group_at groups at) lane) at_in (q / 7)
      (λ s. without-other (group_at groups at) (lanes-of groups g at) lane lane-below (q % 7) (λ t. ne (omega arith)) (λ t. nl (omega arith)))

  left-reach : (i : ℕ) → (group_at left i).reach ≡ (group_at groups i).reach
  left-reach i = group-keeps (λ x. x.reach) groups at (without_lane (group_at groups at) lane) at_in i (λ _. refl)

  left-shaped : (i : ℕ) → IsShaped (length groups) (group_at left i)
  left-shaped = group-all (IsShaped (length groups)) groups at (without_lane (group_at groups at) lane) at_in (record { lanes = without-lanes (group_at groups at) (lanes-of groups g at) lane lane-below; reach = λ p. (g.shaped at).reach p }) g.shaped

  -- the place in a lane was in a lane of the same group
  came : (q : ℕ) (e : ℕ × ℕ) → entry_at left q ≡ Some e → (o : ℕ) × ((entry_at groups o ≡ Some e) × (o / 7 ≡ q / 7))
  came q e qe = elim (cases_eq q (7 * at + ((group_at groups at).count - 1))) as (λ _. (o : ℕ) × ((entry_at groups o ≡ Some e) × (o / 7 ≡ q / 7))) [
    | inl s ↦ let none = gone in cc
    | inr nl ↦ elim (cases_eq q (7 * at + lane)) as (λ _. (o : ℕ) × ((entry_at groups o ≡ Some e) × (o / 7 ≡ q / 7))) [
      | inl s ↦ (7 * at + ((group_at groups at).count - 1), (sym (moved (λ t. nl (s ∙ t))) ∙ ap (entry_at left) (sym s) ∙ qe, lane-group at ((group_at groups at).count - 1) last-in ∙ sym (lane-group at lane lane_in) ∙ ap (λ x. x / 7) (sym s)))
      | inr ne ↦ (q, (sym (kept q ne nl) ∙ qe, refl))
    ]
  ]

  left-reached : IsReached (length groups) (entry_at left) (λ i. (group_at left i).reach)
  left-reached = record {
    within = λ q e qe.
        let w = came q e qe in
        let was = g.reached.within w.0 e w.1.0 in
        let same = left-reach (home (length groups) e.1) in
        let near : distance (length groups) (home (length groups) e.1) (w.0 / 7) ≡ distance (length groups) (home (length groups) e.1) (q / 7) = ap (distance (length groups) (home (length groups) e.1)) w.1.1 in
        omega arith;
  }

  pub removed-leaves : Leaves groups left (remove (entries_of groups) p)
  unfolding entries_of
  removed-leaves = leaves groups left (remove (entries_of groups) p) left-len
      (becomes-removed (entry_at groups) (entry_at left) (7 * length groups) g.apart (7 * at + lane) p h (omega arith) (λ q e x. (inside-of groups g q e x).1) (7 * at + ((group_at groups at).count - 1)) there gone moved kept)
      left-shaped left-reached g.bounded

  -- a reach stays exact if the place that leaves has another home, or was not the farthest
  pub removed-exact : (i : ℕ) → (((e : ℕ × ℕ) → entry_at groups (7 * at + lane) ≡ Some e → home (length groups) e.1 ≢ i) ⊎ (distance (length groups) i at ≢ (group_at left i).reach)) →
      IsExactAt (length groups) (entry_at groups) (group_at groups i).reach i → IsExactAt (length left) (entry_at left) (group_at left i).reach i
  removed-exact i safe was = subst (λ n. IsExactAt n (entry_at left) (group_at left i).reach i) (sym left-len) (elim was as (λ _. IsExactAt (length groups) (entry_at left) (group_at left i).reach i) [
    | inl none ↦ inl (left-reach i ∙ none)
    | inr w ↦
        let far : distance (length groups) i (w.0 / 7) ≡ (group_at left i).reach = w.4 ∙ sym (left-reach i) in
        elim (cases_eq w.0 (7 * at + lane)) as (λ _. IsExactAt (length groups) (entry_at left) (group_at left i).reach i) [
          | inl s ↦ elim safe as (λ _. IsExactAt (length groups) (entry_at left) (group_at left i).reach i) [
            | inl foreign ↦ absurd (foreign w.1 (ap (entry_at groups) (sym s) ∙ w.2) w.3)
            | inr near ↦ absurd (near (ap (distance (length groups) i) (sym (lane-group at lane lane_in) ∙ ap (λ x. x / 7) (sym s)) ∙ far))
          ]
          | inr ne ↦ elim (cases_eq w.0 (7 * at + ((group_at groups at).count - 1))) as (λ _. IsExactAt (length groups) (entry_at left) (group_at left i).reach i) [
            | inl s ↦
                let same : (7 * at + lane) / 7 ≡ w.0 / 7 = lane-group at lane lane_in ∙ sym (lane-group at ((group_at groups at).count - 1) last-in) ∙ ap (λ x. x / 7) (sym s) in
                inr (7 * at + lane, w.1, moved (λ t. ne (s ∙ sym t)) ∙ ap (entry_at groups) (sym s) ∙ w.2, w.3, ap (distance (length groups) i) same ∙ far)
            | inr nl ↦ inr (w.0, w.1, kept w.0 ne nl ∙ w.2, w.3, far)
          ]
        ]
  ])

-- ---- a reach is lowered
module _ (groups : List Group) (g : IsGroups groups) (first r : ℕ) (first_in : first < length groups) (less : r ≤ (group_at groups first).reach) (enough : (q : ℕ) (e : ℕ × ℕ) → entry_at groups q ≡ Some e → home (length groups) e.1 ≡ first → distance (length groups) first (q / 7) ≤ r) where
  abbrev lowered : List Group
  lowered = slice_set groups first (record (group_at groups first) { reach = r })

  lowered-len : length lowered ≡ length groups
  lowered-len = length-set groups first (record (group_at groups first) { reach = r })

  lowered-entry : (q : ℕ) → entry_at lowered q ≡ entry_at groups q
  lowered-entry = reach-entry groups first r first_in

  first-lowered : (group_at lowered first).reach ≡ r
  first-lowered = ap (λ x. x.reach) (group-set groups first (record (group_at groups first) { reach = r }) first_in)

  other-lowered : (i : ℕ) → i ≢ first → (group_at lowered i).reach ≡ (group_at groups i).reach
  other-lowered i ne = ap (λ x. x.reach) (group-past_set groups first i (record (group_at groups first) { reach = r }) ne)

  lowered-shaped : (i : ℕ) → IsShaped (length groups) (group_at lowered i)
  lowered-shaped = group-all (IsShaped (length groups)) groups first (record (group_at groups first) { reach = r }) first_in
      (reach-shaped (length groups) r (group_at groups first) (lanes-of groups g first) (λ p. omega (arith, (g.shaped first).reach p)))
      g.shaped

  lowered-reached : IsReached (length groups) (entry_at lowered) (λ i. (group_at lowered i).reach)
  lowered-reached = record {
    within = λ q e qe.
        let was : entry_at groups q ≡ Some e = sym (lowered-entry q) ∙ qe in
        elim (cases_eq (home (length groups) e.1) first) as (λ _. distance (length groups) (home (length groups) e.1) (q / 7) ≤ (group_at lowered (home (length groups) e.1)).reach) [
          | inl s ↦ subst (λ f. distance (length groups) f (q / 7) ≤ (group_at lowered f).reach) (sym s) (omega (arith, enough q e was s, first-lowered))
          | inr ne ↦ omega (arith, g.reached.within q e was, other-lowered (home (length groups) e.1) ne)
        ];
  }

  pub lowered-leaves : Leaves groups lowered (entries_of groups)
  unfolding entries_of
  lowered-leaves = leaves groups lowered (entries_of groups) lowered-len
      (becomes-same (entry_at groups) (entry_at lowered) (7 * length groups) g.apart lowered-entry)
      lowered-shaped lowered-reached g.bounded

  -- the reach is exact if it is 0, or a place that far behind has its home in the group
  pub lowered-tight : ((r ≡ 0) ⊎ ((lane : ℕ) × (lane < (group_at groups (probe (length groups) first r)).count) × (home (length groups) (lane_hash (group_at groups (probe (length groups) first r)) lane) ≡ first))) → AreExactBut groups first → IsTight lowered
  lowered-tight found others = record {
    exact = λ i. subst (λ n. IsExactAt n (entry_at lowered) (group_at lowered i).reach i) (sym lowered-len) (elim (cases_eq i first) as (λ _. IsExactAt (length groups) (entry_at lowered) (group_at lowered i).reach i) [
      | inl s ↦ subst (λ j. IsExactAt (length groups) (entry_at lowered) (group_at lowered j).reach j) (sym s) (subst (λ x. IsExactAt (length groups) (entry_at lowered) x first) (sym first-lowered) here)
      | inr ne ↦ subst (λ x. IsExactAt (length groups) (entry_at lowered) x i) (sym (other-lowered i ne)) (exact-kept (length groups) (entry_at groups) (entry_at lowered) (group_at groups i).reach i (λ q e there. lowered-entry q ∙ there) (others i ne))
    ]);
  }
    where
      here : IsExactAt (length groups) (entry_at lowered) r first
      here = elim found as (λ _. IsExactAt (length groups) (entry_at lowered) r first) [
        | inl none ↦ inl none
        | inr w ↦
            let at : ℕ = probe (length groups) first r in
            let lane_in : w.0 < 7 = omega (arith, w.1, (lanes-of groups g at).count) in
            let r_in : r < length groups = omega (arith, less, (g.shaped first).reach (omega arith)) in
            inr (
              7 * at + w.0,
              (lane_place (group_at groups at) w.0, lane_hash (group_at groups at) w.0),
              lowered-entry (7 * at + w.0) ∙ entry-at_lane groups at w.0 lane_in ∙ entry-here (group_at groups at) w.0 w.1,
              w.2,
              ap (distance (length groups) first) (lane-group at w.0 lane_in) ∙ distance-probe (length groups) first r first_in r_in,
            )
      ]
