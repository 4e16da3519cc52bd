-- All places of some groups are added to others.
use Rattle.std.proofs.Common.{◌≡◌, ℕ, ◌+◌, ◌*◌, ◌/◌, ◌%◌, ◌^◌, ◌<◌, ◌≤◌, Some, None, List, length, replicate, inl, inr, refl, sym, ap, subst, ◌∙◌, add-one, arith}
use Rattle.std.proofs.lemmas.Bool.{cases_lt}
use Rattle.std.proofs.lemmas.List.{get_or-replicate, get_or_past, length-replicate}
use Rattle.std.specs.FinMap.{get, insert, empty, len}
use Rattle.moka_index.specs.declared.group.Group.{Group}
use Rattle.moka_index.specs.Group.{empty_group, lane_hash, lane_place, entry_in}
use Rattle.moka_links.specs.EntryMap.{put_entry, upto}
use Rattle.moka_index.specs.Groups.{entry_at, group_at, entries_of, IsShaped, IsGroups, IsTight}
use Rattle.moka_index.proofs.Lanes.{entry-here, entry-free, entry-empty}
use Rattle.moka_links.proofs.EntryMaps.{upto-free, upto-fresh, len-mono}

pub blank-group : (n i : ℕ) → group_at (replicate n empty_group) i ≡ empty_group
blank-group n i = elim (cases_lt i n) as (λ _. group_at (replicate n empty_group) i ≡ empty_group) [
  | inl l ↦ get_or-replicate n i empty_group empty_group l
  | inr l ↦ get_or_past (replicate n empty_group) i empty_group (omega (arith, length-replicate n empty_group))
]

pub blank-entry : (n q : ℕ) → entry_at (replicate n empty_group) q ≡ None
blank-entry n q = ap (λ g. entry_in g (q % 7)) (blank-group n (q / 7)) ∙ entry-empty (q % 7)

pub blank-groups : (n : ℕ) → n ≤ 2 ^ 32 → IsGroups (replicate n empty_group)
blank-groups n bound = record {
  shaped = λ i. subst (IsShaped (length (replicate n empty_group))) (sym (blank-group n i)) (record { lanes = record { hashes = refl; places = refl; count = omega arith }; reach = λ p. p });
  apart = record { same = λ p q a b pe qe s. let bad : None ≡ Some a = sym (blank-entry n p) ∙ pe in absurd cc };
  reached = record { within = λ q e qe. let bad : None ≡ Some e = sym (blank-entry n q) ∙ qe in absurd cc };
  bounded = omega (arith, length-replicate n empty_group);
}

pub blank-tight : (n : ℕ) → IsTight (replicate n empty_group)
blank-tight n = record { exact = λ i. inl (ap (λ x. x.reach) (blank-group n i)) }

pub blank-entries : (n : ℕ) → entries_of (replicate n empty_group) ≡ empty
unfolding entries_of
blank-entries n = upto-free (entry_at (replicate n empty_group)) (7 * length (replicate n empty_group)) (blank-entry n)

-- groups to which the places of the first lanes were added
pub record Moved (from to : List Group) (count q : ℕ) : Type 0 where
  pub groups : IsGroups to
  pub tight : IsTight to
  pub entries : entries_of to ≡ upto (entry_at from) q
  pub len : length to ≡ count

pub moved-none : (from to : List Group) → to ≡ replicate (length to) empty_group → length to ≤ 2 ^ 32 → Moved from to (length to) 0
moved-none from to e bound = record {
  groups = subst IsGroups (sym e) (blank-groups (length to) bound);
  tight = subst IsTight (sym e) (blank-tight (length to));
  entries = ap entries_of e ∙ blank-entries (length to);
  len = refl;
}

pub moved-past : (from to : List Group) (count q : ℕ) → Moved from to count q → (group_at from (q / 7)).count ≤ q % 7 → Moved from to count (q + 1)
moved-past from to count q m l = record {
  groups = m.groups;
  tight = m.tight;
  entries = m.entries ∙ ap (λ o. put_entry o (upto (entry_at from) q)) (sym (entry-free (group_at from (q / 7)) (q % 7) l)) ∙ ap (upto (entry_at from)) (sym (add-one q));
  len = m.len;
}

pub moved-one : (from to new : List Group) (count q : ℕ) → Moved from to count q → q % 7 < (group_at from (q / 7)).count → IsGroups new → IsTight new → entries_of new ≡ insert (entries_of to) (lane_place (group_at from (q / 7)) (q % 7)) (lane_hash (group_at from (q / 7)) (q % 7)) → length new ≡ length to → Moved from new count (q + 1)
moved-one from to new count q m l g tight e n = record {
  groups = g;
  tight = tight;
  entries =
      e
      ∙ ap (λ m. insert m (lane_place (group_at from (q / 7)) (q % 7)) (lane_hash (group_at from (q / 7)) (q % 7))) m.entries
      ∙ ap (λ o. put_entry o (upto (entry_at from) q)) (sym (entry-here (group_at from (q / 7)) (q % 7) l))
      ∙ ap (upto (entry_at from)) (sym (add-one q));
  len = n ∙ m.len;
}

pub moved-fresh : (from to : List Group) (count q : ℕ) → IsGroups from → Moved from to count q → q % 7 < (group_at from (q / 7)).count → get (entries_of to) (lane_place (group_at from (q / 7)) (q % 7)) ≡ None
moved-fresh from to count q g m l =
    ap (λ x. get x (lane_place (group_at from (q / 7)) (q % 7))) m.entries
    ∙ upto-fresh (entry_at from) g.apart q q (lane_place (group_at from (q / 7)) (q % 7), lane_hash (group_at from (q / 7)) (q % 7)) (omega arith) (entry-here (group_at from (q / 7)) (q % 7) l)

pub moved-len : (from to : List Group) (count q : ℕ) → IsGroups from → Moved from to count q → q ≤ 7 * length from → len (entries_of to) ≤ len (entries_of from)
unfolding entries_of
moved-len from to count q g m l =
    subst (λ x. len x ≤ len (upto (entry_at from) (7 * length from))) (sym m.entries) (len-mono (entry_at from) g.apart q (7 * length from) l)

pub moved-all : (from to : List Group) (count q : ℕ) → Moved from to count q → q ≡ 7 * length from → entries_of to ≡ entries_of from
unfolding entries_of
moved-all from to count q m e = m.entries ∙ ap (upto (entry_at from)) e
