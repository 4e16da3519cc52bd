-- Records that leave by their timers, one after the other.
use Rattle.std.proofs.Common.{◌≡◌, refl, ℕ, ◌+◌, ◌<◌, ◌≤◌, ◌⊎◌, Bool, true, false, true≢false, nat_le, length, Option, Some, None, inl, inr, ap, sym, subst, ◌∙◌, arith, if◌then◌else◌}
use Rattle.std.proofs.lemmas.Bool.{cases_eq}
use Rattle.std.proofs.lemmas.List.Sorted.{sum_by_pushed}
use Rattle.std.specs.Option.{option_map_or}
use Rattle.std.specs.Prelude.{sum_by}
use Rattle.std.specs.FinMap.{FinMap, get, insert, remove, values}
use Rattle.std.specs.Ordering.{nat_cmp}
use Rattle.moka_parts.specs.declared.notification.RemovalCause.{RemovalCause}
use Rattle.moka_parts.specs.declared.notification.RemovalCause.TheVariants.{Expired}
use Rattle.moka_records.specs.declared.records.Record.{Record}
use Rattle.moka_records.specs.Records.{is_applied, is_settled}
use Rattle.moka_records.specs.Time.{has_passed, moment_of}
use Rattle.moka_parts.specs.Maintenance.{Choice, Removes, MovesToBack, Drops, left_by_choice}
use Rattle.moka_records.proofs.Values.{remove_absent, values_inserted, values_removed}
use Rattle.moka_store.specs.Store.{Kept, with_timer}
use Rattle.moka_store.proofs.Gets.{get-past_remove, get-removed}
use Rattle.moka_maintenance.specs.declared.sweep.Tests.{Tests}
use Rattle.moka_maintenance.specs.Steps.{Stock, Told, after_step, MayLeave}
use Rattle.moka_maintenance.specs.Sweep.{MayExpire, ExpiresDue}
use Rattle.moka_maintenance.specs.Upkeep.{Upkeep, IsReset}
use Rattle.moka_maintenance.proofs.Stepped.{removed-on, stepped-none, stepped-one, stepped-on, shorter}
use Rattle.moka_maintenance.proofs.Timing.{timer-set}
use Rattle.moka_maintenance.proofs.Upkeep.{upkeep-none, upkeep-timed}
use Rattle.std.proofs.lemmas.Option.{same_Some}

-- ---- how many timers are due

abbrev due_as_one : ℕ → ℕ → ℕ
due_as_one now t = if nat_le t now then 1 else 0

-- at a moment
unfoldable pub how_many_due : ℕ → FinMap nat_cmp ℕ → ℕ
how_many_due now timers = sum_by (due_as_one now) (values timers)

module _ (now : ℕ) (timers : FinMap nat_cmp ℕ) (n t : ℕ) where
  -- one is taken out
  less-due : get timers n ≡ Some t → t ≤ now → how_many_due now (remove timers n) < how_many_due now timers
  unfolding how_many_due
  less-due there is =
      let all : sum_by (due_as_one now) (values timers) ≡ due_as_one now t + sum_by (due_as_one now) (values (remove timers n)) = sum_by_pushed (due_as_one now) t (values (remove timers n)) (values timers) (values_removed timers n t there) in
      let due : nat_le t now ≡ true = grind (arith, is) in
      let one : due_as_one now t ≡ 1 = ap (λ b. if b then 1 else 0) due in
      omega arith

  -- one is set that is not due
  same-due : get timers n ≡ None → now < t → how_many_due now (insert timers n t) ≡ how_many_due now timers
  unfolding how_many_due
  same-due none is =
      let all : sum_by (due_as_one now) (values (insert timers n t)) ≡ due_as_one now t + sum_by (due_as_one now) (values timers) = sum_by_pushed (due_as_one now) t (values timers) (values (insert timers n t)) (values_inserted timers n t none) in
      let later : nat_le t now ≡ false = grind (arith, is) in
      let zero : due_as_one now t ≡ 0 = ap (λ b. if b then 1 else 0) later in
      omega arith

-- ---- one timer

module _ {K V S : Type 0} (now n : ℕ) (old new : Kept K V S) (untimed : get old.timers n ≡ None) where
  -- its member is not settled
  pub reset-waiting : is_settled old.records n ≡ false → IsReset now n old old
  reset-waiting waiting = record {
    upkeep = upkeep-none old;
    timers = inl refl;
    own = λ kept r there applied. absurd (true≢false (sym applied ∙ sym (ap (λ o. option_map_or is_applied o false) there) ∙ waiting));
  }

  -- its record leaves
  pub reset-gone : get new.records n ≡ None → Upkeep old new → new.timers ≡ remove old.timers n → IsReset now n old new
  reset-gone gone keeps taken = record {
    upkeep = keeps;
    timers = inl (taken ∙ remove_absent old.timers n untimed);
    own = λ kept r there applied. (let bad : None ≡ Some r = sym gone ∙ there in cc);
  }

  -- it is set again
  pub reset-set : (r : Record K V) → get old.records n ≡ Some r → has_passed (moment_of r.expires) now ≡ false → new ≡ record old { timers = if old.timed then with_timer old.timers n (moment_of r.expires) else old.timers } → IsReset now n old new
  reset-set r found later step = record {
    upkeep = upkeep-timed old new n r found step;
    timers = subst (λ (k : Kept K V S). (k.timers ≡ old.timers) ⊎ ((t : ℕ) × (now < t) × (k.timers ≡ insert old.timers n t))) (sym step) (set old.timed (moment_of r.expires) later);
    own = λ kept p there applied.
        ap (λ (k : Kept K V S). get k.timers n) step ∙ timer-set old.timed old.timers n (moment_of r.expires) kept
        ∙ ap (λ (x : Record K V). moment_of x.expires) (same_Some r p (sym found ∙ sym (ap (λ (k : Kept K V S). get k.records n) step) ∙ there));
  }
    where
      set : (b : Bool) (o : Option ℕ) → has_passed o now ≡ false → ((if b then with_timer old.timers n o else old.timers) ≡ old.timers) ⊎ ((t : ℕ) × (now < t) × ((if b then with_timer old.timers n o else old.timers) ≡ insert old.timers n t))
      set false o e = inl refl
      set true None e = inl (remove_absent old.timers n untimed)
      set true (Some t) e = inr (t, grind (arith, e), refl)

  -- no more are due afterwards
  reset-due : IsReset now n old new → how_many_due now new.timers ≡ how_many_due now old.timers
  reset-due h = elim h.timers [
    | inl same ↦ ap (how_many_due now) same
    | inr at ↦ ap (how_many_due now) at.2 ∙ same-due now old.timers n at.0 untimed at.1
  ]

-- a timer that was due is taken out, and then its member leaves or stays
module _ {K V S : Type 0} (now n : ℕ) (old new : Kept K V S) (reset : IsReset now n (record old { timers = remove old.timers n }) new) where
  pub upkeep-due : Upkeep old new
  upkeep-due = record {
    timers = record {
      ordered = reset.upkeep.timers.ordered;
      timed = reset.upkeep.timers.timed;
      hasher = reset.upkeep.timers.hasher;
      set = λ kept k p there is_in applied. elim (cases_eq k n) [
        | inl same ↦ inr (ap (get new.timers) same ∙ reset.own kept p (sym (ap (get new.records) same) ∙ there) applied)
        | inr other ↦ elim (reset.upkeep.timers.set kept k p there is_in applied) [
          | inl was ↦ inl (was.0, was.1, was.2 ∙ get-past_remove old.timers n k other)
          | inr at ↦ inr at
        ]
      ];
    };
    places = reset.upkeep.places;
    rows = reset.upkeep.rows;
    room = reset.upkeep.room;
  }

  pub fewer-due : (t : ℕ) → get old.timers n ≡ Some t → t ≤ now → how_many_due now new.timers < how_many_due now old.timers
  fewer-due t there is =
      subst (λ k. k < how_many_due now old.timers) (sym (reset-due now n (record old { timers = remove old.timers n }) new (get-removed old.timers n) reset)) (less-due now old.timers n t there is)

module _ {K V L : Type 0} (tells : L → K → V → RemovalCause → L → Type 0) (q : Tests) where
  pub expires-none : (c : Stock K V) (l : Option L) → ExpiresDue tells q c c l l 0
  unfolding stepped-none
  expires-none c l = record { by = stepped-none tells (MayExpire q) c l; count = refl }

  pub expires-one : (a b : Stock K V) (l m : Option L) (n : ℕ) → MayExpire q a (Removes n Expired) → b ≡ after_step a (Removes n Expired) → Told tells l (left_by_choice a.contents (Removes n Expired)) m → ExpiresDue tells q a b l m 1
  unfolding stepped-one
  expires-one a b l m n may led told = record { by = stepped-one tells (MayExpire q) a b l m (Removes n Expired) may led told; count = refl }

  pub expires-on : (a b c : Stock K V) (l m k : Option L) (r s : ℕ) → ExpiresDue tells q a b l m r → ExpiresDue tells q b c m k s → ExpiresDue tells q a c l k (r + s)
  unfolding stepped-on
  expires-on a b c l m k r s h j = record {
    by = stepped-on tells (MayExpire q) a b c l m k h.by j.by;
    count = (let e = h.count in let f = j.count in let both = removed-on h.by.steps j.by.steps in omega arith);
  }

  expiry_leaves : (c : Stock K V) (x : Choice) → MayExpire q c x → MayLeave c x
  expiry_leaves c (Removes n cause) may = (may.0, may.1, may.2)
  expiry_leaves c (MovesToBack n) may = (may.1, may.2)
  expiry_leaves c (Drops i) may = absurd may

  -- no more leave than there are members
  pub expires-few : (a b : Stock K V) (l m : Option L) (r : ℕ) → ExpiresDue tells q a b l m r → r ≤ length a.contents.access
  expires-few a b l m r h = let less = shorter tells (MayExpire q) expiry_leaves a b l m h.by in let count = h.count in omega arith
