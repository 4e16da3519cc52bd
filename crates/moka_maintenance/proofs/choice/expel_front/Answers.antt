use Rattle.std.proofs.Common.{◌≡◌, ap, sym, subst, ◌∙◌, arith, ◌==◌, take, ◌≢◌, refl, ℕ, zero, suc, ◌-◌, ◌<◌, Bool, true, false, cond, not, ◌&&◌, List, [], ◌∷◌, Option, Some, None, slice_get}
use Rattle.std.proofs.lemmas.Bool.{and_parts}
use Rattle.std.specs.FinMap as finite
use Rattle.std.specs.FinMap.{get, remove}
use Rattle.std.specs.List.{IsDistinct, list_all}
use Rattle.std.specs.Option.{option_map_or}
use Rattle.moka_parts.specs.State.{Contents}
use Rattle.moka_records.specs.Records.{member, numbers_of, without_numbers, Records, counted_of, is_applied, is_settled, without_member, without_number}
use Rattle.moka_parts.specs.declared.notification.RemovalCause.{RemovalCause}
use Rattle.moka_parts.specs.declared.notification.RemovalCause.TheVariants.{Size}
use Rattle.moka_records.specs.declared.records.Member.{Member}
use Rattle.moka_parts.specs.Writes.{left_with, without_victims}
use Rattle.moka_parts.specs.Maintenance.{Removes, after_choice, left_by_choice}
use Rattle.moka_records.proofs.AccessList.{distinct_taken_out, absent_taken_out, counted_taken_out, uncounted_taken_out, front_once, counted_front}
use Rattle.moka_records.proofs.Maps.{itself_tested}
use Rattle.moka_store.specs.Store.{Kept}
use Rattle.moka_store.proofs.Gets.{get-past_remove}
use Rattle.moka_maintenance.specs.Steps.{Stock, contents_in, Told}
use Rattle.moka_maintenance.specs.Choice.{AreSettled}
use Rattle.moka_maintenance.proofs.Popped.{none_first}
use Rattle.moka_maintenance.proofs.Upkeep.{untimed-none, untimed-on}
use Rattle.moka_maintenance.proofs.Told.{told-none, told-on}
use Rattle.moka_maintenance.proofs.choice.expel_front.Goals as goal

-- ---- the front members leave, one after the other

-- of no members none is taken
none_taken : (k : ℕ) (xs : List Member) → xs ≡ [] → take k xs ≡ []
none_taken zero xs none = refl
none_taken (suc k) [] none = refl
none_taken (suc k) (x ∷ xs) none = cc

-- the first of some members, and those behind it
take_first : (a : Member) (xs : List Member) (left : ℕ) → 0 < left → take left (a ∷ xs) ≡ a ∷ take (left - 1) xs
take_first a xs zero some = absurd (omega arith)
take_first a xs (suc n) some = (let less : suc n - 1 ≡ n = omega arith in ap (λ k. a ∷ take k xs) (sym less))

front_leaves : (a : Member) (xs : List Member) (left : ℕ) → IsDistinct (◌==◌) (numbers_of xs) → Some a ≡ slice_get xs 0 → 0 < left → take left xs ≡ a ∷ take (left - 1) (without_member a.number xs)
front_leaves a [] left once e some = cc
front_leaves a (x ∷ xs) left once e some =
    let same : x ≡ a = cc in
    let out : without_member x.number (x ∷ xs) ≡ xs = ap (λ b. cond (not b) (x ∷ without_member x.number xs) (without_member x.number xs)) (itself_tested x.number) ∙ absent_taken_out x.number xs (front_once x xs once) in
    subst (λ (a : Member). take left (x ∷ xs) ≡ a ∷ take (left - 1) (without_member a.number (x ∷ xs))) same (take_first x xs left some ∙ ap (λ ys. x ∷ take (left - 1) ys) (sym out))

-- one that is no member is another than the front
not_front : (a : Member) (xs : List Member) (n : ℕ) → Some a ≡ slice_get xs 0 → counted_of n xs ≡ None → n ≢ a.number
not_front a [] n e none same = cc
not_front a (x ∷ xs) n e none same = (let is : x ≡ a = cc in let there = counted_front x xs in let at : counted_of x.number (x ∷ xs) ≡ None = subst (λ k. counted_of k (x ∷ xs) ≡ None) (same ∙ ap (λ (a : Member). a.number) (sym is)) none in cc)

module _ {K V : Type 0} (records : Records K V) (n : ℕ) where
  settled_past : (a : Member) → a.number ≢ n → is_settled (remove records n) a.number ≡ is_settled records a.number
  settled_past a other = ap (λ o. option_map_or is_applied o false) (get-past_remove records n a.number other)

  -- where a record leaves that is none of theirs, they stay settled
  settled_stay : (xs : List Member) (k : ℕ) → counted_of n xs ≡ None → list_all (λ a. is_settled records a.number) (take k xs) ≡ true → list_all (λ a. is_settled (remove records n) a.number) (take k xs) ≡ true
  settled_stay xs zero none all = refl
  settled_stay [] (suc k) none all = refl
  settled_stay (x ∷ xs) (suc k) none all = go (settled_stay xs k) (x.number == n) refl none
    where
      go : (counted_of n xs ≡ None → list_all (λ a. is_settled records a.number) (take k xs) ≡ true → list_all (λ a. is_settled (remove records n) a.number) (take k xs) ≡ true) → (b : Bool) → (x.number == n) ≡ b → cond b (Some x.counted) (counted_of n xs) ≡ None
          → (is_settled (remove records n) x.number && list_all (λ a. is_settled (remove records n) a.number) (take k xs)) ≡ true
      go behind true e none = cc
      go behind false e none =
          ap (λ b. b && list_all (λ a. is_settled (remove records n) a.number) (take k xs)) (settled_past x (λ same. (let is : (x.number == n) ≡ true = subst (λ m. (x.number == m) ≡ true) same (itself_tested x.number) in cc)) ∙ (and_parts (is_settled records x.number) (list_all (λ a. is_settled records a.number) (take k xs)) all).0)
          ∙ behind none (and_parts (is_settled records x.number) (list_all (λ a. is_settled records a.number) (take k xs)) all).1

module _ {K V : Type 0} (c d : Contents K V) (a : Member) (left : ℕ) (once : IsDistinct (◌==◌) (numbers_of c.access)) (first : Some a ≡ slice_get c.access 0) (some : 0 < left) (step : d ≡ after_choice c (Removes a.number Size)) where
  first_is : take left c.access ≡ a ∷ take (left - 1) (without_member a.number c.access)
  first_is = front_leaves a c.access left once first some

  -- what is left of them leaves then
  victims_step : without_victims (take (left - 1) d.access) d ≡ without_victims (take left c.access) c
  victims_step = ap (λ (d : Contents K V). without_victims (take (left - 1) d.access) d) step ∙ ap (λ xs. without_victims xs c) (sym first_is)

  victims_written : (ns ms : List ℕ) → ms ≡ without_number a.number ns → without_numbers (take (left - 1) d.access) ms ≡ without_numbers (take left c.access) ns
  victims_written ns ms out =
      ap (λ (d : Contents K V). without_numbers (take (left - 1) d.access) ms) step ∙ ap (without_numbers (take (left - 1) (without_member a.number c.access))) out
      ∙ ap (λ xs. without_numbers xs ns) (sym first_is)

  victims_told : {L : Type 0} (tells : L → K → V → RemovalCause → L → Type 0) (l m k : Option L) → Told tells l (left_by_choice c (Removes a.number Size)) m → Told tells m (left_with (take (left - 1) d.access) d.records) k → Told tells l (left_with (take left c.access) c.records) k
  victims_told tells l m k one rest =
      subst (λ xs. Told tells l (left_with xs c.records) k) (sym first_is)
      (told-on tells l m k (left_by_choice c (Removes a.number Size)) (left_with (take (left - 1) (without_member a.number c.access)) (remove c.records a.number)) one
      (subst (λ (d : Contents K V). Told tells m (left_with (take (left - 1) d.access) d.records) k) step rest))

  victims_settled : AreSettled c (take left c.access) → AreSettled d (take (left - 1) d.access)
  victims_settled all =
      subst (λ (d : Contents K V). AreSettled d (take (left - 1) d.access)) (sym step)
      (settled_stay c.records a.number (without_member a.number c.access) (left - 1) (counted_taken_out a.number c.access)
      (and_parts (is_settled c.records a.number) (list_all (λ a. is_settled c.records a.number) (take (left - 1) (without_member a.number c.access)))
      (subst (λ xs. list_all (λ a. is_settled c.records a.number) xs ≡ true) first_is all)).1)

  -- a number that is no member stays outside, with its record
  outside_stays : (n : ℕ) → counted_of n c.access ≡ None → (counted_of n d.access ≡ None) × (get d.records n ≡ get c.records n)
  outside_stays n none =
      subst (λ (d : Contents K V). (counted_of n d.access ≡ None) × (get d.records n ≡ get c.records n)) (sym step)
      (uncounted_taken_out a.number n c.access none, get-past_remove c.records a.number n (not_front a c.access n first none))

-- ---- the answers

pub loop-left-init : goal.loop-left-init
loop-left-init g c = record {
  settled = c.requires;
  once = c.invariant_holds.ensures.distinct;
  step = refl;
  written = refl;
  told = λ m rest. rest;
  others = λ n none. (none, refl, refl);
  upkeep = untimed-none c.args.store.now;
}

pub loop-left-preserved : goal.loop-left-preserved
loop-left-preserved g c =
    let inv = c.loop-left.invariant in
    let old = c.loop-left.store in
    let new = c.expel.new.store in
    let a = member c.in-Some.handle.number c.in-Some.field-0-1 in
    let front = c.in-Some.ensures.front in
    let taken = c.expel.ensures.step in
    let step = ap (λ (d : Stock g.row.K.Denot g.row.V.Denot). d.contents) taken in
    record {
      settled = victims_settled (contents_in old) (contents_in new) a c.loop-left.left inv.once front c.loop-left-test.true step inv.settled;
      once = subst (λ (d : Contents g.row.K.Denot g.row.V.Denot). IsDistinct (◌==◌) (numbers_of d.access)) (sym step) (distinct_taken_out a.number old.access inv.once);
      step = victims_step (contents_in old) (contents_in new) a c.loop-left.left inv.once front c.loop-left-test.true step ∙ inv.step;
      written = victims_written (contents_in old) (contents_in new) a c.loop-left.left inv.once front c.loop-left-test.true step old.written new.written (ap (λ (d : Stock g.row.K.Denot g.row.V.Denot). d.written) taken) ∙ inv.written;
      told = λ m rest. inv.told m (victims_told (contents_in old) (contents_in new) a c.loop-left.left inv.once front c.loop-left-test.true step g.L.Listener.tells c.loop-left.notifier c.expel.new.notifier m c.expel.ensures.told rest);
      others = λ n none.
          (let before = inv.others n none in
          let stays = outside_stays (contents_in old) (contents_in new) a c.loop-left.left inv.once front c.loop-left-test.true step n before.0 in (
            stays.0,
            stays.1 ∙ before.1,
            ap (λ (k : Kept g.row.K.Denot g.row.V.Denot g.row.S.Denot). finite.get k.places n) c.expel.ensures.whole ∙ get-past_remove old.places a.number n (not_front a old.access n front before.0) ∙ before.2,
          ));
      upkeep = untimed-on c.args.store.now old new inv.upkeep c.expel.ensures.upkeep;
    }

pub returns-in_default-clause-written : goal.returns-in_default-clause-written
returns-in_default-clause-written g c =
    let l = c.loop-left in
    let empty = none_taken l.left l.store.access (none_first l.store.access c.in_default.ensures.front) in
    sym (ap (λ xs. without_numbers xs l.store.written) empty) ∙ l.invariant.written

pub returns-in_default-clause-step : goal.returns-in_default-clause-step
returns-in_default-clause-step g c =
    let l = c.loop-left in
    let empty = none_taken l.left l.store.access (none_first l.store.access c.in_default.ensures.front) in
    sym (ap (λ xs. without_victims xs (contents_in l.store)) empty) ∙ l.invariant.step

pub returns-in_default-clause-told : goal.returns-in_default-clause-told
returns-in_default-clause-told g c =
    let l = c.loop-left in
    let empty = none_taken l.left l.store.access (none_first l.store.access c.in_default.ensures.front) in
    l.invariant.told l.notifier (subst (λ (xs : List Member). Told g.L.Listener.tells l.notifier (left_with xs l.store.records) l.notifier) (sym empty) (told-none g.L.Listener.tells l.notifier))

pub returns-in_default-clause-others : goal.returns-in_default-clause-others
returns-in_default-clause-others g c = c.loop-left.invariant.others

pub returns-in_default-clause-upkeep : goal.returns-in_default-clause-upkeep
returns-in_default-clause-upkeep g c = c.loop-left.invariant.upkeep

pub returns-clause-written : goal.returns-clause-written
returns-clause-written g c =
    let l = c.loop-left in
    let over : l.left ≡ 0 = (let e = c.loop-left-test.false in omega arith) in
    sym (ap (λ k. without_numbers (take k l.store.access) l.store.written) over) ∙ l.invariant.written

pub returns-clause-step : goal.returns-clause-step
returns-clause-step g c =
    let l = c.loop-left in
    let over : l.left ≡ 0 = (let e = c.loop-left-test.false in omega arith) in
    sym (ap (λ k. without_victims (take k l.store.access) (contents_in l.store)) over) ∙ l.invariant.step

pub returns-clause-told : goal.returns-clause-told
returns-clause-told g c =
    let l = c.loop-left in
    let over : l.left ≡ 0 = (let e = c.loop-left-test.false in omega arith) in
    l.invariant.told l.notifier (subst (λ (k : ℕ). Told g.L.Listener.tells l.notifier (left_with (take k l.store.access) l.store.records) l.notifier) (sym over) (told-none g.L.Listener.tells l.notifier))

pub returns-clause-others : goal.returns-clause-others
returns-clause-others g c = c.loop-left.invariant.others

pub returns-clause-upkeep : goal.returns-clause-upkeep
returns-clause-upkeep g c = c.loop-left.invariant.upkeep
