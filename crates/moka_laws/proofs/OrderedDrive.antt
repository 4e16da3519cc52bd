-- One call in the order of time, and lists of them: each keeps a state in order, and each whole run with all sent
-- leaves nothing that is past its time.
use Rattle.std.proofs.Common.{◌≡◌, refl, ℕ, true, false, ◌<◌, List, [], ◌∷◌, ◌++◌, map, filter, ap, sym, ◌∙◌, subst, inl, inr, ◌||◌, true≢false, arith, Contains, filter_map}
use Rattle.std.specs.List.Sorted.{IsNonDecreasing, IsStrictlyIncreasing}
use Rattle.std.specs.FinMap.{entries}
use Rattle.std.specs.Cmp.{IsEquivalence}
use Rattle.moka_laws.proofs.Types.{Ticketed, Operation, Call, Reply, Notice, State, Settings, Meaning, Terms, Course, Engine, Step}
use Rattle.moka_records.specs.Records.{is_listed, is_member, is_settled}
use Rattle.moka_parts.specs.State.{keeps_write_list}
use Rattle.moka_parts.specs.Maintenance.{MaintenanceRun}
use Rattle.moka_parts.specs.Settling.{IsValid}
use Rattle.moka_parts.specs.Order.{waiting_by_ticket, written_at, written_by, IsWriteList, IsInOrder, IsOrderly, write_list_at_end}
use Rattle.moka_parts.specs.Laws.{StaysInOrder}
use Rattle.moka_parts.specs.Runs.{CallStep, AreSteps, AreOrderly, MakesCalls, PromisedRun, OrderlyRun, IsEmpty, last_state}
use Rattle.moka_parts.specs.Listed.{ListedRun, ListedStep, AreListedSteps}
use Rattle.moka_parts.specs.Drives.{Drives}
use Rattle.moka_records.proofs.Maps.{itself_tested, entries-empty}
use Rattle.moka_parts.proofs.RunsGoOn.{promised_is_run}
use Rattle.moka_laws.proofs.StepsKeep.{hit_valid, call_keeps}
use Rattle.moka_laws.proofs.Promises.{weaker_call, is_of_reference}
use Rattle.moka_laws.proofs.OrderedStates.{run_in_order}
use Rattle.moka_laws.proofs.OrderedCalls.{order_with, hit_in_order}
use Rattle.moka_laws.proofs.Kept.{kept_by_run}
use Rattle.moka_laws.proofs.OrderedSteps.{IsListedIn, call_ends}
use Rattle.moka_laws.proofs.OrderedRuns.{listed_is_promised, listed_run_ends, listed_is_orderly}
use Rattle.moka_laws.proofs.ConservedCalls.{tells_each_once}

-- ---- an empty cache

-- a list with no number is empty
no_number : (ns : List ℕ) → ((n : ℕ) → is_listed n ns ≡ false) → ns ≡ []
no_number [] none = refl
no_number (n ∷ ns) none = absurd (true≢false (sym (ap (λ b. b || is_listed n ns) (itself_tested n)) ∙ none n))

-- where nothing is kept and nothing waits, its write list is in order
pub empty_in_order : {K V X P W : Type 0} (s : State K V X P W) (ns : List ℕ) → IsEmpty s → IsWriteList s ns → IsInOrder s ns
empty_in_order {K} {V} {X} {P} {W} s ns empty listed = record {
  listed = listed;
  rising = subst (λ ws. IsStrictlyIncreasing (map (λ (h : Ticketed). h.ticket) ws)) (sym empty.writes) (λ k lt. absurd (omega arith));
  below = λ h ticket there out. absurd (nowhere h (subst (λ ws. Contains ws h) empty.writes there));
  newer = λ h there. absurd (nowhere h (subst (λ ws. Contains ws h) none_waits there));
  written = subst (λ ws. IsNonDecreasing (filter_map (written_at s.records) (filter (is_settled s.records) ns) ++ filter_map (λ h. written_by s.records h.operation) ws)) (sym none_waits)
      (subst (λ ns. IsNonDecreasing (filter_map (written_at s.records) (filter (is_settled s.records) ns) ++ [])) (sym none_listed) (λ i j d le lt. absurd (omega arith)));
}
  where
    nowhere : (h : Ticketed) → Contains [] h → ⊥
    nowhere h there = let below : there.0 < 0 = there.1 in absurd (omega arith)

    none_waits : waiting_by_ticket s ≡ []
    none_waits = ap (λ ws. ws ++ map (λ (e : ℕ × Operation). record { ticket = e.0; operation = e.1 }) (entries s.outstanding)) empty.writes
        ∙ ap (λ m. map (λ (e : ℕ × Operation). record { ticket = e.0; operation = e.1 }) (entries m)) empty.outstanding ∙ ap (map (λ (e : ℕ × Operation). record { ticket = e.0; operation = e.1 })) entries-empty

    none_listed : ns ≡ []
    none_listed = no_number ns (λ n. listed.1 n ∙ ap (is_member n) empty.access)

-- ---- calls of the reference cache

module _ {K V X L P W C I : Type 0} (m : Meaning K V X L P W C I) where
  -- some list is a write list in order
  abbrev HasOrder : Settings X W → State K V X P W → Type 0
  HasOrder settings t = (t.settings ≡ settings) × (keeps_write_list settings ≡ true → (after : List ℕ) × IsInOrder t after)

  run_has_order : (settings : Settings X W) (ns : List ℕ) (s : State K V X P W) (terms : Terms) (course : Course) (notices : List (Notice K V)) (t : State K V X P W) → IsValid m.eq s → IsListedIn settings ns s → MaintenanceRun m.says s terms course notices t → HasOrder settings t
  run_has_order settings ns s terms course notices t valid h run = kept_by_run (HasOrder settings) s t (h.0, λ kept. (ns, h.1 kept)) _ m.says terms course notices
      (λ ch on free. (h.0, λ kept. (write_list_at_end s ns ch, run_in_order m.says s terms.now ns ch (ap keeps_write_list h.0 ∙ kept) free valid.rising (h.1 kept)))) run.0

  -- calls in the order of time keep a state in order
  pub stays_in_order : IsEquivalence m.eq → StaysInOrder m
  stays_in_order laws s [] ns valid kept orderly order done = (ns, order)
  stays_in_order laws s (x ∷ xs) ns valid kept orderly order (step, rest) =
      let next = call_ends m s.settings ns (MaintenanceRun m.says) (HasOrder s.settings) (run_has_order s.settings ns)
      (λ t reads housekeeping h. (h.0, λ k. let o = h.1 k in (o.0, order_with t o.0 o.1 reads t.invalid_before t.predicates housekeeping t.capacity t.next_number)))
      s x.after x.call x.reply x.events valid (refl, λ k. order) orderly.0 step in
      let at : HasOrder s.settings x.after = elim next [ inl after ↦ after | inr as_before ↦ (as_before.1.0, λ k. (ns, as_before.1.1 k)) ] in
      stays_in_order laws x.after xs (at.1 kept).0 (call_keeps m laws s x.after x.call x.reply x.events valid step) (ap keeps_write_list at.0 ∙ kept) orderly.1 (at.1 kept).1 rest

-- ---- calls with their write lists

module _ {K V X L P W C I : Type 0} (m : Meaning K V X L P W C I) where
  module _ (s : State K V X P W) (before after : List ℕ) (x : Step K V X P W) (step : ListedStep m s before x after) where
    -- its run keeps its promises
    pub listed_call_promised : CallStep m (PromisedRun m.says m.read) s x.call x.reply x.events x.after
    listed_call_promised =
        weaker_call m (ListedRun m.says m.read before after) (PromisedRun m.says m.read) (λ _. Unit {0}) (λ s terms course notices t _ run. listed_is_promised m.says m.read before after s terms course notices t run) (λ _ _ _ _ _ good. good)
        s x.after x.call x.reply x.events tt step.0

    -- so it is one of the reference cache
    pub listed_call_made : CallStep m (MaintenanceRun m.says) s x.call x.reply x.events x.after
    listed_call_made =
        weaker_call m (PromisedRun m.says m.read) (MaintenanceRun m.says) (λ _. Unit {0}) (λ s terms course notices t _ run. promised_is_run m.says m.read s terms course notices t run) (λ _ _ _ _ _ good. good)
        s x.after x.call x.reply x.events tt listed_call_promised

    module _ (valid : IsValid m.eq s) where
      -- from a state in order it also removes what is past its time
      pub listed_call_orderly : (keeps_write_list s.settings ≡ true → IsInOrder s before) → CallStep m (OrderlyRun m.says m.read) s x.call x.reply x.events x.after
      listed_call_orderly order =
          weaker_call m (ListedRun m.says m.read before after) (OrderlyRun m.says m.read) (λ s. IsValid m.eq s × (keeps_write_list s.settings ≡ true → IsInOrder s before))
          (λ s terms course notices t good run. listed_is_orderly m.says m.read before after s terms course notices t run m.eq good.0 good.1)
          (λ s key r now found good. (hit_valid m.eq m.says m.read s key r now found good.0, λ kept. hit_in_order m.eq m.read s before key r now good.0 found (good.1 kept)))
          s x.after x.call x.reply x.events (valid, order) step.0

      -- in the order of time it leaves a state in order
      pub listed_call_ends : IsOrderly s x.call → (keeps_write_list s.settings ≡ true → IsInOrder s before) → IsListedIn s.settings after x.after
      listed_call_ends orderly order = elim (call_ends m s.settings before (ListedRun m.says m.read before after) (IsListedIn s.settings after)
          (λ q terms course notices t ok h run. listed_run_ends m.says m.read before after q terms course notices t run m.eq ok s.settings h)
          (λ t reads housekeeping h. (h.0, λ kept. order_with t after (h.1 kept) reads t.invalid_before t.predicates housekeeping t.capacity t.next_number))
          s x.after x.call x.reply x.events valid (refl, order) orderly step.0) [
            | inl ends ↦ ends
            | inr as_before ↦ subst (λ ns. IsListedIn s.settings ns x.after) (sym (step.1 as_before.0)) as_before.1
          ]

  -- in the order of time, from a state in order, they also remove what is past its time
  pub listed_steps_orderly : (s : State K V X P W) (before last : List ℕ) (xs : List (Step K V X P W)) → IsEquivalence m.eq → IsValid m.eq s → (keeps_write_list s.settings ≡ true → IsInOrder s before) → AreOrderly s xs → AreListedSteps m s before xs last →
      AreSteps m (OrderlyRun m.says m.read) s xs
  listed_steps_orderly s before last [] laws valid order orderly done = tt
  listed_steps_orderly s before last (x ∷ xs) laws valid order orderly (after, step, rest) =
      let ends = listed_call_ends s before after x step valid orderly.0 order in (
        listed_call_orderly s before after x step valid order,
        listed_steps_orderly x.after after last xs laws (call_keeps m laws s x.after x.call x.reply x.events valid (listed_call_made s before after x step)) (λ kept. ends.1 (sym (ap keeps_write_list ends.0) ∙ kept)) orderly.1 rest,
      )

  -- one more call
  pub AreListedSteps_push : (s : State K V X P W) (before mid last : List ℕ) (xs : List (Step K V X P W)) (x : Step K V X P W) → AreListedSteps m s before xs mid → ListedStep m (last_state s xs) mid x last → AreListedSteps m s before (xs ++ x ∷ []) last
  AreListedSteps_push s before mid last [] x same step = (last, subst (λ ns. ListedStep m s ns x last) same step, refl)
  AreListedSteps_push s before mid last (y ∷ xs) x (after, first, rest) step = (after, first, AreListedSteps_push y.after after mid last xs x rest step)

  -- one more call of a cache
  pub lists_go_on : {S : Type 0} (Runs : State K V X P W → Terms → Course → List (Notice K V) → State K V X P W → Type 0) (calls : List (Call K V P)) (replies : List (Reply K V P)) (steps : List (Step K V X P W)) (old mid : Engine K V S X L P W) (clock clock_after : C) (ids ids_after : I) (x : Step K V X P W) (last : List ℕ) →
      MakesCalls m Runs calls replies steps old clock ids mid clock_after ids_after → AreListedSteps m old.state old.write_list steps mid.write_list → ListedStep m mid.state mid.write_list x last → AreListedSteps m old.state old.write_list (steps ++ x ∷ []) last
  lists_go_on Runs calls replies steps old mid clock clock_after ids ids_after x last made lists step =
      AreListedSteps_push old.state old.write_list mid.write_list last steps x lists (subst (λ s. ListedStep m s mid.write_list x last) (ap (λ c. c.state) made.ends) step)

  -- what `drive` promises, from the write lists beside its calls
  pub drives_in_order : {S : Type 0} (calls : List (Call K V P)) (replies : List (Reply K V P)) (steps : List (Step K V X P W)) (old new : Engine K V S X L P W) (clock clock_after : C) (ids ids_after : I) →
      IsEquivalence m.eq → IsValid m.eq old.state → (keeps_write_list old.state.settings ≡ true → IsWriteList old.state old.write_list) →
      MakesCalls m (PromisedRun m.says m.read) calls replies steps old clock ids new clock_after ids_after → AreListedSteps m old.state old.write_list steps new.write_list → Drives m calls replies old clock ids new clock_after ids_after
  drives_in_order {S} calls replies steps old new clock clock_after ids ids_after laws valid listed made lists = record {
    steps = steps;
    is_run = made;
    listed = lists;
    orderly = λ start orderly.
        listed_steps_orderly old.state old.write_list new.write_list steps laws valid (λ kept. elim start [
          | inl empty ↦ empty_in_order old.state old.write_list empty (listed kept)
          | inr order ↦ order kept
        ]) orderly lists;
    told_once = λ listening. tells_each_once m laws old.state steps valid listening (is_of_reference S m calls replies steps old new clock clock_after ids ids_after made).are_steps;
  }
