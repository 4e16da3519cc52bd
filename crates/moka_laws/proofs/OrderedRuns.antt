-- A run that takes the write list along keeps a state in order, and leaves nothing that is past its time.
use Rattle.std.proofs.Common.{◌≡◌, ℕ, Bool, true, false, List, [], ◌∷◌, ◌++◌, Option, Some, inl, ap, sym, subst, ◌∙◌, MatchBool}
use Rattle.std.specs.FinMap.{get}
use Rattle.moka_laws.proofs.Types.{Record, Registered, Notice, State, Settings, Contents, Choice, Freedom, Terms, Course, Tests}
use Rattle.moka_parts.specs.State.{is_disabled, keeps_write_list}
use Rattle.moka_parts.specs.Maintenance.{tests_of, RunsBy, DoesNothing, AreFree, AreJustified, kept_by_choice, after_choice, after_choices, before_steps, after_run}
use Rattle.moka_parts.specs.Settling.{IsWhole, IsAllSent, IsValid, IsConsistentState, AreRising}
use Rattle.moka_parts.specs.Bounds.{IsBounded, HasBounds}
use Rattle.moka_parts.specs.Order.{IsInOrder, ComesToRest, AgesOut, AgesOutInOrder}
use Rattle.moka_parts.specs.Visibility.{is_past_live, is_written_before}
use Rattle.moka_parts.specs.Runs.{PromisedRun, OrderlyRun}
use Rattle.moka_parts.specs.Listed.{LeavesList, ListedRun}
use Rattle.moka_records.proofs.Maps.{nothing_at}
use Rattle.moka_laws.proofs.RunKeeps.{keeps_second}
use Rattle.moka_laws.proofs.AgedOut.{last_after_run}
use Rattle.moka_laws.proofs.OrderedStates.{run_in_order}
use Rattle.moka_laws.proofs.OrderedSteps.{IsListedIn}
use Rattle.moka_laws.proofs.Kept.{run_cases}

same_moment : {K V : Type 0} (q r : Record K V) (g : ℕ) → q ≡ record r { applied = g } → q.written.0 ≡ r.written.0
same_moment {K} {V} q r g same = ap (λ (x : Record K V). x.written.0) same

-- the first of justified steps are justified
justified_first : {K V P : Type 0} (says : P → K → V → Bool → Type 0) (q : Tests) (c : Contents K V) (ps : List (Registered P)) (xs ys : List Choice) → AreJustified says q c ps (xs ++ ys) → AreJustified says q c ps xs
justified_first says q c ps [] ys are = tt
justified_first says q c ps (x ∷ xs) ys are = (are.0, justified_first says q (after_choice c x) (kept_by_choice ps x) xs ys are.1)

module _ {K V X P W : Type 0} where
  module _ (says : P → K → V → Bool → Type 0) where
    -- a run from a state in order that comes to rest by the write list leaves nothing that is past its time
    pub rested_ages_out : (s : State K V X P W) (ns : List ℕ) (terms : Terms) (ch : Freedom) (course : Course) → IsConsistentState s → AreRising s.outstanding s.writes → keeps_write_list s.settings ≡ true → AreFree says s terms.now ch → IsInOrder s ns →
        (IsWhole s terms course → IsAllSent s → ComesToRest s ns ch terms.now) → AgesOut s terms course (after_run s ch)
    rested_ages_out s ns terms ch course consistent rising kept free order rests = record {
      live = λ whole all k n r there. (all_last whole all k n r there).0;
      invalid = λ whole all k n r there. (all_last whole all k n r there).1;
    }
      where
        all_last : IsWhole s terms course → IsAllSent s → keeps_write_list s.settings ≡ true → (n : ℕ) (r : Record K V) → get (after_run s ch).records n ≡ Some r → (is_past_live s.settings r terms.now ≡ false) × (is_written_before s.invalid_before r ≡ false)
        all_last whole all k n r there =
            let way = rests whole all in
            let first : Freedom = record ch { steps = way.0 } in
            let may : AreFree says s terms.now first = (free.0, justified_first says (tests_of s terms.now) (before_steps s ch) s.predicates way.0 way.1 (subst (AreJustified says (tests_of s terms.now) (before_steps s ch) s.predicates) way.2 free.1)) in
            let before = keeps_second (before_steps s ch) way.0 way.1 n r (subst (λ xs. get (after_choices (before_steps s ch) xs).records n ≡ Some r) way.2 there) in
            let written : r.written.0 ≡ before.0.written.0 = same_moment r before.0 before.2.0 before.2.1 in
            rw written (last_after_run says s terms.now ns first consistent rising kept may order all way.3 n before.0 before.1)

-- ---- runs with their write lists

module _ {K V X P W : Type 0} (says : P → K → V → Bool → Type 0) (read : X → K → V → ℕ → Option ℕ → ℕ → Option ℕ) (before after : List ℕ) (s : State K V X P W) (terms : Terms) (course : Course) (notices : List (Notice K V)) (t : State K V X P W)
    (run : ListedRun says read before after s terms course notices t) where
  -- such a run keeps its promises
  pub listed_is_promised : PromisedRun says read s terms course notices t
  listed_is_promised = (go (is_disabled s.capacity) run.0, run.1.0)
    where
      go : (b : Bool) → MatchBool b (DoesNothing s course notices t) ((ch : Freedom) × RunsBy says s terms ch course notices t × (IsBounded says read before s terms ch course × LeavesList before after s terms ch course)) →
          MatchBool b (DoesNothing s course notices t) ((ch : Freedom) × RunsBy says s terms ch course notices t × HasBounds says read s terms ch course)
      go true nothing = nothing
      go false (ch, by, also) = (ch, by, (before, also.0))

  module _ (eq : K → K → Bool) (valid : IsValid eq s) where
    -- it keeps a state in order
    pub listed_run_ends : (settings : Settings X W) → IsListedIn settings before s → IsListedIn settings after t
    listed_run_ends settings h = run_cases (IsListedIn settings after t) s t _ says terms course notices
        (λ off nothing. subst (IsListedIn settings after) (sym nothing.0) (subst (λ ns. IsListedIn settings ns s) (sym (run.1.1 off)) h))
        (λ ch on by also. subst (IsListedIn settings after) (sym by.1) (
          h.0,
          λ kept. let k = ap keeps_write_list h.0 ∙ kept in
              subst (IsInOrder (after_run s ch)) (sym (also.1.list k)) (run_in_order says s terms.now before ch k by.0 valid.rising (h.1 kept)),
        )) run.0

    -- and from one it removes what is past its time
    pub listed_run_ages_out : AgesOutInOrder s before terms course t
    listed_run_ages_out order = run_cases (AgesOut s terms course t) s t _ says terms course notices
        (λ off nothing. subst (AgesOut s terms course) (sym nothing.0) (record { live = λ whole all kept n r there. absurd (bare off n r there); invalid = λ whole all kept n r there. absurd (bare off n r there) }))
        (λ ch on by also.
        let aged : keeps_write_list s.settings ≡ true → AgesOut s terms course (after_run s ch) = λ kept. rested_ages_out says s before terms ch course valid.consistent valid.rising kept by.0 order (λ whole all. (let swept = also.1.swept kept in (swept.0, swept.1, swept.2, swept.3.rest whole (inl all)))) in
        subst (AgesOut s terms course) (sym by.1) (record { live = λ whole all kept. (aged kept).live whole all kept; invalid = λ whole all kept. (aged kept).invalid whole all kept })) run.0
      where
        bare : is_disabled s.capacity ≡ true → (n : ℕ) (r : Record K V) → get s.records n ≡ Some r → ⊥
        bare off n r there = nothing_at n r (sym (ap (λ m. get m n) (valid.numbered.disabled off).no_records) ∙ there)

    -- so it is an orderly run
    pub listed_is_orderly : (keeps_write_list s.settings ≡ true → IsInOrder s before) → OrderlyRun says read s terms course notices t
    listed_is_orderly order = (listed_is_promised.0, (listed_is_promised.1, record { live = λ whole all kept. (listed_run_ages_out (order kept)).live whole all kept; invalid = λ whole all kept. (listed_run_ages_out (order kept)).invalid whole all kept }))
