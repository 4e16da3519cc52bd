-- Steps of a stock are those of the reference cache, whatever sketch its contents have; the write list goes along.
use Rattle.std.proofs.Common.{◌≡◌, refl, ℕ, Bool, List, [], ◌∷◌, ◌++◌, ap, sym, ◌∙◌, Option, None}
use Rattle.moka_parts.specs.Frequency.{SketchTable}
use Rattle.moka_parts.specs.declared.notification.RemovalCause.{RemovalCause}
use Rattle.moka_parts.specs.declared.notification.RemovalCause.TheVariants.{Expired, Explicit, Replaced, Size}
use Rattle.moka_parts.specs.declared.records.Registered.{Registered}
use Rattle.moka_parts.specs.State.{Contents}
use Rattle.moka_parts.specs.Maintenance.{Choice, Removes, MovesToBack, Drops, Tests, after_choice, after_choices, left_by_choice, left_by_choices, kept_by_choices, IsJustified, AreJustified}
use Rattle.moka_parts.specs.Order.{written_after_choice, written_after_choices}
use Rattle.moka_maintenance.specs.Steps.{Stock, after_step, after_steps, MayLeave, MayRun, MayAll}

module _ {K V : Type 0} where
  -- these contents without their sketch, with a write list
  abbrev pub stock_of : Contents K V → List ℕ → Stock K V
  stock_of c ns = record { contents = record c { sketch = None }; written = ns }

  pub choices_sketched : (sketch : Option SketchTable) (c : Contents K V) (xs : List Choice) → after_choices (record c { sketch = sketch }) xs ≡ record (after_choices c xs) { sketch = sketch }
  choices_sketched sketch c [] = refl
  choices_sketched sketch c (Removes n cause ∷ xs) = choices_sketched sketch (after_choice c (Removes n cause)) xs
  choices_sketched sketch c (MovesToBack n ∷ xs) = choices_sketched sketch (after_choice c (MovesToBack n)) xs
  choices_sketched sketch c (Drops i ∷ xs) = choices_sketched sketch c xs

  -- they lead to the same
  pub steps-seen : (c : Contents K V) (ns : List ℕ) (xs : List Choice) → after_steps (stock_of c ns) xs ≡ stock_of (after_choices c xs) (written_after_choices ns xs)
  steps-seen c ns xs = ap (λ (e : Contents K V). record { contents = e; written = written_after_choices ns xs }) (choices_sketched None c xs)

  module _ (c d : Contents K V) (ns ms : List ℕ) (xs : List Choice) (led : stock_of d ms ≡ after_steps (stock_of c ns) xs) where
    pub led-seen : d.sketch ≡ c.sketch → d ≡ after_choices c xs
    led-seen same =
        ap (λ (e : Stock K V). record e.contents { sketch = d.sketch }) (led ∙ steps-seen c ns xs)
        ∙ ap (λ (t : Option SketchTable). record (after_choices c xs) { sketch = t }) same ∙ sym (choices_sketched c.sketch c xs)

    pub listed-seen : ms ≡ written_after_choices ns xs
    listed-seen = ap (λ (e : Stock K V). e.written) led

  -- and the same leaves
  pub left-seen : (sketch : Option SketchTable) (c : Contents K V) (xs : List Choice) → left_by_choices (record c { sketch = sketch }) xs ≡ left_by_choices c xs
  left-seen sketch c [] = refl
  left-seen sketch c (Removes n cause ∷ xs) = ap (λ xs. left_by_choice c (Removes n cause) ++ xs) (left-seen sketch (after_choice c (Removes n cause)) xs)
  left-seen sketch c (MovesToBack n ∷ xs) = left-seen sketch (after_choice c (MovesToBack n)) xs
  left-seen sketch c (Drops i ∷ xs) = left-seen sketch c xs

  module _ (q : Tests) {P : Type 0} (says : P → K → V → Bool → Type 0) (ps : List (Registered P)) where
    step_justified : (c : Contents K V) (ns : List ℕ) (n : ℕ) (cause : RemovalCause) → MayRun says ps q (stock_of c ns) (Removes n cause) → IsJustified says q c ps (Removes n cause)
    step_justified c ns n Expired may = may
    step_justified c ns n Explicit may = may
    step_justified c ns n Size may = may
    step_justified c ns n Replaced may = may

    -- steps that tests and predicates allow are justified
    pub steps_justified : (c : Contents K V) (ns : List ℕ) (xs : List Choice) → MayAll (MayRun says ps q) (stock_of c ns) xs → AreJustified says q c ps xs
    steps_justified c ns [] may = tt
    steps_justified c ns (Removes n cause ∷ xs) may = (step_justified c ns n cause may.0, steps_justified (after_choice c (Removes n cause)) (written_after_choice ns (Removes n cause)) xs may.1)
    steps_justified c ns (MovesToBack n ∷ xs) may = (may.0, steps_justified (after_choice c (MovesToBack n)) (written_after_choice ns (MovesToBack n)) xs may.1)
    steps_justified c ns (Drops i ∷ xs) may = absurd may.0

  -- and leave all predicates
  pub steps_keep_predicates : {P : Type 0} (ps : List (Registered P)) (c : Stock K V) (xs : List Choice) → MayAll MayLeave c xs → kept_by_choices ps xs ≡ ps
  steps_keep_predicates ps c [] may = refl
  steps_keep_predicates ps c (Removes n cause ∷ xs) may = steps_keep_predicates ps (after_step c (Removes n cause)) xs may.1
  steps_keep_predicates ps c (MovesToBack n ∷ xs) may = steps_keep_predicates ps (after_step c (MovesToBack n)) xs may.1
  steps_keep_predicates ps c (Drops i ∷ xs) may = absurd may.0
