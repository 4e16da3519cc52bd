-- What calls for many keys make.
use Rattle.std.proofs.Common.{◌≡◌, refl, ℕ, List, [], ◌∷◌, ◌++◌, append_assoc, append-nil, ap, sym, subst, ◌∙◌, Err}
use Rattle.moka_types.specs.declared.calls.Call.{Call}
use Rattle.moka_types.specs.declared.calls.Reply.{Reply}
use Rattle.moka_parts.specs.State.{Meaning}
use Rattle.moka_parts.specs.Runs.{Engine}
use Rattle.moka_types.specs.declared.error.InsertRefused.{InsertRefused}
use Rattle.moka_records.specs.declared.instant.Instant.{Instant}
use Rattle.moka_calls.specs.Synchronous.{InsertsEntry, Makes}
use Rattle.moka_calls.specs.Compute.{InTurn}
use Rattle.moka_calls.specs.Many.{Each}
use Rattle.moka_calls.proofs.Made.{made_nothing, made_then}
use Rattle.moka_cache.proofs.Getting.{made_keeps_hasher}

-- calls of one more item
each_then : {A K V P : Type 0} (Step : A → List (Call K V P) → List (Reply K V P) → Type 0) (xs : List A) (x : A)
    (calls cs : List (Call K V P)) (replies rs : List (Reply K V P)) → Each Step xs calls replies → Step x cs rs → Each Step (xs ++ x ∷ []) (calls ++ cs) (replies ++ rs)
each_then Step [] x calls cs replies rs none step =
    (cs, rs, [], [], step, (refl, refl), ap (λ z. z ++ cs) none.0 ∙ sym (append-nil cs), ap (λ z. z ++ rs) none.1 ∙ sym (append-nil rs))
each_then Step (y ∷ ys) x calls cs replies rs (asked, got, later, answers, first, rest, e, f) step = (
  asked,
  got,
  later ++ cs,
  answers ++ rs,
  first,
  each_then Step ys x later cs answers rs rest step,
  ap (λ z. z ++ cs) e ∙ append_assoc asked later cs,
  ap (λ z. z ++ rs) f ∙ append_assoc got answers rs,
)

module _ {A K V S X L P W C : Type 0} (m : Meaning K V X L P W C (Unit {0})) where
  -- no item
  pub made_none : (Step : A → List (Call K V P) → List (Reply K V P) → Type 0) (c : Engine K V S X L P W) (clock : C) → Makes m (Each Step []) c clock c clock
  made_none Step c clock = ([], [], (refl, refl), made_nothing m c clock)

  module _ (hash_by : S → K → ℕ) (Step : (K → ℕ) → A → List (Call K V P) → List (Reply K V P) → Type 0)
      (old mid new : Engine K V S X L P W) (c1 c2 c3 : C) (xs : List A) (made : Makes m (Each (Step (hash_by old.hasher)) xs) old c1 mid c2) where
    -- what follows is of the same hash
    step_of_old : (Fit : (K → ℕ) → List (Call K V P) → List (Reply K V P) → Type 0) → Makes m (Fit (hash_by mid.hasher)) mid c2 new c3 → Makes m (Fit (hash_by old.hasher)) mid c2 new c3
    step_of_old Fit after = subst (λ h. Makes m (Fit (hash_by h)) mid c2 new c3) (made_keeps_hasher m made.0 made.1 old mid c1 c2 made.3) after

    -- one more item
    pub made_next : (x : A) → Makes m (Step (hash_by mid.hasher) x) mid c2 new c3 → Makes m (Each (Step (hash_by old.hasher)) (xs ++ x ∷ [])) old c1 new c3
    made_next x after =
        let then = step_of_old (λ h. Step h x) after in (
          made.0 ++ then.0,
          made.1 ++ then.1,
          each_then (Step (hash_by old.hasher)) xs x made.0 then.0 made.1 then.1 made.2 then.2,
          made_then m made.0 then.0 made.1 then.1 old mid new c1 c2 c3 made.3 then.3,
        )

    -- and at last a call of another kind
    pub made_last : (Fit : (K → ℕ) → List (Call K V P) → List (Reply K V P) → Type 0) → Makes m (Fit (hash_by mid.hasher)) mid c2 new c3 → Makes m (InTurn (Each (Step (hash_by old.hasher)) xs) (Fit (hash_by old.hasher))) old c1 new c3
    made_last Fit after =
        let then = step_of_old Fit after in (
          made.0 ++ then.0,
          made.1 ++ then.1,
          (made.0, made.1, then.0, then.1, made.2, then.2, refl, refl),
          made_then m made.0 then.0 made.1 then.1 old mid new c1 c2 c3 made.3 then.3,
        )

module _ {K V S X L P W C : Type 0} (m : Meaning K V X L P W C (Unit {0})) where
  -- what was refused has the item's key and value
  pub refused_item : (r : InsertRefused K V) (key : K) (value : V) (hash_of : K → ℕ) (now : Instant) (old new : Engine K V S X L P W) (c1 c2 : C)
      → r.key ≡ key → r.value ≡ value → Makes m (InsertsEntry key (hash_of key) value now (Err r)) old c1 new c2
      → Makes m (InsertsEntry r.key (hash_of r.key) r.value now (Err r)) old c1 new c2
  refused_item r key value hash_of now old new c1 c2 same_key same_value made =
      subst (λ k. Makes m (InsertsEntry k (hash_of k) r.value now (Err r)) old c1 new c2) (sym same_key)
      (subst (λ v. Makes m (InsertsEntry key (hash_of key) v now (Err r)) old c1 new c2) (sym same_value) made)
