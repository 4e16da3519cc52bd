use Rattle.std.proofs.Common.{◌≡◌, ◌==◌, ◌∙◌, ℕ, Result, Err, ap, subst, inl, inr}
use Rattle.moka_engine.specs.parts.InsertError.TheVariants as insert_error
use Rattle.moka_engine.specs.parts.InsertRefused.{InsertRefused}
use Rattle.moka_engine.specs.parts.Instant.{Instant}
use Rattle.moka_engine.specs.Runs.{Engine}
use Rattle.moka_engine.specs.State.{Meaning}
use Rattle.moka_cache.specs.Synchronous.{InsertsEntry, Makes}
use Rattle.moka_uses.specs.Handled.{InsertsOrRetries}
use Rattle.moka_uses.specs.Made.{plain_meaning}
use Rattle.moka_uses.proofs.handled.put.Goals as goal

module _ {K V S X L P W C : Type 0} (m : Meaning K V X L P W C (Unit {0})) (key : K) (value : V) (now : Instant) (old mid new : Engine K V S X L P W) (clock between clock_after : C) where
  retried : (refused : InsertRefused K V) → refused.error ≡ insert_error.OutOfMemory → refused.key ≡ key → refused.value ≡ value → (hash again : ℕ) → Makes m (InsertsEntry key hash value now (Err refused)) old clock mid between
      → (result : Result (Unit {0}) (InsertRefused K V)) → Makes m (InsertsEntry refused.key again refused.value now result) mid between new clock_after → InsertsOrRetries m key value now old clock new clock_after result
  retried refused error same_key same_value hash again first result second = inr (
    mid,
    between,
    (hash, subst (λ r. Makes m (InsertsEntry key hash value now (Err r)) old clock mid between) whole first),
    (again, subst (λ v. Makes m (InsertsEntry key again v now result) mid between new clock_after) same_value (subst (λ k. Makes m (InsertsEntry k again refused.value now result) mid between new clock_after) same_key second)),
  )
    where
      whole : refused ≡ record { error = insert_error.OutOfMemory; key = key; value = value }
      whole = ap (λ e. record refused { error = e }) error ∙ ap (λ k. record refused { error = insert_error.OutOfMemory; key = k }) same_key ∙ ap (λ v. record refused { error = insert_error.OutOfMemory; key = key; value = v }) same_value

pub returns-in-OutOfMemory-clause-put : goal.returns-in-OutOfMemory-clause-put
returns-in-OutOfMemory-clause-put g c = rw (← c.in-Err.ensures.unchanged.0, ← c.in-Err.ensures.back.0, ← c.in-Err.ensures.back.1) c.insert-in-OutOfMemory.ensures.kept

pub returns-in-OutOfMemory-clause-made : goal.returns-in-OutOfMemory-clause-made
returns-in-OutOfMemory-clause-made g c =
    retried (plain_meaning (λ a b. a == b) g.C.Clock.reads) c.args.key c.args.value c.args.now c.args.cache.now.engine c.insert.new.self.engine c.insert-in-OutOfMemory.new.self.engine c.args.clock.now c.insert.new.clock c.insert-in-OutOfMemory.new.clock c.in-Err.refused c.in-OutOfMemory.is c.in-Err.ensures.back.0 c.in-Err.ensures.back.1 _ _ c.in-Err.ensures.made c.insert-in-OutOfMemory.result c.insert-in-OutOfMemory.ensures.made

pub returns-in-NumbersUsedUp-clause-made : goal.returns-in-NumbersUsedUp-clause-made
returns-in-NumbersUsedUp-clause-made g c = inl ((_, c.in-Err.ensures.made), c.in-NumbersUsedUp.is)
