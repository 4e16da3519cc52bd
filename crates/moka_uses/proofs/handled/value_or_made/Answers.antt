use Rattle.std.proofs.Common.{◌≡◌, ◌==◌, ◌∙◌, refl, ℕ, false, Option, Result, Ok, Err, ap, sym, inl, inr, subst}
use Rattle.std.specs.Prelude.{IfErr}
use Rattle.moka_engine.specs.parts.Instant.{Instant}
use Rattle.moka_engine.specs.parts.OutOfMemory.{OutOfMemory}
use Rattle.moka_engine.specs.Copies.{IsCopiedAnswer}
use Rattle.moka_engine.specs.State.{Meaning}
use Rattle.moka_cache.specs.parts.GetWithRefused.{GetWithRefused}
use Rattle.moka_cache.specs.parts.GetWithRefused.TheVariants.{Lookup}
use Rattle.moka_cache.specs.Given.{ComesBack, Sees}
use Rattle.moka_cache.specs.Synchronous.{GetsValue, GetsWith, Makes, Synchronous}
use Rattle.moka_uses.specs.Handled.{GoesOnAfter, ReadsThroughOrRetries, found_or_refused}
use Rattle.moka_uses.specs.Made.{plain_meaning}
use Rattle.moka_uses.proofs.handled.value_or_made.Goals as goal

module _ {K V S X L P W C : Type 0} (m : Meaning K V X L P W C (Unit {0})) (is_clone : V → V → Type 0) (key : K) (hash : ℕ) (now : Instant) (old mid new : Synchronous K V S X L P W) (clock between clock_after : C) (Answers : V → Type 0) (result : Result V OutOfMemory)
    (got : Result V (GetWithRefused K V)) (gets : GetsWith m is_clone key hash now old clock mid between Answers got) where
  -- a get with a maker, which answered so, and what was done after it
  goes_on : (x : Result V (GetWithRefused K V)) → got ≡ x → GoesOnAfter m is_clone key now x mid between new clock_after result → ReadsThroughOrRetries m is_clone key now old clock new clock_after Answers result
  goes_on x is after = (hash, got, mid, between, gets, subst (λ r. GoesOnAfter m is_clone key now r mid between new clock_after result) (sym is) after)

  -- where its look-up was refused, another one
  looks_again : (k : K) → got ≡ Err (Lookup k) → (again : ℕ) (own found : Result (Option V) OutOfMemory) → IsCopiedAnswer is_clone own found → Makes m (GetsValue k again now own) mid.engine between new.engine clock_after → result ≡ found_or_refused found → ReadsThroughOrRetries m is_clone key now old clock new clock_after Answers result
  looks_again k is again own found copy made same =
      let back : ComesBack old.engine.state mid.engine.state key Answers (Lookup k) = subst (λ r. IfErr r (ComesBack old.engine.state mid.engine.state key Answers)) is gets.2.5 in
      goes_on (Err (Lookup k)) is (again, own, found, copy, subst (λ k. Makes m (GetsValue k again now own) mid.engine between new.engine clock_after) back.0 made, same)

pub returns-in-Ok-clause-given : goal.returns-in-Ok-clause-given
returns-in-Ok-clause-given g c = inr c.in-Ok.ensures.step.2.4

pub returns-in-Err-Insert-clause-given : goal.returns-in-Err-Insert-clause-given
returns-in-Err-Insert-clause-given g c =
    let back = subst (ComesBack _ _ c.args.key (λ v. g.F.FnOnce.post c.args.make tt v)) c.in-Err-Insert.field-0-is c.in-Err-Insert.ensures.step.2.5 in
    inl back.1

pub returns-in-Ok-Some-clause-given : goal.returns-in-Ok-Some-clause-given
returns-in-Ok-Some-clause-given g c =
    let back = subst (ComesBack _ _ c.args.key (λ v. g.F.FnOnce.post c.args.make tt v)) c.in-Err-Lookup.field-0-is c.in-Err-Lookup.ensures.step.2.5 in
    let seen = subst (Sees (λ a b. a == b) (λ _ _ _ answer. answer ≡ false) g.V.Clone.is_clone c.get_with.new.self.engine.state c.in-Err-Lookup.key c.args.now.0) c.in-Ok-Some.field-0-is c.in-Ok-Some.ensures.step.sees in
    inr (inl (rw (← back.0, ← back.1) seen))

pub returns-in-Ok-clause-made : goal.returns-in-Ok-clause-made
returns-in-Ok-clause-made g c =
    goes_on (plain_meaning (λ a b. a == b) g.C.Clock.reads) g.V.Clone.is_clone c.args.key _ c.args.now c.args.cache.now c.get_with.new.self c.get_with.new.self c.args.clock.now c.get_with.new.clock c.get_with.new.clock _ _ c.get_with.result c.get_with.ensures.step _ c.in-Ok.is (refl, refl, refl)

pub returns-in-Err-Insert-clause-made : goal.returns-in-Err-Insert-clause-made
returns-in-Err-Insert-clause-made g c =
    goes_on (plain_meaning (λ a b. a == b) g.C.Clock.reads) g.V.Clone.is_clone c.args.key _ c.args.now c.args.cache.now c.get_with.new.self c.get_with.new.self c.args.clock.now c.get_with.new.clock c.get_with.new.clock _ _ c.get_with.result c.get_with.ensures.step _ (c.in-Err-Insert.is ∙ ap Err c.in-Err-Insert.field-0-is) (refl, refl, refl)

pub returns-in-Ok-Some-clause-made : goal.returns-in-Ok-Some-clause-made
returns-in-Ok-Some-clause-made g c =
    let made = c.get.ensures.step.made in
    looks_again (plain_meaning (λ a b. a == b) g.C.Clock.reads) g.V.Clone.is_clone c.args.key _ c.args.now c.args.cache.now c.get_with.new.self c.get.new.self c.args.clock.now c.get_with.new.clock c.get.new.clock _ _ c.get_with.result c.get_with.ensures.step
    c.in-Err-Lookup.key (c.in-Err-Lookup.is ∙ ap Err c.in-Err-Lookup.field-0-is) _ made.0 c.get.result made.1 made.2 (sym (ap found_or_refused (c.in-Ok-Some.is ∙ ap Ok c.in-Ok-Some.field-0-is)))

pub returns-in-Ok-None-clause-made : goal.returns-in-Ok-None-clause-made
returns-in-Ok-None-clause-made g c =
    let made = c.get.ensures.step.made in
    looks_again (plain_meaning (λ a b. a == b) g.C.Clock.reads) g.V.Clone.is_clone c.args.key _ c.args.now c.args.cache.now c.get_with.new.self c.get.new.self c.args.clock.now c.get_with.new.clock c.get.new.clock _ _ c.get_with.result c.get_with.ensures.step
    c.in-Err-Lookup.key (c.in-Err-Lookup.is ∙ ap Err c.in-Err-Lookup.field-0-is) _ made.0 c.get.result made.1 made.2 (sym (ap found_or_refused (c.in-Ok-None.is ∙ ap Ok c.in-Ok-None.field-0-is)))

pub returns-in-Err-clause-made : goal.returns-in-Err-clause-made
returns-in-Err-clause-made g c =
    let made = c.get.ensures.step.made in
    looks_again (plain_meaning (λ a b. a == b) g.C.Clock.reads) g.V.Clone.is_clone c.args.key _ c.args.now c.args.cache.now c.get_with.new.self c.get.new.self c.args.clock.now c.get_with.new.clock c.get.new.clock _ _ c.get_with.result c.get_with.ensures.step
    c.in-Err-Lookup.key (c.in-Err-Lookup.is ∙ ap Err c.in-Err-Lookup.field-0-is) _ made.0 c.get.result made.1 made.2 (sym (ap found_or_refused c.in-Err.is))
