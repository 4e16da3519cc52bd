use Rattle.std.proofs.Common.{◌≡◌, ◌∙◌, refl, ℕ, Result, Ok, Err, IfOk, ap, sym, subst}
use Rattle.moka_parts.specs.Runs.{Engine}
use Rattle.moka_engine.specs.Config.{new_engine}
use Rattle.moka_calls.specs.Synchronous.{Synchronous, fresh}
use Rattle.moka_cache.proofs.cache.Cache+K+V+X+L+P+W.build.Goals as goal

-- the hasher that an engine was made with is its own
by_its_own : {K V S X L P W E : Type 0} (made_with : S → ℕ → Engine K V S X L P W) (hasher : S) → ((room : ℕ) → (made_with hasher room).hasher ≡ hasher) → (r : Result (Synchronous K V S X L P W) E) → IfOk r (λ c. c ≡ fresh (made_with hasher c.engine.room)) → IfOk r (λ c. c ≡ fresh (made_with c.engine.hasher c.engine.room))
by_its_own made_with hasher keeps (Ok c) is = subst (λ h. c ≡ fresh (made_with h c.engine.room)) (sym (ap (λ x. x.engine.hasher) is ∙ keeps c.engine.room)) is
by_its_own made_with hasher keeps (Err refused) is = tt

pub returns-clause-empty : goal.returns-clause-empty
returns-clause-empty g c = by_its_own (λ h room. new_engine c.args.config h c.args.now.0 room) _ (λ room. refl) c.build_with_hasher.result c.build_with_hasher.ensures.empty
