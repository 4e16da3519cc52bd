use Rattle.std.proofs.Common.{◌≡◌, true, false, refl, ap, sym, subst, ◌∙◌, inl, inr, [], ◌∷◌}
use Rattle.std.specs.FinMap.{empty, insert}
use Rattle.std.proofs.lemmas.Result.{err_from_is_err_and}
use Rattle.moka_records.specs.declared.records.Operation.{Operation}
use Rattle.moka_records.specs.declared.records.Operation.TheVariants.{Upsert}
use Rattle.moka_records.specs.Hashing.{key_hash}
use Rattle.moka_parts.specs.State.{is_disabled}
use Rattle.moka_cache.specs.Saves.{TakesOnlyExpired}
use Rattle.moka_cache.specs.Unsent.{HidesNoMore}
use Rattle.moka_cache.proofs.Alike.{then}
use Rattle.moka_cache.proofs.Lasting.{keeps_itself, keeps_then}
use Rattle.moka_cache.proofs.Restoring.{restored_there, restored_adds, adds_nothing}
use Rattle.moka_cache.proofs.There.{lasts_restored}
use Rattle.moka_cache.proofs.cache.Cache.restore_entry.Goals as goal

pub returns-then-is_map_disabled-clause-adds : goal.returns-then-is_map_disabled-clause-adds
returns-then-is_map_disabled-clause-adds g c = adds_nothing (c.args.item ∷ []) c.args.self.now.engine.state c.args.self.now.engine.state refl

pub returns-in_err-ticket-clause-adds : goal.returns-in_err-ticket-clause-adds
returns-in_err-ticket-clause-adds g c = rw (← c.self.view_is) (adds_nothing (c.args.item ∷ []) c.self.inside.engine.state c.restore.new.self.state c.in_err-ticket.ensures.step.2)

pub returns-clause-kept : goal.returns-clause-kept
returns-clause-kept g c = λ enabled.
    restored_there g.K.PartialEq.eq g.met.K.Eq.laws g.W.Weigher.weighs c.self.inside.engine.state c.restore.new.self.state c.args.item _ c.in_ok-ticket.ticket c.in_ok-ticket.ensures.step c.post.new.engine.state c.invariant_holds.ensures.valid c.invariant_holds-2.ensures.valid c.post.ensures.holds

pub returns-clause-adds : goal.returns-clause-adds
returns-clause-adds g c =
    rw (← c.self.view_is) (restored_adds g.K.PartialEq.eq g.met.K.Eq.laws g.W.Weigher.weighs c.self.inside.engine.state c.restore.new.self.state c.args.item _ c.in_ok-ticket.ticket c.in_ok-ticket.ensures.step c.post.new.engine.state c.post.ensures.keeps)

pub returns-then-is_map_disabled-clause-made : goal.returns-then-is_map_disabled-clause-made
returns-then-is_map_disabled-clause-made g c = rw (← c.self.view_is) (inl (sym c.is_map_disabled.ensures ∙ c.if-is_map_disabled.true, refl, refl))

pub returns-in_err-ticket-clause-made : goal.returns-in_err-ticket-clause-made
returns-in_err-ticket-clause-made g c =
    let p = err_from_is_err_and c.from_residual.result c.from_residual.ensures.1 in
    rw (p.1, p.2, ← c.self.view_is) (sym c.is_map_disabled.ensures ∙ c.if-is_map_disabled.false, c.in_err-ticket.ensures.step, c.restore.ensures.events, refl)

pub returns-clause-made : goal.returns-clause-made
returns-clause-made g c =
    rw (← c.self.view_is) (inr (sym c.is_map_disabled.ensures ∙ c.if-is_map_disabled.false, c.restore.new.self, c.in_ok-ticket.ticket, c.in_ok-ticket.ensures.step, c.restore.ensures.events, c.post.ensures.made))

pub returns-then-is_map_disabled-clause-lasts : goal.returns-then-is_map_disabled-clause-lasts
returns-then-is_map_disabled-clause-lasts g c = keeps_itself g.W.Weigher.weighs (c.args.item ∷ []) c.args.now.0 c.args.self.now.engine.state

pub returns-in_err-ticket-clause-lasts : goal.returns-in_err-ticket-clause-lasts
returns-in_err-ticket-clause-lasts g c =
    rw (← c.self.view_is) (subst (TakesOnlyExpired g.W.Weigher.weighs (c.args.item ∷ []) c.args.now.0 c.self.inside.engine.state) (sym c.in_err-ticket.ensures.step.2) (keeps_itself g.W.Weigher.weighs (c.args.item ∷ []) c.args.now.0 c.self.inside.engine.state))

pub returns-clause-lasts : goal.returns-clause-lasts
returns-clause-lasts g c =
    rw (← c.self.view_is) (keeps_then g.W.Weigher.weighs (c.args.item ∷ []) [] c.args.now.0 c.self.inside.engine.state c.restore.new.self.state c.post.new.engine.state
    (lasts_restored g.K.PartialEq.eq g.W.Weigher.weighs c.self.inside.engine.state c.restore.new.self.state c.args.item _ c.in_ok-ticket.ticket c.in_ok-ticket.ensures.step c.invariant_holds.ensures.valid c.args.now.0) c.post.ensures.lasts)

pub returns-then-is_map_disabled-clause-kept : goal.returns-then-is_map_disabled-clause-kept
returns-then-is_map_disabled-clause-kept g c =
    rw (← c.self.view_is) (λ enabled. let impossible : true ≡ false = sym (sym c.is_map_disabled.ensures ∙ c.if-is_map_disabled.true) ∙ enabled in absurd (cc))

pub returns-in_err-ticket-clause-hides : goal.returns-in_err-ticket-clause-hides
returns-in_err-ticket-clause-hides g c =
    rw (← c.self.view_is) (subst (HidesNoMore c.self.inside.engine.state) (sym c.in_err-ticket.ensures.step.2) (record { settings = refl; bound = refl; predicates = λ none. none }))

pub returns-clause-hides : goal.returns-clause-hides
returns-clause-hides g c =
    rw (← c.self.view_is) (then c.self.inside.engine.state c.restore.new.self.state c.post.new.engine.state (subst (HidesNoMore c.self.inside.engine.state) (sym c.in_ok-ticket.ensures.step.6) (record { settings = refl; bound = refl; predicates = λ none. none })) c.post.ensures.hides)

pub post-requires-clause-waiting : goal.post-requires-clause-waiting
post-requires-clause-waiting g c =
    let step = c.in_ok-ticket.ensures.step in
    let operation : Operation = Upsert c.self.inside.engine.state.next_number 1 step.0 (key_hash g.S.BuildHasher g.S.Hasher.Hasher c.self.inside.engine.hasher (g.K.Hash.hash_input c.args.item.key)) in
    (operation, ap (λ s. s.outstanding) step.6 ∙ ap (λ m. insert m c.self.inside.engine.state.next_ticket operation) c.self.invariant ∙ ap (λ n. insert empty n operation) (sym step.5))

pub post-requires-clause-enabled : goal.post-requires-clause-enabled
post-requires-clause-enabled g c = ap (λ s. is_disabled s.capacity) c.in_ok-ticket.ensures.step.6 ∙ (sym c.is_map_disabled.ensures ∙ c.if-is_map_disabled.false)
