use Rattle.std.proofs.Common.{◌∙◌, refl, ap, Some, None}
use Rattle.std.specs.FinMap.{insert}
use Rattle.moka_parts.specs.State.{Meaning, is_disabled}
use Rattle.moka_laws.proofs.RunKeeps.{keeps_itself}
use Rattle.moka_calls.specs.Synchronous.{meaning_of}
use Rattle.moka_calls.proofs.Made.{made_none}
use Rattle.moka_cache.proofs.Waiting.{remove_hands_out}
use Rattle.moka_cache.proofs.Asking.{took_none, took}
use Rattle.moka_cache.proofs.Gone.{has_left, value_taken}
use Rattle.moka_cache.proofs.ByTest.{removed_as_key, removed_from_none, removed_none, removed_some_key, notifies_of_taken}
use Rattle.moka_cache.proofs.cache.Cache.take_by.Goals as goal

pub returns-in_default-clause-made : goal.returns-in_default-clause-made
returns-in_default-clause-made g c =
    let m : Meaning g.row.K.Denot g.row.V.Denot g.row.X.Denot g.row.L.Denot g.row.P.Denot g.row.W.Denot g.row.C.Denot (Unit {0}) = meaning_of g.K.PartialEq.eq g.L.Listener.tells g.P.PredicateFn.says g.W.Weigher.weighs g.C.Clock.reads g.X.Expiry.created g.X.Expiry.read g.X.Expiry.updated in
    let as_key = removed_as_key g.K.PartialEq.eq (g.T.KeyTest.passes c.args.test.now) (g.met.T.KeyTest.one_key c.args.test.now) c.self.inside.engine.state None c.remove_by.new.self.state c.in_default.ensures.step in
    rw (← c.self.view_is) (λ key passing. took_none g.K.Clone.is_clone g.V.Clone.is_clone m key c.args.hash c.args.now c.self.inside.engine c.remove_by.new.self c.args.clock.now (as_key key passing) c.in_default.ensures.events)

pub post-requires-clause-enabled : goal.post-requires-clause-enabled
post-requires-clause-enabled g c =
    let found = removed_some_key g.K.PartialEq.eq (g.T.KeyTest.passes c.args.test.now) (g.met.T.KeyTest.one_key c.args.test.now) c.self.inside.engine.state (c.in-Some.entry, c.in-Some.ticket) c.remove_by.new.self.state c.in-Some.ensures.step in
    let out = remove_hands_out g.K.PartialEq.eq c.self.inside.engine.state found.0 (c.in-Some.entry, c.in-Some.ticket) c.remove_by.new.self.state c.invariant_holds.ensures.valid.numbered found.1 in
    ap is_disabled (ap (λ x. x.capacity) c.notify_invalidate-told.ensures.step.2 ∙ out.0.capacity) ∙ out.1

pub returns-clause-made : goal.returns-clause-made
returns-clause-made g c =
    let m : Meaning g.row.K.Denot g.row.V.Denot g.row.X.Denot g.row.L.Denot g.row.P.Denot g.row.W.Denot g.row.C.Denot (Unit {0}) = meaning_of g.K.PartialEq.eq g.L.Listener.tells g.P.PredicateFn.says g.W.Weigher.weighs g.C.Clock.reads g.X.Expiry.created g.X.Expiry.read g.X.Expiry.updated in
    let told = c.notify_invalidate-told.ensures.step in
    let as_key = removed_as_key g.K.PartialEq.eq (g.T.KeyTest.passes c.args.test.now) (g.met.T.KeyTest.one_key c.args.test.now) c.self.inside.engine.state (Some (c.in-Some.entry, c.in-Some.ticket)) c.remove_by.new.self.state c.in-Some.ensures.step in
    rw (← c.self.view_is) (λ key passing. took g.K.Clone.is_clone g.V.Clone.is_clone m key c.args.hash c.args.now c.self.inside.engine c.remove_by.new.self c.args.clock.now
    c.in-Some.entry c.in-Some.ticket (as_key key passing) c.in-Some.ensures.events
    c.notify_invalidate-told.result told.0 told.1 c.notify_invalidate-told.new.self told.2 told.3 c.post.new.engine c.post.new.clock c.post.ensures.made)

pub returns-clause-notified : goal.returns-clause-notified
returns-clause-notified g c =
    rw (← c.self.view_is) (λ granted. c.notify_invalidate-told.ensures.succeeds
    (notifies_of_taken g.K.PartialEq.eq (g.T.KeyTest.passes c.args.test.now) (g.met.T.KeyTest.one_key c.args.test.now) c.self.inside.engine.state g.K.Clone.is_infallible g.V.Clone.is_infallible (c.in-Some.entry, c.in-Some.ticket) c.remove_by.new.self.state c.in-Some.ensures.step granted))

pub returns-in_default-clause-gone : goal.returns-in_default-clause-gone
returns-in_default-clause-gone g c =
    let as_key = removed_as_key g.K.PartialEq.eq (g.T.KeyTest.passes c.args.test.now) (g.met.T.KeyTest.one_key c.args.test.now) c.self.inside.engine.state None c.remove_by.new.self.state c.in_default.ensures.step in
    let left = c.remove_by.new.self.state in
    λ key passing. has_left g.K.PartialEq.eq key c.self.inside.engine.state left left left None g.met.K.Eq.laws c.invariant_holds.ensures.valid (as_key key passing) refl (keeps_itself left.records)

pub returns-clause-gone : goal.returns-clause-gone
returns-clause-gone g c =
    let as_key = removed_as_key g.K.PartialEq.eq (g.T.KeyTest.passes c.args.test.now) (g.met.T.KeyTest.one_key c.args.test.now) c.self.inside.engine.state (Some (c.in-Some.entry, c.in-Some.ticket)) c.remove_by.new.self.state c.in-Some.ensures.step in
    λ key passing. has_left g.K.PartialEq.eq key c.self.inside.engine.state c.remove_by.new.self.state c.notify_invalidate-told.new.self.state c.post.new.engine.state (Some (c.in-Some.entry, c.in-Some.ticket)) g.met.K.Eq.laws
    c.invariant_holds.ensures.valid (as_key key passing) c.notify_invalidate-told.ensures.step.2 c.post.ensures.keeps

pub post-requires-clause-waiting : goal.post-requires-clause-waiting
post-requires-clause-waiting g c =
    let found = removed_some_key g.K.PartialEq.eq (g.T.KeyTest.passes c.args.test.now) (g.met.T.KeyTest.one_key c.args.test.now) c.self.inside.engine.state (c.in-Some.entry, c.in-Some.ticket) c.remove_by.new.self.state c.in-Some.ensures.step in
    let out = remove_hands_out g.K.PartialEq.eq c.self.inside.engine.state found.0 (c.in-Some.entry, c.in-Some.ticket) c.remove_by.new.self.state c.invariant_holds.ensures.valid.numbered found.1 in
    (out.0.operation, ap (λ s. s.outstanding) c.notify_invalidate-told.ensures.step.2 ∙ out.0.outstanding ∙ ap (λ m. insert m c.in-Some.ticket.0 out.0.operation) c.self.invariant)

pub returns-in_default-clause-value : goal.returns-in_default-clause-value
returns-in_default-clause-value g c =
    let as_key = removed_as_key g.K.PartialEq.eq (g.T.KeyTest.passes c.args.test.now) (g.met.T.KeyTest.one_key c.args.test.now) c.self.inside.engine.state None c.remove_by.new.self.state c.in_default.ensures.step in
    rw (← c.self.view_is) (λ key passing. value_taken g.K.PartialEq.eq key c.self.inside.engine.state c.remove_by.new.self.state None (as_key key passing))

pub returns-clause-value : goal.returns-clause-value
returns-clause-value g c =
    let as_key = removed_as_key g.K.PartialEq.eq (g.T.KeyTest.passes c.args.test.now) (g.met.T.KeyTest.one_key c.args.test.now) c.self.inside.engine.state (Some (c.in-Some.entry, c.in-Some.ticket)) c.remove_by.new.self.state c.in-Some.ensures.step in
    rw (← c.self.view_is) (λ key passing. value_taken g.K.PartialEq.eq key c.self.inside.engine.state c.remove_by.new.self.state (Some (c.in-Some.entry, c.in-Some.ticket)) (as_key key passing))

pub returns-in_default-clause-none : goal.returns-in_default-clause-none
returns-in_default-clause-none g c =
    let m : Meaning g.row.K.Denot g.row.V.Denot g.row.X.Denot g.row.L.Denot g.row.P.Denot g.row.W.Denot g.row.C.Denot (Unit {0}) = meaning_of g.K.PartialEq.eq g.L.Listener.tells g.P.PredicateFn.says g.W.Weigher.weighs g.C.Clock.reads g.X.Expiry.created g.X.Expiry.read g.X.Expiry.updated in
    let left = removed_none g.K.PartialEq.eq (g.T.KeyTest.passes c.args.test.now) (g.met.T.KeyTest.one_key c.args.test.now) c.self.inside.engine.state None c.remove_by.new.self.state c.in_default.ensures.step in
    rw (← c.self.view_is) (λ none. (refl, made_none m c.self.inside.engine c.remove_by.new.self c.args.clock.now (left none).1 c.in_default.ensures.events))

pub returns-clause-none : goal.returns-clause-none
returns-clause-none g c =
    let left = removed_from_none g.K.PartialEq.eq (g.T.KeyTest.passes c.args.test.now) (g.met.T.KeyTest.one_key c.args.test.now) c.self.inside.engine.state (c.in-Some.entry, c.in-Some.ticket) c.remove_by.new.self.state c.in-Some.ensures.step in
    rw (← c.self.view_is) (λ none. absurd (left none))
