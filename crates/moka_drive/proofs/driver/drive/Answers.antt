use Rattle.std.proofs.Common.{rules, arith, refl, sym, ap, ◌∙◌, [], ◌∷◌, ◌++◌, append_assoc, append-nil, length}
use Rattle.std.specs.Vec.Iter.{into_iter_items}
use Rattle.std.proofs.lemmas.List.{nil_from_length}
use Rattle.std.proofs.lemmas.List.Elements.{All-push}
use Rattle.moka_parts.specs.State.{Meaning, meaning_of}
use Rattle.moka_parts.specs.Runs.{PromisedRun, Step}
use Rattle.moka_parts.specs.Listed.{ListedStep}
use Rattle.moka_laws.proofs.OrderedDrive.{listed_call_promised, lists_go_on, drives_in_order}
use Rattle.moka_parts.proofs.RunsGoOn.{MakesCalls_push}
use Rattle.moka_laws.proofs.Quiet.{no_calls}
use Rattle.moka_drive.specs.Replies.{IsGranted}
use Rattle.moka_drive.proofs.driver.drive.Goals as goal

pub loop-call-init : goal.loop-call-init
loop-call-init g c = record {
  can = tt;
  finite = tt;
  ran = ([], rw c.in-Ok.ensures.items (no_calls (meaning_of g.K.PartialEq.eq g.L.Listener.tells g.P.PredicateFn.says g.W.Weigher.weighs g.C.Clock.reads g.I.IdSource.gives g.X.Expiry.created g.X.Expiry.read g.X.Expiry.updated) (PromisedRun g.P.PredicateFn.says g.X.Expiry.read) c.args.cache.now c.args.clock.now c.args.ids.now), refl);
  granted = λ infallible. rw c.in-Ok.ensures.items (λ k d lt. absurd (omega arith));
  rest = search rules;
  room = search rules;
}

pub push_reserved-requires : goal.push_reserved-requires
push_reserved-requires g c = omega (arith, c.loop-call.invariant.room, ap length c.in-Some.ensures.steps.0)

pub loop-call-preserved : goal.loop-call-preserved
loop-call-preserved g c =
    let m : Meaning g.row.K.Denot g.row.V.Denot g.row.X.Denot g.row.L.Denot g.row.P.Denot g.row.W.Denot g.row.C.Denot g.row.I.Denot = meaning_of g.K.PartialEq.eq g.L.Listener.tells g.P.PredicateFn.says g.W.Weigher.weighs g.C.Clock.reads g.I.IdSource.gives g.X.Expiry.created g.X.Expiry.read g.X.Expiry.updated in
    let h = c.loop-call.invariant.ran in
    let k = c.make-reply.ensures.step in
    let made : Step g.row.K.Denot g.row.V.Denot g.row.X.Denot g.row.P.Denot g.row.W.Denot = record { call = c.in-Some.call; reply = c.make-reply.result; events = k.0; after = c.make-reply.new.cache.state } in
    let listed : ListedStep m c.loop-call.cache.state c.loop-call.cache.write_list made c.make-reply.new.cache.write_list = (k.1, k.2.listed) in
    let promised = listed_call_promised m c.loop-call.cache.state c.loop-call.cache.write_list c.make-reply.new.cache.write_list made listed in
    let step = c.in-Some.ensures.steps in
    record {
      can = tt;
      finite = tt;
      ran = (
        h.0 ++ made ∷ [],
        rw c.push_reserved.ensures.items (MakesCalls_push m (PromisedRun m.says m.read) c.loop-call.yielded c.loop-call.replies.items h.0 c.args.cache.now c.loop-call.cache c.make-reply.new.cache
            c.args.clock.now c.loop-call.clock c.make-reply.new.clock c.args.ids.now c.loop-call.ids c.make-reply.new.ids made h.1 promised refl k.2 k.3.0 k.3.1),
        lists_go_on m (PromisedRun m.says m.read) c.loop-call.yielded c.loop-call.replies.items h.0 c.args.cache.now c.loop-call.cache c.args.clock.now c.loop-call.clock c.args.ids.now c.loop-call.ids made c.make-reply.new.cache.write_list h.1 h.2 listed,
      );
      granted = λ infallible. rw c.push_reserved.ensures.items (All-push IsGranted c.loop-call.replies.items c.make-reply.result (c.loop-call.invariant.granted infallible) (c.make-reply.ensures.granted infallible));
      rest = c.loop-call.invariant.rest ∙ (ap (λ xs. c.loop-call.yielded ++ xs) step.0 ∙ sym (append_assoc c.loop-call.yielded (c.in-Some.call ∷ []) (into_iter_items c.next.new.self)));
      room = omega (arith, c.push_reserved.ensures.len, c.push_reserved.ensures.capacity, c.loop-call.invariant.room, ap length step.0);
    }

pub returns-clause-run : goal.returns-clause-run
returns-clause-run g c =
    let m : Meaning g.row.K.Denot g.row.V.Denot g.row.X.Denot g.row.L.Denot g.row.P.Denot g.row.W.Denot g.row.C.Denot g.row.I.Denot = meaning_of g.K.PartialEq.eq g.L.Listener.tells g.P.PredicateFn.says g.W.Weigher.weighs g.C.Clock.reads g.I.IdSource.gives g.X.Expiry.created g.X.Expiry.read g.X.Expiry.updated in
    let h = c.loop-call.invariant.ran in
    let none = nil_from_length (into_iter_items c.loop-call.call-iterator) (sym c.loop-call.call-iterator.rest.ok.0 ∙ c.in-None.ensures.steps.0) in
    let all = c.loop-call.invariant.rest ∙ (ap (λ xs. c.loop-call.yielded ++ xs) none ∙ append-nil c.loop-call.yielded) in
    drives_in_order m c.args.calls.items c.loop-call.replies.items h.0 c.args.cache.now c.loop-call.cache c.args.clock.now c.loop-call.clock c.args.ids.now c.loop-call.ids
    g.met.K.Eq.laws c.invariant_holds.ensures.valid c.invariant_holds.ensures.listed (rw all h.1) h.2
