use Rattle.std.proofs.Common.{rules, arith, sym, ap, subst, ◌∙◌, Ok, [], ◌∷◌, ◌++◌, append_assoc, append-nil, length}
use Rattle.std.specs.Vec.Iter.{into_iter_items}
use Rattle.std.proofs.lemmas.List.{nil_from_length}
use Rattle.moka_parts.specs.Calls.{ScanStep}
use Rattle.moka_parts.specs.Copies.{HandsOut}
use Rattle.moka_cache.specs.Visible.{LooksUp}
use Rattle.moka_cache.proofs.Listing.{looked_up_nothing, looked_up_one}
use Rattle.moka_cache.proofs.cache.Cache.look_up_all.Goals as goal

pub loop-key-init : goal.loop-key-init
loop-key-init g c = record {
  can = tt;
  finite = tt;
  found = c.in-Ok.ensures.items;
  rest = search rules;
  room = search rules;
}

pub push_reserved-requires : goal.push_reserved-requires
push_reserved-requires g c = omega (arith, c.loop-key.invariant.room, ap length c.in-Some.ensures.steps.0)

pub loop-key-preserved-in-Some-2 : goal.loop-key-preserved-in-Some-2
loop-key-preserved-in-Some-2 g c =
    let step = c.in-Some.ensures.steps in
    let looks = LooksUp g.P.PredicateFn.says g.V.Clone.is_clone c.args.engine.now.state c.args.now.0 g.K.PartialEq.eq in
    let found = subst (HandsOut g.V.Clone.is_clone (ScanStep g.P.PredicateFn.says g.K.PartialEq.eq c.args.engine.now.state c.in-Some.key c.args.now.0)) (c.in_ok-value.was ∙ ap Ok c.in-Some-2.is) c.scanning_get.ensures.step in
    record {
      can = tt;
      finite = tt;
      found = subst (looks (c.loop-key.yielded ++ c.in-Some.key ∷ [])) (sym c.push_reserved.ensures.items) (looked_up_one g.P.PredicateFn.says g.V.Clone.is_clone c.args.engine.now.state c.args.now.0 g.K.PartialEq.eq c.loop-key.yielded c.loop-key.found.items c.in-Some.key c.in-Some-2.value c.loop-key.invariant.found found);
      rest = c.loop-key.invariant.rest ∙ (ap (λ xs. c.loop-key.yielded ++ xs) step.0 ∙ sym (append_assoc c.loop-key.yielded (c.in-Some.key ∷ []) (into_iter_items c.next.new.self)));
      room = omega (arith, c.push_reserved.ensures.len, c.push_reserved.ensures.capacity, c.loop-key.invariant.room, ap length step.0);
    }

pub loop-key-preserved : goal.loop-key-preserved
loop-key-preserved g c =
    let step = c.in-Some.ensures.steps in
    let found = subst (HandsOut g.V.Clone.is_clone (ScanStep g.P.PredicateFn.says g.K.PartialEq.eq c.args.engine.now.state c.in-Some.key c.args.now.0)) (c.in_ok-value.was ∙ ap Ok c.in_default-2.is) c.scanning_get.ensures.step in
    record {
      can = tt;
      finite = tt;
      found = looked_up_nothing g.P.PredicateFn.says g.V.Clone.is_clone c.args.engine.now.state c.args.now.0 g.K.PartialEq.eq c.loop-key.yielded c.loop-key.found.items c.in-Some.key c.loop-key.invariant.found found;
      rest = c.loop-key.invariant.rest ∙ (ap (λ xs. c.loop-key.yielded ++ xs) step.0 ∙ sym (append_assoc c.loop-key.yielded (c.in-Some.key ∷ []) (into_iter_items c.next.new.self)));
      room = omega (arith, c.loop-key.invariant.room, ap length step.0);
    }

pub returns : goal.returns
returns g c =
    let none = nil_from_length (into_iter_items c.loop-key.key-iterator) (sym c.loop-key.key-iterator.rest.ok.0 ∙ c.in-None.ensures.steps.0) in
    let all = c.loop-key.invariant.rest ∙ (ap (λ xs. c.loop-key.yielded ++ xs) none ∙ append-nil c.loop-key.yielded) in
    subst (λ keys. LooksUp g.P.PredicateFn.says g.V.Clone.is_clone c.args.engine.now.state c.args.now.0 g.K.PartialEq.eq keys c.loop-key.found.items) (sym all) c.loop-key.invariant.found
