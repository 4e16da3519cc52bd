use Rattle.std.proofs.Common.{refl, rules, sym, ap, subst, ◌∙◌, [], ◌∷◌, ◌++◌, append_assoc, append-nil}
use Rattle.std.specs.Vec.Iter.{into_iter_items}
use Rattle.std.specs.Io.KnownBytes.{Appends}
use Rattle.std.proofs.KnownBytes.{Appends-nil, Appends-trans}
use Rattle.std.proofs.lemmas.List.{flat_map_more, nil_from_length}
use Rattle.moka_explain.specs.Explained.{point_of}
use Rattle.moka_explain.specs.Text.{explained_text, explained_texts}
use Rattle.moka_explain.proofs.InTurn.{explained_more}
use Rattle.moka_explain.proofs.explain.explain_calls.Goals as goal

pub loop-call-init : goal.loop-call-init
loop-call-init g c = record {
  can = tt;
  finite = tt;
  made = ([], refl, Appends-nil (g.W.Write.contents c.args.out.now));
  rest = search rules;
}

pub loop-call-preserved : goal.loop-call-preserved
loop-call-preserved g c =
    let h = c.loop-call.invariant.made in
    let one = c.in_ok-explained.ensures in
    let step = c.in-Some.ensures.steps in
    record {
      can = tt;
      finite = tt;
      made = (
        h.0 ++ c.in_ok-explained.explained ∷ [],
        explained_more c.args.choices.automatic c.loop-call.yielded h.0 (point_of c.args.cache.now c.args.outside.now) (point_of c.loop-call.cache c.loop-call.outside) (point_of c.explain_call.new.cache c.explain_call.new.outside) c.in-Some.call c.in_ok-explained.explained h.1
            (record { given = one.made.0; in_order = one.made.1; made = one.made.2; answer = one.answer; room = one.room }),
        subst (Appends (g.W.Write.contents c.args.out.now) (g.W.Write.contents c.write_explained.new.out)) (flat_map_more (λ x. explained_text x c.args.choices.policy) [] h.0 c.in_ok-explained.explained)
            (Appends-trans (g.W.Write.contents c.args.out.now) (g.W.Write.contents c.loop-call.out) (g.W.Write.contents c.write_explained.new.out) (explained_texts h.0 c.args.choices.policy) (explained_text c.in_ok-explained.explained c.args.choices.policy) h.2 c.in_ok-write_explained.ensures),
      );
      rest = c.loop-call.invariant.rest ∙ (ap (λ xs. c.loop-call.yielded ++ xs) step.0 ∙ sym (append_assoc c.loop-call.yielded (c.in-Some.call ∷ []) (into_iter_items c.next.new.self)));
    }

pub returns : goal.returns
returns g c =
    let h = c.loop-call.invariant.made in
    let none = nil_from_length (into_iter_items c.loop-call.call-iterator) (sym c.loop-call.call-iterator.rest.ok.0 ∙ c.in-None.ensures.steps.0) in
    let all = c.loop-call.invariant.rest ∙ (ap (λ xs. c.loop-call.yielded ++ xs) none ∙ append-nil c.loop-call.yielded) in
    rw all h
