use Rattle.std.proofs.Common.{◌≡◌, Some, is_some, inl, inr, refl, sym, ap, subst, ◌∙◌, arith, true≢false}
use Rattle.std.proofs.lemmas.Bool.{cases_eq}
use Rattle.std.proofs.lemmas.Option.{none-some, same_Some}
use Rattle.std.specs.FinMap as finite
use Rattle.moka_records.specs.declared.records.Record.{Record}
use Rattle.moka_parts.specs.Visibility.{Covers}
use Rattle.moka_store.proofs.Gets.{some_is}
use Rattle.moka_maintenance.proofs.scan.covers_some.Goals as goal
use Rattle.moka_maintenance.proofs.scan.covers_some.Goals.{in-Some+else-covers_at, in_default}

pub returns-then-covers_at : goal.returns-then-covers_at
returns-then-covers_at g c p at = (c.in-Some.found.number, c.in-Some.found, c.in-Some.ensures.stored, (c.if-covers_at.ensures p at).0 refl)

pub loop-place-preserved : goal.loop-place-preserved
loop-place-preserved g c p is n at r placed below there covers = elim (cases_eq at c.loop-place.place) [
  | inr before ↦ c.loop-place.invariant p is n at r placed (omega arith) there covers
  | inl here ↦
      let placed_here : finite.get c.args.store.now.places n ≡ Some c.loop-place.place = placed ∙ ap (λ k. Some k) here in
      elim c.match-record_at.branch [
        | in-Some+else-covers_at w ↦
            let same : Some w.in-Some.found ≡ Some r = w.in-Some.ensures.found n placed_here ∙ there in
            true≢false (sym ((w.if-covers_at.ensures p is).1 (subst (λ (x : Record g.row.K.Denot g.row.V.Denot). Covers g.P.PredicateFn.says p x) (sym (same_Some _ _ same)) covers)))
        | in_default w ↦ none-some r (w.in_default.ensures.found n placed_here ∙ there)
      ]
]

pub returns : goal.returns
returns g c p is n r there covers =
    let row = some_is (finite.get c.args.store.now.places n) (c.place_count-place-end.ensures.rowed n (ap is_some there)) in
    let below = c.place_count-place-end.ensures.places n row.0 row.1 in
    let over = c.loop-place-test.false in
    c.loop-place.invariant p is n row.0 r row.1 (omega arith) there covers
