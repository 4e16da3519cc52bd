use Rattle.std.proofs.Common.{[], ◌∷◌, ◌++◌, sym, subst, arith}
use Rattle.std.specs.Prelude.{IsPermutation}
use Rattle.std.proofs.lemmas.List.Elements.{AllZip-push}
use Rattle.std.proofs.lemmas.List.Sorted.{IsPermutation-refl}
use Rattle.moka_table.specs.RecordTable.{stored_at}
use Rattle.moka_store.proofs.Listed.{listed-first, listed-none, listed-some, listed-all}
use Rattle.moka_store.proofs.store.Store.keys.Goals as goal
use Rattle.moka_store.proofs.store.Store.keys.Goals.{in-Some+in_ok-clone+in_ok-push, in_default}

pub loop-place-init : goal.loop-place-init
loop-place-init g c = rw (listed-first c.self.inside.table.rows, c.in_ok-keys.ensures.items) ([], IsPermutation-refl _, tt)

pub loop-place-preserved : goal.loop-place-preserved
loop-place-preserved g c =
    let rows = c.self.inside.table.rows in
    let place = c.loop-place.place in
    let own = c.loop-place.invariant.0 in
    elim c.match-record.branch [
      | in-Some+in_ok-clone+in_ok-push w ↦
          let key = w.in-Some.stored.key in
          let more = listed-some rows c.self.invariant.tied.numbered place w.in-Some.stored own (sym {b = stored_at rows place} w.in-Some.ensures) c.loop-place.invariant.1 in
          (own ++ key ∷ [], more, rw (w.keys-is, w.in_ok-push.ensures.items) (AllZip-push g.K.Clone.is_clone own c.loop-place.keys.items key _ c.loop-place.invariant.2 (subst (λ k. g.K.Clone.is_clone k w.in_ok-clone.field-0) w.key.ensures w.in_ok-clone.ensures.cases)))
      | in_default w ↦ rw (w.keys-is, listed-none rows place (sym {b = stored_at rows place} w.in_default.ensures)) c.loop-place.invariant
    ]

pub returns : goal.returns
returns g c = rw (← c.self.view_is) (c.loop-place.invariant.0, subst (λ keys. IsPermutation keys c.loop-place.invariant.0) (listed-all c.self.inside.table.rows c.loop-place.place (omega (arith, c.place_count-place-end.ensures, c.loop-place-test.false))) c.loop-place.invariant.1, c.loop-place.invariant.2)
