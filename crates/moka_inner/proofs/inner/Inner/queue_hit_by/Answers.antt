use Rattle.std.proofs.Common.{◌≡◌, Some, ap, sym, subst, ◌∙◌, ◌+◌}
use Rattle.std.specs.FinMap as finite
use Rattle.moka_records.proofs.Tested.{record_by_key}
use Rattle.moka_inner.specs.Interior.{Interior, IsLocated}
use Rattle.moka_inner.specs.ReadNumber.{IsReadNumber}
use Rattle.moka_inner.proofs.InnerLemmas.{located-nowhere}
use Rattle.moka_inner.proofs.inner.Inner.queue_hit_by.Goals as goal
use Rattle.moka_inner.proofs.inner.Inner.queue_hit_by.Goals.{in-Some, in-None}

pub queue_read-requires : goal.queue_read-requires
queue_read-requires g c =
    let inside = c.self.inside in
    let places = inside.store.places in
    let sought = c.requires.known in
    let by_key = record_by_key g.K.PartialEq.eq (g.T.KeyTest.passes c.args.sought.0.now) (g.met.T.KeyTest.one_key c.args.sought.0.now) inside.store.records sought.0 sought.1 in
    let known = subst (λ (i : Interior g.row.K.Denot g.row.V.Denot g.row.S.Denot). IsReadNumber g.K.PartialEq.eq i.kept.records i.outstanding i.writes i.next_number sought.0 c.args.number) (sym c.self.view_is) sought.2 in
    let at : IsLocated places inside.next_number c.args.number c.match-find_by.place = elim c.match-find_by.branch [
      | in-Some w ↦
          let found = w.in-Some.handle in
          let number = known.alone found.number w.in-Some.field-0-1 w.in-Some.ensures.found (sym by_key ∙ sym w.in-Some.ensures.value) in
          subst (IsLocated places inside.next_number c.args.number) (sym w.place-is)
          record {
            given = known.given;
            at = λ p there. (let here = ap (finite.get places) number ∙ there in let both : Some p ≡ Some found.place = sym here ∙ w.in-Some.ensures.handle.placed in cc);
          }
      | in-None w ↦
          subst (IsLocated places inside.next_number c.args.number) (sym w.place-is)
          (located-nowhere inside.store inside.outstanding inside.writes inside.reads (inside.last_ticket + 1) inside.next_number c.self.invariant c.args.number 0 known.given (known.own ∙ sym by_key ∙ sym w.in-None.ensures.value) known.stays)
    ] in
    subst (λ (i : Interior g.row.K.Denot g.row.V.Denot g.row.S.Denot). IsLocated i.kept.places i.next_number c.args.number c.match-find_by.place) c.self.view_is at
