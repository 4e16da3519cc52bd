use Rattle.std.proofs.Common.{refl, sym, ◌∙◌}
use Rattle.moka_store.proofs.Steps.{handled_at, changed}
use Rattle.moka_table.specs.Updates.{updated}
use Rattle.moka_store.proofs.store.Store.update.Goals as goal

pub update-requires : goal.update-requires
update-requires g c =
    let h = rw (← c.self.view_is) at c.requires.handle in
    let at = handled_at _ g.met.K.Eq.laws _ c.self.inside.table _ _ c.self.inside.written c.self.inside.timers _ _ _ _ c.self.invariant c.args.handle h in
    record { stored = rw at.stored_at_is refl; generation = λ r is. rw (← c.self.view_is) at c.requires.generation r (at.record_is ∙ sym at.stored_at_is ∙ is) }

pub invariant_of-self : goal.invariant_of-self
invariant_of-self g c = (changed _ g.met.K.Eq.laws _ _ _ _ c.self.inside.written c.self.inside.timers _ _ _ _ c.self.invariant c.args.handle (rw (← c.self.view_is) at c.requires.handle) (updated c.args.update) (λ _. refl) (λ _. refl) c.update.ensures.table).store

pub returns : goal.returns
returns g c =
    let h = rw (← c.self.view_is) at c.requires.handle in
    let at = handled_at _ g.met.K.Eq.laws _ c.self.inside.table _ _ c.self.inside.written c.self.inside.timers _ _ _ _ c.self.invariant c.args.handle h in
    let s = changed _ g.met.K.Eq.laws _ _ _ _ c.self.inside.written c.self.inside.timers _ _ _ _ c.self.invariant c.args.handle h (updated c.args.update) (λ _. refl) (λ _. refl) c.update.ensures.table in
    record {
      value = λ r e. c.update.ensures.value r (at.stored_at_is ∙ sym at.record_is ∙ (rw (← c.self.view_is) at e));
      step = rw (← c.self.view_is) s.step;
      handle = record { placed = rw s.places h.placed; stored = s.stored };
      places = rw (← c.self.view_is) s.places;
      access = rw (← c.self.view_is) s.access;
    }
