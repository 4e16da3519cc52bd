use Rattle.std.proofs.Common.{refl}
use Rattle.moka_store.proofs.Steps.{handled_at, changed}
use Rattle.moka_store.proofs.store.Store.set_applied.Goals as goal

pub set_applied-requires : goal.set_applied-requires
set_applied-requires g c =
    let h = rw (← c.self.view_is) at c.requires in
    let at = handled_at _ g.met.K.Eq.laws _ c.self.inside.table _ _ c.self.inside.written c.self.inside.timers _ _ _ _ c.self.invariant c.args.handle h in
    rw at.stored_at_is refl

pub invariant_of-self : goal.invariant_of-self
invariant_of-self g c = (changed _ g.met.K.Eq.laws _ _ _ _ c.self.inside.written c.self.inside.timers _ _ _ _ c.self.invariant c.args.handle (rw (← c.self.view_is) at c.requires) (λ r. record r { applied = c.args.generation }) (λ _. refl) (λ _. refl) c.set_applied.ensures).store

pub returns : goal.returns
returns g c =
    let h = rw (← c.self.view_is) at c.requires in
    let s = changed _ g.met.K.Eq.laws _ _ _ _ c.self.inside.written c.self.inside.timers _ _ _ _ c.self.invariant c.args.handle h (λ r. record r { applied = c.args.generation }) (λ _. refl) (λ _. refl) c.set_applied.ensures in
    record {
      step = rw (← c.self.view_is) s.step;
      handle = record { placed = rw s.places h.placed; stored = s.stored };
      places = rw (← c.self.view_is) s.places;
      access = rw (← c.self.view_is) s.access;
    }
