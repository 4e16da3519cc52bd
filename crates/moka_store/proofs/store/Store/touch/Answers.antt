use Rattle.std.proofs.Common.{refl, sym, ◌∙◌}
use Rattle.moka_store.proofs.Steps.{handled_at, changed}
use Rattle.moka_store.proofs.store.Store.touch.Goals as goal

pub touch-requires : goal.touch-requires
touch-requires g c =
    let h = rw (← c.self.view_is) at c.requires.handle in
    let at = handled_at _ g.met.K.Eq.laws _ c.self.inside.table _ _ c.self.inside.written c.self.inside.timers _ _ _ _ c.self.invariant c.args.handle h in
    let kept = rw (← c.self.view_is) at c.requires.kept in
    record { stored = rw at.stored_at_is refl; kept = λ same r is. kept same r (at.record_is ∙ sym at.stored_at_is ∙ is) }

pub invariant_of-self : goal.invariant_of-self
invariant_of-self g c = (changed _ g.met.K.Eq.laws _ _ _ _ c.self.inside.written c.self.inside.timers _ _ _ _ c.self.invariant c.args.handle (rw (← c.self.view_is) at c.requires.handle) (λ r. record r { read = c.args.read; expires = c.args.expires }) (λ _. refl) (λ _. refl) c.touch.ensures).store

pub returns : goal.returns
returns g c =
    let h = rw (← c.self.view_is) at c.requires.handle in
    let s = changed _ g.met.K.Eq.laws _ _ _ _ c.self.inside.written c.self.inside.timers _ _ _ _ c.self.invariant c.args.handle h (λ r. record r { read = c.args.read; expires = c.args.expires }) (λ _. refl) (λ _. refl) c.touch.ensures in
    record {
      step = rw (← c.self.view_is) s.step;
      handle = record { placed = rw s.places h.placed; stored = s.stored };
      places = rw (← c.self.view_is) s.places;
      access = rw (← c.self.view_is) s.access;
    }
