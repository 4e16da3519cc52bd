use Rattle.std.proofs.Common.{◌+◌, refl, arith}
use Rattle.moka_inner.proofs.InnerLemmas.{inner-roomier}
use Rattle.moka_inner.proofs.inner.Inner.reserve_operations.Goals as goal

pub invariant_of-self : goal.invariant_of-self
invariant_of-self g c = inner-roomier c.self.inside.store c.self.inside.outstanding c.reserve.new.self c.self.inside.writes c.self.inside.reads (c.self.inside.last_ticket + 1) c.self.inside.next_number c.self.invariant c.self.inside.store refl refl c.reserve.ensures.items c.reserve.ensures.kept

pub returns-then-is_err-clause-enough : goal.returns-then-is_err-clause-enough
returns-then-is_err-clause-enough g c = λ room. rw (c.reserve.ensures.enough (let roomy = rw (← c.self.view_is) at room in omega arith), ← c.self.view_is) refl

pub returns-then-is_err-clause-rest : goal.returns-then-is_err-clause-rest
returns-then-is_err-clause-rest g c = rw (c.reserve.ensures.items, ← c.self.view_is) refl

pub invariant_of-self-2 : goal.invariant_of-self-2
invariant_of-self-2 g c = inner-roomier c.self.inside.store c.self.inside.outstanding c.reserve.new.self c.self.inside.writes c.self.inside.reads (c.self.inside.last_ticket + 1) c.self.inside.next_number c.self.invariant c.self.inside.store refl refl c.reserve.ensures.items c.reserve.ensures.kept

pub returns-clause-enough : goal.returns-clause-enough
returns-clause-enough g c = λ room. rw (c.reserve.ensures.enough (let roomy = rw (← c.self.view_is) at room in omega arith), ← c.self.view_is) refl

pub returns-clause-rest : goal.returns-clause-rest
returns-clause-rest g c = rw (c.reserve.ensures.items, ← c.self.view_is) refl
