use Rattle.std.proofs.Common.{◌+◌, sym, ap, ◌∙◌}
use Rattle.moka_structures.proofs.Newest.{len-with}
use Rattle.moka_structures.proofs.outstanding.Outstanding.len.Goals as goal

pub returns-in-Some : goal.returns-in-Some
returns-in-Some g c = rw (← c.self.view_is) (ap (λ n. n + 1) c.len.ensures.value ∙ sym (len-with c.self.inside.newest c.self.inside.older.items _ c.in-Some.is c.self.invariant))
