use Rattle.std.proofs.Common.{arith}
use Rattle.moka_structures.proofs.Kept.{len-kept}
use Rattle.moka_structures.proofs.older.Older.len.Goals as goal

pub returns-clause-value : goal.returns-clause-value
returns-clause-value g c =
    let sum = len-kept c.self.inside.kept.items c.self.inside.table.items c.self.invariant in
    rw (← c.self.view_is) (omega (arith, sum, c.len.ensures.value, c.len-2.ensures, c.self.inside.kept.ok.0))
