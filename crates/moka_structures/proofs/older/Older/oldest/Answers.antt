use Rattle.moka_structures.proofs.Kept.{least-kept}
use Rattle.moka_structures.proofs.older.Older.oldest.Goals as goal

pub returns-clause-least : goal.returns-clause-least
returns-clause-least g c =
    let all = least-kept c.self.inside.kept.items _ _ (record { least = c.oldest.ensures.least; none = c.oldest.ensures.none }) in
    rw (c.oldest_with.ensures, c.as_slice.ensures.value, ← c.self.view_is) all.least

pub returns-clause-none : goal.returns-clause-none
returns-clause-none g c =
    let all = least-kept c.self.inside.kept.items _ _ (record { least = c.oldest.ensures.least; none = c.oldest.ensures.none }) in
    rw (c.oldest_with.ensures, c.as_slice.ensures.value, ← c.self.view_is) all.none
