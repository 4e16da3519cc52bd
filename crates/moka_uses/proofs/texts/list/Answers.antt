use Rattle.std.specs.String.{string_eq_equiv}
use Rattle.moka_uses.proofs.texts.list.Goals as goal

pub returns : goal.returns
returns c = c.iter.ensures.visible (λ key clone same. rw same (string_eq_equiv.refl key))
