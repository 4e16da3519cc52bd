use Rattle.std.proofs.Common.{◌≡◌, refl}
use Rattle.moka_parts.proofs.invalidator.Invalidator.register_predicate.Goals as goal

pub returns-in_default : goal.returns-in_default
returns-in_default g c =
    let asked = c.in_default.ensures in
    let kept : c.reserve.new.self.items ≡ c.args.self.now = cc in
    (asked.0, asked.1, (refl, (asked.2.0, rw kept at asked.2.1), kept))
