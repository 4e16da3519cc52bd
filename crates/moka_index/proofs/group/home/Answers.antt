use Rattle.std.proofs.Common.{◌≡◌, ◌^◌, ◌%◌, ◌*◌, ◌/◌, ap, sym, arith}
use Rattle.moka_index.specs.Group.{home}
use Rattle.moka_index.proofs.group.home.Goals as goal

pub returns : goal.returns
unfolding home
returns c =
    let e : c.args.hash % 2 ^ 32 ≡ c.args.hash = omega arith in
    ap (λ x. x * c.args.count / 2 ^ 32) (sym e)
