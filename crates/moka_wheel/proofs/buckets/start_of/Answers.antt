use Rattle.std.proofs.Common.{◌≡◌, ◌%◌, ◌*◌, ◌+◌, ◌/◌, ◌^◌, ap, ◌∙◌, arith}
use Rattle.moka_wheel.specs.Levels.{part}
use Rattle.moka_wheel.proofs.Moves.{start-fits}
use Rattle.moka_wheel.proofs.buckets.start_of.Goals as goal

pub returns : goal.returns
returns c =
    let l = c.args.bucket / 256 in
    let e : c.from.result ≡ c.args.bucket % 256 = c.from.ensures in
    ap (λ n. (part c.args.moment l / 256 * 256 + n) * 2 ^ (8 * l) % 18446744073709551616) e
    ∙ start-fits c.args.moment l (c.args.bucket % 256) (omega arith) (omega arith) (omega arith)
