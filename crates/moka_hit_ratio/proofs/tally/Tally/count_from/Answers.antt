use Rattle.std.proofs.Common.{◌∙◌, ◌+◌, ◌&&◌, ap, if◌then◌else◌, sym}
use Rattle.std.proofs.lemmas.Bool.{le-leb}
use Rattle.moka_hit_ratio.proofs.tally.Tally.count_from.Goals as goal

pub returns-then-place-first-clause-read : goal.returns-then-place-first-clause-read
returns-then-place-first-clause-read c = λ few. c.count.ensures.read few ∙ ap (λ b. c.args.self.now.reads + (if b then 1 else 0)) (sym (le-leb c.args.first c.args.place c.if-place-first.true))

pub returns-then-place-first-clause-hit : goal.returns-then-place-first-clause-hit
returns-then-place-first-clause-hit c = λ few. c.count.ensures.hit few ∙ ap (λ b. c.args.self.now.hits + (if b && c.args.is_hit then 1 else 0)) (sym (le-leb c.args.first c.args.place c.if-place-first.true))
