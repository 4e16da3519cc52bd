use Rattle.std.proofs.Common.{◌*◌, ◌/◌, arith}
use Rattle.std.proofs.lemmas.Nat.{pow_pos}
use Rattle.moka_wheel.proofs.Moves.{start, part-within, reach}
use Rattle.moka_wheel.proofs.Sound.{reach-placed, early-placed}
use Rattle.moka_wheel.proofs.buckets.Buckets.step.Goals as goal

pub returns-then-now-start-clause-placed : goal.returns-then-now-start-clause-placed
returns-then-now-start-clause-placed c =
    early-placed _ _ c.args.self.now.moment c.args.now c.in-Some.bucket c.requires.placed c.requires.late c.in-Some.ensures.within c.in-Some.ensures.marked c.in-Some.ensures.first (omega (arith, c.start_of-start.ensures, c.if-now-start.true))

pub spread-requires-clause-reached : goal.spread-requires-clause-reached
spread-requires-clause-reached c =
    let at = part-within (c.in-Some.bucket / 256) (start c.args.self.now.moment c.in-Some.bucket) c.start_of-start.result c.min.result c.span_of.result c.start_of-start.ensures c.span_of.ensures (omega (arith, c.min.ensures, c.span_of.ensures, pow_pos (8 * (c.in-Some.bucket / 256)))) in
    reach-placed _ _ c.args.self.now.moment _ c.in-Some.bucket c.requires.placed c.in-Some.ensures.within c.in-Some.ensures.marked c.in-Some.ensures.first at

pub returns-clause-moved : goal.returns-clause-moved
returns-clause-moved c _ =
    let at = part-within (c.in-Some.bucket / 256) (start c.args.self.now.moment c.in-Some.bucket) c.start_of-start.result c.min.result c.span_of.result c.start_of-start.ensures c.span_of.ensures (omega (arith, c.min.ensures, c.span_of.ensures, pow_pos (8 * (c.in-Some.bucket / 256)))) in
    let r = reach c.args.self.now.moment _ c.in-Some.bucket (c.requires.placed.ahead c.in-Some.bucket c.in-Some.ensures.within (λ e. omega (arith, c.in-Some.ensures.within)) c.in-Some.ensures.marked) at in
    omega (arith, r.later, c.spread.ensures.moment)

pub returns-clause-far : goal.returns-clause-far
returns-clause-far c _ =
    (c.in-Some.bucket, c.in-Some.ensures.marked, omega (arith, c.spread.ensures.moment, c.start_of-start.ensures, c.span_of.ensures, c.min.ensures, pow_pos (8 * (c.in-Some.bucket / 256))))
