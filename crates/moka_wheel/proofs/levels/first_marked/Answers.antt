use Rattle.std.proofs.Common.{◌<◌, ◌^◌, arith, rules, refl, slice_index_or}
use Rattle.moka_wheel.proofs.Bits.{first-marked}
use Rattle.moka_wheel.proofs.levels.first_marked.Goals as goal

pub returns-then-word-ne0-clause-marked : goal.returns-then-word-ne0-clause-marked
returns-then-word-ne0-clause-marked c =
    let fits : slice_index_or c.args.occupied.now c.loop-index.index 0 < 2 ^ 64 = search rules in
    (first-marked _ c.loop-index.index _ (omega arith) refl c.if-word-ne0.true fits c.loop-index.invariant).marked

pub returns-then-word-ne0-clause-first : goal.returns-then-word-ne0-clause-first
returns-then-word-ne0-clause-first c =
    let fits : slice_index_or c.args.occupied.now c.loop-index.index 0 < 2 ^ 64 = search rules in
    (first-marked _ c.loop-index.index _ (omega arith) refl c.if-word-ne0.true fits c.loop-index.invariant).first
