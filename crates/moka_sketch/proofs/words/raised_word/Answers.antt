use Rattle.std.proofs.Common.{◌*◌, arith}
use Rattle.std.proofs.lemmas.Nat.{one_shl}
use Rattle.moka_sketch.proofs.Word.{raised-other, raised_fits}
use Rattle.moka_sketch.proofs.words.raised_word.Goals as goal

pub overflow_add-result : goal.overflow_add-result
overflow_add-result c =
    rw (one_shl (4 * c.args.position) 64 (omega arith)) (omega (arith, raised_fits c.args.word c.args.position (omega arith) (omega arith) (omega arith)))

pub returns-clause-others : goal.returns-clause-others
returns-clause-others c q ne =
    rw (one_shl (4 * c.args.position) 64 (omega arith)) (raised-other c.args.word c.args.position q ne (omega arith))
