use Rattle.moka_sketch.proofs.Word.{halved-at}
use Rattle.moka_sketch.proofs.words.halved_word.Goals as goal

pub returns : goal.returns
returns c q l = halved-at c.args.word q l
