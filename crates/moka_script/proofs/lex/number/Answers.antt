use Rattle.std.proofs.Common.{◌∙◌, sym}
use Rattle.moka_script.proofs.Numerals.{number_of-numeral}
use Rattle.moka_script.proofs.lex.number.Goals as goal

pub returns-then-is_numeral : goal.returns-then-is_numeral
returns-then-is_numeral c = c.ok.ensures.value ∙ number_of-numeral 64 c.args.word.now _ c.parse.ensures.value.0 (sym c.is_numeral.ensures ∙ c.if-is_numeral.true)
