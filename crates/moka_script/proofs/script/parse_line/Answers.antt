use Rattle.std.proofs.Common.{◌∙◌, sym}
use Rattle.std.proofs.lemmas.Str.{IsUtf8-from_ascii}
use Rattle.moka_script.proofs.Printable.{IsAscii-printable}
use Rattle.moka_script.proofs.script.parse_line.Goals as goal

-- printable bytes are text
pub returns-in_default : goal.returns-in_default
returns-in_default c = absurd (c.in_default.ensures.cases.0 (IsUtf8-from_ascii _ (IsAscii-printable c.args.line.now (sym c.is_printable.ensures ∙ c.if-not-is_printable.false))))
