use Rattle.std.proofs.Common.{◌≡◌, ◌∙◌, ap, sym, drop, cond, false}
use Rattle.std.specs.Option.{option_map}
use Rattle.moka_script.specs.declared.script.Line.TheVariants as line
use Rattle.moka_script.specs.Clock.{is_clock, readings_of}
use Rattle.moka_script.specs.Lex.{words_of}
use Rattle.moka_script.specs.Script.{asked_by_few}
use Rattle.moka_script.proofs.Lines.{asked_by_few-take, is_clock-take}
use Rattle.moka_script.proofs.script.parse_text.Goals as goal

-- the first words say all, but for a clock
pub returns : goal.returns
returns c =
    let words = words_of c.args.text.now in
    let sets_no_clock : is_clock words ≡ false = sym (is_clock-take words) ∙ (ap is_clock (sym c.first_words-count.ensures.words) ∙ (sym c.is_clock.ensures ∙ c.if-is_clock.false)) in
    c.parse_words.ensures ∙ (ap asked_by_few c.first_words-count.ensures.words ∙ (asked_by_few-take words ∙ sym (ap (λ is_clock. cond is_clock (option_map line.Clock (readings_of (drop 1 words))) (asked_by_few words)) sets_no_clock)))
