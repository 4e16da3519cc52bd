use Rattle.std.proofs.Common.{◌++◌, ap, sym, ◌∙◌, rules}
use Rattle.std.proofs.lemmas.Grind.{put_two}
use Rattle.moka_explain.specs.Text.{answer_text, applied_in, behind_text, met_text}
use Rattle.moka_explain.proofs.text.write_answer.Goals as goal

pub returns-in_ok-write_met-in-MetAndBecame : goal.returns-in_ok-write_met-in-MetAndBecame
returns-in_ok-write_met-in-MetAndBecame g c = λ plain ok.
    let look = c.in-MetAndBecame.look in
    let fates = c.in-MetAndBecame.fates in
    let met = c.write_met-in-MetAndBecame.ensures plain (search rules) in
    let behind = c.write_behind.ensures met.plain ok in
    let applied = c.applied_in-applied.ensures ∙ ap (applied_in fates) c.reads_queued_by.ensures in
    let text = ap (λ a. met_text look ++ behind_text look fates c.args.policy a) applied in
    put_two _ _ _ _ _ _ _ met behind (text ∙ ap (λ a. answer_text c.args.reply.now a c.args.policy) (sym c.in-MetAndBecame.is))
