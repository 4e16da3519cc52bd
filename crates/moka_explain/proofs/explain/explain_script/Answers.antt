use Rattle.std.proofs.Common.{◌≡◌, ◌∙◌, ap, subst, unwrap_or}
use Rattle.std.specs.Io.KnownBytes.{Appends}
use Rattle.std.proofs.lemmas.Result.{IfOk-weaker}
use Rattle.moka_play.specs.Played.{chosen_policy}
use Rattle.moka_explain.specs.Text.{explained_texts}
use Rattle.moka_explain.proofs.explain.explain_script.Goals as goal

pub returns : goal.returns
returns g c =
    let policy : c.unwrap_or-policy.result ≡ chosen_policy c.args.script.settings = c.unwrap_or-policy.ensures ∙ ap (unwrap_or c.args.script.settings.policy) c.tiny_lfu.ensures in
    IfOk-weaker c.explain_calls.result _ _ (λ _ done. (
      done.0,
      (_, _, c.in_ok-cache.ensures.state, c.new-2.ensures, c.new.ensures, done.1),
      subst (λ chosen. Appends (g.W.Write.contents c.args.out.now) (g.W.Write.contents c.explain_calls.new.out) (explained_texts done.0 chosen)) policy done.2,
    )) c.explain_calls.ensures
