use Rattle.std.proofs.Common.{cond, rules, tests, sym, ap, ◌∙◌}
use Rattle.std.proofs.lemmas.Iterator.{YieldsList-from_slice}
use Rattle.std.proofs.lemmas.Iterator.Search.{any_from_yields_List}
use Rattle.moka_script.specs.Text.{is_refused_memory}
use Rattle.moka_replay.proofs.replay.status_of.Goals as goal

pub returns-then-any : goal.returns-then-any
returns-then-any c =
    let found = any_from_yields_List is_refused_memory _ _ _ c.any.ensures.ran (YieldsList-from_slice c.args.replies.now (cc)) (λ x b q k. search (rules, tests)) in
    ap (λ found. cond found 3 0) (sym c.if-any.true ∙ found)

pub returns-else-any : goal.returns-else-any
returns-else-any c =
    let found = any_from_yields_List is_refused_memory _ _ _ c.any.ensures.ran (YieldsList-from_slice c.args.replies.now (cc)) (λ x b q k. search (rules, tests)) in
    ap (λ found. cond found 3 0) (sym c.if-any.false ∙ found)
