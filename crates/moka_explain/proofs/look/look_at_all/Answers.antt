use Rattle.std.proofs.Common.{◌∙◌, ap, rules, sym, subst, map, map-id}
use borrow.Author.Tests.{tests}
use Rattle.std.proofs.lemmas.Iterator.{YieldsList-from_slice, YieldsList-from_map_by, items_from_drains}
use Rattle.std.specs.List.{AllByRecursion}
use Rattle.moka_explain.specs.Looks.{IsLook}
use Rattle.moka_explain.proofs.Looked.{all_drained, only_from_map}
use Rattle.moka_explain.proofs.look.look_at_all.Goals as goal

pub returns : goal.returns
returns c =
    let ran = c.in_ok-looks.ensures.ran in (
      ap (map (λ l. l.key)) ran.2.0 ∙ items_from_drains ran.0 ran.1 (YieldsList-from_map_by _ (λ l. l.key) (λ k. k) (YieldsList-from_slice c.args.keys.now cc) c.map.ensures.closure (λ x r q k. search (rules, tests))) ∙ map-id c.args.keys.now,
      subst (AllByRecursion (IsLook c.args.cache.now.state c.args.now.0)) (sym ran.2.0) (all_drained ran.0 ran.1 (only_from_map _ (YieldsList-from_slice c.args.keys.now cc) c.map.ensures.closure (λ x r q k. search (rules, tests)))),
    )
