-- Whether a predicate covers a record, by the first one that does.
use Rattle.std.proofs.Common.{MatchBool, sym, subst}
use Rattle.moka_parts.specs.Visibility.{SomeCovers, NoneCovers}
use Rattle.moka_parts.proofs.Registry.{covers_by_first}
use Rattle.moka_parts.proofs.invalidator.Invalidator.apply_predicates.Goals as goal

pub returns : goal.returns
returns g c =
    let says = g.P.PredicateFn.says in
    subst (λ found. MatchBool found (SomeCovers says c.args.self.now c.args.entry.now) (NoneCovers says c.args.self.now c.args.entry.now)) (sym c.is_some.ensures)
    (covers_by_first says c.args.entry.now c.args.self.now c.first_covering.result c.first_covering.ensures)
