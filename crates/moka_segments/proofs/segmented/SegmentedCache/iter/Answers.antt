use Rattle.std.proofs.Common.{ap, sym, subst, ◌∙◌}
use Rattle.moka_segments.specs.Listing.{AllListed, ListsOwn}
use Rattle.moka_segments.proofs.Listed.{all_of}
use Rattle.moka_segments.proofs.segmented.SegmentedCache.iter.Goals as goal

pub returns : goal.returns
returns g c =
    let Lists = ListsOwn {S = g.row.S.Denot} {X = g.row.X.Denot} {L = g.row.L.Denot} {P = g.row.P.Denot} {W = g.row.W.Denot} g.P.PredicateFn.says g.V.Clone.is_clone g.K.PartialEq.eq g.K.Clone.is_clone c.args.now.0 in
    let all = all_of (AllListed Lists c.deref.result.now) c.new-found.result.items c.list_each.new.found.items c.new-found.ensures.items c.in_ok-list_each.ensures in
    subst (AllListed Lists c.args.self.now.segments) (sym c.into_iter.ensures.rest) (subst (λ xs. AllListed Lists xs c.list_each.new.found.items) (c.deref.ensures.value ∙ ap (λ s. s.segments) c.self.view_is) all)
