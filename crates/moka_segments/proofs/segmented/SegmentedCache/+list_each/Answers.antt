use Rattle.std.proofs.Common.{refl}
use Rattle.std.specs.Vec.Iter.{into_iter_items}
use Rattle.std.proofs.lemmas.Iterator.Adapters.{YieldsList-from_vec, items_from_extend}
use Rattle.moka_segments.proofs.Listed.{at_ok, listed_nothing, listed_first}
use Rattle.moka_segments.proofs.segmented.SegmentedCache.+list_each.Goals as goal

pub returns-in_default : goal.returns-in_default
returns-in_default g t c = listed_nothing _ c.args.segments.now c.args.found.now.items c.in_default.ensures.cases

pub returns : goal.returns
returns g t c =
    let list = c.in_ok-iter.field-0 in
    let all = at_ok c.extend.result tt c.in-Ok.is (items_from_extend c.extend.result c.extend.ensures.ran (YieldsList-from_vec {s = list} (into_iter_items list) refl list.rest.ok.0)) in
    listed_first _ c.list_each.result c.args.segments.now c.in-Some.rest.now c.in-Some.first.now c.args.found.now.items (into_iter_items list) c.extend.new.self.items c.list_each.new.found.items
    c.in-Some.ensures.cases (record { looked_up = c.in_ok-iter.ensures.looked_up; visible = c.in_ok-iter.ensures.visible }) all.0 c.list_each.ensures
