use Rattle.std.proofs.Common.{refl, ◌∙◌, ap, ◌++◌, ◌∷◌, [], inl, inr, arith}
use Rattle.moka_segments.proofs.Registered.{registered_nothing, registered_none, registered_first}
use Rattle.moka_segments.proofs.segmented.SegmentedCache.+register_each.Goals as goal

pub returns-in_default : goal.returns-in_default
returns-in_default g t c = registered_nothing _ _ _ _ c.args.segments.now c.args.done.now.items c.args.ids.now c.in_default.ensures.cases

pub returns-in_default-reserve : goal.returns-in_default-reserve
returns-in_default-reserve g t c =
    registered_none _ _ _ _ c.args.segments.now c.in-Some.rest.now c.in-Some.first.now c.in-Some.first.now c.args.ids.now c.in-Some.ensures.cases
    c.args.done.now.items c.reserve.new.self.items _ c.args.ids.now c.reserve.ensures.items
    (inr (record { made = c.make-predicate.ensures; error = refl; not_asked = refl; unchanged = refl }))

pub push_reserved-requires : goal.push_reserved-requires
push_reserved-requires g t c = omega (arith, c.in-Ok.ensures.ok)

pub returns-in-Err : goal.returns-in-Err
returns-in-Err g t c =
    registered_none _ _ _ _ c.args.segments.now c.in-Some.rest.now c.in-Some.first.now c.invalidate_entries_if.new.self c.args.ids.now c.in-Some.ensures.cases
    c.args.done.now.items c.reserve.new.self.items c.in-Err.refused c.invalidate_entries_if.new.ids c.reserve.ensures.items
    (inl (record { predicate = c.make-predicate.result; made = c.make-predicate.ensures; step = c.in-Err.ensures.made; counted = c.in-Err.ensures.counted }))

pub returns : goal.returns
returns g t c =
    registered_first _ _ _ _ c.args.segments.now c.in-Some.rest.now c.in-Some.first.now c.invalidate_entries_if.new.self c.args.ids.now c.in-Some.ensures.cases
    c.args.done.now.items c.push_reserved.new.self.items c.register_each.new.done.items c.in-Ok-invalidate_entries_if.id c.invalidate_entries_if.new.ids c.register_each.new.ids c.register_each.result c.register_each.new.segments
    (c.push_reserved.ensures.items ∙ ap (λ zs. zs ++ c.in-Ok-invalidate_entries_if.id ∷ []) c.reserve.ensures.items)
    (record { predicate = c.make-predicate.result; made = c.make-predicate.ensures; step = c.in-Ok-invalidate_entries_if.ensures.made; counted = c.in-Ok-invalidate_entries_if.ensures.counted })
    c.register_each.ensures
