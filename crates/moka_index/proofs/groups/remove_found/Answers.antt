use Rattle.std.proofs.Common.{◌≡◌, ◌<◌, ◌≤◌, List, slice_set, sym, ap, subst, ◌∙◌}
use Rattle.std.specs.FinMap as finite
use Rattle.moka_index.specs.declared.group.Group.{Group}
use Rattle.moka_index.specs.Group.{without_lane}
use Rattle.moka_index.specs.Groups.{group_at, entries_of, StaysExact}
use Rattle.moka_index.proofs.Changes.{Leaves, lane-below, removed-leaves, removed-exact}
use Rattle.moka_index.proofs.Lanes.{group-read}
use Rattle.moka_index.proofs.groups.remove_found.Goals as goal

pub swap_remove-requires : goal.swap_remove-requires
swap_remove-requires c =
    let items : List Group = c.args.groups.now.items in
    let read : c.index_mut.result.now ≡ group_at items c.args.found.group = c.index_mut.ensures.value ∙ group-read items c.args.found.group c.index_mut.result.now c.requires.group in
    record {
      lane = subst (λ (x : Group). c.args.found.lane < x.count) (sym read) (lane-below items c.requires.groups c.args.found.group c.args.found.lane c.args.found.place c.requires.there.0 c.requires.group c.requires.lane c.requires.there.1);
      count = subst (λ (x : Group). x.count ≤ 7) (sym read) (c.requires.groups.shaped c.args.found.group).lanes.count;
    }

pub returns : goal.returns
returns c =
    let items : List Group = c.args.groups.now.items in
    let read : c.index_mut.result.now ≡ group_at items c.args.found.group = c.index_mut.ensures.value ∙ group-read items c.args.found.group c.index_mut.result.now c.requires.group in
    let now : without_lane (group_at items c.args.found.group) c.args.found.lane ≡ c.swap_remove.new.self = sym (c.swap_remove.ensures ∙ ap (λ x. without_lane x c.args.found.lane) read) in
    let l = subst (λ (x : Group). Leaves items (slice_set items c.args.found.group x) (finite.remove (entries_of items) c.args.found.place)) now
    (removed-leaves items c.requires.groups c.args.found.group c.args.found.lane c.args.found.place c.requires.there.0 c.requires.group c.requires.lane c.requires.there.1) in
    record {
      groups = l.groups;
      entries = l.entries;
      len = l.len;
      exact = subst (λ (x : Group). StaysExact items (slice_set items c.args.found.group x) c.args.found.group c.args.found.lane) now
          (removed-exact items c.requires.groups c.args.found.group c.args.found.lane c.args.found.place c.requires.there.0 c.requires.group c.requires.lane c.requires.there.1);
    }
