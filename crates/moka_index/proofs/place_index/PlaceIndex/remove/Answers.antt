use Rattle.std.proofs.Common.{ap, arith}
use Rattle.std.specs.FinMap as finite
use Rattle.moka_index.specs.Groups.{entries_of}
use Rattle.moka_index.proofs.Maps.{len-removed, len-some}
use Rattle.moka_index.proofs.place_index.PlaceIndex.remove.Goals as goal

pub remove_entry-requires : goal.remove_entry-requires
remove_entry-requires c = record { groups = c.self.invariant.groups_are; there = rw (← c.self.view_is) at c.requires }

pub overflow_sub-self : goal.overflow_sub-self
overflow_sub-self c =
    let there = rw (← c.self.view_is) at c.requires in
    omega (arith, len-some (entries_of c.self.inside.groups.items) c.args.place c.args.hash there, c.self.invariant.counted)

pub invariant_of-self : goal.invariant_of-self
invariant_of-self c =
    let there = rw (← c.self.view_is) at c.requires in
    let less = len-removed (entries_of c.self.inside.groups.items) c.args.place c.args.hash there in
    record {
      groups_are = c.remove_entry.ensures.groups;
      counted = omega (arith, ap finite.len c.remove_entry.ensures.entries, less, c.self.invariant.counted);
      fits = omega (arith, c.remove_entry.ensures.len, c.self.invariant.fits);
      tight = c.remove_entry.ensures.tight c.self.invariant.tight;
    }

pub returns-clause-room : goal.returns-clause-room
returns-clause-room c =
    let there = rw (← c.self.view_is) at c.requires in
    let positive = len-some (entries_of c.self.inside.groups.items) c.args.place c.args.hash there in
    rw (← c.self.view_is) (omega (arith, positive, c.remove_entry.ensures.len, c.self.invariant.counted, c.self.invariant.fits))
