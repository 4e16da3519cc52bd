use Rattle.std.proofs.Common.{ap, arith}
use Rattle.std.specs.FinMap as finite
use Rattle.moka_index.specs.Groups.{entries_of}
use Rattle.moka_index.proofs.Maps.{len-inserted}
use Rattle.moka_index.proofs.place_index.PlaceIndex.insert.Goals as goal

pub insert_entry-requires : goal.insert_entry-requires
insert_entry-requires c =
    let room = rw (← c.self.view_is) at c.requires.room in
    record {
      groups = c.self.invariant.groups_are;
      fresh = rw (← c.self.view_is) at c.requires.fresh;
      room = omega (arith, room, c.self.invariant.counted, c.self.invariant.fits);
    }

pub invariant_of-self : goal.invariant_of-self
invariant_of-self c =
    let room = rw (← c.self.view_is) at c.requires.room in
    let fresh = rw (← c.self.view_is) at c.requires.fresh in
    let more = len-inserted (entries_of c.self.inside.groups.items) c.args.place c.args.hash fresh in
    record {
      groups_are = c.insert_entry.ensures.groups;
      counted = omega (arith, ap finite.len c.insert_entry.ensures.entries, more, c.self.invariant.counted);
      fits = omega (arith, room, c.insert_entry.ensures.len);
      tight = c.insert_entry.ensures.tight c.self.invariant.tight;
    }
