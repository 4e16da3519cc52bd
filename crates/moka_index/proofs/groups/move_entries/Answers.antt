use Rattle.std.proofs.Common.{◌≡◌, ◌+◌, ◌/◌, ◌%◌, ◌<◌, ◌≤◌, None, length, sym, subst, arith}
use Rattle.std.specs.FinMap as finite
use Rattle.moka_index.specs.declared.group.Group.{Group}
use Rattle.moka_index.specs.Group.{lane_place, lane_hash}
use Rattle.moka_index.specs.Groups.{entries_of}
use Rattle.moka_index.proofs.Lanes.{blank, group-read}
use Rattle.moka_index.proofs.Moves.{Moved, moved-none, moved-past, moved-one, moved-fresh, moved-len, moved-all}
use Rattle.moka_index.proofs.groups.move_entries.Goals.{then-lane-group, else-lane-group}
use Rattle.moka_index.proofs.groups.move_entries.Goals as goal

pub loop-q-init : goal.loop-q-init
loop-q-init c = moved-none c.args.from.now c.args.to.now.items c.requires.to c.requires.few

pub insert_entry-requires : goal.insert_entry-requires
insert_entry-requires c =
    let in_q : c.loop-q.q / 7 < length c.args.from.now = omega (arith, c.loop-q-test.true) in
    let read = group-read c.args.from.now (c.loop-q.q / 7) blank in_q in
    let few = moved-len c.args.from.now c.loop-q.to.items (length c.args.to.now.items) c.loop-q.q c.requires.from c.loop-q.invariant (omega (arith, c.loop-q-test.true)) in
    record {
      groups = c.loop-q.invariant.groups;
      fresh = subst (λ (x : Group). finite.get (entries_of c.loop-q.to.items) (lane_place x (c.loop-q.q % 7)) ≡ None) (sym read)
          (moved-fresh c.args.from.now c.loop-q.to.items (length c.args.to.now.items) c.loop-q.q c.requires.from c.loop-q.invariant (subst (λ (x : Group). c.loop-q.q % 7 < x.count) read c.if-lane-group.true));
      room = omega (arith, few, c.requires.room, c.loop-q.invariant.len);
    }

pub loop-q-preserved : goal.loop-q-preserved
loop-q-preserved c =
    let in_q : c.loop-q.q / 7 < length c.args.from.now = omega (arith, c.loop-q-test.true) in
    let read = group-read c.args.from.now (c.loop-q.q / 7) blank in_q in
    elim c.if-lane-group.branch as (λ _. Moved c.args.from.now c.if-lane-group.to.items (length c.args.to.now.items) (c.loop-q.q + 1)) [
      | then-lane-group w ↦
          subst (λ v. Moved c.args.from.now v.items (length c.args.to.now.items) (c.loop-q.q + 1)) (sym w.to-is)
          (moved-one c.args.from.now c.loop-q.to.items w.insert_entry.new.groups.items (length c.args.to.now.items) c.loop-q.q c.loop-q.invariant (subst (λ (x : Group). c.loop-q.q % 7 < x.count) read w.if-lane-group.true) w.insert_entry.ensures.groups (w.insert_entry.ensures.tight c.loop-q.invariant.tight)
          (subst (λ (x : Group). entries_of w.insert_entry.new.groups.items ≡ finite.insert (entries_of c.loop-q.to.items) (lane_place x (c.loop-q.q % 7)) (lane_hash x (c.loop-q.q % 7))) read w.insert_entry.ensures.entries)
          w.insert_entry.ensures.len)
      | else-lane-group w ↦
          subst (λ v. Moved c.args.from.now v.items (length c.args.to.now.items) (c.loop-q.q + 1)) (sym w.to-is)
          (moved-past c.args.from.now c.loop-q.to.items (length c.args.to.now.items) c.loop-q.q c.loop-q.invariant (subst (λ (x : Group). x.count ≤ c.loop-q.q % 7) read w.if-lane-group.false))
    ]

pub returns : goal.returns
returns c = record {
  groups = c.loop-q.invariant.groups;
  entries = moved-all c.args.from.now c.loop-q.to.items (length c.args.to.now.items) c.loop-q.q c.loop-q.invariant (omega (arith, c.loop-q-test.false));
  len = c.loop-q.invariant.len;
  tight = c.loop-q.invariant.tight;
}
