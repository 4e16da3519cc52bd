use Rattle.std.specs.FinMap as finite
use Rattle.std.proofs.Common.{◌<◌, ◌^◌, ◌-◌, ◌+◌, map, refl, sym, ◌∙◌, arith, ap, subst, Some, is_some}
use Rattle.std.specs.Option.{option_and_then}
use Rattle.moka_table.specs.declared.table.membership.Membership.{Membership}
use Rattle.moka_store.specs.WriteList.{Listing}
use Rattle.moka_store.proofs.Orders.{stays-row, moves}
use Rattle.moka_store.proofs.Fitting.{few_enough, still_fit}
use Rattle.moka_store.proofs.Members.{counted-recounted}
use Rattle.moka_store.proofs.Steps.{member-there, member-row, member-node, member-slot, recounted}
use Rattle.moka_store.specs.Rows.{member_at}
use Rattle.moka_store.specs.Weights.{IsWeighed}
use Rattle.moka_store.proofs.Weights.{weighed-recounted, weighed-least, weighed-fits}
use Rattle.moka_records.specs.Records.{counted_of}
use Rattle.std.proofs.lemmas.List.{length-map}
use Rattle.moka_store.specs.StoreTies.{AreNarrow}
use Rattle.moka_store.proofs.store.Store.recount.Goals as goal

pub unreachable-requires : goal.unreachable-requires
unreachable-requires g c =
    member-there _ _ _ _ c.self.invariant.tied _ _ (rw (← c.self.view_is) at c.requires.placed) (rw (← c.self.view_is) at c.requires.member) (sym c.membership.ensures.membership ∙ c.in_default.is)

pub move_to_back-requires : goal.move_to_back-requires
move_to_back-requires g c = member-node _ _ _ _ c.self.invariant.tied _ _ (rw (← c.self.view_is) at c.requires.placed) _ (sym c.membership.ensures.membership ∙ c.in-Some.is)

pub move_to_back-requires-2 : goal.move_to_back-requires-2
move_to_back-requires-2 g c = member-slot _ _ _ _ c.self.invariant.tied _ _ (rw (← c.self.view_is) at c.requires.placed) c.self.inside.written c.self.invariant.written _ (sym c.membership.ensures.membership ∙ c.in-Some.is)

pub invariant_of-self : goal.invariant_of-self
invariant_of-self g c =
    let w = member-row _ _ _ _ c.self.invariant.tied _ _ (rw (← c.self.view_is) at c.requires.placed) _ (sym c.membership.ensures.membership ∙ c.in-Some.is) in
    let s = recounted _ g.met.K.Eq.laws _ _ _ _ _ c.self.invariant.tied w.row w.at_is c.in-Some.before c.args.weight _ w.membership_is (c.move_to_back.ensures.members _ w.node_is) c.move_to_back.ensures.lookups (c.set_counted.ensures.changes _ _ w.at_is w.membership_is) in
    let p = c.move_to_back-2.ensures in
    let changes = c.set_counted.ensures.changes _ _ w.at_is w.membership_is in
    let slot = ap (option_and_then (λ (m : Membership). m.written)) w.membership_is in
    let stay = stays-row c.self.inside.table.rows c.set_counted.new.self.rows c.self.inside.written c.self.inside.timers.timers c.self.invariant.written c.self.invariant.timed c.self.invariant.tied.numbered s.tied.numbered _ w.row (record w.row { membership = Some (record c.in-Some.before { counted = c.args.weight }) }) w.at_is changes refl refl (sym slot) (sym (ap is_some w.membership_is)) in
    let order = moves c.set_counted.new.self.rows c.self.inside.written c.move_to_back-2.new.self stay.written s.tied.numbered _ (record w.row { membership = Some (record c.in-Some.before { counted = c.args.weight }) }) changes.changed c.in-Some.before.written refl p.nodes p.lookups p.rest p.absent p.cursor in
    let len = c.move_to_back.ensures.len in
    let room = c.move_to_back.ensures.room in
    let rows = c.set_counted.ensures.len in
    let most = ap (λ (l : Listing). l.most) p.rest in
    record { tied = s.tied; written = order.written; timed = stay.timed; keyed = c.self.invariant.keyed ∙ sym (ap finite.len c.set_counted.ensures.records); fits = still_fit _ _ _ _ _ _ _ _ _ _ rows (rw (len, room) refl) most refl c.self.invariant.fits; few = rw len c.self.invariant.few; narrow = subst AreNarrow (sym c.set_counted.ensures.places) c.self.invariant.narrow; weighed = subst (λ members. IsWeighed members (c.self.inside.weight - c.in-Some.before.counted + c.args.weight)) (sym s.access) (weighed-recounted w.row.number _ c.args.weight _ _ c.self.invariant.weighed (ap (λ n. counted_of n (map (member_at c.self.inside.table.rows) c.self.inside.access.members)) w.number_is ∙ w.counted_is) c.ranges.weight.fits) }

pub returns : goal.returns
returns g c =
    let w = member-row _ _ _ _ c.self.invariant.tied _ _ (rw (← c.self.view_is) at c.requires.placed) _ (sym c.membership.ensures.membership ∙ c.in-Some.is) in
    let s = recounted _ g.met.K.Eq.laws _ _ _ _ _ c.self.invariant.tied w.row w.at_is c.in-Some.before c.args.weight _ w.membership_is (c.move_to_back.ensures.members _ w.node_is) c.move_to_back.ensures.lookups (c.set_counted.ensures.changes _ _ w.at_is w.membership_is) in
    let p = c.move_to_back-2.ensures in
    let changes = c.set_counted.ensures.changes _ _ w.at_is w.membership_is in
    let slot = ap (option_and_then (λ (m : Membership). m.written)) w.membership_is in
    let stay = stays-row c.self.inside.table.rows c.set_counted.new.self.rows c.self.inside.written c.self.inside.timers.timers c.self.invariant.written c.self.invariant.timed c.self.invariant.tied.numbered s.tied.numbered _ w.row (record w.row { membership = Some (record c.in-Some.before { counted = c.args.weight }) }) w.at_is changes refl refl (sym slot) (sym (ap is_some w.membership_is)) in
    let order = moves c.set_counted.new.self.rows c.self.inside.written c.move_to_back-2.new.self stay.written s.tied.numbered _ (record w.row { membership = Some (record c.in-Some.before { counted = c.args.weight }) }) changes.changed c.in-Some.before.written refl p.nodes p.lookups p.rest p.absent p.cursor in
    let most = ap (λ (l : Listing). l.most) p.rest in
    let ordered = ap (λ (l : Listing). l.ordered) p.rest in
    record {
      step = rw (s.access, order.written_is, order.cursor_is, stay.written_is, stay.cursor_is, stay.timers_is, most, ordered, c.set_counted.ensures.records, c.set_counted.ensures.places, c.set_counted.ensures.len, c.set_counted.ensures.room, c.move_to_back.ensures.len, c.move_to_back.ensures.room, w.number_is, ← c.self.view_is) refl;
      counted = λ n. rw (s.access, w.number_is, ← c.self.view_is) (counted-recounted c.args.handle.number n c.args.weight (map (member_at c.self.inside.table.rows) c.self.inside.access.members));
      places = rw (← c.self.view_is) c.set_counted.ensures.places;
      records = rw (← c.self.view_is) c.set_counted.ensures.records;
    }

pub overflow_sub-self : goal.overflow_sub-self
overflow_sub-self g c =
    let w = member-row _ _ _ _ c.self.invariant.tied _ _ (rw (← c.self.view_is) at c.requires.placed) _ (sym c.membership.ensures.membership ∙ c.in-Some.is) in
    weighed-least _ _ _ _ c.self.invariant.weighed w.counted_is

pub overflow_add-self : goal.overflow_add-self
overflow_add-self g c =
    let fits = weighed-fits _ _ c.args.weight c.self.invariant.weighed (subst (λ n. n < 2 ^ 64) (sym (length-map c.self.inside.access.members (member_at c.self.inside.table.rows))) (few_enough _ c.self.invariant.few)) c.ranges.weight.fits in
    omega arith
