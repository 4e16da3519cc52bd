use Rattle.std.specs.FinMap as finite
use Rattle.std.proofs.Common.{◌<◌, ◌^◌, ◌≡◌, ◌+◌, map, length, refl, arith, sym, ap, ◌∙◌, subst}
use Rattle.moka_store.proofs.Members.{counted-admitted}
use Rattle.std.specs.Option.{option_map, option_and_then}
use Rattle.moka_table.specs.declared.table.membership.Membership.{Membership}
use Rattle.moka_store.specs.Rows.{access_in, written_in, member_at}
use Rattle.moka_store.proofs.Slots.{slots-below}
use Rattle.moka_store.proofs.Orders.{enters}
use Rattle.moka_store.proofs.Fitting.{few_enough, listed_fits, node_fits, one_more_node, still_fit}
use Rattle.moka_store.proofs.Steps.{placed, unlisted, admitted}
use Rattle.moka_store.specs.WriteList.{Listing}
use Rattle.moka_store.specs.Weights.{IsWeighed}
use Rattle.moka_store.proofs.Weights.{weighed-pushed, weighed-fits}
use Rattle.moka_records.specs.Records.{counted_of}
use Rattle.std.proofs.lemmas.List.{length-map}
use Rattle.moka_store.specs.StoreTies.{AreNarrow}
use Rattle.moka_store.proofs.store.Store.admit.Goals as goal

pub push_back-access-requires : goal.push_back-access-requires
push_back-access-requires g c =
    let w = placed _ _ _ _ c.self.invariant.tied _ _ (rw (← c.self.view_is) at c.requires.placed) in
    let none = unlisted _ _ _ _ c.self.invariant.tied _ _ (rw (← c.self.view_is) at c.requires.placed) w (rw (← c.self.view_is) at c.requires.apart) in
    let below = slots-below access_in _ _ c.self.invariant.tied.listed _ w.row w.at_is (ap (option_map (λ (m : Membership). m.access)) none) in
    node_fits _ _ _ _ _ below c.self.invariant.fits

pub push_back-written-requires : goal.push_back-written-requires
push_back-written-requires g c =
    let w = placed _ _ _ _ c.self.invariant.tied _ _ (rw (← c.self.view_is) at c.requires.placed) in
    let none = unlisted _ _ _ _ c.self.invariant.tied _ _ (rw (← c.self.view_is) at c.requires.placed) w (rw (← c.self.view_is) at c.requires.apart) in
    let below = slots-below written_in _ _ c.self.invariant.written.listed _ w.row w.at_is (ap (option_and_then (λ (m : Membership). m.written)) none) in
    listed_fits _ _ _ _ _ _ below c.self.invariant.fits

pub set_membership-none-requires : goal.set_membership-none-requires
set_membership-none-requires g c =
    let w = placed _ _ _ _ c.self.invariant.tied _ _ (rw (← c.self.view_is) at c.requires.placed) in
    record { row = rw w.at_is refl; slots = record { access = c.push_back-access.ensures.positive; written = c.push_back-written.ensures.slot } }

pub invariant_of-self : goal.invariant_of-self
invariant_of-self g c =
    let w = placed _ _ _ _ c.self.invariant.tied _ _ (rw (← c.self.view_is) at c.requires.placed) in
    let none = unlisted _ _ _ _ c.self.invariant.tied _ _ (rw (← c.self.view_is) at c.requires.placed) w (rw (← c.self.view_is) at c.requires.apart) in
    let s = admitted _ g.met.K.Eq.laws _ _ _ _ _ c.self.invariant.tied w.row w.at_is (record { counted = c.args.weight; access = c.push_back-access.result; written = c.push_back-written.result }) _ none c.push_back-access.ensures.fresh c.push_back-access.ensures.members c.push_back-access.ensures.lookups (c.set_membership-none.ensures.changes _ w.at_is) in
    let p = c.push_back-written.ensures in
    let order = enters c.self.inside.table.rows c.set_membership-none.new.self.rows c.self.inside.written c.push_back-written.new.self c.self.inside.timers.timers c.self.invariant.written c.self.invariant.timed c.self.invariant.tied.numbered s.tied.numbered _ w.row w.at_is
    (record { counted = c.args.weight; access = c.push_back-access.result; written = c.push_back-written.result }) none (c.set_membership-none.ensures.changes _ w.at_is) p.kept p.fresh p.nodes p.lookups p.rest p.unkept p.cursor in
    let len = c.push_back-access.ensures.len in
    let room = c.push_back-access.ensures.room in
    let rows = c.set_membership-none.ensures.len in
    let most = ap (λ (l : Listing). l.most) p.rest in
    record { tied = s.tied; written = order.written; timed = order.timed; keyed = c.self.invariant.keyed ∙ sym (ap finite.len c.set_membership-none.ensures.records); fits = still_fit _ _ _ _ _ _ _ _ _ _ rows (one_more_node _ _ _ _ len room) most refl c.self.invariant.fits; few = c.push_back-access.ensures.few; narrow = subst AreNarrow (sym c.set_membership-none.ensures.places) c.self.invariant.narrow; weighed = subst (λ members. IsWeighed members (c.self.inside.weight + c.args.weight)) (sym s.access) (weighed-pushed w.row.number c.args.weight _ _ c.self.invariant.weighed (ap (λ n. counted_of n (map (member_at c.self.inside.table.rows) c.self.inside.access.members)) w.number_is ∙ (rw (← c.self.view_is) at c.requires.apart)) c.ranges.weight.fits) }

pub returns : goal.returns
returns g c =
    let w = placed _ _ _ _ c.self.invariant.tied _ _ (rw (← c.self.view_is) at c.requires.placed) in
    let none = unlisted _ _ _ _ c.self.invariant.tied _ _ (rw (← c.self.view_is) at c.requires.placed) w (rw (← c.self.view_is) at c.requires.apart) in
    let s = admitted _ g.met.K.Eq.laws _ _ _ _ _ c.self.invariant.tied w.row w.at_is (record { counted = c.args.weight; access = c.push_back-access.result; written = c.push_back-written.result }) _ none c.push_back-access.ensures.fresh c.push_back-access.ensures.members c.push_back-access.ensures.lookups (c.set_membership-none.ensures.changes _ w.at_is) in
    let p = c.push_back-written.ensures in
    let order = enters c.self.inside.table.rows c.set_membership-none.new.self.rows c.self.inside.written c.push_back-written.new.self c.self.inside.timers.timers c.self.invariant.written c.self.invariant.timed c.self.invariant.tied.numbered s.tied.numbered _ w.row w.at_is
    (record { counted = c.args.weight; access = c.push_back-access.result; written = c.push_back-written.result }) none (c.set_membership-none.ensures.changes _ w.at_is) p.kept p.fresh p.nodes p.lookups p.rest p.unkept p.cursor in
    let len = c.push_back-access.ensures.len in
    let room = c.push_back-access.ensures.room in
    let sum : length c.push_back-access.new.self.members + c.push_back-access.new.self.room ≡ length c.self.inside.access.members + c.self.inside.access.room = one_more_node _ _ _ _ len room in
    let most = ap (λ (l : Listing). l.most) p.rest in
    let ordered = ap (λ (l : Listing). l.ordered) p.rest in
    record {
      step = rw (s.access, order.written_is, order.cursor_is, order.timers_is, most, ordered, c.set_membership-none.ensures.records, c.set_membership-none.ensures.places, c.set_membership-none.ensures.len, c.set_membership-none.ensures.room, sum, w.number_is, ← c.self.view_is) refl;
      counted = λ n. rw (s.access, w.number_is, ← c.self.view_is) (counted-admitted c.args.handle.number n c.args.weight (map (member_at c.self.inside.table.rows) c.self.inside.access.members) (rw (← c.self.view_is) at c.requires.apart));
      places = rw (← c.self.view_is) c.set_membership-none.ensures.places;
      records = rw (← c.self.view_is) c.set_membership-none.ensures.records;
    }

pub overflow_add-self : goal.overflow_add-self
overflow_add-self g c =
    let fits = weighed-fits _ _ c.args.weight c.self.invariant.weighed (subst (λ n. n < 2 ^ 64) (sym (length-map c.self.inside.access.members (member_at c.self.inside.table.rows))) (few_enough _ c.self.invariant.few)) c.ranges.weight.fits in
    omega arith
