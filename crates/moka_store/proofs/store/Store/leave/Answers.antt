use Rattle.std.specs.FinMap as finite
use Rattle.std.proofs.Common.{ℕ, ◌<◌, ◌^◌, ◌-◌, ◌==◌, cond, None, ◌≡◌, ◌+◌, IsSome, map, length, refl, sym, ◌∙◌, arith, ap, subst}
use Rattle.moka_links.proofs.FinMaps.{get-removed}
use Rattle.moka_store.proofs.Members.{counted-without}
use Rattle.moka_store.proofs.Orders.{leaves}
use Rattle.moka_store.proofs.Fitting.{one_node_less, still_fit}
use Rattle.moka_store.proofs.Steps.{placed, member-there, member-row, member-node, member-slot, left}
use Rattle.moka_store.proofs.Timed.{timer-free}
use Rattle.moka_store.specs.WriteList.{Listing}
use Rattle.moka_store.specs.Store.{Kept, cursor_past}
use Rattle.moka_store.specs.Rows.{member_at}
use Rattle.moka_store.specs.Weights.{IsWeighed}
use Rattle.moka_store.proofs.Weights.{weighed-without, weighed-least}
use Rattle.moka_records.specs.Records.{counted_of, without_member, without_number}
use Rattle.moka_store.specs.StoreTies.{AreNarrow}
use Rattle.moka_store.proofs.store.Store.leave.Goals as goal

-- one node less is as few
still_few : (nodes nodes' : ℕ) → nodes' + 1 ≡ nodes → nodes < 2 ^ 32 → nodes' < 2 ^ 32
still_few nodes nodes' len few = omega arith

pub clear_membership-requires : goal.clear_membership-requires
clear_membership-requires g c =
    let same = c.self.view_is ∙ c.clear_timer.ensures in
    let w = placed _ _ _ _ c.self.invariant.tied _ _ (ap (λ (k : Kept _ _ _). finite.get k.places c.args.handle.number) same ∙ c.requires.placed) in
    rw w.at_is refl

pub unreachable-requires : goal.unreachable-requires
unreachable-requires g c =
    let same = c.self.view_is ∙ c.clear_timer.ensures in
    let there = ap (λ (k : Kept _ _ _). finite.get k.places c.args.handle.number) same ∙ c.requires.placed in
    let member = subst (λ (k : Kept _ _ _). IsSome (counted_of c.args.handle.number k.access)) (sym same) c.requires.member in
    member-there _ _ _ _ c.self.invariant.tied _ _ there member (sym c.clear_membership.ensures.old ∙ c.in_default.is)

pub unlink-place-requires : goal.unlink-place-requires
unlink-place-requires g c = member-node _ _ _ _ c.self.invariant.tied _ _ (ap (λ (k : Kept _ _ _). finite.get k.places c.args.handle.number) (c.self.view_is ∙ c.clear_timer.ensures) ∙ c.requires.placed) _ (sym c.clear_membership.ensures.old ∙ c.in-Some.is)

pub unlink-requires : goal.unlink-requires
unlink-requires g c = member-slot _ _ _ _ c.self.invariant.tied _ _ (ap (λ (k : Kept _ _ _). finite.get k.places c.args.handle.number) (c.self.view_is ∙ c.clear_timer.ensures) ∙ c.requires.placed) c.self.inside.written c.self.invariant.written _ (sym c.clear_membership.ensures.old ∙ c.in-Some.is)

pub invariant_of-self : goal.invariant_of-self
invariant_of-self g c =
    let same = c.self.view_is ∙ c.clear_timer.ensures in
    let w = member-row _ _ _ _ c.self.invariant.tied _ _ (ap (λ (k : Kept _ _ _). finite.get k.places c.args.handle.number) same ∙ c.requires.placed) _ (sym c.clear_membership.ensures.old ∙ c.in-Some.is) in
    let s = left _ g.met.K.Eq.laws _ _ _ _ _ c.self.invariant.tied w.row w.at_is c.in-Some.membership _ w.membership_is c.unlink-place.ensures.members c.unlink-place.ensures.lookups (c.clear_membership.ensures.changes _ w.at_is) in
    let free = timer-free c.self.inside.table.rows c.self.inside.timers.timers c.self.invariant.timed _ w.row w.at_is c.self.invariant.tied.numbered (ap (λ (k : Kept _ _ _). finite.get k.timers w.row.number) same ∙ ap (λ n. finite.get (finite.remove c.args.self.now.timers c.args.handle.number) n) w.number_is ∙ get-removed c.args.self.now.timers c.args.handle.number) in
    let p = c.unlink.ensures in
    let order = leaves c.self.inside.table.rows c.clear_membership.new.self.rows c.self.inside.written c.unlink.new.self c.self.inside.timers.timers c.self.invariant.written c.self.invariant.timed c.self.invariant.tied.numbered s.tied.numbered _ w.row w.at_is c.in-Some.membership w.membership_is free (c.clear_membership.ensures.changes _ w.at_is) p.nodes p.lookups p.rest p.absent p.cursor in
    let len = c.unlink-place.ensures.len in
    let room = c.unlink-place.ensures.room in
    let rows = c.clear_membership.ensures.len in
    let most = ap (λ (l : Listing). l.most) p.rest in
    record { tied = s.tied; written = order.written; timed = order.timed; keyed = c.self.invariant.keyed ∙ sym (ap finite.len c.clear_membership.ensures.records); fits = still_fit _ _ _ _ _ _ _ _ _ _ rows (one_node_less _ _ _ _ len room) most refl c.self.invariant.fits; few = still_few _ _ len c.self.invariant.few; narrow = subst AreNarrow (sym c.clear_membership.ensures.places) c.self.invariant.narrow; weighed = subst (λ members. IsWeighed members (c.self.inside.weight - c.in-Some.membership.counted)) (sym s.access) (weighed-without w.row.number _ _ _ c.self.invariant.weighed (ap (λ n. counted_of n (map (member_at c.self.inside.table.rows) c.self.inside.access.members)) w.number_is ∙ w.counted_is)) }

pub returns : goal.returns
returns g c =
    let same = c.self.view_is ∙ c.clear_timer.ensures in
    let w = member-row _ _ _ _ c.self.invariant.tied _ _ (ap (λ (k : Kept _ _ _). finite.get k.places c.args.handle.number) same ∙ c.requires.placed) _ (sym c.clear_membership.ensures.old ∙ c.in-Some.is) in
    let s = left _ g.met.K.Eq.laws _ _ _ _ _ c.self.invariant.tied w.row w.at_is c.in-Some.membership _ w.membership_is c.unlink-place.ensures.members c.unlink-place.ensures.lookups (c.clear_membership.ensures.changes _ w.at_is) in
    let free = timer-free c.self.inside.table.rows c.self.inside.timers.timers c.self.invariant.timed _ w.row w.at_is c.self.invariant.tied.numbered (ap (λ (k : Kept _ _ _). finite.get k.timers w.row.number) same ∙ ap (λ n. finite.get (finite.remove c.args.self.now.timers c.args.handle.number) n) w.number_is ∙ get-removed c.args.self.now.timers c.args.handle.number) in
    let p = c.unlink.ensures in
    let order = leaves c.self.inside.table.rows c.clear_membership.new.self.rows c.self.inside.written c.unlink.new.self c.self.inside.timers.timers c.self.invariant.written c.self.invariant.timed c.self.invariant.tied.numbered s.tied.numbered _ w.row w.at_is c.in-Some.membership w.membership_is free (c.clear_membership.ensures.changes _ w.at_is) p.nodes p.lookups p.rest p.absent p.cursor in
    let len = c.unlink-place.ensures.len in
    let room = c.unlink-place.ensures.room in
    let most = ap (λ (l : Listing). l.most) p.rest in
    let ordered = ap (λ (l : Listing). l.ordered) p.rest in
    let sum : length c.unlink-place.new.self.members + c.unlink-place.new.self.room ≡ length c.self.inside.access.members + c.self.inside.access.room = one_node_less _ _ _ _ len room in
    record {
      step = rw (s.access, order.written_is, order.cursor_is, order.timers_is, most, ordered, c.clear_membership.ensures.records, c.clear_membership.ensures.places, c.clear_membership.ensures.len, c.clear_membership.ensures.room, sum, w.number_is)
          (ap (λ (k : Kept _ _ _). record k { access = without_member c.args.handle.number k.access; written = without_number c.args.handle.number k.written; cursor = cursor_past c.args.handle.number k.written k.cursor }) same);
      counted = λ n. rw (s.access, w.number_is) (counted-without c.args.handle.number n (map (member_at c.self.inside.table.rows) c.self.inside.access.members) ∙ ap (λ (k : Kept _ _ _). cond (n == c.args.handle.number) None (counted_of n k.access)) same);
      places = c.clear_membership.ensures.places ∙ ap (λ (k : Kept _ _ _). k.places) same;
      records = c.clear_membership.ensures.records ∙ ap (λ (k : Kept _ _ _). k.records) same;
    }

pub overflow_sub-self : goal.overflow_sub-self
overflow_sub-self g c =
    let same = c.self.view_is ∙ c.clear_timer.ensures in
    let w = member-row _ _ _ _ c.self.invariant.tied _ _ (ap (λ (k : Kept _ _ _). finite.get k.places c.args.handle.number) same ∙ c.requires.placed) _ (sym c.clear_membership.ensures.old ∙ c.in-Some.is) in
    weighed-least _ _ _ _ c.self.invariant.weighed w.counted_is
