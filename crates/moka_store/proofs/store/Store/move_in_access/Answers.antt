use Rattle.std.proofs.Common.{map, refl, sym, ◌∙◌, subst}
use Rattle.moka_records.proofs.AccessList.{counted-to_back}
use Rattle.moka_store.proofs.Steps.{member-there, member-row, member-node, moved}
use Rattle.moka_store.specs.Rows.{member_at}
use Rattle.moka_store.specs.Weights.{IsWeighed}
use Rattle.moka_store.proofs.Weights.{weighed-to_back}
use Rattle.moka_store.proofs.Fitting.{still_fit}
use Rattle.moka_store.proofs.store.Store.move_in_access.Goals as goal

pub unreachable-requires : goal.unreachable-requires
unreachable-requires g c =
    member-there _ _ _ _ c.self.invariant.tied _ _ (rw (← c.self.view_is) at c.requires.placed) (rw (← c.self.view_is) at c.requires.member) (sym c.membership.ensures.membership ∙ c.in_default.is)

pub move_to_back-requires : goal.move_to_back-requires
move_to_back-requires g c = member-node _ _ _ _ c.self.invariant.tied _ _ (rw (← c.self.view_is) at c.requires.placed) _ (sym c.membership.ensures.membership ∙ c.in-Some.is)

pub invariant_of-self : goal.invariant_of-self
invariant_of-self g c =
    let w = member-row _ _ _ _ c.self.invariant.tied _ _ (rw (← c.self.view_is) at c.requires.placed) _ (sym c.membership.ensures.membership ∙ c.in-Some.is) in
    let s = moved _ _ _ _ _ _ c.self.invariant.tied w.row w.at_is c.in-Some.found w.membership_is (c.move_to_back.ensures.members _ w.node_is) c.move_to_back.ensures.lookups in
    let len = c.move_to_back.ensures.len in
    let room = c.move_to_back.ensures.room in
    record { tied = s.tied; written = c.self.invariant.written; timed = c.self.invariant.timed; keyed = c.self.invariant.keyed; fits = still_fit _ _ _ _ _ _ _ _ _ _ refl (rw (len, room) refl) refl refl c.self.invariant.fits; few = rw len c.self.invariant.few; narrow = c.self.invariant.narrow; weighed = subst (λ members. IsWeighed members c.self.inside.weight) (sym s.access) (weighed-to_back w.row.number _ _ c.self.invariant.weighed) }

pub returns : goal.returns
returns g c =
    let w = member-row _ _ _ _ c.self.invariant.tied _ _ (rw (← c.self.view_is) at c.requires.placed) _ (sym c.membership.ensures.membership ∙ c.in-Some.is) in
    let s = moved _ _ _ _ _ _ c.self.invariant.tied w.row w.at_is c.in-Some.found w.membership_is (c.move_to_back.ensures.members _ w.node_is) c.move_to_back.ensures.lookups in
    record {
      step = rw (s.access, c.move_to_back.ensures.len, c.move_to_back.ensures.room, w.number_is, ← c.self.view_is) refl;
      counted = λ n. rw (s.access, w.number_is, ← c.self.view_is) (counted-to_back c.args.handle.number n (map (member_at c.self.inside.table.rows) c.self.inside.access.members));
      places = rw (← c.self.view_is) refl;
      records = rw (← c.self.view_is) refl;
    }
