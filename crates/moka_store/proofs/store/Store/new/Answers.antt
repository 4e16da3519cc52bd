use Rattle.std.specs.FinMap as finite
use Rattle.std.specs.Ordering.{nat_cmp}
use Rattle.std.proofs.Common.{◌≡◌, ℕ, None, Some, ap, arith, refl, sym, ◌∙◌}
use Rattle.moka_store.proofs.Weights.{weighed-empty}
use Rattle.moka_store.specs.WriteList.{Listing}
use Rattle.moka_store.specs.Timers.{Timing}
use Rattle.moka_store.proofs.Orders.{written-empty, timed-empty}
use Rattle.moka_store.specs.Rows.{written_of, cursor_of, timers_of}
use Rattle.moka_store.proofs.Steps.{tied-empty}
use Rattle.moka_store.proofs.store.Store.new.Goals as goal

pub invariant_of-result : goal.invariant_of-result
invariant_of-result g c =
    record {
      tied = tied-empty _ _ _ _ c.new-5.ensures.rows c.new-4.ensures.entries c.in_ok-access.ensures;
      written = written-empty _ _ c.new-5.ensures.rows (ap (λ (l : Listing). l.nodes) c.in_ok-written.ensures) (ap (λ (l : Listing). l.cursor) c.in_ok-written.ensures);
      timed = timed-empty _ _ c.new-5.ensures.rows (ap (λ (t : Timing). t.timers) c.in_ok-timers.ensures);
      keyed = ap finite.len c.new-4.ensures.entries ∙ finite.len-empty nat_cmp _ ∙ sym (ap finite.len c.new-5.ensures.records ∙ finite.len-empty nat_cmp _);
      fits = rw c.new-5.ensures.rows (omega arith);
      few = rw c.in_ok-access.ensures (omega arith);
      narrow = λ n place there.
          let none : finite.get (finite.empty {X = ℕ} {R = nat_cmp}) n ≡ None = finite.get-empty nat_cmp n in
          let same = ap (λ places. finite.get places n) c.new-5.ensures.places in
          let impossible : None ≡ Some place = sym none ∙ sym same ∙ there in
          absurd (cc);
      weighed = rw c.in_ok-access.ensures weighed-empty;
    }

pub returns-clause-empty : goal.returns-clause-empty
unfolding written_of cursor_of timers_of
returns-clause-empty g c =
    let nodes = ap (λ (l : Listing). l.nodes) c.in_ok-written.ensures in
    let cursor = ap (λ (l : Listing). l.cursor) c.in_ok-written.ensures in
    let ordered = ap (λ (l : Listing). l.ordered) c.in_ok-written.ensures in
    let timed = ap (λ (t : Timing). t.timed) c.in_ok-timers.ensures in
    rw (c.new-5.ensures.records, c.new-5.ensures.places, c.new-5.ensures.rows, nodes, cursor, ordered, timed, c.in_ok-access.ensures) refl
