use Rattle.std.proofs.Common.{◌≡◌, is_some, refl, sym, ap, ◌∙◌, true≢false, arith, ℕ}
use Rattle.std.specs.FinMap as finite
use Rattle.moka_records.specs.Records.{counted_of, without_member, without_number}
use Rattle.moka_records.proofs.AccessList.{absent_taken_out, counted_taken_out}
use Rattle.moka_store.specs.Store.{Kept, cursor_past}
use Rattle.moka_records.proofs.WriteList.{unlisted_taken_out}
use Rattle.moka_maintenance.specs.Steps.{contents_in}
use Rattle.moka_maintenance.proofs.Upkeep.{upkeep-none, upkeep-left}
use Rattle.moka_maintenance.proofs.Placed.{no_row, rows-unplaced, rows-forgotten}
use Rattle.moka_maintenance.proofs.admission.apply_removal.Goals as goal
use Rattle.moka_store.proofs.Gets.{after_remove}

-- the number has left the orders and the timers, and then its row is given back
forgotten : {K V S : Type 0} (old mid new : Kept K V S) (n : ℕ) → mid ≡ record old { access = without_member n old.access; written = without_number n old.written; timers = finite.remove old.timers n; cursor = cursor_past n old.written old.cursor } → new ≡ record mid { places = finite.remove mid.places n; room = new.room }
    → new ≡ record old { access = without_member n old.access; written = without_number n old.written; timers = finite.remove old.timers n; cursor = cursor_past n old.written old.cursor; places = finite.remove old.places n; room = new.room }
forgotten {K} {V} {S} old mid new n left step = step ∙ ap (λ (k : Kept K V S). record k { places = finite.remove k.places n; room = new.room }) left

pub returns-then-not-has_row-clause-step : goal.returns-then-not-has_row-clause-step
returns-then-not-has_row-clause-step g c =
    let n = c.args.handle.number in
    let k = c.args.store.now in
    let none = no_row k.places n c.args.handle.place (counted_of n k.access) c.requires (c.has_row.ensures.members n) (λ here. absurd (true≢false (sym (c.has_row.ensures.placed.1 here) ∙ c.if-not-has_row.true))) in
    rw (absent_taken_out n k.access none) refl

pub returns-then-not-has_row-clause-rows : goal.returns-then-not-has_row-clause-rows
returns-then-not-has_row-clause-rows g c = λ generation.
    rows-unplaced c.args.store.now c.args.store.now c.args.handle.number generation c.args.handle.place c.requires
    (λ here. absurd (true≢false (sym (c.has_row.ensures.placed.1 here) ∙ c.if-not-has_row.true))) refl

pub forget-requires-clause-apart : goal.forget-requires-clause-apart
forget-requires-clause-apart g c = rw c.leave.ensures (counted_taken_out c.args.handle.number c.args.store.now.access)

pub returns-then-is_none-clause-rows : goal.returns-then-is_none-clause-rows
returns-then-is_none-clause-rows g c = λ generation.
    let whole = forgotten c.args.store.now c.leave.new.store c.forget.new.self c.args.handle.number c.leave.ensures c.forget.ensures.step in
    rows-forgotten c.args.store.now c.forget.new.self c.args.handle.number generation (ap (λ (k : Kept g.row.K.Denot g.row.V.Denot g.row.S.Denot). k.records) whole) (ap (λ (k : Kept g.row.K.Denot g.row.V.Denot g.row.S.Denot). k.places) whole)

pub returns-then-not-has_row-clause-written : goal.returns-then-not-has_row-clause-written
returns-then-not-has_row-clause-written g c = λ kept.
    let n = c.args.handle.number in
    let k = c.args.store.now in
    let none = no_row k.places n c.args.handle.place (counted_of n k.access) c.requires (c.has_row.ensures.members n) (λ here. absurd (true≢false (sym (c.has_row.ensures.placed.1 here) ∙ c.if-not-has_row.true))) in
    sym (unlisted_taken_out n k.written ((c.invariant_holds.ensures.listed kept).1 n ∙ ap is_some none))

pub returns-then-is_none-clause-written : goal.returns-then-is_none-clause-written
returns-then-is_none-clause-written g c = λ _. ap (λ (k : Kept g.row.K.Denot g.row.V.Denot g.row.S.Denot). k.written) c.forget.ensures.step ∙ ap (λ (k : Kept g.row.K.Denot g.row.V.Denot g.row.S.Denot). k.written) c.leave.ensures

pub returns-then-not-has_row-clause-upkeep : goal.returns-then-not-has_row-clause-upkeep
returns-then-not-has_row-clause-upkeep g c = upkeep-none c.args.store.now

pub returns-then-is_none-clause-upkeep : goal.returns-then-is_none-clause-upkeep
returns-then-is_none-clause-upkeep g c =
    let old = c.args.store.now in
    let n = c.args.handle.number in
    let same = ap (λ (k : Kept g.row.K.Denot g.row.V.Denot g.row.S.Denot). k.room) c.leave.ensures in
    let more = c.forget.ensures.room in
    upkeep-left old c.forget.new.self n c.forget.new.self.room (finite.remove old.places n) (forgotten c.args.store.now c.leave.new.store c.forget.new.self c.args.handle.number c.leave.ensures c.forget.ensures.step) (λ k p at. (after_remove old.places n k p at).1) (omega arith)

pub returns-else-is_none-clause-upkeep : goal.returns-else-is_none-clause-upkeep
returns-else-is_none-clause-upkeep g c =
    upkeep-left c.args.store.now c.leave.new.store c.args.handle.number c.args.store.now.room c.args.store.now.places c.leave.ensures (λ k p at. at) (omega arith)

pub returns-then-is_none-clause-step : goal.returns-then-is_none-clause-step
returns-then-is_none-clause-step g c = ap (λ (k : Kept g.row.K.Denot g.row.V.Denot g.row.S.Denot). contents_in k) c.forget.ensures.step ∙ ap (λ (k : Kept g.row.K.Denot g.row.V.Denot g.row.S.Denot). contents_in k) c.leave.ensures

pub returns-else-is_none-clause-step : goal.returns-else-is_none-clause-step
returns-else-is_none-clause-step g c = ap (λ (k : Kept g.row.K.Denot g.row.V.Denot g.row.S.Denot). contents_in k) c.leave.ensures

pub returns-else-is_none-clause-written : goal.returns-else-is_none-clause-written
returns-else-is_none-clause-written g c = λ _. ap (λ (k : Kept g.row.K.Denot g.row.V.Denot g.row.S.Denot). k.written) c.leave.ensures
