use Rattle.std.proofs.Common.{◌≡◌, ◌==◌, Bool, true, false, true≢false, not, None, Some, Option, IfSome, is_none, is_some, option_map, inl, inr, refl, sym, ap, subst, ◌∙◌, arith}
use Rattle.std.specs.List.{IsDistinct}
use Rattle.moka_store.specs.declared.store.Handle.{Handle}
use Rattle.moka_records.specs.Records.{counted_of, is_listed}
use Rattle.moka_store.specs.Store.{Kept, IsPlaced, IsOrdered}
use Rattle.moka_maintenance.specs.Scan.{IsWalked}
use Rattle.moka_maintenance.proofs.Walked.{at_most_one, walked-none, walked-on, walked-cursor, next-ordered, turn_keeps}
use Rattle.moka_maintenance.proofs.Upkeep.{untimed-none, untimed-on, untimed-moved}
use Rattle.moka_maintenance.proofs.scan.scan_along.Goals as goal
use Rattle.moka_maintenance.proofs.scan.scan_along.Goals.{then-loop-passed-test+else-looked-reach, else-loop-passed-test, then-loop-passed-test+then-looked-reach+in_default}

-- the next member has its row, and stands in the order of writing
module _ {K V S : Type 0} (k : Kept K V S) where
  next_placed : (o : Option Handle) → IfSome o (IsOrdered k) → IfSome o (IsPlaced k)
  next_placed None h = tt
  next_placed (Some handle) h = h.placed

  next_listed : (o : Option Handle) → IfSome o (IsOrdered k) → IfSome o (λ h. is_listed h.number k.written ≡ true)
  next_listed None h = tt
  next_listed (Some handle) h = h.listed

-- whether the walk came to the end
ended_by : (o : Option Handle) (b : Bool) → is_some o ≡ not b → b ≡ is_none (option_map (λ h. h.number) o)
ended_by None true e = refl
ended_by None false e = cc
ended_by (Some handle) true e = cc
ended_by (Some handle) false e = refl

is_ended : (o : Option Handle) (b : Bool) → o ≡ None → is_some o ≡ not b → b ≡ true
is_ended None true none e = refl
is_ended None false none e = cc
is_ended (Some handle) b none e = cc

pub loop-passed-init : goal.loop-passed-init
loop-passed-init g c = record {
  walked = λ before rest list at. walked-none g.L.Listener.tells g.P.PredicateFn.says c.args.invalidator.now c.args.store.now c.args.notifier.now before rest (option_map (λ (h : Handle). h.number) c.args.reach.start) list at;
  ordered = c.requires.ordered;
  once = c.requires.once;
  most = omega arith;
  few = omega arith;
  batch = omega arith;
  upkeep = untimed-none c.args.store.now;
}

pub loop-passed-preserved : goal.loop-passed-preserved
loop-passed-preserved g c =
    let inv = c.loop-passed.invariant in
    let mid = c.loop-passed.store in
    let new = c.look_at.new.store in
    let n = c.in-Some.handle.number in
    let next = c.next_written-next in
    let turn = c.look_at.ensures in
    let keeps = turn_keeps g.L.Listener.tells g.P.PredicateFn.says c.args.invalidator.now mid new c.loop-passed.notifier c.look_at.new.notifier n c.look_at.result turn in
    let few = at_most_one c.look_at.result c.from-looked.result c.from-looked.ensures in
    record {
      walked = λ before rest list at.
          walked-on g.L.Listener.tells g.P.PredicateFn.says c.args.invalidator.now c.args.store.now c.args.notifier.now before rest mid c.loop-passed.notifier _ _ n c.loop-passed.looked c.loop-passed.passed
          (inv.walked before rest list at) (ap (option_map (λ (h : Handle). h.number)) c.in-Some.is) next.ensures.next inv.once c.look_at.result new c.look_at.new.notifier c.from-looked.result c.from-looked.ensures turn;
      ordered = next-ordered mid new n keeps inv.once next.result next.ensures.next next.ensures.ordered;
      once = keeps.once inv.once;
      most = (let some = c.loop-passed-test.true in omega arith);
      few = (let f = inv.few in omega arith);
      batch = (let some = c.if-looked-reach.true in omega arith);
      upkeep = untimed-on c.args.store.now mid new inv.upkeep keeps.upkeep;
    }

pub returns-clause-walked : goal.returns-clause-walked
returns-clause-walked g c before rest list at =
    let next = option_map (λ (h : Handle). h.number) c.loop-passed.next in
    let done = walked-cursor g.L.Listener.tells g.P.PredicateFn.says c.args.invalidator.now c.args.store.now c.args.notifier.now before rest c.loop-passed.store c.loop-passed.notifier next next c.loop-passed.looked c.loop-passed.passed (c.loop-passed.invariant.walked before rest list at) in
    subst (λ (s : Kept g.row.K.Denot g.row.V.Denot g.row.S.Denot). IsWalked g.L.Listener.tells g.P.PredicateFn.says c.args.invalidator.now c.args.store.now s c.args.notifier.now c.loop-passed.notifier before rest s.cursor c.loop-passed.looked c.loop-passed.passed) (sym c.set_cursor.ensures) done

pub overflow_add-passed : goal.overflow_add-passed
overflow_add-passed g c = let some = c.loop-passed-test.true in omega arith

pub overflow_add-looked : goal.overflow_add-looked
overflow_add-looked g c = let few = at_most_one c.look_at.result c.from-looked.result c.from-looked.ensures in let some = c.if-looked-reach.true in omega arith

pub loop-passed-smaller : goal.loop-passed-smaller
loop-passed-smaller g c = let some = c.loop-passed-test.true in omega arith

pub next_written-next-requires : goal.next_written-next-requires
next_written-next-requires g c =
    let here = subst (λ o. IfSome o (IsOrdered c.loop-passed.store)) c.in-Some.is c.loop-passed.invariant.ordered in
    record { placed = here.placed; member = here.member }

pub set_cursor-requires : goal.set_cursor-requires
set_cursor-requires g c = record {
  placed = next_placed c.loop-passed.store c.loop-passed.next c.loop-passed.invariant.ordered;
  listed = next_listed c.loop-passed.store c.loop-passed.next c.loop-passed.invariant.ordered;
}

pub returns-clause-stretch : goal.returns-clause-stretch
returns-clause-stretch g c =
    let inv = c.loop-passed.invariant in
    let mid = c.loop-passed.store in
    let new = c.set_cursor.new.self in
    let most = c.args.reach.most in
    let batch = c.args.reach.batch in
    let passed = c.loop-passed.passed in
    let looked = c.loop-passed.looked in
    record {
      ended = ended_by c.loop-passed.next c.is_none-is_end.result c.is_none-is_end.ensures ∙ ap (λ (k : Kept g.row.K.Denot g.row.V.Denot g.row.S.Denot). is_none k.cursor) (sym c.set_cursor.ensures);
      stopped = λ more. elim c.loop-passed-test.branch [
        | then-loop-passed-test+else-looked-reach w ↦ inr w.if-looked-reach.false
        | else-loop-passed-test w ↦ inl w.loop-passed-test.false
        | then-loop-passed-test+then-looked-reach+in_default w ↦ absurd (true≢false (sym (is_ended c.loop-passed.next c.is_none-is_end.result w.in_default.is c.is_none-is_end.ensures) ∙ more))
      ];
      few = inv.most;
      used = inv.batch;
      once = subst (λ (k : Kept g.row.K.Denot g.row.V.Denot g.row.S.Denot). IsDistinct (◌==◌) k.written) (sym c.set_cursor.ensures) inv.once;
      upkeep =
          untimed-on c.args.store.now mid new inv.upkeep
          (untimed-moved mid new c.set_cursor.ensures (λ k. ap (λ (s : Kept g.row.K.Denot g.row.V.Denot g.row.S.Denot). counted_of k s.access) c.set_cursor.ensures));
    }
