use Rattle.std.specs.FinMap.{get, get-empty, len, remove}
use Rattle.std.specs.Ordering.{nat_cmp}
use Rattle.std.proofs.Common.{◌≡◌, ◌+◌, Some, None, IfSome, IfNone, refl, sym, ap, ◌∙◌, arith}
use Rattle.moka_wheel.specs.declared.timer_wheel.TimerWheel.{TimerWheel}
use Rattle.moka_store.proofs.Gets.{len-removed, len-some}
use Rattle.moka_store.proofs.timers.Timers.due.Goals as goal

pub returns-in_err-as_mut-clause-none : goal.returns-in_err-as_mut-clause-none
returns-in_err-as_mut-clause-none c =
    let none : c.self.inside.wheel ≡ None = sym c.in_err-as_mut.ensures.value in
    rw (c.from_residual.ensures, ← c.self.view_is, none) (λ slot timer e. (let bad : None ≡ Some timer = sym (get-empty nat_cmp slot) ∙ e in cc))

pub returns-clause-rest : goal.returns-clause-rest
returns-clause-rest c =
    let some : c.self.inside.wheel ≡ Some c.in_ok-as_mut.field-0.now = sym c.in_ok-as_mut.ensures.value in
    let old = c.in_ok-as_mut.field-0.now in
    let new = c.advance.new.self in
    let e = c.advance.ensures in
    let most : len new.timers + new.room ≡ len old.timers + old.room = elim c.advance.result as (λ o. IfSome o (λ d. get old.timers d.slot ≡ Some (record { number = d.number; at = d.at }))
    → IfSome o (λ d. new.timers ≡ remove old.timers d.slot) → IfSome o (λ _. new.room ≡ old.room + 1) → IfNone o (new ≡ old) → len new.timers + new.room ≡ len old.timers + old.room) [
      | None ↦ λ _ _ _ same. ap (λ (w : TimerWheel). len w.timers + w.room) same
      | Some d ↦ λ there timers room _. (
          let less = ap len timers ∙ len-removed old.timers d.slot _ there in
          let some = len-some old.timers d.slot _ there in
          omega arith)
    ] e.due e.timers e.room e.unchanged in
    rw (most, ← c.self.view_is, some) refl
