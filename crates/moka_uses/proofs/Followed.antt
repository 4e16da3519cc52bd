-- What follows from the laws for a list of calls that was driven.
use Rattle.std.proofs.Common.{◌≡◌, List, Result, Ok, Err, ap, sym, subst}
use Rattle.std.specs.Prelude.{Contains, IfOk}
use Rattle.moka_engine.specs.parts.Call.{Call}
use Rattle.moka_engine.specs.parts.Reply.{Reply}
use Rattle.moka_engine.specs.Drives.{Drives}
use Rattle.moka_engine.specs.Laws.{ListsAreOfReference, ListsKeepOrder, PredicatesLeaveIdle}
use Rattle.moka_engine.specs.Order.{IsInOrder}
use Rattle.moka_engine.specs.Runs.{Engine, last_state}
use Rattle.moka_engine.specs.Settling.{IsValid}
use Rattle.moka_engine.specs.State.{Meaning}
use Rattle.moka_uses.specs.Driven.{Follows}

-- what a success promises leads to another promise
pub if_ok : {A E : Type 0} (First Second : A → Type 0) → ((a : A) → First a → Second a) → (r : Result A E) → IfOk r First → IfOk r Second
if_ok First Second leads (Ok a) first = leads a first
if_ok First Second leads (Err e) first = tt

pub follows : {K V S X L P W C I : Type 0} (m : Meaning K V X L P W C I) → ListsAreOfReference m → ListsKeepOrder m → PredicatesLeaveIdle m → (calls : List (Call K V P)) (replies : List (Reply K V P)) (old new : Engine K V S X L P W) (clock clock_after : C) (ids ids_after : I) →
    IsValid m.eq old.state → Drives m calls replies old clock ids new clock_after ids_after → Follows m calls replies old clock ids new clock_after ids_after
follows m of_reference keep leave calls replies old new clock clock_after ids ids_after valid drives =
    let ends : new.state ≡ last_state old.state drives.steps = ap (λ c. c.state) drives.is_run.ends in
    record {
      driven = drives;
      in_order = λ kept orderly order. subst (λ t. IsInOrder t new.write_list) (sym ends) (keep old.state old.write_list drives.steps new.write_list valid drives.listed kept orderly order);
      left_idle = λ p here gone. leave old.state drives.steps p (of_reference old.state old.write_list drives.steps new.write_list drives.listed) here (λ there. gone (subst (λ t. Contains t.predicates p) (sym ends) there));
    }
