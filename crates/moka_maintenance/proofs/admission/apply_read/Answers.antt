use Rattle.std.proofs.Common.{◌≡◌, ℕ, Bool, true, is_some, refl, sym, ap, ◌∙◌, true≢false}
use Rattle.std.specs.FinMap.{get}
use Rattle.moka_records.specs.declared.records.ReadOperation.TheVariants.{Hit}
use Rattle.moka_store.proofs.Gets.{none_by_test}
use Rattle.moka_maintenance.specs.Queued.{read_of, read_with}
use Rattle.moka_maintenance.specs.Steps.{contents_in}
use Rattle.moka_maintenance.proofs.Placed.{not_found}
use Rattle.moka_maintenance.proofs.Upkeep.{upkeep-none}
use Rattle.moka_maintenance.proofs.admission.apply_read.Goals as goal
use Rattle.moka_maintenance.proofs.admission.apply_read.Goals.{in-Hit, in-Renewal}

-- a hit that renews has its number, and is renewed
hit_parts : {n hash k other : ℕ} {b : Bool} → Hit n hash b ≡ Hit k other true → (k ≡ n) × (b ≡ true)
hit_parts e = (cc, cc)

pub move_after_read-requires : goal.move_after_read-requires
move_after_read-requires g c = record { handle = c.find.ensures.handle (sym c.is_some.ensures ∙ c.if-is_some.true) }

pub returns-in-Miss-clause-applied : goal.returns-in-Miss-clause-applied
returns-in-Miss-clause-applied g c = rw c.in-Miss.is refl

pub returns-then-is_some : goal.returns-then-is_some
returns-then-is_some g c =
    let old = c.args.store.now in
    let n = c.args.queued.number in
    let served = c.move_after_read.ensures.served in
    let stored = (c.find.ensures.handle (sym c.is_some.ensures ∙ c.if-is_some.true)).stored in
    let read : read_of c.args.queued ≡ Hit n c.args.queued.hash c.match-queued.is_renewed = elim c.match-queued.branch [
      | in-Hit w ↦ ap (λ o. read_with o n c.args.queued.hash) w.in-Hit.is ∙ ap (Hit n c.args.queued.hash) (sym w.is_renewed-is)
      | in-Renewal w ↦ ap (λ o. read_with o n c.args.queued.hash) w.in-Renewal.is ∙ ap (Hit n c.args.queued.hash) (sym w.is_renewed-is)
    ] in
    record {
      applied = rw (read, stored) (ap contents_in served.rest ∙ ap (λ xs. record (contents_in old) { access = xs }) c.move_after_read.ensures.access);
      served = record {
        rest = served.rest;
        renewed = λ k is. served.renewed k (hit_parts (sym read ∙ is.1));
        kept = served.kept;
        timers = served.timers;
      };
    }

pub returns-else-is_some : goal.returns-else-is_some
returns-else-is_some g c =
    let old = c.args.store.now in
    let n = c.args.queued.number in
    let read : read_of c.args.queued ≡ Hit n c.args.queued.hash c.match-queued.is_renewed = elim c.match-queued.branch [
      | in-Hit w ↦ ap (λ o. read_with o n c.args.queued.hash) w.in-Hit.is ∙ ap (Hit n c.args.queued.hash) (sym w.is_renewed-is)
      | in-Renewal w ↦ ap (λ o. read_with o n c.args.queued.hash) w.in-Renewal.is ∙ ap (Hit n c.args.queued.hash) (sym w.is_renewed-is)
    ] in
    let none = none_by_test _ (sym c.is_some.ensures ∙ c.if-is_some.false) in
    let gone = ap is_some (not_found old.places n c.args.queued.place (get old.records n) (rw read at c.requires) (c.invariant_holds.ensures.records n) (λ here. sym none ∙ c.find.ensures.found here)) in
    record {
      applied = rw (read, gone) refl;
      served = record {
        rest = refl;
        renewed = λ k is kept r there is_in.
            absurd (true≢false (sym (ap is_some there) ∙ ap (λ m. is_some (get old.records m)) (hit_parts (sym read ∙ is.1)).0 ∙ gone));
        kept = λ k stands. stands;
        timers = (upkeep-none old).timers;
      };
    }
