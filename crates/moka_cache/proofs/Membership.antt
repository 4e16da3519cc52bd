-- After a run each record is a member.
use Rattle.std.proofs.Common.{◌≡◌, refl, ℕ, ◌<◌, Bool, true, false, List, [], inl, inr, Option, Some, None, ap, sym, ◌∙◌, arith}
use Rattle.std.specs.FinMap.{get, empty}
use Rattle.moka_records.specs.declared.records.Operation.{Operation}
use Rattle.moka_records.specs.declared.records.Operation.TheVariants.{Upsert}
use Rattle.moka_parts.specs.Calls.{RunStep}
use Rattle.moka_parts.specs.Listed.{ListedRun}
use Rattle.moka_parts.specs.Maintenance.{Terms}
use Rattle.moka_records.specs.Records.{counted_of, is_member}
use Rattle.moka_parts.specs.Settling.{IsTracked, IsWaiting, IsValid}
use Rattle.moka_parts.specs.State.{State, Events, is_disabled}
use Rattle.moka_records.proofs.Maps.{nothing_at}
use Rattle.moka_cache.specs.Saves.{HasOnlyMembers}
use Rattle.moka_laws.proofs.Alike.{listed_run_alike}
use Rattle.moka_cache.proofs.Posting.{listed_run_empties}

-- where all was sent and applied nothing waits
pub none_waits : {K V X P W : Type 0} (s : State K V X P W) → s.outstanding ≡ empty → s.writes ≡ [] → (o : Operation) → IsWaiting s o → ⊥
none_waits s none sent o (inl (ticket, handed)) = nothing_at ticket o (sym (ap (λ out. get out ticket) none) ∙ handed)
none_waits s none sent o (inr (ticket, queued)) = (let at = rw sent at queued in let below : at.0 < 0 = at.1 in absurd (omega arith))

module _ {K V X P W : Type 0} (eq : K → K → Bool) (s : State K V X P W) (valid : IsValid eq s) where
  -- nothing is kept
  members_of_none : is_disabled s.capacity ≡ true → HasOnlyMembers s
  members_of_none off n r there = absurd (nothing_at n r (sym (ap (λ records. get records n) (valid.numbered.disabled off).no_records) ∙ there))

  -- nothing waits
  members_of_all : s.outstanding ≡ empty → s.writes ≡ [] → HasOnlyMembers s
  members_of_all none sent n r there = go (counted_of n s.access) refl
    where
      go : (o : Option ℕ) → counted_of n s.access ≡ o → is_member n s.access ≡ true
      go (Some w) e = rw e refl
      go None e =
          let tracked : IsTracked (IsWaiting s) n r None = rw (there, e) at (valid.consistent.sound n) in
          let pending = tracked.pending (tracked.outside refl) in
          absurd (none_waits s none sent (Upsert n r.generation r.weight pending.0) pending.1)

-- a run leaves each record a member, where all operations were sent
pub run_leaves_members : {K V X P W : Type 0} (eq : K → K → Bool) (says : P → K → V → Bool → Type 0) (read : X → K → V → ℕ → Option ℕ → ℕ → Option ℕ) (before after : List ℕ) (s t : State K V X P W) (terms : Terms) (more : Bool) (e : Events K V)
    → s.outstanding ≡ empty → RunStep (ListedRun says read before after) s terms more e t → IsValid eq t → HasOnlyMembers t
run_leaves_members eq says read before after s t terms more e none run valid = go (is_disabled s.capacity) refl
  where
    go : (b : Bool) → is_disabled s.capacity ≡ b → HasOnlyMembers t
    go true off = members_of_none eq t valid (ap is_disabled (listed_run_alike says read before after s terms run.0 e.notices t run.1).capacity ∙ off)
    go false on = members_of_all eq t valid ((listed_run_alike says read before after s terms run.0 e.notices t run.1).outstanding ∙ none) (listed_run_empties says read before after s terms run.0 e.notices t on run.1)
