-- Registrations, joined with the calls that ask for no identifiers.
use Rattle.std.proofs.Common.{◌≡◌, refl, List, [], ◌∷◌, Result, ap, sym, subst}
use Rattle.std.specs.Cmp.{IsEquivalence}
use Rattle.uuid.specs.declared.Uuid.{Uuid}
use Rattle.moka_types.specs.declared.calls.Call.{Call}
use Rattle.moka_types.specs.declared.calls.Call.TheVariants as call
use Rattle.moka_types.specs.declared.calls.Reply.{Reply}
use Rattle.moka_types.specs.declared.calls.Reply.TheVariants as reply
use Rattle.moka_types.specs.declared.error.PredicateRefused.{PredicateRefused}
use Rattle.moka_parts.specs.declared.notification.RemovalCause.{RemovalCause}
use Rattle.moka_records.specs.declared.instant.Instant.{Instant}
use Rattle.moka_parts.specs.Calls.{InvalidateStep, only_ids}
use Rattle.moka_parts.specs.Runs.{Engine, Befalls, ids_of}
use Rattle.moka_parts.specs.State.{Meaning, Events}
use Rattle.moka_parts.specs.Surroundings.{Leads, Heard}
use Rattle.moka_laws.proofs.OrderedDrive.{drives_in_order}
use Rattle.moka_calls.specs.Registering.{JoinsRegistrations}
use Rattle.moka_calls.specs.Synchronous.{Made, MadeAsking}
use Rattle.moka_laws.proofs.Quiet.{unheard}
use Rattle.moka_calls.proofs.Made.{asked_one, asked_then, made_otherwise, otherwise}

-- a source that gives none gave none
none_given : {I : Type 0} (gives : (Unit {0}) → Uuid → (Unit {0}) → Type 0) → ((a : Unit {0}) (id : Uuid) (b : Unit {0}) → gives a id b → ⊥) → (given : List Uuid) → Leads gives tt given tt → (more : I → Uuid → I → Type 0) (ids : I) → Leads more ids given ids
none_given gives none [] h more ids = refl
none_given gives none (id ∷ given) (mid, step, rest) more ids = absurd (none tt id mid step)

module _ {K V X L P W C I : Type 0} (S : Type 0) (told : L → K → V → RemovalCause → L → Type 0) (m : Meaning K V X L P W C (Unit {0})) (none : (a : Unit {0}) (id : Uuid) (b : Unit {0}) → m.gives a id b → ⊥) (gives : I → Uuid → I → Type 0) (laws : IsEquivalence m.eq) where
  abbrev n : Meaning K V X L P W C I
  n = otherwise m m.tells m.observes gives

  asks_none : (calls : List (Call K V P)) (replies : List (Reply K V P)) (old new : Engine K V S X L P W) (clock clock_after : C) (ids : I) → Made m calls replies old clock new clock_after → MadeAsking n calls replies old clock ids new clock_after ids
  asks_none calls replies old new clock clock_after ids h =
      made_otherwise m m.tells m.observes gives calls replies old new clock clock_after tt tt clock clock_after ids ids h h.is_run.heard h.is_run.read (none_given m.gives none (ids_of h.steps) h.is_run.given gives ids)

  one_registered : (predicate : P) (now : Instant) (answer : Result Uuid (PredicateRefused P)) (e : Events K V) (old new : Engine K V S X L P W) (clock : C) (ids ids_after : I) →
      InvalidateStep old.state predicate now answer e.ids new.state → e ≡ only_ids e.ids → Befalls told e old new → Leads gives ids e.ids ids_after → MadeAsking n (call.InvalidateIf predicate now ∷ []) (reply.InvalidateIf answer ∷ []) old clock ids new clock ids_after
  one_registered predicate now answer e old new clock ids ids_after step only befalls given =
      let quiet : e.notices ≡ [] = ap (λ (x : Events K V). x.notices) only in
      let unread : e.readings ≡ [] = ap (λ (x : Events K V). x.readings) only in
      let heard : Heard m.tells old.listener e.notices new.listener = subst (λ ns. Heard m.tells old.listener ns new.listener) (sym quiet) (unheard told m.tells old.listener new.listener (subst (λ ns. Heard told old.listener ns new.listener) quiet befalls.heard)) in
      asked_one n old new clock clock ids ids_after (call.InvalidateIf predicate now) (reply.InvalidateIf answer) e (step, only) (record { kept = befalls.kept; heard = heard; passes = befalls.passes; listed = befalls.listed }) (subst (λ rs. Leads m.observes clock rs clock) (sym unread) refl) given tt

  pub joins_registrations : JoinsRegistrations S told m n
  joins_registrations = record {
    asked_none = asks_none;
    registered = one_registered;
    goes_on = asked_then n;
    keeps_promises = λ calls replies old new clock clock_after ids ids_after valid listed h. drives_in_order n calls replies h.steps old new clock clock_after ids ids_after laws valid listed h.is_run h.listed;
  }
