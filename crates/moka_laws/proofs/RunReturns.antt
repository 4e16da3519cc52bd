-- A run with all that is promised of it, as a call of a cache; and one of a disabled cache.
use Rattle.std.proofs.Common.{◌≡◌, refl, ℕ, Bool, true, false, true≢false, ◌&&◌, List, [], inl, Option, Some, None, ap, sym, ◌∙◌, arith}
use Rattle.std.specs.List.{list_any}
use Rattle.std.specs.FinMap.{get, len}
use Rattle.moka_laws.proofs.Types.{RemovalCause, Instant, Record, Notice, State, Events, Terms, Course, Engine}
use Rattle.moka_records.specs.Records.{is_settled}
use Rattle.moka_parts.specs.State.{is_disabled}
use Rattle.moka_parts.specs.Surroundings.{Leads, Heard}
use Rattle.moka_parts.specs.Maintenance.{is_late}
use Rattle.moka_parts.specs.Exact.{IsWithin}
use Rattle.moka_parts.specs.Settling.{IsBare, LeavesBehind, Settles}
use Rattle.moka_parts.specs.Calls.{run_events, RunStep}
use Rattle.moka_parts.specs.Runs.{Befalls}
use Rattle.moka_parts.specs.Listed.{ListedRun}
use Rattle.moka_laws.proofs.AtEnd.{bare_is_exact}
use Rattle.moka_records.proofs.Maps.{nothing_at}
use Rattle.moka_laws.proofs.Quiet.{nothing_heard}

-- a run with all that is promised of it, from one write list to the other, and what listener and clock go through
pub record IsPromised {K V X P W L C : Type 0} (says : P → K → V → Bool → Type 0) (read : X → K → V → ℕ → Option ℕ → ℕ → Option ℕ) (tells : L → K → V → RemovalCause → L → Type 0) (reads : C → Instant → C → Type 0)
    (before after : List ℕ) (s : State K V X P W) (terms : Terms) (answer : Bool) (passes : ℕ) (t : State K V X P W) (l m : Option L) (clock clock_after : C) : Type 0 where
  pub readings : List Instant
  pub notices : List (Notice K V)
  pub run : ListedRun says read before after s terms (record { answer = answer; readings = readings; passes = passes }) notices t
  pub heard : Heard tells l notices m
  pub led : Leads reads clock readings clock_after

-- a cache that has made such a run
pub run_returns : {K V S X L P W C : Type 0} {says : P → K → V → Bool → Type 0} {read : X → K → V → ℕ → Option ℕ → ℕ → Option ℕ} {tells : L → K → V → RemovalCause → L → Type 0} {reads : C → Instant → C → Type 0}
    {old now new : Engine K V S X L P W} (is : old ≡ now) {terms : Terms} {answer : Bool} {passes : ℕ} {t : State K V X P W} {m : Option L} {clock clock_after : C} (write_list : List ℕ) (room : ℕ) →
    IsPromised says read tells reads old.write_list write_list old.state terms answer passes t old.listener m clock clock_after → new ≡ record old { state = t; listener = m; write_list = write_list; passes = passes; room = room } →
    (e : Events K V) × RunStep (ListedRun says read now.write_list new.write_list) now.state terms answer e new.state × Befalls tells e now new × Leads reads clock e.readings clock_after
run_returns {K} {V} {S} {X} {L} {P} {W} {C} {says} {read} {tells} {reads} {old} {now} {new} is {terms} {answer} {passes} {t} {m} {clock} {clock_after} write_list room h ends =
    rw (← is, ends) (
      run_events h.notices (record { answer = answer; readings = h.readings; passes = passes }),
      (record { answer = answer; readings = h.readings; passes = passes }, h.run, refl, refl),
      record { kept = refl; heard = h.heard; passes = refl; listed = λ none. cc },
      h.led,
    )

-- ---- a disabled cache

module _ {K V X P W : Type 0} (s : State K V X P W) (bare : IsBare s.records s.access s.count s.weight) where
  empty_within : (capacity : Option ℕ) → IsWithin capacity []
  empty_within None = tt
  empty_within (Some c) = omega arith

  is_within : IsWithin s.capacity s.access
  is_within = rw bare.no_members (empty_within s.capacity)

  not_there : (n : ℕ) (r : Record K V) → get s.records n ≡ Some r → ⊥
  not_there n r there = nothing_at n r (sym (ap (λ m. get m n) bare.no_records) ∙ there)

  module _ (disabled : is_disabled s.capacity ≡ true) (terms : Terms) where
    -- a run that does nothing
    abbrev idle : Course
    idle = record { answer = false; readings = []; passes = 0 }

    never_cut : (b : Bool) (limit : Option ℕ) → (b && is_late limit []) ≡ true → ⊥
    never_cut true None is = absurd (true≢false (sym is))
    never_cut true (Some limit) is = absurd (true≢false (sym is))
    never_cut false limit is = absurd (true≢false (sym is))

    leaves : LeavesBehind s terms idle s
    leaves = record {
      within = λ whole. inl is_within;
      cut = λ cut. absurd (never_cut s.settings.listening terms.limit cut);
      more = λ whole is. absurd (true≢false (sym is));
      unfinished = λ whole left some. absurd (true≢false (sym some ∙ ap (list_any (λ a. is_settled s.records a.number)) bare.no_members));
      idle = λ enabled none. absurd (true≢false (sym disabled ∙ enabled));
      count_high = rw bare.no_count (omega arith);
      count_low = let none : len s.records ≡ 0 = sym (bare_is_exact s bare).count ∙ bare.no_count in rw none (omega arith);
    }

    module _ (says : P → K → V → Bool → Type 0) (read : X → K → V → ℕ → Option ℕ → ℕ → Option ℕ) where
      settles : Settles says read s terms idle s
      settles = record {
        settled = λ never n r there is_in applied. absurd (not_there n r there);
        exact = λ all. bare_is_exact s bare;
        within = λ whole all. is_within;
        expired = λ all never n r there. absurd (not_there n r there);
        predicates = λ all enabled enough. absurd (true≢false (sym disabled ∙ enabled));
        covered = λ all enough p n r is there covers. not_there n r there;
      }

      -- with all that is promised of it
      pub disabled_promised : {L C : Type 0} (tells : L → K → V → RemovalCause → L → Type 0) (reads : C → Instant → C → Type 0) (ns : List ℕ) (l : Option L) (clock : C) → IsPromised says read tells reads ns ns s terms false 0 s l l clock clock
      disabled_promised tells reads ns l clock = record {
        readings = [];
        notices = [];
        run = (rw disabled (refl, refl, refl), ((leaves, settles), λ off. refl));
        heard = nothing_heard tells l;
        led = refl;
      }
