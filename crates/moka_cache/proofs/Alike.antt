-- What runs, sends and inserts leave of what hides records.
use Rattle.std.proofs.Common.{◌≡◌, refl, ℕ, zero, suc, Bool, List, [], ◌∷◌, Option, Some, None, Result, Ok, ap, sym, subst, ◌∙◌}
use Rattle.moka_records.specs.declared.instant.Instant.{Instant}
use Rattle.moka_records.specs.declared.records.Record.{Record}
use Rattle.moka_types.specs.declared.calls.Ticket.{Ticket}
use Rattle.moka_types.specs.declared.error.SendError.{SendError}
use Rattle.moka_records.specs.Records.{record_of_key}
use Rattle.moka_parts.specs.State.{State, Settings, Events}
use Rattle.moka_parts.specs.Maintenance.{Choice, Removes, MovesToBack, Drops, kept_by_choices}
use Rattle.moka_parts.specs.Calls.{SendStep, InsertsAt, InsertStep}
use Rattle.moka_laws.proofs.Kept.{kept_by_send}
use Rattle.moka_cache.specs.Unsent.{HidesNoMore, ShowsWrites}

-- none is left of no predicates
pub none_kept : {P : Type 0} (xs : List Choice) → kept_by_choices {P = P} [] xs ≡ []
none_kept [] = refl
none_kept (Removes n cause ∷ xs) = none_kept xs
none_kept (MovesToBack n ∷ xs) = none_kept xs
none_kept (Drops zero ∷ xs) = none_kept xs
none_kept (Drops (suc i) ∷ xs) = none_kept xs

module _ {K V X P W : Type 0} where
  pub itself : (s : State K V X P W) → HidesNoMore s s
  itself s = record { settings = refl; bound = refl; predicates = λ none. none }

  pub then : (s t u : State K V X P W) → HidesNoMore s t → HidesNoMore t u → HidesNoMore s u
  then s t u h k = record { settings = k.settings ∙ h.settings; bound = k.bound ∙ h.bound; predicates = λ none. k.predicates (h.predicates none) }

  pub send_hides : (s : State K V X P W) (ticket : ℕ) (a : Result (Unit {0}) SendError) (t : State K V X P W) → SendStep s ticket a t → HidesNoMore s t
  send_hides s ticket a t step = kept_by_send (HidesNoMore s) s t (itself s) ticket a (λ o there room. record { settings = refl; bound = refl; predicates = λ none. none }) step

  pub insert_hides : (created : X → K → V → ℕ → Option ℕ) (updated : X → K → V → ℕ → Option ℕ → Option ℕ) (weighs : W → K → V → ℕ → Type 0) (eq : K → K → Bool) (s : State K V X P W) (key : K) (hash : ℕ) (value : V) (now : Instant) (a : Ticket × Instant) (e : Events K V) (t : State K V X P W)
      → InsertStep created updated weighs eq s key hash value now (Ok a) e t → HidesNoMore s t
  insert_hides created updated weighs eq s key hash value now a e t step = go (record_of_key eq s.records key) step
    where
      go : (o : Option (Record K V)) → InsertsAt created updated weighs s o key hash value now (Ok a) e t → HidesNoMore s t
      go None h = subst (HidesNoMore s) (sym h.5) (record { settings = refl; bound = refl; predicates = λ none. none })
      go (Some r) h = subst (HidesNoMore s) (sym h.5) (record { settings = refl; bound = refl; predicates = λ none. none })

  -- what shows writes does so afterwards
  pub still_shows : (s t : State K V X P W) (now : ℕ) → HidesNoMore s t → ShowsWrites s now → ShowsWrites t now
  still_shows s t now h shows = record {
    unexpiring = ap (λ (x : Settings X W). x.expiry) h.settings ∙ shows.unexpiring;
    live = rw h.settings shows.live;
    idle = rw h.settings shows.idle;
    valid = rw h.bound shows.valid;
    unhidden = h.predicates shows.unhidden;
  }
