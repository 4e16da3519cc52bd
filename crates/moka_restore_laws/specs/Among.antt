-- Lists of calls with entries put back among them.
use Rattle.std.specs.Prelude.{◌≡◌, ℕ, true, List, [], ◌∷◌, ◌++◌, map, Result, Ok, Err}
use Rattle.moka_types.specs.declared.calls.Call.{Call}
use Rattle.moka_types.specs.declared.calls.Reply.{Reply}
use Rattle.moka_records.specs.declared.instant.Instant.{Instant}
use Rattle.moka_parts.specs.Laws.{AllConserveValues}
use Rattle.moka_parts.specs.Runs.{Engine}
use Rattle.moka_parts.specs.Settling.{IsValid}
use Rattle.moka_parts.specs.State.{Meaning}
use Rattle.moka_engine.specs.parts.Restored.{Restored}
use Rattle.moka_engine.specs.parts.RestoreRefused.{RestoreRefused}
use Rattle.moka_calls.specs.Synchronous.{Made}
use Rattle.moka_cache.specs.declared.cache.saves.RestoreManyRefused.{RestoreManyRefused}
use Rattle.moka_cache.specs.Saves.{PutsBack, PutsManyBack}

-- what was made of a cache
pub data Part (K V P : Type 0) : Type 0 where
  -- calls of the reference cache with their replies
  Calls : List (Call K V P) → List (Reply K V P) → Part K V P
  -- an entry, put back at the moment or refused
  Back : Instant → Restored K V → Result (Unit {0}) (RestoreRefused K V) → Part K V P

-- entries that were put back at the moment, one after the other
abbrev pub put_back : {K V P : Type 0} → Instant → List (Restored K V) → List (Part K V P)
put_back now items = map (λ item. Back now item (Ok tt)) items

module _ {K V S X L P W C : Type 0} (m : Meaning K V X L P W C (Unit {0})) (hash_of : S → K → ℕ) where
  -- the parts were made one after the other
  abbrev pub PartsMade : List (Part K V P) → Engine K V S X L P W → C → Engine K V S X L P W → C → Type 0
  PartsMade [] old clock new clock_after = (new ≡ old) × (clock_after ≡ clock)
  PartsMade (Calls calls replies ∷ parts) old clock new clock_after = (mid : Engine K V S X L P W) × (between : C)
      × Made m calls replies old clock mid between × PartsMade parts mid between new clock_after
  PartsMade (Back now item answer ∷ parts) old clock new clock_after = (mid : Engine K V S X L P W) × (between : C)
      × PutsBack m hash_of now item answer old clock mid between × PartsMade parts mid between new clock_after

  -- and each list of calls is a run of the reference cache whose runs of maintenance keep their promises, and which
  -- tells a listener, if one is set, of each value that leaves the map once; what always holds of a cache does after
  -- each part
  abbrev pub PartsKeep : List (Part K V P) → Engine K V S X L P W → C → Engine K V S X L P W → C → Type 0
  PartsKeep [] old clock new clock_after = (new ≡ old) × (clock_after ≡ clock)
  PartsKeep (Calls calls replies ∷ parts) old clock new clock_after = (mid : Engine K V S X L P W) × (between : C)
      × ((made : Made m calls replies old clock mid between)
      × (old.state.settings.listening ≡ true → AllConserveValues old.state made.steps))
      × IsValid m.eq mid.state × PartsKeep parts mid between new clock_after
  PartsKeep (Back now item answer ∷ parts) old clock new clock_after = (mid : Engine K V S X L P W) × (between : C)
      × PutsBack m hash_of now item answer old clock mid between
      × IsValid m.eq mid.state × PartsKeep parts mid between new clock_after

-- calls with entries put back among them
pub record RestoresAmongCalls {K V S X L P W C : Type 0} (m : Meaning K V X L P W C (Unit {0}))
    (hash_of : S → K → ℕ) : Type 0 where
  -- what `restore` ensures is that entries were put back: all of them, or those before the one that is refused
  pub restored : (now : Instant) (items : List (Restored K V)) (old new : Engine K V S X L P W)
      (clock clock_after : C) → PutsManyBack m hash_of now items (Ok tt) old clock new clock_after →
      PartsMade m hash_of (put_back now items) old clock new clock_after
  pub refused : (now : Instant) (items : List (Restored K V)) (e : RestoreManyRefused K V)
      (old new : Engine K V S X L P W) (clock clock_after : C) →
      (put : PutsManyBack m hash_of now items (Err e) old clock new clock_after) →
      PartsMade m hash_of (put_back now put.0 ++ Back now put.1 (Err e.refused) ∷ []) old clock new clock_after
  -- parts after parts are parts
  pub go_on : (parts later : List (Part K V P)) (old mid new : Engine K V S X L P W) (c1 c2 c3 : C) →
      PartsMade m hash_of parts old c1 mid c2 → PartsMade m hash_of later mid c2 new c3 →
      PartsMade m hash_of (parts ++ later) old c1 new c3
  -- and keep from a valid cache what a list of calls promises, but for the order of writing
  pub keep_promises : (parts : List (Part K V P)) (old new : Engine K V S X L P W) (clock clock_after : C) →
      IsValid m.eq old.state → PartsMade m hash_of parts old clock new clock_after →
      PartsKeep m hash_of parts old clock new clock_after
