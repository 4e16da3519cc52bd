-- What a caller's function made of its cache: these calls of the reference cache, and no others.
use Rattle.std.specs.Prelude.{◌≡◌, ℕ, Bool, false, List, Option, Some, None, Result, option_map, ⊤}
use Rattle.moka_engine.specs.parts.Call.{Call}
use Rattle.moka_engine.specs.parts.InsertRefused.{InsertRefused}
use Rattle.moka_engine.specs.parts.Instant.{Instant}
use Rattle.moka_engine.specs.parts.OutOfMemory.{OutOfMemory}
use Rattle.moka_engine.specs.parts.PredicateRefused.{PredicateRefused}
use Rattle.moka_engine.specs.parts.Record.{Record}
use Rattle.moka_engine.specs.parts.Reply.{Reply}
use Rattle.moka_engine.specs.parts.Uuid.{Uuid}
use Rattle.moka_engine.specs.Calls.{InvalidateStep, only_ids}
use Rattle.moka_engine.specs.Config.{Config, new_engine}
use Rattle.moka_engine.specs.Listed.{ListedRun}
use Rattle.moka_engine.specs.Makes as engine
use Rattle.moka_engine.specs.Records.{record_of_key}
use Rattle.moka_engine.specs.Runs.{Engine, Befalls, CallStep}
use Rattle.moka_engine.specs.State.{Meaning, State, Events}
use Rattle.moka_engine.specs.Surroundings.{Leads}
use Rattle.moka_cache.specs.Synchronous.{Synchronous, GetsValue, InsertsEntry, Makes, RemovesEntry, fresh, hears_clones}

-- what the parts of a cache mean that has no listener, no expiry but by times and no weigher, if keys, predicates,
-- clock and source of identifiers answer so
abbrev pub simple_meaning : {K V X L P W C I : Type 0} → (K → K → Bool) → (P → K → V → Bool → Type 0) →
    (C → Instant → C → Type 0) → (I → Uuid → I → Type 0) → Meaning K V X L P W C I
simple_meaning eq says reads gives = record {
  eq = eq;
  tells = λ before _ _ _ after. after ≡ before;
  says = says;
  weighs = λ _ _ _ weight. weight ≡ 1;
  observes = reads;
  gives = gives;
  created = λ _ _ _ _. None;
  read = λ _ _ _ _ left _. left;
  updated = λ _ _ _ _ left. left;
}

-- the same of one that has no predicates either
abbrev pub plain_meaning : {K V X L P W C : Type 0} → (K → K → Bool) → (C → Instant → C → Type 0) →
    Meaning K V X L P W C (Unit {0})
plain_meaning eq reads = simple_meaning eq (λ _ _ _ answer. answer ≡ false) reads (λ _ _ _. ⊥)

-- the same of an engine, whose clock and source of identifiers are the caller's
abbrev pub engine_meaning : {K V X L P W : Type 0} → (K → K → Bool) → Meaning K V X L P W (Unit {0}) (Unit {0})
engine_meaning eq = plain_meaning eq (λ _ _ _. ⊥)

-- the key has this value
abbrev pub HasValue : {K V X P W : Type 0} → (K → K → Bool) → State K V X P W → K → V → Type 0
HasValue {K} {V} eq s key value = (r : Record K V) × (record_of_key eq s.records key ≡ Some r) × (value ≡ r.value)

-- ---- calls of the synchronous cache, at a moment

module _ {K V S X L P W C : Type 0} (m : Meaning K V X L P W C (Unit {0})) (key : K) (now : Instant)
    (old : Engine K V S X L P W) (clock : C) (new : Engine K V S X L P W) (clock_after : C) where
  -- a look-up of the key, answered so or refused
  abbrev pub LooksUp : Result (Option V) OutOfMemory → Type 0
  LooksUp found = (hash : ℕ) × Makes m (GetsValue key hash now found) old clock new clock_after

  -- an insert of the value under the key, done or refused
  abbrev pub Inserts : V → Result (Unit {0}) (InsertRefused K V) → Type 0
  Inserts value result = (hash : ℕ) × Makes m (InsertsEntry key hash value now result) old clock new clock_after

  -- a removal of the key, of whose value the listener was told, or not: the answer says which
  abbrev pub Removes : (K → K → Type 0) → (V → V → Type 0) → Option (V × Result (Unit {0}) OutOfMemory) → Type 0
  Removes is_key_clone is_clone taken = (hash : ℕ)
      × Makes (record m { tells = hears_clones is_key_clone is_clone m.tells })
      (RemovesEntry key hash now taken) old clock new clock_after

  -- a removal that handed out this value, told or not
  abbrev pub TakesOut : (K → K → Type 0) → (V → V → Type 0) → Option V → Type 0
  TakesOut is_key_clone is_clone value = (taken : Option (V × Result (Unit {0}) OutOfMemory))
      × (value ≡ option_map (λ t. t.0) taken) × Removes is_key_clone is_clone taken

-- ---- one call

module _ {K V S X L P W C I : Type 0} (m : Meaning K V X L P W C I) where
  -- this call with this reply
  abbrev pub IsOneCall : Engine K V S X L P W → Engine K V S X L P W → Call K V P → Reply K V P → Type 0
  IsOneCall old new call reply = engine.Makes m call reply old new (λ _. ⊤)

  -- the predicate was registered at the moment under the first free identifier that the source gave, or refused
  abbrev pub Registers : P → Instant → Engine K V S X L P W → I → Engine K V S X L P W → I →
      Result Uuid (PredicateRefused P) → Type 0
  Registers predicate now old ids new ids_after result = (e : Events K V)
      × InvalidateStep old.state predicate now result e.ids new.state × (e ≡ only_ids e.ids)
      × Befalls m.tells e old new × Leads m.gives ids e.ids ids_after

-- the same of the states alone
abbrev pub IsOneStep : {K V X L P W C I : Type 0} → Meaning K V X L P W C I → State K V X P W → State K V X P W →
    Call K V P → Reply K V P → Type 0
IsOneStep {K} {V} m s t call reply = (before after : List ℕ) × (e : Events K V)
    × CallStep m (ListedRun m.says m.read before after) s call reply e t

-- ---- a cache that owns its clock

-- it is empty, of this configuration, and was made at the moment that its clock told
abbrev pub IsNew : {K V S X L P W C : Type 0} → (C → Instant → C → Type 0) → Config X L W → C →
    Synchronous K V S X L P W → C → Type 0
IsNew reads config clock cache clock_after = (now : Instant) × reads clock now clock_after
    × (cache ≡ fresh (new_engine config cache.engine.hasher now.0 cache.engine.room))
