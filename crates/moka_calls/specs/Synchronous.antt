-- The cache that sends its own operations: which calls of the reference cache each of its calls stands for, and what it
-- answers.
use Rattle.std.specs.Prelude.{◌≡◌, ℕ, Bool, false, List, [], ◌∷◌, Option, Some, None, Result, Ok, Err, IfOk, IfSome, IfNone, IfErr, ◌⊎◌, ⊤}
use Rattle.moka_parts.specs.declared.notification.RemovalCause.{RemovalCause}
use Rattle.moka_records.specs.declared.instant.Instant.{Instant}
use Rattle.moka_types.specs.declared.calls.Ticket.{Ticket}
use Rattle.moka_types.specs.declared.calls.Call.{Call}
use Rattle.moka_types.specs.declared.calls.Call.TheVariants as call
use Rattle.moka_types.specs.declared.calls.Reply.{Reply}
use Rattle.moka_types.specs.declared.calls.Reply.TheVariants as reply
use Rattle.moka_types.specs.declared.calls.Entry.{Entry}
use Rattle.moka_types.specs.declared.error.OutOfMemory.{OutOfMemory}
use Rattle.moka_types.specs.declared.error.InsertError.TheVariants as insert_error
use Rattle.moka_types.specs.declared.error.InsertRefused.{InsertRefused}
use Rattle.moka_types.specs.declared.error.SendError.TheVariants.{QueueFull}
use Rattle.moka_parts.specs.State.{State, Meaning, meaning_of as meaning_with_ids}
use Rattle.moka_parts.specs.Order.{IsOrderly}
use Rattle.moka_parts.specs.Runs.{Engine, Step, MakesCalls, PromisedRun}
use Rattle.moka_parts.specs.Listed.{AreListedSteps}
use Rattle.moka_calls.specs.declared.error.NotTold.{NotTold}
use Rattle.moka_parts.specs.declared.stats.Stats.{Stats}
use Rattle.moka_parts.specs.Counters.{no_stats, after_get_with}
use Rattle.moka_calls.specs.declared.error.GetWithRefused.{GetWithRefused}
use Rattle.moka_calls.specs.declared.error.GetWithRefused.TheVariants.{Lookup, Insert}
use Rattle.moka_calls.specs.Given.{IsHandedOut, ComesBack}

-- a synchronous cache: an engine, and what was counted
pub record Synchronous (K V S X L P W : Type 0) : Type 0 where
  pub engine : Engine K V S X L P W
  pub stats : Stats

-- nothing was counted yet
abbrev pub fresh : {K V S X L P W : Type 0} → Engine K V S X L P W → Synchronous K V S X L P W
fresh engine = record { engine = engine; stats = no_stats }

-- ---- what was made

-- a send is one of the oldest operation that waits
abbrev pub IsSentInOrder : {K V X P W : Type 0} → State K V X P W → Call K V P → Type 0
IsSentInOrder s (call.Send ticket) = IsOrderly s (call.Send ticket)
IsSentInOrder s c = ⊤

-- the same of each step
abbrev pub AreSentInOrder : {K V X P W : Type 0} → State K V X P W → List (Step K V X P W) → Type 0
AreSentInOrder s [] = Unit {0}
AreSentInOrder s (x ∷ xs) = IsSentInOrder s x.call × AreSentInOrder x.after xs

module _ {K V X L P W C : Type 0} (eq : K → K → Bool) (tells : L → K → V → RemovalCause → L → Type 0)
    (says : P → K → V → Bool → Type 0) (weighs : W → K → V → ℕ → Type 0)
    (observes : C → Instant → C → Type 0) (created : X → K → V → ℕ → Option ℕ)
    (read : X → K → V → ℕ → Option ℕ → ℕ → Option ℕ) (updated : X → K → V → ℕ → Option ℕ → Option ℕ) where
  -- what the parts of a cache mean that asks for no identifiers
  abbrev pub meaning_of : Meaning K V X L P W C (Unit {0})
  meaning_of = meaning_with_ids eq tells says weighs observes (λ _ _ _. ⊥) created read updated

-- these calls, made one after the other, gave these replies: a run of the reference cache whose runs of maintenance
-- keep their promises, in which operations were sent in order
pub record MadeAsking {K V S X L P W C I : Type 0} (m : Meaning K V X L P W C I) (calls : List (Call K V P))
    (replies : List (Reply K V P)) (old : Engine K V S X L P W) (clock : C) (ids : I) (new : Engine K V S X L P W)
    (clock_after : C) (ids_after : I) : Type 0 where
  pub steps : List (Step K V X P W)
  pub is_run : MakesCalls m (PromisedRun m.says m.read) calls replies steps old clock ids new clock_after ids_after
  -- with the write list from call to call
  pub listed : AreListedSteps m old.state old.write_list steps new.write_list
  pub in_order : AreSentInOrder old.state steps

-- the same of calls that ask for no identifiers
abbrev pub Made : {K V S X L P W C : Type 0} → Meaning K V X L P W C (Unit {0}) → List (Call K V P) →
    List (Reply K V P) → Engine K V S X L P W → C → Engine K V S X L P W → C → Type 0
Made m calls replies old clock new clock_after = MadeAsking m calls replies old clock tt new clock_after tt

-- some calls that fit were made
abbrev pub Makes : {K V S X L P W C : Type 0} → Meaning K V X L P W C (Unit {0}) →
    (List (Call K V P) → List (Reply K V P) → Type 0) → Engine K V S X L P W → C → Engine K V S X L P W → C → Type 0
Makes {K} {V} {P = P} m Fit old clock new clock_after = (calls : List (Call K V P)) × (replies : List (Reply K V P))
    × Fit calls replies × Made m calls replies old clock new clock_after

-- the listener hears of key and value, or of clones of both
abbrev pub hears_clones : {K V L : Type 0} → (K → K → Type 0) → (V → V → Type 0) →
    (L → K → V → RemovalCause → L → Type 0) → L → K → V → RemovalCause → L → Type 0
hears_clones {K} {V} is_key_clone is_value_clone tells before key value cause after = tells before key value cause after
    ⊎ ((k : K) × (v : V) × is_key_clone key k × is_value_clone value v × tells before k v cause after)

-- ---- what each call stands for

-- the value of the entry that a get found
abbrev pub value_found : {K V : Type 0} → Result (Option (Entry K V)) OutOfMemory → Result (Option V) OutOfMemory
value_found (Ok (Some entry)) = Ok (Some entry.value)
value_found (Ok None) = Ok None
value_found (Err refused) = Err refused

module _ {K V P : Type 0} where
  -- this call alone, with this reply
  abbrev pub Just : Call K V P → Reply K V P → List (Call K V P) → List (Reply K V P) → Type 0
  Just c r calls replies = (calls ≡ c ∷ []) × (replies ≡ r ∷ [])

  -- the run that the cache asks for itself
  abbrev pub own_run : Instant → Call K V P
  own_run now = call.Run now None 4 384

  -- a ticket is posted: a run if one is due, and a send; if the queue is full another run and another send
  abbrev pub Posts : Instant → Ticket → List (Call K V P) → List (Reply K V P) → Type 0
  Posts now ticket calls replies =
      ((calls ≡ call.RunIfDue now ∷ call.Send ticket ∷ []) × (replies ≡ reply.RunIfDue ∷ reply.Send (Ok tt) ∷ []))
      ⊎ ((more : Bool) × (calls ≡ call.RunIfDue now ∷ call.Send ticket ∷ own_run now ∷ call.Send ticket ∷ [])
      × (replies ≡ reply.RunIfDue ∷ reply.Send (Err QueueFull) ∷ reply.Run more ∷ reply.Send (Ok tt) ∷ []))

  -- an insert, and its ticket posted; a disabled map lets the pair go
  abbrev pub InsertsEntry : K → ℕ → V → Instant → Result (Unit {0}) (InsertRefused K V) → List (Call K V P) →
      List (Reply K V P) → Type 0
  InsertsEntry key hash value now (Ok done) calls replies =
      ((calls ≡ call.Insert key hash value now ∷ []) × (replies ≡ reply.Disabled key value ∷ []))
      ⊎ ((ticket : Ticket) × (posting : List (Call K V P)) × (posted : List (Reply K V P))
      × Posts now ticket posting posted × (calls ≡ call.Insert key hash value now ∷ posting)
      × (replies ≡ reply.Insert (Ok (ticket, now)) ∷ posted))
  InsertsEntry key hash value now (Err refused) calls replies = (calls ≡ call.Insert key hash value now ∷ [])
      × (replies ≡ reply.Insert (Err refused) ∷ [])

  -- a get, refused or not
  abbrev pub GetsValue : K → ℕ → Instant → Result (Option V) OutOfMemory → List (Call K V P) → List (Reply K V P) →
      Type 0
  GetsValue key hash now answer calls replies = (a : Result (Option (Entry K V)) OutOfMemory) × (answer ≡ value_found a)
      × (calls ≡ call.Get key hash false now ∷ []) × (replies ≡ reply.Get a ∷ [])

  -- a removal, the notice after it, and its ticket posted; the answer is the value and whether it was told
  abbrev pub RemovesEntry : K → ℕ → Instant → Option (V × Result (Unit {0}) OutOfMemory) → List (Call K V P) →
      List (Reply K V P) → Type 0
  RemovesEntry key hash now None calls replies = (calls ≡ call.Remove key hash (Some now) ∷ [])
      × (replies ≡ reply.Remove None None ∷ [])
  RemovesEntry key hash now (Some answer) calls replies = (k : K) × (written : Instant) × (read : Instant)
      × (ticket : Ticket) × (posting : List (Call K V P)) × (posted : List (Reply K V P))
      × Posts now ticket posting posted
      × (calls ≡ call.Remove key hash (Some now) ∷ posting)
      × (replies
      ≡ reply.Remove (Some (
        record { key = k; value = answer.0; last_modified = written; last_accessed = read },
        ticket,
      )) (Some answer.1) ∷ posted)

  -- a get that misses, and then those calls
  abbrev pub GetsThen : K → ℕ → Instant → (List (Call K V P) → List (Reply K V P) → Type 0) → List (Call K V P) →
      List (Reply K V P) → Type 0
  GetsThen key hash now Then calls replies = (later : List (Call K V P)) × (answers : List (Reply K V P))
      × Then later answers × (calls ≡ call.Get key hash false now ∷ later) × (replies ≡ reply.Get (Ok None) ∷ answers)

  -- the value made for a key that a get missed, and what became of it: it is inserted, its clone is refused, or its
  -- insert is
  abbrev pub InsertsMade : K → ℕ → Instant → V → Result V (InsertRefused K V) → List (Call K V P) → List (Reply K V P) →
      Type 0
  InsertsMade key hash now made (Ok value) calls replies = (value ≡ made)
      × InsertsEntry key hash made now (Ok tt) calls replies
  InsertsMade key hash now made (Err refused) calls replies =
      ((refused ≡ record { error = insert_error.OutOfMemory; key = key; value = made }) × (calls ≡ []) × (replies ≡ []))
      ⊎ InsertsEntry key hash made now (Err refused) calls replies

  -- a get, and only if it misses a value is made: the value that was made, the answer, with nothing if the
  -- look-up was refused, and the calls
  abbrev pub GetsOrInserts : K → ℕ → Instant → Option V → Result V (Option (InsertRefused K V)) → List (Call K V P) →
      List (Reply K V P) → Type 0
  GetsOrInserts key hash now None (Ok value) calls replies = GetsValue key hash now (Ok (Some value)) calls replies
  GetsOrInserts key hash now None (Err None) calls replies = (refused : OutOfMemory)
      × GetsValue key hash now (Err refused) calls replies
  GetsOrInserts key hash now (Some made) (Ok value) calls replies =
      GetsThen key hash now (InsertsMade key hash now made (Ok value)) calls replies
  GetsOrInserts key hash now (Some made) (Err (Some refused)) calls replies =
      GetsThen key hash now (InsertsMade key hash now made (Err refused)) calls replies
  GetsOrInserts key hash now made own calls replies = ⊥

  -- the same, if the maker may decline: then the get alone
  abbrev pub GetsOrInsertsIfMade : K → ℕ → Instant → Option (Option V) →
      Result (Option V) (Option (InsertRefused K V)) → List (Call K V P) → List (Reply K V P) → Type 0
  GetsOrInsertsIfMade key hash now None (Ok (Some value)) calls replies =
      GetsOrInserts key hash now None (Ok value) calls replies
  GetsOrInsertsIfMade key hash now None (Err refused) calls replies =
      GetsOrInserts key hash now None (Err refused) calls replies
  GetsOrInsertsIfMade key hash now (Some None) (Ok None) calls replies = GetsValue key hash now (Ok None) calls replies
  GetsOrInsertsIfMade key hash now (Some (Some made)) (Ok (Some value)) calls replies =
      GetsOrInserts key hash now (Some made) (Ok value) calls replies
  GetsOrInsertsIfMade key hash now (Some (Some made)) (Err refused) calls replies =
      GetsOrInserts key hash now (Some made) (Err refused) calls replies
  GetsOrInsertsIfMade key hash now made own calls replies = ⊥

  -- the same, if the maker may fail: then the get alone, and the maker's error is the answer
  abbrev pub GetsOrInsertsIfNoError : {E : Type 0} → K → ℕ → Instant → Option (Result V E) →
      Result (Result V E) (Option (InsertRefused K V)) → List (Call K V P) → List (Reply K V P) → Type 0
  GetsOrInsertsIfNoError key hash now None (Ok (Ok value)) calls replies =
      GetsOrInserts key hash now None (Ok value) calls replies
  GetsOrInsertsIfNoError key hash now None (Err refused) calls replies =
      GetsOrInserts key hash now None (Err refused) calls replies
  GetsOrInsertsIfNoError key hash now (Some (Err failed)) (Ok (Err error)) calls replies = (error ≡ failed)
      × GetsValue key hash now (Ok None) calls replies
  GetsOrInsertsIfNoError key hash now (Some (Ok made)) (Ok (Ok value)) calls replies =
      GetsOrInserts key hash now (Some made) (Ok value) calls replies
  GetsOrInsertsIfNoError key hash now (Some (Ok made)) (Err refused) calls replies =
      GetsOrInserts key hash now (Some made) (Err refused) calls replies
  GetsOrInsertsIfNoError key hash now made own calls replies = ⊥

-- ---- what is answered

-- what a removal answers: the value, if there was one, unless it was not told
abbrev pub removed : {V : Type 0} → Option (V × Result (Unit {0}) OutOfMemory) → Result (Option V) (NotTold V)
removed None = Ok None
removed (Some (value, Ok told)) = Ok (Some value)
removed (Some (value, Err refused)) = Err (record { error = refused; value = value })

-- the value that such an answer hands out, told or not
abbrev pub taken_out : {V : Type 0} → Result (Option V) (NotTold V) → Option V
taken_out (Ok value) = value
taken_out (Err refused) = Some refused.value

-- what an invalidation answers: the value alone if it was not told
abbrev pub invalidated : {V : Type 0} → Option (V × Result (Unit {0}) OutOfMemory) → Result (Unit {0}) (NotTold V)
invalidated None = Ok tt
invalidated (Some (value, Ok told)) = Ok tt
invalidated (Some (value, Err refused)) = Err (record { error = refused; value = value })

-- what a get with a maker hands out: a clone of the value, or what was refused, with the key
abbrev pub HandsOutMade : {K V : Type 0} → (V → V → Type 0) → K → Result V (Option (InsertRefused K V)) →
    Result V (GetWithRefused K V) → Type 0
HandsOutMade is_clone key (Ok own) (Ok value) = is_clone own value
HandsOutMade is_clone key (Err None) (Err (Lookup k)) = k ≡ key
HandsOutMade is_clone key (Err (Some refused)) (Err (Insert r)) = r ≡ refused
HandsOutMade is_clone key own result = ⊥

-- what an insert of a value that was made hands out: a clone of the value, or what was refused
abbrev pub HandsOutOwn : {V E : Type 0} → (V → V → Type 0) → Result V E → Result V E → Type 0
HandsOutOwn is_clone (Ok own) (Ok value) = is_clone own value
HandsOutOwn is_clone (Err refused) (Err r) = r ≡ refused
HandsOutOwn is_clone own result = ⊥

-- the same if the maker may decline
abbrev pub HandsOutIfMade : {K V : Type 0} → (V → V → Type 0) → K → Result (Option V) (Option (InsertRefused K V)) →
    Result (Option V) (GetWithRefused K V) → Type 0
HandsOutIfMade is_clone key (Ok (Some own)) (Ok (Some value)) = is_clone own value
HandsOutIfMade is_clone key (Ok None) (Ok None) = ⊤
HandsOutIfMade is_clone key (Err refused) (Err r) = HandsOutMade is_clone key (Err refused) (Err r)
HandsOutIfMade is_clone key own result = ⊥

-- or fail
abbrev pub HandsOutIfNoError : {K V E : Type 0} → (V → V → Type 0) → K →
    Result (Result V E) (Option (InsertRefused K V)) → Result (Result V E) (GetWithRefused K V) → Type 0
HandsOutIfNoError is_clone key (Ok (Ok own)) (Ok (Ok value)) = is_clone own value
HandsOutIfNoError is_clone key (Ok (Err error)) (Ok (Err e)) = e ≡ error
HandsOutIfNoError is_clone key (Err refused) (Err r) = HandsOutMade is_clone key (Err refused) (Err r)
HandsOutIfNoError is_clone key own result = ⊥

-- ---- what a call with a maker promises

module _ {K V S X L P W C : Type 0} (m : Meaning K V X L P W C (Unit {0})) (is_clone : V → V → Type 0) (key : K)
    (hash : ℕ) (now : Instant) (old : Synchronous K V S X L P W) (clock : C)
    (new : Synchronous K V S X L P W) (clock_after : C) where
  -- if this was made of a get that missed, as the maker makes it: the calls that were made, and what was counted;
  -- and what is handed out, or comes back
  abbrev pub IsGotWith : Option V → Result V (Option (InsertRefused K V)) → (V → Type 0)
      → Result V (GetWithRefused K V) → Type 0
  IsGotWith made own Answers result = ((value : V) → made ≡ Some value → Answers value)
      × HandsOutMade is_clone key own result
      × Makes m (GetsOrInserts key hash now made own) old.engine clock new.engine clock_after
      × (new.stats ≡ after_get_with made own old.stats)
      × IfOk result (IsHandedOut m.eq m.says is_clone old.engine.state key now.0 Answers)
      × IfErr result (ComesBack old.engine.state new.engine.state key Answers)

  -- the same if the maker may decline
  abbrev pub IsGotWithIfMade : Option (Option V) → Result (Option V) (Option (InsertRefused K V)) → (Option V → Type 0)
      → Result (Option V) (GetWithRefused K V) → Type 0
  IsGotWithIfMade made own Answers result = ((answer : Option V) → made ≡ Some answer → Answers answer)
      × HandsOutIfMade is_clone key own result
      × Makes m (GetsOrInsertsIfMade key hash now made own) old.engine clock new.engine clock_after
      × (new.stats ≡ after_get_with made own old.stats)
      × IfOk result (λ found.
      IfSome found (IsHandedOut m.eq m.says is_clone old.engine.state key now.0 (λ v. Answers (Some v)))
      × IfNone found (Answers None))
      × IfErr result (ComesBack old.engine.state new.engine.state key (λ v. Answers (Some v)))

  -- or fail
  abbrev pub IsGotWithIfNoError : {E : Type 0} → Option (Result V E) → Result (Result V E) (Option (InsertRefused K V))
      → (Result V E → Type 0) → Result (Result V E) (GetWithRefused K V) → Type 0
  IsGotWithIfNoError made own Answers result = ((answer : Result V _) → made ≡ Some answer → Answers answer)
      × HandsOutIfNoError is_clone key own result
      × Makes m (GetsOrInsertsIfNoError key hash now made own) old.engine clock new.engine clock_after
      × (new.stats ≡ after_get_with made own old.stats)
      × IfOk result (λ found.
      IfOk found (IsHandedOut m.eq m.says is_clone old.engine.state key now.0 (λ v. Answers (Ok v)))
      × IfErr found (λ e. Answers (Err e)))
      × IfErr result (ComesBack old.engine.state new.engine.state key (λ v. Answers (Ok v)))

  -- a get, and only if it misses a value is made
  abbrev pub GetsWith : (V → Type 0) → Result V (GetWithRefused K V) → Type 0
  GetsWith Answers result =
      (made : Option V) × (own : Result V (Option (InsertRefused K V))) × IsGotWith made own Answers result

  -- the same if the maker may decline
  abbrev pub GetsWithIfMade : (Option V → Type 0) → Result (Option V) (GetWithRefused K V) → Type 0
  GetsWithIfMade Answers result = (made : Option (Option V)) × (own : Result (Option V) (Option (InsertRefused K V)))
      × IsGotWithIfMade made own Answers result

  -- or fail
  abbrev pub GetsWithIfNoError : {E : Type 0} → (Result V E → Type 0) → Result (Result V E) (GetWithRefused K V) →
      Type 0
  GetsWithIfNoError {E} Answers result = (made : Option (Result V E))
      × (own : Result (Result V E) (Option (InsertRefused K V))) × IsGotWithIfNoError made own Answers result
