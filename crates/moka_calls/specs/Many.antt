-- Calls for many keys at once: the calls for one, in order, up to the first that is refused.
use Rattle.std.specs.Prelude.{◌≡◌, ℕ, List, [], ◌∷◌, ◌++◌, length, map, Option, Result, Ok, Err, ◌⊎◌}
use Rattle.std.specs.declared.alloc.Global.{Global}
use Rattle.std.specs.declared.vec.Vec.{Vec}
use Rattle.std.specs.Vec.Iter.{into_iter_items}
use Rattle.moka_types.specs.declared.calls.Call.{Call}
use Rattle.moka_types.specs.declared.calls.Reply.{Reply}
use Rattle.moka_types.specs.declared.error.OutOfMemory.{OutOfMemory}
use Rattle.moka_records.specs.declared.instant.Instant.{Instant}
use Rattle.moka_parts.specs.Copies.{IsCopy}
use Rattle.moka_calls.specs.declared.error.NotTold.{NotTold}
use Rattle.moka_calls.specs.declared.many.GetManyRefused.{GetManyRefused}
use Rattle.moka_calls.specs.declared.many.InsertManyRefused.{InsertManyRefused}
use Rattle.moka_calls.specs.declared.many.InvalidateManyRefused.{InvalidateManyRefused}
use Rattle.moka_calls.specs.Compute.{InTurn}
use Rattle.moka_calls.specs.Synchronous.{GetsValue, InsertsEntry, RemovesEntry, invalidated}

-- the calls of each item, in order
abbrev pub Each : {A K V P : Type 0} → (A → List (Call K V P) → List (Reply K V P) → Type 0) → List A →
    List (Call K V P) → List (Reply K V P) → Type 0
Each Step [] calls replies = (calls ≡ []) × (replies ≡ [])
Each Step (x ∷ xs) calls replies = InTurn (Step x) (Each Step xs) calls replies

module _ {K V P : Type 0} (hash_of : K → ℕ) (now : Instant) where
  -- an insert that is done
  abbrev pub InsertsItem : K × V → List (Call K V P) → List (Reply K V P) → Type 0
  InsertsItem item calls replies = InsertsEntry item.0 (hash_of item.0) item.1 now (Ok tt) calls replies

  -- an insert of each item; or of those before the one that is refused, and those after it come back
  abbrev pub InsertsMany : List (K × V) → Result (Unit {0}) (InsertManyRefused K V) → List (Call K V P) →
      List (Reply K V P) → Type 0
  InsertsMany items (Ok all) calls replies = Each InsertsItem items calls replies
  InsertsMany items (Err e) calls replies =
      (put : List (K × V)) × (items ≡ put ++ (e.refused.key, e.refused.value) ∷ into_iter_items e.rest)
      × (e.done ≡ length put)
      × InTurn (Each InsertsItem put)
      (InsertsEntry e.refused.key (hash_of e.refused.key) e.refused.value now (Err e.refused)) calls replies

  -- an invalidation, with this answer
  abbrev pub Invalidates : Result (Unit {0}) (NotTold V) → K → List (Call K V P) → List (Reply K V P) → Type 0
  Invalidates answer key calls replies = (taken : Option (V × Result (Unit {0}) OutOfMemory))
      × (answer ≡ invalidated taken) × RemovesEntry key (hash_of key) now taken calls replies

  -- an invalidation of each key; or of those up to the one whose listener was not told
  abbrev pub InvalidatesMany : List K → Result (Unit {0}) (InvalidateManyRefused V) → List (Call K V P) →
      List (Reply K V P) → Type 0
  InvalidatesMany keys (Ok all) calls replies = Each (Invalidates (Ok tt)) keys calls replies
  InvalidatesMany keys (Err e) calls replies =
      (before : List K) × (key : K) × (after : List K) × (keys ≡ before ++ key ∷ after) × (e.done ≡ length before)
      × InTurn (Each (Invalidates (Ok tt)) before) (Invalidates (Err e.refused) key) calls replies

-- what was found before a refusal, if there is one
abbrev pub found_by : {V : Type 0} → Result (Vec (Option V) Global) (GetManyRefused V) → List (Option V)
found_by (Ok found) = found.items
found_by (Err e) = e.found.items

module _ {K V P : Type 0} (is_clone : V → V → Type 0) (hash_of : K → ℕ) (now : Instant) where
  -- a look-up of the key, which finds nothing or this clone of its value
  abbrev pub GetsItem : K × Option V → List (Call K V P) → List (Reply K V P) → Type 0
  GetsItem item calls replies = (own : Option V) × IsCopy is_clone own item.1
      × GetsValue item.0 (hash_of item.0) now (Ok own) calls replies

  -- a look-up of each key; or of those before the one that is refused, or of none if there is no room for the
  -- answers
  abbrev pub GetsMany : List K → Result (Vec (Option V) Global) (GetManyRefused V) → List (Call K V P) →
      List (Reply K V P) → Type 0
  GetsMany keys (Ok found) calls replies = (got : List (K × Option V)) × (keys ≡ map (λ g. g.0) got)
      × (found.items ≡ map (λ g. g.1) got) × Each GetsItem got calls replies
  GetsMany keys (Err e) calls replies =
      ((e.found.items ≡ []) × (calls ≡ []) × (replies ≡ []))
      ⊎ ((got : List (K × Option V)) × (key : K) × (after : List K) × (keys ≡ map (λ g. g.0) got ++ key ∷ after)
      × (e.found.items ≡ map (λ g. g.1) got)
      × (refused : OutOfMemory)
      × InTurn (Each GetsItem got) (GetsValue key (hash_of key) now (Err refused)) calls replies)
