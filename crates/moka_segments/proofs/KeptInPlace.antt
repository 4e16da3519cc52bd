-- Each call of a cache in segments leaves keys where they belong, since it is moves that insert no key but its own.
use Rattle.std.proofs.Common.{◌≡◌, ℕ, suc, Bool, List, [], ◌∷◌, Option, Some, None, Result, Ok, Err, inl, inr, sym, subst}
use Rattle.uuid.specs.declared.Uuid.{Uuid}
use Rattle.moka_records.specs.declared.instant.Instant.{Instant}
use Rattle.moka_types.specs.declared.calls.Call.{Call}
use Rattle.moka_types.specs.declared.calls.Call.TheVariants as call
use Rattle.moka_types.specs.declared.calls.Reply.{Reply}
use Rattle.moka_types.specs.declared.calls.Reply.TheVariants as reply
use Rattle.moka_types.specs.declared.calls.Ticket.{Ticket}
use Rattle.moka_types.specs.declared.error.InsertRefused.{InsertRefused}
use Rattle.moka_types.specs.declared.error.OutOfMemory.{OutOfMemory}
use Rattle.moka_parts.specs.Copies.{IsCopiedAnswer}
use Rattle.moka_parts.specs.State.{Meaning}
use Rattle.moka_calls.specs.Laws.{anytime}
use Rattle.moka_calls.specs.Synchronous.{Synchronous, Just, Posts, InsertsEntry, GetsValue, RemovesEntry, InsertsMade, GetsOrInserts, GetsOrInsertsIfMade, GetsOrInsertsIfNoError, HandsOutMade, HandsOutIfMade, HandsOutIfNoError, own_run, removed, invalidated}
use Rattle.moka_segments.specs.Keys.{Belongs, InsertsOnly, KeepsKeys}
use Rattle.moka_segments.specs.Laws.{CallsByKeyKeepKeys, CallsOfAllKeepKeys, GetWithKeepsKeys, GetWithIfMadeKeepsKeys, GetWithIfNoErrorKeepsKeys, InsertWhereTheyBelong, KeepsKeysBy, Move, RegisteringKeepsKeys}
use Rattle.moka_segments.specs.Moves.{AreOneEach, IsMoveBy, IsMoveOfEach, MayRegister, for_all_calls}
use Rattle.moka_router.specs.Routing.{Routing}
use Rattle.moka_segments.specs.Segmented.{Segmented}
use Rattle.moka_cache.specs.Keyed.{Inserts, Gets, Removes, GetsWith, GetsWithIfMade, GetsWithIfNoError}
use Rattle.moka_segments.proofs.Belonging.{keys_stay}
use Rattle.moka_segments.proofs.Moving as moving

module _ {K V P : Type 0} (Is : K → Type 0) where
  these : (calls made : List (Call K V P)) → calls ≡ made → InsertsOnly Is made → InsertsOnly Is calls
  these calls made is only = subst (InsertsOnly Is) (sym is) only

  posts_only : (now : Instant) (ticket : Ticket) (calls : List (Call K V P)) (replies : List (Reply K V P)) → Posts now ticket calls replies → InsertsOnly Is calls
  posts_only now ticket calls replies (inl (is, answers)) = these calls _ is (tt, (tt, tt))
  posts_only now ticket calls replies (inr (more, is, answers)) = these calls _ is (tt, (tt, (tt, (tt, tt))))

  inserts_only : (key : K) (hash : ℕ) (value : V) (now : Instant) (result : Result (Unit {0}) (InsertRefused K V)) (calls : List (Call K V P)) (replies : List (Reply K V P)) → Is key → InsertsEntry key hash value now result calls replies → InsertsOnly Is calls
  inserts_only key hash value now (Ok done) calls replies here (inl (is, answers)) = these calls _ is (here, tt)
  inserts_only key hash value now (Ok done) calls replies here (inr (ticket, posting, posted, posts, is, answers)) = these calls _ is (here, posts_only now ticket posting posted posts)
  inserts_only key hash value now (Err refused) calls replies here (is, answers) = these calls _ is (here, tt)

  gets_only : (key : K) (hash : ℕ) (now : Instant) (own : Result (Option V) OutOfMemory) (calls : List (Call K V P)) (replies : List (Reply K V P)) → GetsValue key hash now own calls replies → InsertsOnly Is calls
  gets_only key hash now own calls replies (a, told, is, answers) = these calls _ is (tt, tt)

  removes_only : (key : K) (hash : ℕ) (now : Instant) (taken : Option (V × Result (Unit {0}) OutOfMemory)) (calls : List (Call K V P)) (replies : List (Reply K V P)) → RemovesEntry key hash now taken calls replies → InsertsOnly Is calls
  removes_only key hash now None calls replies (is, answers) = these calls _ is (tt, tt)
  removes_only key hash now (Some answer) calls replies (k, written, read, ticket, posting, posted, posts, is, answers) = these calls _ is (tt, posts_only now ticket posting posted posts)

  makes_only : (key : K) (hash : ℕ) (now : Instant) (made : V) (own : Result V (InsertRefused K V)) (calls : List (Call K V P)) (replies : List (Reply K V P)) → Is key → InsertsMade key hash now made own calls replies → InsertsOnly Is calls
  makes_only key hash now made (Ok value) calls replies here (same, inserts) = inserts_only key hash made now (Ok tt) calls replies here inserts
  makes_only key hash now made (Err refused) calls replies here (inl (why, is, answers)) = these calls [] is tt
  makes_only key hash now made (Err refused) calls replies here (inr inserts) = inserts_only key hash made now (Err refused) calls replies here inserts

  gets_or_inserts_only : (key : K) (hash : ℕ) (now : Instant) (made : Option V) (own : Result V (Option (InsertRefused K V))) (calls : List (Call K V P)) (replies : List (Reply K V P)) → Is key → GetsOrInserts key hash now made own calls replies → InsertsOnly Is calls
  gets_or_inserts_only key hash now None (Ok value) calls replies here gets = gets_only key hash now (Ok (Some value)) calls replies gets
  gets_or_inserts_only key hash now None (Err None) calls replies here (refused, gets) = gets_only key hash now (Err refused) calls replies gets
  gets_or_inserts_only key hash now (Some made) (Ok value) calls replies here (later, answers, makes, is, told) = these calls _ is (tt, makes_only key hash now made (Ok value) later answers here makes)
  gets_or_inserts_only key hash now (Some made) (Err (Some refused)) calls replies here (later, answers, makes, is, told) = these calls _ is (tt, makes_only key hash now made (Err refused) later answers here makes)
  gets_or_inserts_only key hash now made own calls replies here gets = absurd gets

  if_made_only : (key : K) (hash : ℕ) (now : Instant) (made : Option (Option V)) (own : Result (Option V) (Option (InsertRefused K V))) (calls : List (Call K V P)) (replies : List (Reply K V P)) → Is key → GetsOrInsertsIfMade key hash now made own calls replies → InsertsOnly Is calls
  if_made_only key hash now None (Ok (Some value)) calls replies here gets = gets_or_inserts_only key hash now None (Ok value) calls replies here gets
  if_made_only key hash now None (Err refused) calls replies here gets = gets_or_inserts_only key hash now None (Err refused) calls replies here gets
  if_made_only key hash now (Some None) (Ok None) calls replies here gets = gets_only key hash now (Ok None) calls replies gets
  if_made_only key hash now (Some (Some made)) (Ok (Some value)) calls replies here gets = gets_or_inserts_only key hash now (Some made) (Ok value) calls replies here gets
  if_made_only key hash now (Some (Some made)) (Err refused) calls replies here gets = gets_or_inserts_only key hash now (Some made) (Err refused) calls replies here gets
  if_made_only key hash now made own calls replies here gets = absurd gets

  if_no_error_only : {E : Type 0} (key : K) (hash : ℕ) (now : Instant) (made : Option (Result V E)) (own : Result (Result V E) (Option (InsertRefused K V))) (calls : List (Call K V P)) (replies : List (Reply K V P)) → Is key → GetsOrInsertsIfNoError key hash now made own calls replies → InsertsOnly Is calls
  if_no_error_only key hash now None (Ok (Ok value)) calls replies here gets = gets_or_inserts_only key hash now None (Ok value) calls replies here gets
  if_no_error_only key hash now None (Err refused) calls replies here gets = gets_or_inserts_only key hash now None (Err refused) calls replies here gets
  if_no_error_only key hash now (Some (Err failed)) (Ok (Err error)) calls replies here (same, gets) = gets_only key hash now (Ok None) calls replies gets
  if_no_error_only key hash now (Some (Ok made)) (Ok (Ok value)) calls replies here gets = gets_or_inserts_only key hash now (Some made) (Ok value) calls replies here gets
  if_no_error_only key hash now (Some (Ok made)) (Err refused) calls replies here gets = gets_or_inserts_only key hash now (Some made) (Err refused) calls replies here gets
  if_no_error_only key hash now made own calls replies here gets = absurd gets

  registers_none : (Given : P → Type 0) (now : Instant) (calls : List (Call K V P)) (replies : List (Reply K V P)) → MayRegister Given now calls replies → InsertsOnly Is calls
  registers_none Given now calls replies (inl (is, answers)) = these calls [] is tt
  registers_none Given now calls replies (inr (predicate, answer, given, (is, answers))) = these calls _ is (tt, tt)

-- moves of each segment that insert no key
none_inserted : {K V S X L P W : Type 0} (hash_of : S → K → ℕ) (Fit : List (Call K V P) → List (Reply K V P) → Type 0) → ((Is : K → Type 0) (calls : List (Call K V P)) (replies : List (Reply K V P)) → Fit calls replies → InsertsOnly Is calls)
    → (routing : Routing S) (index : ℕ) (xs : List (Synchronous K V S X L P W)) (moves : List (Move K V P)) → AreOneEach Fit index xs moves → InsertWhereTheyBelong hash_of routing moves
none_inserted hash_of Fit none routing index [] [] fits = tt
none_inserted hash_of Fit none routing index (x ∷ xs) (v ∷ vs) (is, fit, fits) = (none (Belongs hash_of routing v.index) v.calls v.replies fit, none_inserted hash_of Fit none routing (suc index) xs vs fits)
none_inserted hash_of Fit none routing index xs moves fits = absurd fits

module _ {K V S X L P W C : Type 0} (hash_of : S → K → ℕ) (m : Meaning K V X L P W C (Unit {0})) (is_key_clone : K → K → Type 0) (is_clone : V → V → Type 0) where
  -- a call that is a move of each segment
  of_each : (clock clock_after : C) (Leads : Segmented K V S X L P W → Segmented K V S X L P W → Type 0) (Fit : List (Call K V P) → List (Reply K V P) → Type 0) → ((Is : K → Type 0) (calls : List (Call K V P)) (replies : List (Reply K V P)) → Fit calls replies → InsertsOnly Is calls)
      → IsMoveOfEach S m is_key_clone is_clone clock clock_after Leads Fit → KeepsKeys hash_of Leads
  of_each clock clock_after Leads Fit none are_moves old new leads belong =
      let (moves, fits, moved) = are_moves old new leads in
      keys_stay hash_of (for_all_calls is_key_clone is_clone m) moves old new clock clock_after moved (none_inserted hash_of Fit none old.routing 0 old.segments moves fits) belong

  -- a call that is one move, of the key's own segment
  by_move : (key : K) (clock clock_after : C) (Step : Synchronous K V S X L P W → Synchronous K V S X L P W → Type 0) (Fit : ℕ → List (Call K V P) → List (Reply K V P) → Type 0)
      → ((Is : K → Type 0) (hash : ℕ) (calls : List (Call K V P)) (replies : List (Reply K V P)) → Is key → Fit hash calls replies → InsertsOnly Is calls)
      → IsMoveBy {S = S} hash_of m is_key_clone is_clone key clock clock_after Step Fit → KeepsKeysBy {S = S} hash_of m key Step
  by_move key clock clock_after Step Fit only is_move old new steps belong =
      let (moves, (v, x, are, is_place, at_x, fits), moved) = is_move old new steps in
      keys_stay hash_of (for_all_calls is_key_clone is_clone m) moves old new clock clock_after moved
      (subst (InsertWhereTheyBelong hash_of old.routing) (sym are) (only (Belongs hash_of old.routing v.index) (hash_of x.engine.hasher key) v.calls v.replies (sym is_place) fits, tt)) belong

  removes : (key : K) (now : Instant) (clock clock_after : C) (Answers : Option (V × Result (Unit {0}) OutOfMemory) → Type 0) → KeepsKeysBy {S = S} hash_of m key (Removes m hash_of key now clock clock_after is_key_clone is_clone Answers)
  removes key now clock clock_after Answers =
      by_move key clock clock_after (Removes m hash_of key now clock clock_after is_key_clone is_clone Answers) (λ hash calls replies. (taken : Option (V × Result (Unit {0}) OutOfMemory)) × Answers taken × RemovesEntry key hash now taken calls replies)
      (λ Is hash calls replies here (taken, answers, fits). removes_only Is key hash now taken calls replies fits) (moving.removes hash_of m is_key_clone is_clone key now clock clock_after Answers)

  pub calls_by_key : CallsByKeyKeepKeys {S = S} hash_of m is_key_clone is_clone
  calls_by_key =
      let moves = moving.calls_by_key {S = S} hash_of m is_key_clone is_clone in
      record {
        insert = λ key now clock clock_after value result. by_move key clock clock_after (Inserts m hash_of key now clock clock_after value result) (λ hash. InsertsEntry key hash value now result)
            (λ Is hash calls replies here fits. inserts_only Is key hash value now result calls replies here fits) (moves.insert key now clock clock_after value result);
        get = λ key now clock clock_after result. by_move key clock clock_after (Gets m hash_of key now clock clock_after is_clone result) (λ hash calls replies. (own : Result (Option V) OutOfMemory) × IsCopiedAnswer is_clone own result × GetsValue key hash now own calls replies)
            (λ Is hash calls replies here (own, copied, fits). gets_only Is key hash now own calls replies fits) (moves.get key now clock clock_after result);
        remove = λ key now clock clock_after result. removes key now clock clock_after (λ taken. result ≡ removed taken);
        invalidate = λ key now clock clock_after result. removes key now clock clock_after (λ taken. result ≡ invalidated taken);
      }

  pub get_with : {M : Type 0} (makes : M → V → Type 0) → GetWithKeepsKeys {S = S} hash_of m is_clone makes
  get_with makes key now clock clock_after init result =
      by_move key clock clock_after (GetsWith m hash_of key now clock clock_after is_clone (makes init) result)
      (λ hash calls replies. (made : Option V) × (own : Result V (Option (InsertRefused K V))) × ((value : V) → made ≡ Some value → makes init value) × HandsOutMade is_clone key own result × GetsOrInserts key hash now made own calls replies)
      (λ Is hash calls replies here (made, own, answers, hands, fits). gets_or_inserts_only Is key hash now made own calls replies here fits) (moving.get_with hash_of m is_key_clone is_clone makes key now clock clock_after init result)

  pub get_with_if_made : {M : Type 0} (makes : M → Option V → Type 0) → GetWithIfMadeKeepsKeys {S = S} hash_of m is_clone makes
  get_with_if_made makes key now clock clock_after init result =
      by_move key clock clock_after (GetsWithIfMade m hash_of key now clock clock_after is_clone (makes init) result)
      (λ hash calls replies. (made : Option (Option V)) × (own : Result (Option V) (Option (InsertRefused K V))) × ((answer : Option V) → made ≡ Some answer → makes init answer) × HandsOutIfMade is_clone key own result × GetsOrInsertsIfMade key hash now made own calls replies)
      (λ Is hash calls replies here (made, own, answers, hands, fits). if_made_only Is key hash now made own calls replies here fits) (moving.get_with_if_made hash_of m is_key_clone is_clone makes key now clock clock_after init result)

  pub get_with_if_no_error : {M E : Type 0} (makes : M → Result V E → Type 0) → GetWithIfNoErrorKeepsKeys {S = S} hash_of m is_clone makes
  get_with_if_no_error {E = E} makes key now clock clock_after init result =
      by_move key clock clock_after (GetsWithIfNoError m hash_of key now clock clock_after is_clone (makes init) result)
      (λ hash calls replies. (made : Option (Result V E)) × (own : Result (Result V E) (Option (InsertRefused K V))) × ((answer : Result V E) → made ≡ Some answer → makes init answer) × HandsOutIfNoError is_clone key own result × GetsOrInsertsIfNoError key hash now made own calls replies)
      (λ Is hash calls replies here (made, own, answers, hands, fits). if_no_error_only Is key hash now made own calls replies here fits) (moving.get_with_if_no_error hash_of m is_key_clone is_clone makes key now clock clock_after init result)

-- calls that concern all segments, whatever a clone is
module _ {K V S X L P W C : Type 0} (hash_of : S → K → ℕ) (m : Meaning K V X L P W C (Unit {0})) where
  pub calls_of_all : CallsOfAllKeepKeys {S = S} hash_of m
  calls_of_all = record {
    invalidate_all = λ now. of_each hash_of (anytime m) (λ _ _. ⊥) (λ _ _. ⊥) tt tt _ (Just (call.InvalidateAll now) reply.InvalidateAll) (λ Is calls replies fits. these Is calls _ fits.0 (tt, tt))
        ((moving.calls_of_all {S = S} (anytime m) (λ _ _. ⊥) (λ _ _. ⊥)).invalidate_all now tt);
    run_pending_tasks = λ now clock clock_after more. of_each hash_of m (λ _ _. ⊥) (λ _ _. ⊥) clock clock_after _ (λ calls replies. (left : Bool) × Just (own_run now) (reply.Run left) calls replies) (λ Is calls replies fits. these Is calls _ fits.1.0 (tt, tt))
        ((moving.calls_of_all {S = S} m (λ _ _. ⊥) (λ _ _. ⊥)).run_pending_tasks now clock clock_after more);
  }

pub registering : {K V S X L P W I M : Type 0} (hash_of : S → K → ℕ) (m : Meaning K V X L P W (Unit {0}) (Unit {0})) (gives : I → Uuid → I → Type 0) (makes : M → P → Type 0) → RegisteringKeepsKeys S X W hash_of m.tells gives makes
registering {S = S} hash_of m gives makes make now given result ids ids_after =
    of_each hash_of m (λ _ _. ⊥) (λ _ _. ⊥) tt tt _ (MayRegister (makes make) now) (λ Is calls replies fits. registers_none Is (makes make) now calls replies fits)
    (moving.registering {S = S} m (λ _ _. ⊥) (λ _ _. ⊥) gives makes make now given result ids ids_after tt)
