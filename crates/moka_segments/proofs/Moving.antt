-- The cache's own calls are moves of its segments.
use Rattle.std.proofs.Common.{◌≡◌, refl, ℕ, suc, Bool, List, [], ◌∷◌, ◌++◌, length, Option, Some, Result, Ok, Err, ◌⊎◌, inl, inr, sym, subst, append_assoc, length-append, arith}
use Rattle.std.proofs.lemmas.List.{get_or_at, set_at}
use Rattle.std.specs.List.{AllZip}
use Rattle.uuid.specs.declared.Uuid.{Uuid}
use Rattle.moka_types.specs.declared.calls.Call.{Call}
use Rattle.moka_types.specs.declared.calls.Call.TheVariants as call
use Rattle.moka_types.specs.declared.calls.Reply.{Reply}
use Rattle.moka_types.specs.declared.calls.Reply.TheVariants as reply
use Rattle.moka_types.specs.declared.error.InsertRefused.{InsertRefused}
use Rattle.moka_types.specs.declared.error.OutOfMemory.{OutOfMemory}
use Rattle.moka_types.specs.declared.error.PredicateRefused.{PredicateRefused}
use Rattle.moka_records.specs.declared.instant.Instant.{Instant}
use Rattle.moka_parts.specs.Calls.{InvalidateStep, no_events, only_ids}
use Rattle.moka_parts.specs.Copies.{IsCopiedAnswer}
use Rattle.moka_parts.specs.Listed.{ListedStep}
use Rattle.moka_parts.specs.Runs.{Engine, Befalls, Step, PromisedRun}
use Rattle.moka_parts.specs.State.{Meaning, Events}
use Rattle.moka_laws.proofs.OrderedDrive.{listed_call_promised}
use Rattle.moka_parts.proofs.RunsGoOn.{MakesCalls_push}
use Rattle.moka_calls.specs.Synchronous.{Synchronous, Made, Makes, Just, InsertsEntry, GetsValue, RemovesEntry, GetsOrInserts, GetsOrInsertsIfMade, GetsOrInsertsIfNoError, HandsOutMade, HandsOutIfMade, HandsOutIfNoError, hears_clones, own_run, removed, invalidated}
use Rattle.moka_calls.proofs.Anytime.{tells_any}
use Rattle.moka_laws.proofs.Quiet.{nothing_heard}
use Rattle.moka_calls.proofs.Made.{made_nothing, made_one, befalls_more}
use Rattle.moka_segments.specs.Laws.{Move, MoveAfterMove}
use Rattle.moka_segments.specs.Moves.{for_all_calls, IsOneMove, AreOneEach, MayRegister, MovesBy, MovesGoOn, IsMoveBy, CallsByKeyAreMoves, LentCallsAreMoves, GetWithIsMove, GetWithIfMadeIsMove, GetWithIfNoErrorIsMove, CallsOfAllAreMoves, RegisteringIsMoves}
use Rattle.moka_segments.specs.Registering.{AllRegister, Registers, HasNoRoom}
use Rattle.moka_router.specs.Routing.{Routing, segment_of}
use Rattle.moka_segments.specs.Segmented.{Segmented, Steps}
use Rattle.moka_cache.specs.Keyed.{Inserts, Gets, Removes, GetsWith, GetsWithIfMade, GetsWithIfNoError}
use Rattle.moka_segments.specs.Whole.{AllRan, Hides}
use Rattle.moka_segments.proofs.ForAllCalls.{made_with_ids, made_for_all}

-- ---- moves after moves

module _ {K V S X L P W C : Type 0} (m : Meaning K V X L P W C (Unit {0})) where
  pub moves_go_on : MovesGoOn S m
  moves_go_on [] later old mid new clock between clock_after first rest =
      subst (λ (c : Segmented K V S X L P W). MoveAfterMove m later clock c clock_after new) first.1 (subst (λ c. MoveAfterMove m later c mid clock_after new) first.0 rest)
  moves_go_on (v ∷ vs) later old mid new clock between clock_after (c, meanwhile, move, first) rest = (c, meanwhile, move, moves_go_on vs later c mid new meanwhile between clock_after first rest)

  -- ---- one move

  -- a step of one segment in which it made calls that fit
  pub moves_one : (index : ℕ) (Step : Synchronous K V S X L P W → Synchronous K V S X L P W → Type 0) (Fit : S → List (Call K V P) → List (Reply K V P) → Type 0) (clock clock_after : C) (old new : Segmented K V S X L P W)
      → ((x y : Synchronous K V S X L P W) → Step x y → Makes m (Fit x.engine.hasher) x.engine clock y.engine clock_after) → Steps index Step old new → MovesBy m (IsOneMove old.segments index Fit) clock old clock_after new
  moves_one index Step Fit clock clock_after old new makes steps =
      let one = steps.one in
      let (calls, replies, fits, made) = makes one.before one.after one.step in
      let v : Move K V P = record { index = index; calls = calls; replies = replies } in (
        v ∷ [],
        (v, one.before, refl, refl, one.there, fits),
        (new, clock_after, record { routing = steps.routing; one = record { before = one.before; after = one.after; there = one.there; step = made; others = one.others } }, (refl, refl)),
      )

  -- ---- one move of each

  -- each segment made calls that fit, one segment after the other
  abbrev pub EachMakes : (List (Call K V P) → List (Reply K V P) → Type 0) → C → C → List (Synchronous K V S X L P W) → List (Synchronous K V S X L P W) → Type 0
  EachMakes Fit clock clock_after [] [] = clock_after ≡ clock
  EachMakes Fit clock clock_after (x ∷ xs) (y ∷ ys) = (between : C) × Makes m Fit x.engine clock y.engine between × EachMakes Fit between clock_after xs ys
  EachMakes Fit clock clock_after xs ys = ⊥

  -- each segment behind those that are done
  moves_each : (Fit : List (Call K V P) → List (Reply K V P) → Type 0) (routing : Routing S) (done : List (Synchronous K V S X L P W)) (clock clock_after : C) (xs ys : List (Synchronous K V S X L P W)) → EachMakes Fit clock clock_after xs ys
      → MovesBy m (AreOneEach Fit (length done) xs) clock (record { routing = routing; segments = done ++ xs }) clock_after (record { routing = routing; segments = done ++ ys })
  moves_each Fit routing done clock clock_after [] [] same = ([], tt, (same, refl))
  moves_each Fit routing done clock clock_after (x ∷ xs) (y ∷ ys) (between, (calls, replies, fit, made), rest) =
      let (vs, fits, moved) = moves_each Fit routing (done ++ y ∷ []) between clock_after xs ys rest in
      let v : Move K V P = record { index = length done; calls = calls; replies = replies } in
      let one_more : length (done ++ y ∷ []) ≡ suc (length done) = omega (arith, length-append done (y ∷ [])) in
      let from = subst (λ zs. MoveAfterMove {S = S} m vs between (record { routing = routing; segments = zs }) clock_after (record { routing = routing; segments = (done ++ y ∷ []) ++ ys })) (append_assoc done (y ∷ []) xs) moved in (
        v ∷ vs,
        (refl, fit, subst (λ n. AreOneEach Fit n xs vs) one_more fits),
        (
          record { routing = routing; segments = done ++ y ∷ xs },
          between,
          record { routing = refl; one = record { before = x; after = y; there = record { within = omega (arith, length-append done (x ∷ xs)); is = λ d. get_or_at done x xs d (length done) refl }; step = made; others = sym (set_at done x xs y (length done) refl) } },
          subst (λ zs. MoveAfterMove {S = S} m vs between (record { routing = routing; segments = done ++ y ∷ xs }) clock_after (record { routing = routing; segments = zs })) (append_assoc done (y ∷ []) ys) from,
        ),
      )
  moves_each Fit routing done clock clock_after xs ys each = absurd each

  -- of a whole cache
  pub moves_all : (Fit : List (Call K V P) → List (Reply K V P) → Type 0) (clock clock_after : C) (old new : Segmented K V S X L P W) → new.routing ≡ old.routing → EachMakes Fit clock clock_after old.segments new.segments
      → MovesBy m (AreOneEach Fit 0 old.segments) clock old clock_after new
  moves_all Fit clock clock_after old new same each =
      subst (λ (r : Routing S). MovesBy m (AreOneEach Fit 0 old.segments) clock old clock_after (record { routing = r; segments = new.segments })) (sym same) (moves_each Fit old.routing [] clock clock_after old.segments new.segments each)

-- ---- the calls

module _ {K V S X L P W C : Type 0} (m : Meaning K V X L P W C (Unit {0})) (is_key_clone : K → K → Type 0) (is_clone : V → V → Type 0) where
  -- calls that fit
  makes_wide : (Fit Fits : List (Call K V P) → List (Reply K V P) → Type 0) → ((calls : List (Call K V P)) (replies : List (Reply K V P)) → Fit calls replies → Fits calls replies) → (x y : Engine K V S X L P W) (clock clock_after : C) → Makes m Fit x clock y clock_after → Makes (for_all_calls is_key_clone is_clone m) Fits x clock y clock_after
  makes_wide Fit Fits fits x y clock clock_after (calls, replies, fit, made) = (calls, replies, fits calls replies fit, made_for_all m is_key_clone is_clone calls replies x y clock clock_after made)

  -- a predicate was registered, or refused
  registers_wide : (predicate : P) (now : Instant) (answer : Result Uuid (PredicateRefused P)) (e : Events K V) (x y : Engine K V S X L P W) (clock : C) → InvalidateStep x.state predicate now answer e.ids y.state → e ≡ only_ids e.ids → Befalls m.tells e x y
      → Made (for_all_calls is_key_clone is_clone m) (call.InvalidateIf predicate now ∷ []) (reply.InvalidateIf answer ∷ []) x clock y clock
  registers_wide predicate now answer e x y clock step only befalls =
      let asked : Events K V = only_ids e.ids in
      let befell : Befalls (hears_clones is_key_clone is_clone m.tells) asked x y = befalls_more m (hears_clones is_key_clone is_clone m.tells) (λ l k v cause after step. inl step) asked x y (subst (λ f. Befalls m.tells f x y) only befalls) in
      let taken : Step K V X P W = record { call = call.InvalidateIf predicate now; reply = reply.InvalidateIf answer; events = asked; after = y.state } in
      let listed : ListedStep (for_all_calls is_key_clone is_clone m) x.state x.write_list taken y.write_list = ((step, refl), befell.listed) in
      record {
        steps = taken ∷ [];
        is_run = MakesCalls_push (for_all_calls is_key_clone is_clone m) (PromisedRun m.says m.read) [] [] [] x x y clock clock clock tt tt tt taken (record { calls_made = refl; replies_given = refl; are_steps = tt; ends = refl; heard = nothing_heard (hears_clones is_key_clone is_clone m.tells) x.listener; read = refl; given = refl }) (listed_call_promised (for_all_calls is_key_clone is_clone m) x.state x.write_list y.write_list taken listed) refl befell refl (tells_any e.ids);
        listed = (y.write_list, listed, refl);
        in_order = (tt, tt);
      }

  registered : {I : Type 0} (gives : I → Uuid → I → Type 0) (Given : P → Type 0) (now : Instant) (answer : Result Uuid (PredicateRefused P)) (ids ids_after : I) (x y : Synchronous K V S X L P W) (clock : C) → Registers m.tells gives Given now answer ids ids_after x y
      → Makes (for_all_calls is_key_clone is_clone m) (MayRegister Given now) x.engine clock y.engine clock
  registered gives Given now answer ids ids_after x y clock registers =
      let (e, step, only, befalls, leads) = registers.step in (
        call.InvalidateIf registers.predicate now ∷ [],
        reply.InvalidateIf answer ∷ [],
        inr (registers.predicate, answer, registers.made, (refl, refl)),
        registers_wide registers.predicate now answer e x.engine y.engine clock step only befalls,
      )

  -- who is not asked makes no call
  not_asked : (Fit : List (Call K V P) → List (Reply K V P) → Type 0) → Fit [] [] → (x : Synchronous K V S X L P W) (clock : C) → Makes (for_all_calls is_key_clone is_clone m) Fit x.engine clock x.engine clock
  not_asked Fit none x clock = ([], [], none, made_nothing (for_all_calls is_key_clone is_clone m) x.engine clock)

  none_asked : (Fit : List (Call K V P) → List (Reply K V P) → Type 0) → Fit [] [] → (clock : C) (xs : List (Synchronous K V S X L P W)) → EachMakes (for_all_calls is_key_clone is_clone m) Fit clock clock xs xs
  none_asked Fit none clock [] = refl
  none_asked Fit none clock (x ∷ xs) = (clock, not_asked Fit none x clock, none_asked Fit none clock xs)

  module _ {I : Type 0} (gives : I → Uuid → I → Type 0) (Given : P → Type 0) (now : Instant) (clock : C) where
    each_registers : (given : List Uuid) (result : Result (Unit {0}) (PredicateRefused P)) (ids ids_after : I) (xs ys : List (Synchronous K V S X L P W)) → AllRegister m.tells gives Given now given result ids ids_after xs ys → EachMakes (for_all_calls is_key_clone is_clone m) (MayRegister Given now) clock clock xs ys
    each_registers given result ids ids_after [] [] all = refl
    each_registers given result ids ids_after (x ∷ xs) (y ∷ ys) (inl (id, others, between, is, one, all)) = (clock, registered gives Given now (Ok id) ids between x y clock one, each_registers others result between ids_after xs ys all)
    each_registers given result ids ids_after (x ∷ xs) (y ∷ ys) (inr (refused, none, is, left, why)) =
        (clock, first why, subst (EachMakes (for_all_calls is_key_clone is_clone m) (MayRegister Given now) clock clock xs) (sym left) (none_asked (MayRegister Given now) (inl (refl, refl)) clock xs))
      where
        first : (Registers m.tells gives Given now (Err refused) ids ids_after x y ⊎ HasNoRoom m.tells gives Given now refused ids ids_after x y) → Makes (for_all_calls is_key_clone is_clone m) (MayRegister Given now) x.engine clock y.engine clock
        first (inl registers) = registered gives Given now (Err refused) ids ids_after x y clock registers
        first (inr none) = subst (λ (z : Synchronous K V S X L P W). Makes (for_all_calls is_key_clone is_clone m) (MayRegister Given now) x.engine clock z.engine clock) (sym none.unchanged) (not_asked (MayRegister Given now) (inl (refl, refl)) x clock)
    each_registers given result ids ids_after xs ys all = absurd all

  each_hides : (now : Instant) (clock : C) (xs ys : List (Synchronous K V S X L P W)) → AllZip (Hides m.tells now) xs ys → EachMakes (for_all_calls is_key_clone is_clone m) (Just (call.InvalidateAll now) reply.InvalidateAll) clock clock xs ys
  each_hides now clock [] [] all = refl
  each_hides now clock (x ∷ xs) (y ∷ ys) (hides, all) =
      let made = made_one m x.engine y.engine clock clock (call.InvalidateAll now) reply.InvalidateAll no_events (hides.step, refl) hides.events refl refl tt in
      (clock, (call.InvalidateAll now ∷ [], reply.InvalidateAll ∷ [], (refl, refl), made_for_all m is_key_clone is_clone _ _ x.engine y.engine clock clock made), each_hides now clock xs ys all)
  each_hides now clock xs ys all = absurd all

  each_ran : (now : Instant) (clock : C) (more : Bool) (clock_after : C) (xs ys : List (Synchronous K V S X L P W)) → AllRan m now clock more clock_after xs ys → EachMakes (for_all_calls is_key_clone is_clone m) (λ calls replies. (left : Bool) × Just (own_run now) (reply.Run left) calls replies) clock clock_after xs ys
  each_ran now clock more clock_after [] [] all = all.1
  each_ran now clock more clock_after (x ∷ xs) (y ∷ ys) (first, between, rest, one, others, told) =
      (between, makes_wide (Just (own_run now) (reply.Run first)) _ (λ calls replies fit. (first, fit)) x.engine y.engine clock between one.made, each_ran now between rest clock_after xs ys others)
  each_ran now clock more clock_after xs ys all = absurd all

  pub lent_calls : LentCallsAreMoves S m is_key_clone is_clone
  lent_calls = record {
    of_entries = λ v clock clock_after old new steps. lent_one v clock clock_after old new steps (λ x y. made_for_all m is_key_clone is_clone v.calls v.replies x.engine y.engine clock clock_after);
    of_clones = λ v clock clock_after old new steps. lent_one v clock clock_after old new steps (λ x y. made_with_ids m is_key_clone is_clone v.calls v.replies x.engine y.engine clock clock_after);
  }
    where
      lent_one : (v : Move K V P) (clock clock_after : C) (old new : Segmented K V S X L P W) {Step : Synchronous K V S X L P W → Synchronous K V S X L P W → Type 0} → Steps v.index Step old new
          → ((x y : Synchronous K V S X L P W) → Step x y → Made (for_all_calls is_key_clone is_clone m) v.calls v.replies x.engine clock y.engine clock_after) → MoveAfterMove (for_all_calls is_key_clone is_clone m) (v ∷ []) clock old clock_after new
      lent_one v clock clock_after old new steps wide =
          let one = steps.one in
          (new, clock_after, record { routing = steps.routing; one = record { before = one.before; after = one.after; there = one.there; step = wide one.before one.after one.step; others = one.others } }, (refl, refl))

  pub calls_of_all : CallsOfAllAreMoves S m is_key_clone is_clone
  calls_of_all = record {
    invalidate_all = λ now clock old new hides. moves_all (for_all_calls is_key_clone is_clone m) (Just (call.InvalidateAll now) reply.InvalidateAll) clock clock old new hides.0 (each_hides now clock old.segments new.segments hides.1);
    run_pending_tasks = λ now clock clock_after more old new ran. moves_all (for_all_calls is_key_clone is_clone m) (λ calls replies. (left : Bool) × Just (own_run now) (reply.Run left) calls replies) clock clock_after old new ran.0 (each_ran now clock more clock_after old.segments new.segments ran.1);
  }

  pub registering : {I M : Type 0} (gives : I → Uuid → I → Type 0) (makes : M → P → Type 0) → RegisteringIsMoves S m is_key_clone is_clone gives makes
  registering gives makes make now given result ids ids_after clock old new asked =
      moves_all (for_all_calls is_key_clone is_clone m) (MayRegister (makes make) now) clock clock old new asked.0 (each_registers gives (makes make) now clock given result ids ids_after old.segments new.segments asked.1)

module _ {K V S X L P W C : Type 0} (hash_of : S → K → ℕ) (m : Meaning K V X L P W C (Unit {0})) (is_key_clone : K → K → Type 0) (is_clone : V → V → Type 0) where
  abbrev among : Meaning K V X L P W C (Unit {0})
  among = for_all_calls is_key_clone is_clone m

  -- a call by key whose step makes calls that fit
  by_key : (key : K) (clock clock_after : C) (Step : Synchronous K V S X L P W → Synchronous K V S X L P W → Type 0) (Fit : ℕ → List (Call K V P) → List (Reply K V P) → Type 0) → ((x y : Synchronous K V S X L P W) → Step x y → Makes among (Fit (hash_of x.engine.hasher key)) x.engine clock y.engine clock_after)
      → IsMoveBy {S = S} hash_of m is_key_clone is_clone key clock clock_after Step Fit
  by_key key clock clock_after Step Fit makes old new steps = moves_one among (segment_of old.routing.count (hash_of old.routing.hasher key)) Step (λ hasher. Fit (hash_of hasher key)) clock clock_after old new makes steps

  -- a removal, of which clones are told
  pub removes : (key : K) (now : Instant) (clock clock_after : C) (Answers : Option (V × Result (Unit {0}) OutOfMemory) → Type 0) → IsMoveBy {S = S} hash_of m is_key_clone is_clone key clock clock_after (Removes m hash_of key now clock clock_after is_key_clone is_clone Answers)
      (λ hash calls replies. (taken : Option (V × Result (Unit {0}) OutOfMemory)) × Answers taken × RemovesEntry key hash now taken calls replies)
  removes key now clock clock_after Answers =
      by_key key clock clock_after (Removes m hash_of key now clock clock_after is_key_clone is_clone Answers) (λ hash calls replies. (taken : Option (V × Result (Unit {0}) OutOfMemory)) × Answers taken × RemovesEntry key hash now taken calls replies)
      (λ x y step. (
      let (taken, answers, (calls, replies, fit, made)) = step.made in
      (calls, replies, (taken, answers, fit), made_with_ids m is_key_clone is_clone calls replies x.engine y.engine clock clock_after made)
      ))

  pub calls_by_key : CallsByKeyAreMoves hash_of m is_key_clone is_clone
  calls_by_key = record {
    insert = λ key now clock clock_after value result. by_key key clock clock_after (Inserts m hash_of key now clock clock_after value result) (λ hash. InsertsEntry key hash value now result)
        (λ x y step. makes_wide m is_key_clone is_clone (InsertsEntry key (hash_of x.engine.hasher key) value now result) _ (λ calls replies fit. fit) x.engine y.engine clock clock_after step.made);
    get = λ key now clock clock_after result. by_key key clock clock_after (Gets m hash_of key now clock clock_after is_clone result) (λ hash calls replies. (own : Result (Option V) OutOfMemory) × IsCopiedAnswer is_clone own result × GetsValue key hash now own calls replies)
        (λ x y step. makes_wide m is_key_clone is_clone (GetsValue key (hash_of x.engine.hasher key) now step.made.0) _ (λ calls replies fit. (step.made.0, step.made.1, fit)) x.engine y.engine clock clock_after step.made.2);
    remove = λ key now clock clock_after result. removes key now clock clock_after (λ taken. result ≡ removed taken);
    invalidate = λ key now clock clock_after result. removes key now clock clock_after (λ taken. result ≡ invalidated taken);
  }

  pub get_with : {M : Type 0} (makes : M → V → Type 0) → GetWithIsMove hash_of m is_key_clone is_clone makes
  get_with makes key now clock clock_after init result =
      by_key key clock clock_after (GetsWith m hash_of key now clock clock_after is_clone (makes init) result)
      (λ hash calls replies. (made : Option V) × (own : Result V (Option (InsertRefused K V))) × ((value : V) → made ≡ Some value → makes init value) × HandsOutMade is_clone key own result × GetsOrInserts key hash now made own calls replies)
      (λ x y (made, own, (is, hands, calls, counted, given, back)). makes_wide m is_key_clone is_clone (GetsOrInserts key (hash_of x.engine.hasher key) now made own) _ (λ calls replies fit. (made, own, is, hands, fit)) x.engine y.engine clock clock_after calls)

  pub get_with_if_made : {M : Type 0} (makes : M → Option V → Type 0) → GetWithIfMadeIsMove hash_of m is_key_clone is_clone makes
  get_with_if_made makes key now clock clock_after init result =
      by_key key clock clock_after (GetsWithIfMade m hash_of key now clock clock_after is_clone (makes init) result)
      (λ hash calls replies. (made : Option (Option V)) × (own : Result (Option V) (Option (InsertRefused K V))) × ((answer : Option V) → made ≡ Some answer → makes init answer) × HandsOutIfMade is_clone key own result × GetsOrInsertsIfMade key hash now made own calls replies)
      (λ x y (made, own, (is, hands, calls, counted, given, back)). makes_wide m is_key_clone is_clone (GetsOrInsertsIfMade key (hash_of x.engine.hasher key) now made own) _ (λ calls replies fit. (made, own, is, hands, fit)) x.engine y.engine clock clock_after calls)

  pub get_with_if_no_error : {M E : Type 0} (makes : M → Result V E → Type 0) → GetWithIfNoErrorIsMove hash_of m is_key_clone is_clone makes
  get_with_if_no_error {E = E} makes key now clock clock_after init result =
      by_key key clock clock_after (GetsWithIfNoError m hash_of key now clock clock_after is_clone (makes init) result)
      (λ hash calls replies. (made : Option (Result V E)) × (own : Result (Result V E) (Option (InsertRefused K V))) × ((answer : Result V E) → made ≡ Some answer → makes init answer) × HandsOutIfNoError is_clone key own result × GetsOrInsertsIfNoError key hash now made own calls replies)
      (λ x y (made, own, (is, hands, calls, counted, given, back)). makes_wide m is_key_clone is_clone (GetsOrInsertsIfNoError key (hash_of x.engine.hasher key) now made own) _ (λ calls replies fit. (made, own, is, hands, fit)) x.engine y.engine clock clock_after calls)
