-- What a get with a maker makes, from a get and an insert.
use Rattle.std.proofs.Common.{◌≡◌, refl, ℕ, false, List, [], ◌∷◌, Option, Some, None, Result, Ok, Err, ap, sym, subst, ◌∙◌, inl, inr, option_map, IfErr}
use Rattle.std.specs.Result.{result_ok}
use Rattle.std.specs.declared.convert.Infallible.{Infallible}
use Rattle.std.proofs.lemmas.Option.{same_Some}
use Rattle.moka_records.specs.declared.instant.Instant.{Instant}
use Rattle.moka_types.specs.declared.calls.Entry.{Entry}
use Rattle.moka_types.specs.declared.calls.Call.{Call}
use Rattle.moka_types.specs.declared.calls.Call.TheVariants as call
use Rattle.moka_types.specs.declared.calls.Reply.{Reply}
use Rattle.moka_types.specs.declared.calls.Reply.TheVariants as reply
use Rattle.moka_types.specs.declared.error.OutOfMemory.{OutOfMemory}
use Rattle.moka_types.specs.declared.error.InsertError.TheVariants as insert_error
use Rattle.moka_types.specs.declared.error.InsertRefused.{InsertRefused}
use Rattle.moka_parts.specs.State.{Meaning}
use Rattle.moka_parts.specs.Copies.{IsCopiedAnswer}
use Rattle.moka_parts.specs.Runs.{Engine}
use Rattle.moka_calls.specs.declared.error.GetWithRefused.{GetWithRefused}
use Rattle.moka_calls.specs.declared.error.GetWithRefused.TheVariants.{Lookup, Insert}
use Rattle.moka_calls.specs.Given.{ComesBack, IsHandedOut, Sees, if_made, without_error}
use Rattle.moka_calls.specs.Synchronous.{Made, Makes, InsertsEntry, InsertsMade, GetsValue, GetsThen, GetsOrInserts, Synchronous, HandsOutOwn, IsGotWith, IsGotWithIfMade, IsGotWithIfNoError, value_found}
use Rattle.moka_parts.specs.Counters.{one_more, after_look_up, after_load}
use Rattle.moka_calls.proofs.Made.{made_nothing, made_then}

-- what was made leaves the hasher
pub made_keeps_hasher : {K V S X L P W C : Type 0} (m : Meaning K V X L P W C (Unit {0})) (calls : List (Call K V P)) (replies : List (Reply K V P)) (old new : Engine K V S X L P W) (clock clock_after : C) → Made m calls replies old clock new clock_after → new.hasher ≡ old.hasher
made_keeps_hasher m calls replies old new clock clock_after made = ap (λ c. c.hasher) made.is_run.ends

-- what became of a value that was made, as an answer of a get with a maker
abbrev pub lifted : {V E : Type 0} → Result V E → Result V (Option E)
lifted (Ok value) = Ok value
lifted (Err refused) = Err (Some refused)

abbrev pub as_insert : {K V E : Type 0} → Result V (InsertRefused K V) → Result (Result V E) (GetWithRefused K V)
as_insert (Ok value) = Ok (Ok value)
as_insert (Err refused) = Err (Insert refused)

module _ {K V S X L P W C : Type 0} (is_clone : V → V → Type 0) (m : Meaning K V X L P W C (Unit {0})) (key : K) (hash : ℕ) (now : Instant) (old mid : Engine K V S X L P W) (clock clock_mid : C) where
  -- a get that found nothing
  pub got_nothing : (seen : Option V) → seen ≡ None → (own : Result (Option V) OutOfMemory) × IsCopiedAnswer is_clone own (Ok seen) × Makes m (GetsValue key hash now own) old clock mid clock_mid → Made m (call.Get key hash false now ∷ []) (reply.Get (Ok None) ∷ []) old clock mid clock_mid
  got_nothing seen none (own, copied, made) = go own (subst (λ o. IsCopiedAnswer is_clone own (Ok o)) none copied) made
    where
      nothing : (a : Result (Option (Entry K V)) OutOfMemory) → Ok None ≡ value_found a → a ≡ Ok None
      nothing (Ok None) is = refl
      nothing (Ok (Some entry)) is = (let impossible : Ok None ≡ Ok (Some entry.value) = is in absurd (cc))
      nothing (Err e) is = (let impossible : Ok None ≡ Err e = is in absurd (cc))

      go : (own : Result (Option V) OutOfMemory) → IsCopiedAnswer is_clone own (Ok None) → Makes m (GetsValue key hash now own) old clock mid clock_mid → Made m (call.Get key hash false now ∷ []) (reply.Get (Ok None) ∷ []) old clock mid clock_mid
      go (Err e) copied made = (let impossible : Ok None ≡ Err e = copied in absurd (cc))
      go (Ok (Some v)) copied made = absurd copied
      go (Ok None) copied (calls, replies, (a, is, calls_are, replies_are), made) =
          subst (λ cs. Made m cs (reply.Get (Ok None) ∷ []) old clock mid clock_mid) calls_are (subst (λ rs. Made m calls rs old clock mid clock_mid) (replies_are ∙ ap (λ a. reply.Get a ∷ []) (nothing a is)) made)

  -- a get that found nothing, and an insert of the value that was made, refused or not
  pub got_then : Made m (call.Get key hash false now ∷ []) (reply.Get (Ok None) ∷ []) old clock mid clock_mid → (value : V) (new : Engine K V S X L P W) (clock_after : C) (own : Result V (InsertRefused K V)) → Makes m (InsertsMade key hash now value own) mid clock_mid new clock_after
      → Makes m (GetsOrInserts key hash now (Some value) (lifted own)) old clock new clock_after
  got_then got value new clock_after own (calls, replies, fits, made) = go own (calls, replies, fits, refl, refl)
    where
      after : Made m (call.Get key hash false now ∷ calls) (reply.Get (Ok None) ∷ replies) old clock new clock_after
      after = made_then m (call.Get key hash false now ∷ []) calls (reply.Get (Ok None) ∷ []) replies old mid new clock clock_mid clock_after got made

      go : (own : Result V (InsertRefused K V)) → GetsThen key hash now (InsertsMade key hash now value own) (call.Get key hash false now ∷ calls) (reply.Get (Ok None) ∷ replies) → Makes m (GetsOrInserts key hash now (Some value) (lifted own)) old clock new clock_after
      go (Ok v) fits = (call.Get key hash false now ∷ calls, reply.Get (Ok None) ∷ replies, fits, after)
      go (Err refused) fits = (call.Get key hash false now ∷ calls, reply.Get (Ok None) ∷ replies, fits, after)

module _ {K V S X L P W C : Type 0} (is_clone : V → V → Type 0) (m : Meaning K V X L P W C (Unit {0})) (key : K) (hash_by : S → ℕ) (now : Instant) (old mid : Synchronous K V S X L P W) (clock clock_mid : C) where
  -- what the look-up before it made
  abbrev pub LooksUp : Result (Option V) OutOfMemory → Type 0
  LooksUp got = (own : Result (Option V) OutOfMemory) × IsCopiedAnswer is_clone own got × Makes m (GetsValue key (hash_by old.engine.hasher) now own) old.engine clock mid.engine clock_mid

  -- a look-up that found a value
  pub got_value : {E : Type 0} (Answers : Result V E → Type 0) (seen : Option V) (x : V) → seen ≡ Some x → LooksUp (Ok seen) → mid.stats ≡ after_look_up {E = OutOfMemory} (Ok seen) old.stats → Sees m.eq m.says is_clone old.engine.state key now.0 seen
      → (v : V) × IsGotWithIfNoError m is_clone key (hash_by old.engine.hasher) now old clock mid clock_mid None (Ok (Ok v)) Answers (Ok (Ok x))
  got_value {E} Answers seen x is looks counted sees = go (subst (λ o. LooksUp (Ok o)) is looks)
    where
      go : LooksUp (Ok (Some x)) → (v : V) × IsGotWithIfNoError m is_clone key (hash_by old.engine.hasher) now old clock mid clock_mid None (Ok (Ok v)) Answers (Ok (Ok x))
      go (Err e, copied, made) = (let impossible : Ok (Some x) ≡ Err e = copied in absurd (cc))
      go (Ok None, copied, made) = (let impossible : Some x ≡ None = copied in absurd (cc))
      go (Ok (Some v), copied, made) =
          (v, ((λ value e. absurd (cc)), copied, made, subst (λ o. mid.stats ≡ after_look_up {E = OutOfMemory} (Ok o) old.stats) is counted, (inl (subst (Sees m.eq m.says is_clone old.engine.state key now.0) is sees), tt), tt))

  -- one that was refused
  pub got_refused : {E : Type 0} (Answers : Result V E → Type 0) (e : OutOfMemory) → LooksUp (Err e) → mid.stats ≡ old.stats → mid.engine.state ≡ old.engine.state → IsGotWithIfNoError m is_clone key (hash_by old.engine.hasher) now old clock mid clock_mid None (Err None) Answers (Err (Lookup key))
  got_refused Answers e (Ok a, copied, made) counted same = absurd copied
  got_refused Answers e (Err f, copied, (calls, replies, fits, made)) counted same = ((λ value e. absurd (cc)), refl, (calls, replies, (f, fits), made), counted, tt, (refl, same))

  -- one that found nothing, and the call of the maker counted
  module _ (seen : Option V) (none : seen ≡ None) (looks : LooksUp (Ok seen)) (missed : mid.stats ≡ after_look_up {E = OutOfMemory} (Ok seen) old.stats)
      (loaded : Synchronous K V S X L P W) (counted_load : loaded ≡ record mid { stats = after_load mid.stats }) where
    got : Made m (call.Get key (hash_by old.engine.hasher) false now ∷ []) (reply.Get (Ok None) ∷ []) old.engine clock mid.engine clock_mid
    got = got_nothing is_clone m key (hash_by old.engine.hasher) now old.engine mid.engine clock clock_mid seen none looks

    loaded_engine : loaded.engine ≡ mid.engine
    loaded_engine = ap (λ x. x.engine) counted_load

    loaded_stats : loaded.stats ≡ record old.stats { misses = one_more old.stats.misses; loads = one_more old.stats.loads }
    loaded_stats = ap (λ x. x.stats) counted_load ∙ ap after_load (subst (λ o. mid.stats ≡ after_look_up {E = OutOfMemory} (Ok o) old.stats) none missed)

    -- no value was made
    got_only : Makes m (GetsValue key (hash_by old.engine.hasher) now (Ok None)) old.engine clock loaded.engine clock_mid × (loaded.stats ≡ record old.stats { misses = one_more old.stats.misses; loads = one_more old.stats.loads })
    got_only = ((_, _, (Ok None, refl, refl, refl), subst (λ x. Made m (call.Get key (hash_by old.engine.hasher) false now ∷ []) (reply.Get (Ok None) ∷ []) old.engine clock x clock_mid) (sym loaded_engine) got), loaded_stats)

    -- the maker failed
    pub failed : {E : Type 0} (Answers : Result V E → Type 0) (error : E) → Answers (Err error) → (own : Result (Result V E) (Option (InsertRefused K V))) × IsGotWithIfNoError m is_clone key (hash_by old.engine.hasher) now old clock loaded clock_mid (Some (Err error)) own Answers (Ok (Err error))
    failed Answers error answered =
        (Ok (Err error), ((λ answer e. subst Answers (same_Some (Err error) answer e) answered), refl, (got_only.0.0, got_only.0.1, (refl, got_only.0.2), got_only.0.3), got_only.1, (tt, answered), tt))

    -- a value was made, and inserted or not
    pub made_and_handed_out : Sees m.eq m.says is_clone old.engine.state key now.0 seen → {E : Type 0} (Answers : Result V E → Type 0) (value : V) → Answers (Ok value) → (new : Synchronous K V S X L P W) (clock_after : C) → new.stats ≡ loaded.stats
        → (result : Result V (InsertRefused K V)) → ((own : Result V (InsertRefused K V)) × HandsOutOwn is_clone own result × Makes m (InsertsMade key (hash_by loaded.engine.hasher) now value own) loaded.engine clock_mid new.engine clock_after)
        → IfErr result (λ refused. (refused.key ≡ key) × (refused.value ≡ value)) → (own : Result (Result V E) (Option (InsertRefused K V))) × IsGotWithIfNoError m is_clone key (hash_by old.engine.hasher) now old clock new clock_after (Some (Ok value)) own Answers (as_insert result)
    made_and_handed_out sees {E} Answers value answered new clock_after kept result (own, handed, made) back = go own result handed (after own made) back
      where
        after : (own : Result V (InsertRefused K V)) → Makes m (InsertsMade key (hash_by loaded.engine.hasher) now value own) loaded.engine clock_mid new.engine clock_after → Makes m (InsertsMade key (hash_by old.engine.hasher) now value own) mid.engine clock_mid new.engine clock_after
        after own made = subst (λ s. Makes m (InsertsMade key (hash_by s) now value own) mid.engine clock_mid new.engine clock_after) (made_keeps_hasher m _ _ old.engine mid.engine clock clock_mid got)
            (subst (λ x. Makes m (InsertsMade key (hash_by x.hasher) now value own) x clock_mid new.engine clock_after) loaded_engine made)

        posted : (a : Result V E) → Some (Ok value) ≡ Some a → Answers a
        posted a is = subst Answers (same_Some (Ok value) a is) answered

        go : (own result : Result V (InsertRefused K V)) → HandsOutOwn is_clone own result → Makes m (InsertsMade key (hash_by old.engine.hasher) now value own) mid.engine clock_mid new.engine clock_after
            → IfErr result (λ refused. (refused.key ≡ key) × (refused.value ≡ value)) → (own : Result (Result V E) (Option (InsertRefused K V))) × IsGotWithIfNoError m is_clone key (hash_by old.engine.hasher) now old clock new clock_after (Some (Ok value)) own Answers (as_insert result)
        go (Ok v) (Ok copy) handed made back = (
          Ok (Ok v),
          (
            posted,
            handed,
            got_then is_clone m key (hash_by old.engine.hasher) now old.engine mid.engine clock clock_mid got value new.engine clock_after (Ok v) made,
            kept ∙ loaded_stats,
            (inr (subst (Sees m.eq m.says is_clone old.engine.state key now.0) none sees, (value, answered, subst (λ x. is_clone x copy) made.2.0 handed)), tt),
            tt,
          ),
        )
        go (Err refused) (Err r) handed made back = (
          Err (Some refused),
          (
            posted,
            handed,
            got_then is_clone m key (hash_by old.engine.hasher) now old.engine mid.engine clock clock_mid got value new.engine clock_after (Err refused) made,
            kept ∙ loaded_stats,
            tt,
            (back.0, subst (λ v. Answers (Ok v)) (sym back.1) answered),
          ),
        )
        go (Ok v) (Err r) handed made back = absurd handed
        go (Err refused) (Ok copy) handed made back = absurd handed

module _ {K V S X L P W C : Type 0} (is_clone : V → V → Type 0) (m : Meaning K V X L P W C (Unit {0})) (key : K) (hash : ℕ) (now : Instant) (old new : Engine K V S X L P W) (clock clock_after : C) where
  -- a value that was made is not inserted, since its clone is refused
  pub not_cloned : (value : V) → Makes m (InsertsMade key hash now value (Err (record { error = insert_error.OutOfMemory; key = key; value = value }))) old clock old clock
  not_cloned value = ([], [], inl (refl, refl, refl), made_nothing m old clock)

  -- it is inserted
  pub cloned : (value : V) → Makes m (InsertsEntry key hash value now (Ok tt)) old clock new clock_after → Makes m (InsertsMade key hash now value (Ok value)) old clock new clock_after
  cloned value (calls, replies, fits, made) = (calls, replies, (refl, fits), made)

  -- or refused
  pub not_inserted : (value : V) (refused : InsertRefused K V) → Makes m (InsertsEntry key hash value now (Err refused)) old clock new clock_after → Makes m (InsertsMade key hash now value (Err refused)) old clock new clock_after
  not_inserted value refused (calls, replies, fits, made) = (calls, replies, inr fits, made)

-- ---- makers that may decline, and that always answer

module _ {K V S X L P W C : Type 0} (is_clone : V → V → Type 0) (m : Meaning K V X L P W C (Unit {0})) (key : K) (hash : ℕ) (now : Instant) (old new : Synchronous K V S X L P W) (clock clock_after : C) where
  -- what is handed out or comes back is so of a maker that answers as well
  handed_by : (Answers Others : V → Type 0) → ((v : V) → Answers v → Others v) → (x : V) → IsHandedOut m.eq m.says is_clone old.engine.state key now.0 Answers x → IsHandedOut m.eq m.says is_clone old.engine.state key now.0 Others x
  handed_by Answers Others also x (inl there) = inl there
  handed_by Answers Others also x (inr (hidden, made)) = inr (hidden, (made.0, also made.0 made.1, made.2))

  back_by : (Answers Others : V → Type 0) → ((v : V) → Answers v → Others v) → (e : GetWithRefused K V) → ComesBack old.engine.state new.engine.state key Answers e → ComesBack old.engine.state new.engine.state key Others e
  back_by Answers Others also (Lookup k) back = back
  back_by Answers Others also (Insert refused) back = (back.0, also refused.value back.1)

  -- a maker that may decline is one that fails in place of declining
  pub may_decline : (Fails : Result V (Unit {0}) → Type 0) (Answers : Option V → Type 0)
      → (made : Option (Result V (Unit {0}))) (own : Result (Result V (Unit {0})) (Option (InsertRefused K V))) (result : Result (Result V (Unit {0})) (GetWithRefused K V))
      → IsGotWithIfNoError m is_clone key hash now old clock new clock_after made own Fails result → ((a : Result V (Unit {0})) → Fails a → Answers (result_ok a))
      → IsGotWithIfMade m is_clone key hash now old clock new clock_after (option_map result_ok made) (if_made own) Answers (if_made result)
  may_decline Fails Answers None (Ok (Ok v)) (Ok (Ok x)) (post, handed, makes, counted, given, back) also = ((λ a e. absurd (cc)), handed, makes, counted, (handed_by (λ v. Fails (Ok v)) (λ v. Answers (Some v)) (λ v. also (Ok v)) x given.0, tt), tt)
  may_decline Fails Answers None (Err r) (Err e) (post, handed, makes, counted, given, back) also = ((λ a e. absurd (cc)), handed, makes, counted, tt, back_by (λ v. Fails (Ok v)) (λ v. Answers (Some v)) (λ v. also (Ok v)) e back)
  may_decline Fails Answers (Some (Ok v)) (Ok (Ok w)) (Ok (Ok x)) (post, handed, makes, counted, given, back) also = ((λ a e. subst Answers (same_Some (Some v) a e) (also (Ok v) (post (Ok v) refl))), handed, makes, counted, (handed_by (λ v. Fails (Ok v)) (λ v. Answers (Some v)) (λ v. also (Ok v)) x given.0, tt), tt)
  may_decline Fails Answers (Some (Ok v)) (Err r) (Err e) (post, handed, makes, counted, given, back) also = ((λ a e. subst Answers (same_Some (Some v) a e) (also (Ok v) (post (Ok v) refl))), handed, makes, counted, tt, back_by (λ v. Fails (Ok v)) (λ v. Answers (Some v)) (λ v. also (Ok v)) e back)
  may_decline Fails Answers (Some (Err f)) (Ok (Err g)) (Ok (Err x)) (post, handed, (calls, replies, fits, made), counted, given, back) also = ((λ a e. subst Answers (same_Some None a e) (also (Err f) (post (Err f) refl))), tt, (calls, replies, fits.1, made), counted, (tt, also (Err x) given.1), tt)
  may_decline Fails Answers None (Ok (Err g)) result came also = absurd came.2.2
  may_decline Fails Answers (Some (Ok v)) (Ok (Err g)) result came also = absurd came.2.2
  may_decline Fails Answers (Some (Err f)) (Ok (Ok v)) result came also = absurd came.2.2
  may_decline Fails Answers (Some (Err f)) (Err r) result came also = absurd came.2.2
  may_decline Fails Answers made (Ok (Ok v)) (Ok (Err x)) came also = absurd came.1
  may_decline Fails Answers made (Ok (Err v)) (Ok (Ok x)) came also = absurd came.1
  may_decline Fails Answers made (Ok v) (Err e) came also = absurd came.1
  may_decline Fails Answers made (Err r) (Ok x) came also = absurd came.1

  -- a maker that always answers is one that may fail and never does
  pub always_answers : (Fails : Result V Infallible → Type 0) (Answers : V → Type 0)
      → (made : Option (Result V Infallible)) (own : Result (Result V Infallible) (Option (InsertRefused K V))) (result : Result V (GetWithRefused K V))
      → IsGotWithIfNoError m is_clone key hash now old clock new clock_after made own Fails (without_error result) → ((v : V) → Fails (Ok v) → Answers v)
      → (value : Option V) × (answer : Result V (Option (InsertRefused K V))) × (made ≡ option_map Ok value) × IsGotWith m is_clone key hash now old clock new clock_after value answer Answers result
  always_answers Fails Answers None (Ok (Ok v)) (Ok x) (post, handed, makes, counted, given, back) also = (None, Ok v, refl, ((λ a e. absurd (cc)), handed, makes, counted, handed_by (λ v. Fails (Ok v)) Answers also x given.0, tt))
  always_answers Fails Answers None (Err r) (Err e) (post, handed, makes, counted, given, back) also = (None, Err r, refl, ((λ a e. absurd (cc)), handed, makes, counted, tt, back_by (λ v. Fails (Ok v)) Answers also e back))
  always_answers Fails Answers (Some (Ok v)) (Ok (Ok w)) (Ok x) (post, handed, makes, counted, given, back) also = (Some v, Ok w, refl, ((λ a e. subst Answers (same_Some v a e) (also v (post (Ok v) refl))), handed, makes, counted, handed_by (λ v. Fails (Ok v)) Answers also x given.0, tt))
  always_answers Fails Answers (Some (Ok v)) (Err r) (Err e) (post, handed, makes, counted, given, back) also = (Some v, Err r, refl, ((λ a e. subst Answers (same_Some v a e) (also v (post (Ok v) refl))), handed, makes, counted, tt, back_by (λ v. Fails (Ok v)) Answers also e back))
  always_answers Fails Answers (Some (Err never)) own result came also = elim never [ ]
  always_answers Fails Answers made (Ok (Err never)) result came also = elim never [ ]
  always_answers Fails Answers made (Ok (Ok v)) (Err e) came also = absurd came.1
  always_answers Fails Answers made (Err r) (Ok x) came also = absurd came.1

-- ---- why it is refused

module _ {A E : Type 0} (Q : E → Type 0) where
  -- a maker that never fails refuses nothing
  pub refused_anyway : (answer : Result A E) → IfErr (without_error {F = Infallible} answer) Q → IfErr answer Q
  refused_anyway (Ok made) why = why
  refused_anyway (Err refused) why = why

  -- nor does one that may decline
  pub refused_if_made : (answer : Result (Result A (Unit {0})) E) → IfErr answer Q → IfErr (if_made answer) Q
  refused_if_made (Ok (Ok made)) why = why
  refused_if_made (Ok (Err declined)) why = why
  refused_if_made (Err refused) why = why
