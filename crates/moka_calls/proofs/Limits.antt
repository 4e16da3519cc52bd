-- No call but a change of the capacity changes what limits a cache.
use Rattle.std.proofs.Common.{◌≡◌, refl, ℕ, List, [], ◌∷◌, ◌++◌, Option, Some, None, Result, Ok, Err, ap, sym, subst, ◌∙◌, inl, inr}
use Rattle.moka_types.specs.declared.calls.Call.{Call}
use Rattle.moka_types.specs.declared.error.InsertRefused.{InsertRefused}
use Rattle.moka_records.specs.declared.instant.Instant.{Instant}
use Rattle.moka_types.specs.declared.error.OutOfMemory.{OutOfMemory}
use Rattle.moka_types.specs.declared.calls.Reply.{Reply}
use Rattle.moka_types.specs.declared.calls.Ticket.{Ticket}
use Rattle.moka_parts.specs.Maintenance.{Terms, Course}
use Rattle.moka_parts.specs.Notices.{Notice}
use Rattle.moka_parts.specs.Runs.{CallStep, Step, AreSteps, PromisedRun, calls_of, last_state}
use Rattle.moka_parts.specs.State.{State, Meaning, Events}
use Rattle.moka_laws.proofs.EachCall.{IsKept, kept_by_call}
use Rattle.moka_laws.proofs.Kept.{kept_by_run}
use Rattle.moka_calls.specs.Synchronous.{Posts, InsertsEntry, GetsValue, RemovesEntry, InsertsMade, GetsOrInserts, GetsOrInsertsIfMade, GetsOrInsertsIfNoError}
use Rattle.moka_calls.specs.Compute.{Computed, Computes, InTurn, Upserts}
use Rattle.moka_calls.specs.Compute.Computed.{Left, LeftNone, Puts, Takes}
use Rattle.moka_calls.specs.Limits.{HasSameLimits, SetsNoCapacity, SetNoCapacity, SetNone, KeepsLimits, CallsSetNoCapacity, ManySetNoCapacity}
use Rattle.moka_calls.specs.Many.{Each, GetsItem, GetsMany, InsertsItem, InsertsMany, Invalidates, InvalidatesMany}
use Rattle.moka_calls.specs.declared.error.NotTold.{NotTold}
use Rattle.moka_calls.specs.declared.many.GetManyRefused.{GetManyRefused}
use Rattle.moka_calls.specs.declared.many.InsertManyRefused.{InsertManyRefused}
use Rattle.moka_calls.specs.declared.many.InvalidateManyRefused.{InvalidateManyRefused}
use Rattle.std.specs.declared.alloc.Global.{Global}
use Rattle.std.specs.declared.vec.Vec.{Vec}

module _ {K V X P W : Type 0} where
  on : (s t u : State K V X P W) → HasSameLimits s t → HasSameLimits t u → HasSameLimits s u
  on s t u first second = record { settings = second.settings ∙ first.settings; capacity = second.capacity ∙ first.capacity }

  -- to a state that differs in other fields
  to : (s t u : State K V X P W) → t ≡ u → HasSameLimits s u → HasSameLimits s t
  to s t u same limits = subst (λ x. HasSameLimits s x) (sym same) limits

-- ---- lists of calls

module _ {K V P : Type 0} where
  posting_sets_none : (now : Instant) (ticket : Ticket) → SetNone {K = K} {V = V} {P = P} (Posts now ticket)
  posting_sets_none now ticket calls replies (inl (is, replied)) = subst SetNoCapacity (sym is) (tt, (tt, tt))
  posting_sets_none now ticket calls replies (inr (more, is, replied)) = subst SetNoCapacity (sym is) (tt, (tt, (tt, (tt, tt))))

  both_set_none : (cs ds : List (Call K V P)) → SetNoCapacity cs → SetNoCapacity ds → SetNoCapacity (cs ++ ds)
  both_set_none [] ds first second = second
  both_set_none (c ∷ cs) ds first second = (first.0, both_set_none cs ds first.1 second)

  module _ (key : K) (hash : ℕ) (now : Instant) where
    remove_sets_none : (taken : Option (V × Result (Unit {0}) OutOfMemory)) → SetNone {P = P} (RemovesEntry key hash now taken)
    remove_sets_none None calls replies (is, replied) = subst SetNoCapacity (sym is) (tt, tt)
    remove_sets_none (Some answer) calls replies (k, written, read, ticket, posting, posted, posts, is, replied) = subst SetNoCapacity (sym is) (tt, posting_sets_none now ticket posting posted posts)

    insert_sets_none : (value : V) (a : Result (Unit {0}) (InsertRefused K V)) → SetNone {P = P} (InsertsEntry key hash value now a)
    insert_sets_none value (Ok done) calls replies (inl (is, replied)) = subst SetNoCapacity (sym is) (tt, tt)
    insert_sets_none value (Ok done) calls replies (inr (ticket, posting, posted, posts, is, replied)) = subst SetNoCapacity (sym is) (tt, posting_sets_none now ticket posting posted posts)
    insert_sets_none value (Err refused) calls replies (is, replied) = subst SetNoCapacity (sym is) (tt, tt)

    made_sets_none : (made : V) (own : Result V (InsertRefused K V)) → SetNone {P = P} (InsertsMade key hash now made own)
    made_sets_none made (Ok value) calls replies (same, inserts) = insert_sets_none made (Ok tt) calls replies inserts
    made_sets_none made (Err refused) calls replies (inl (refusal, none, replied)) = subst SetNoCapacity (sym none) tt
    made_sets_none made (Err refused) calls replies (inr inserts) = insert_sets_none made (Err refused) calls replies inserts

    get_sets_none : (a : Result (Option V) OutOfMemory) → SetNone {P = P} (GetsValue key hash now a)
    get_sets_none a calls replies (answer, found, is, replied) = subst SetNoCapacity (sym is) (tt, tt)

    get_with_sets_none : (made : Option V) (own : Result V (Option (InsertRefused K V))) → SetNone {P = P} (GetsOrInserts key hash now made own)
    get_with_sets_none None (Ok value) calls replies fits = get_sets_none (Ok (Some value)) calls replies fits
    get_with_sets_none None (Err None) calls replies (refused, fits) = get_sets_none (Err refused) calls replies fits
    get_with_sets_none (Some made) (Ok value) calls replies (later, answers, inserts, is, replied) = subst SetNoCapacity (sym is) (tt, made_sets_none made (Ok value) later answers inserts)
    get_with_sets_none (Some made) (Err (Some refused)) calls replies (later, answers, inserts, is, replied) = subst SetNoCapacity (sym is) (tt, made_sets_none made (Err refused) later answers inserts)
    get_with_sets_none made own calls replies fits = absurd fits

    try_get_with_sets_none : {E : Type 0} (made : Option (Result V E)) (own : Result (Result V E) (Option (InsertRefused K V))) → SetNone {P = P} (GetsOrInsertsIfNoError key hash now made own)
    try_get_with_sets_none None (Ok (Ok value)) calls replies fits = get_with_sets_none None (Ok value) calls replies fits
    try_get_with_sets_none None (Err refused) calls replies fits = get_with_sets_none None (Err refused) calls replies fits
    try_get_with_sets_none (Some (Err failed)) (Ok (Err error)) calls replies (same, fits) = get_sets_none (Ok None) calls replies fits
    try_get_with_sets_none (Some (Ok made)) (Ok (Ok value)) calls replies fits = get_with_sets_none (Some made) (Ok value) calls replies fits
    try_get_with_sets_none (Some (Ok made)) (Err refused) calls replies fits = get_with_sets_none (Some made) (Err refused) calls replies fits
    try_get_with_sets_none made own calls replies fits = absurd fits

    if_made_sets_none : (made : Option (Option V)) (own : Result (Option V) (Option (InsertRefused K V))) → SetNone {P = P} (GetsOrInsertsIfMade key hash now made own)
    if_made_sets_none None (Ok (Some value)) calls replies fits = get_with_sets_none None (Ok value) calls replies fits
    if_made_sets_none None (Err refused) calls replies fits = get_with_sets_none None (Err refused) calls replies fits
    if_made_sets_none (Some None) (Ok None) calls replies fits = get_sets_none (Ok None) calls replies fits
    if_made_sets_none (Some (Some made)) (Ok (Some value)) calls replies fits = get_with_sets_none (Some made) (Ok value) calls replies fits
    if_made_sets_none (Some (Some made)) (Err refused) calls replies fits = get_with_sets_none (Some made) (Err refused) calls replies fits
    if_made_sets_none made own calls replies fits = absurd fits

    upsert_sets_none : (own : Result (Option V) OutOfMemory) (put : Option (V × Result V (InsertRefused K V))) → SetNone {P = P} (Upserts key hash now own put)
    upsert_sets_none own None calls replies fits = get_sets_none own calls replies fits
    upsert_sets_none own (Some (value, answer)) calls replies (asked, got, later, answers, gets, puts, is, replied) =
        subst SetNoCapacity (sym is) (both_set_none asked later (get_sets_none own asked got gets) (made_sets_none value answer later answers puts))

    compute_sets_none : (own : Result (Option V) OutOfMemory) (done : Option (Computed K V)) → SetNone {P = P} (Computes key hash now own done)
    compute_sets_none own None calls replies fits = get_sets_none own calls replies fits
    compute_sets_none own (Some Left) calls replies fits = get_sets_none own calls replies fits
    compute_sets_none own (Some LeftNone) calls replies fits = get_sets_none own calls replies fits
    compute_sets_none own (Some (Puts value answer)) calls replies (asked, got, later, answers, gets, puts, is, replied) =
        subst SetNoCapacity (sym is) (both_set_none asked later (get_sets_none own asked got gets) (made_sets_none value answer later answers puts))
    compute_sets_none own (Some (Takes taken)) calls replies (asked, got, later, answers, gets, takes, is, replied) =
        subst SetNoCapacity (sym is) (both_set_none asked later (get_sets_none own asked got gets) (remove_sets_none taken later answers takes))

module _ {K V P : Type 0} where
  turn_sets_none : (First Second : List (Call K V P) → List (Reply K V P) → Type 0) → SetNone First → SetNone Second → SetNone (InTurn First Second)
  turn_sets_none First Second first second calls replies (asked, got, later, answers, begun, ended, is, replied) = subst SetNoCapacity (sym is) (both_set_none asked later (first asked got begun) (second later answers ended))

  each_sets_none : {A : Type 0} (Step : A → List (Call K V P) → List (Reply K V P) → Type 0) → ((x : A) → SetNone (Step x)) → (xs : List A) → SetNone (Each Step xs)
  each_sets_none Step one [] calls replies (none, replied) = subst SetNoCapacity (sym none) tt
  each_sets_none Step one (x ∷ xs) calls replies fits = turn_sets_none (Step x) (Each Step xs) (one x) (each_sets_none Step one xs) calls replies fits

  module _ (hash_of : K → ℕ) (now : Instant) where
    item_sets_none : (item : K × V) → SetNone {P = P} (InsertsItem hash_of now item)
    item_sets_none item calls replies fits = insert_sets_none item.0 (hash_of item.0) now item.1 (Ok tt) calls replies fits

    insert_many_sets_none : (items : List (K × V)) (a : Result (Unit {0}) (InsertManyRefused K V)) → SetNone {P = P} (InsertsMany hash_of now items a)
    insert_many_sets_none items (Ok all) calls replies fits = each_sets_none (InsertsItem hash_of now) item_sets_none items calls replies fits
    insert_many_sets_none items (Err e) calls replies (put, all, done, fits) =
        turn_sets_none (Each (InsertsItem hash_of now) put) (InsertsEntry e.refused.key (hash_of e.refused.key) e.refused.value now (Err e.refused)) (each_sets_none (InsertsItem hash_of now) item_sets_none put) (insert_sets_none e.refused.key (hash_of e.refused.key) now e.refused.value (Err e.refused)) calls replies fits

    invalidate_sets_none : (answer : Result (Unit {0}) (NotTold V)) (key : K) → SetNone {P = P} (Invalidates hash_of now answer key)
    invalidate_sets_none answer key calls replies (taken, is, fits) = remove_sets_none key (hash_of key) now taken calls replies fits

    invalidate_many_sets_none : (keys : List K) (a : Result (Unit {0}) (InvalidateManyRefused V)) → SetNone {P = P} (InvalidatesMany hash_of now keys a)
    invalidate_many_sets_none keys (Ok all) calls replies fits = each_sets_none (Invalidates hash_of now (Ok tt)) (invalidate_sets_none (Ok tt)) keys calls replies fits
    invalidate_many_sets_none keys (Err e) calls replies (before, key, after, all, done, fits) =
        turn_sets_none (Each (Invalidates hash_of now (Ok tt)) before) (Invalidates hash_of now (Err e.refused) key) (each_sets_none (Invalidates hash_of now (Ok tt)) (invalidate_sets_none (Ok tt)) before) (invalidate_sets_none (Err e.refused) key) calls replies fits

    module _ (is_clone : V → V → Type 0) where
      found_sets_none : (item : K × Option V) → SetNone {P = P} (GetsItem is_clone hash_of now item)
      found_sets_none item calls replies (own, copied, fits) = get_sets_none item.0 (hash_of item.0) now (Ok own) calls replies fits

      get_many_sets_none : (keys : List K) (a : Result (Vec (Option V) Global) (GetManyRefused V)) → SetNone {P = P} (GetsMany is_clone hash_of now keys a)
      get_many_sets_none keys (Ok found) calls replies (got, asked, are, fits) = each_sets_none (GetsItem is_clone hash_of now) found_sets_none got calls replies fits
      get_many_sets_none keys (Err e) calls replies (inl (empty, none, replied)) = subst SetNoCapacity (sym none) tt
      get_many_sets_none keys (Err e) calls replies (inr (got, key, after, asked, are, refused, fits)) =
          turn_sets_none (Each (GetsItem is_clone hash_of now) got) (GetsValue key (hash_of key) now (Err refused)) (each_sets_none (GetsItem is_clone hash_of now) found_sets_none got) (get_sets_none key (hash_of key) now (Err refused)) calls replies fits

-- what each call for many stands for sets none
pub many_set_none : (K V P : Type 0) (is_clone : V → V → Type 0) (hash_of : K → ℕ) (now : Instant) → ManySetNoCapacity K V P is_clone hash_of now
many_set_none K V P is_clone hash_of now = record {
  insert_many = insert_many_sets_none hash_of now;
  get_many = get_many_sets_none hash_of now is_clone;
  invalidate_many = invalidate_many_sets_none hash_of now;
}

-- what each call stands for sets no capacity
pub calls_set_none : (K V P E : Type 0) (key : K) (hash : ℕ) (now : Instant) → CallsSetNoCapacity K V P E key hash now
calls_set_none K V P E key hash now = record {
  insert = insert_sets_none key hash now;
  get = get_sets_none key hash now;
  remove = remove_sets_none key hash now;
  get_with = get_with_sets_none key hash now;
  optionally_get_with = if_made_sets_none key hash now;
  try_get_with = try_get_with_sets_none key hash now;
  and_upsert_with = upsert_sets_none key hash now;
  and_compute_with = compute_sets_none key hash now;
}

module _ {K V X L P W C : Type 0} (m : Meaning K V X L P W C (Unit {0})) where
  limits_kept : (s : State K V X P W) (c : Call K V P) → SetsNoCapacity c → IsKept m (HasSameLimits s) (HasSameLimits s) s c
  limits_kept s c none = record {
    begins = record { settings = refl; capacity = refl };
    left = record { settings = refl; capacity = refl };
    inserted = λ key hash value now w is enabled absent. record { settings = refl; capacity = refl };
    replaced = λ r key hash value now w is found. record { settings = refl; capacity = refl };
    removed = λ key hash now r is found. record { settings = refl; capacity = refl };
    sent = λ ticket o is there room. record { settings = refl; capacity = refl };
    hit = λ key r now moment found visible. (record { settings = refl; capacity = refl }, record { settings = refl; capacity = refl });
    hidden = λ now is. record { settings = refl; capacity = refl };
    registered = λ p. record { settings = refl; capacity = refl };
    resized = λ capacity is enabled. absurd (subst SetsNoCapacity is none);
    aside = λ t reads housekeeping same. record { settings = same.settings; capacity = same.capacity };
  }

  run_limits : (s t : State K V X P W) (terms : Terms) (course : Course) (notices : List (Notice K V)) → PromisedRun m.says m.read s terms course notices t → HasSameLimits s t
  run_limits s t terms course notices run = kept_by_run (HasSameLimits s) s t (record { settings = refl; capacity = refl }) _ m.says terms course notices (λ ch enabled free. record { settings = refl; capacity = refl }) run.0

  step_limits : (s t : State K V X P W) (c : Call K V P) (r : Reply K V P) (e : Events K V) → SetsNoCapacity c → CallStep m (PromisedRun m.says m.read) s c r e t → HasSameLimits s t
  step_limits s t c r e none step =
      kept_by_call m (PromisedRun m.says m.read) (HasSameLimits s) (HasSameLimits s) (λ from terms course notices mid same run. on s from mid same (run_limits from mid terms course notices run)) s t c r e (limits_kept s c none) step

  steps_limits : (s : State K V X P W) (steps : List (Step K V X P W)) → SetNoCapacity (calls_of steps) → AreSteps m (PromisedRun m.says m.read) s steps → HasSameLimits s (last_state s steps)
  steps_limits s [] none are = record { settings = refl; capacity = refl }
  steps_limits s (x ∷ xs) none are = on s x.after (last_state x.after xs) (step_limits s x.after x.call x.reply x.events none.0 are.0) (steps_limits x.after xs none.1 are.1)

  -- calls that set no capacity keep the limits
  pub keeps_limits : (S : Type 0) → KeepsLimits S m
  keeps_limits S calls replies old new clock clock_after made none =
      to old.state new.state _ (ap (λ x. x.state) made.is_run.ends) (steps_limits old.state made.steps (subst SetNoCapacity (sym made.is_run.calls_made) none) made.is_run.are_steps)
