-- What is counted is the look-ups among the replies.
use Rattle.std.proofs.Common.{arith, ◌≡◌, refl, ℕ, ◌+◌, ◌≤◌, min, Bool, false, cond, List, [], ◌∷◌, ◌++◌, map, count_by, Option, Some, None, Result, Ok, Err, ap, sym, subst, ◌∙◌, inl, inr}
use Rattle.std.specs.declared.alloc.Global.{Global}
use Rattle.std.specs.declared.vec.Vec.{Vec}
use Rattle.std.proofs.lemmas.List.Sums.{sum_by-append}
use Rattle.moka_records.specs.declared.instant.Instant.{Instant}
use Rattle.moka_types.specs.declared.calls.Entry.{Entry}
use Rattle.moka_types.specs.declared.calls.Ticket.{Ticket}
use Rattle.moka_types.specs.declared.calls.Call.{Call}
use Rattle.moka_types.specs.declared.calls.Call.TheVariants as call
use Rattle.moka_types.specs.declared.calls.Reply.{Reply}
use Rattle.moka_types.specs.declared.calls.Reply.TheVariants as reply
use Rattle.moka_types.specs.declared.error.InsertRefused.{InsertRefused}
use Rattle.moka_types.specs.declared.error.OutOfMemory.{OutOfMemory}
use Rattle.moka_records.specs.Time.{greatest, plus}
use Rattle.moka_parts.specs.Copies.{IsCopiedAnswer}
use Rattle.moka_calls.specs.declared.error.NotTold.{NotTold}
use Rattle.moka_calls.specs.declared.many.GetManyRefused.{GetManyRefused}
use Rattle.moka_calls.specs.declared.many.InsertManyRefused.{InsertManyRefused}
use Rattle.moka_calls.specs.declared.many.InvalidateManyRefused.{InvalidateManyRefused}
use Rattle.moka_parts.specs.declared.stats.Stats.{Stats}
use Rattle.moka_calls.specs.Compute.{Computed, Computes, InTurn, Upserts}
use Rattle.moka_calls.specs.Compute.Computed.{Left, LeftNone, Puts, Takes}
use Rattle.moka_parts.specs.Counters.{after_look_up, after_look_ups, after_get_with}
use Rattle.moka_calls.specs.Entry.{after_get_or_insert}
use Rattle.moka_calls.specs.Many.{Each, GetsItem, GetsMany, InsertsItem, InsertsMany, Invalidates, InvalidatesMany, found_by}
use Rattle.moka_calls.specs.Counted.{is_hit, is_miss, is_look_up, loads_of, AreCounters, IsCounted, Counts, CountsCalls, AddsUp, SumsToLookUps}
use Rattle.moka_calls.specs.Synchronous.{Just, own_run, Posts, GetsValue, InsertsMade, GetsOrInserts, GetsOrInsertsIfMade, GetsOrInsertsIfNoError, InsertsEntry, RemovesEntry, value_found}

-- ---- numbers that saturate

pub no_more : (g n : ℕ) → n ≤ g → n ≡ min (n + 0) g
no_more g n h = omega (arith, h)

more_and_more : (g a n m : ℕ) → min (min (a + n) g + m) g ≡ min (a + (n + m)) g
more_and_more g a n m = omega arith

pub within : (g n : ℕ) → min n g ≤ g
within g n = omega arith

from_none : (g n : ℕ) → n ≤ g → min (0 + n) g ≡ n
from_none g n h = omega (arith, h)

both_parts : (h m n : ℕ) → h + m ≡ n → (h ≤ n) × (m ≤ n)
both_parts h m n is = (omega (arith, is), omega (arith, is))

zero_plus : (n : ℕ) → 0 + n ≡ n
zero_plus n = omega arith

count_after : {A : Type 0} (p : A → Bool) (x : A) (xs : List A) → count_by p (x ∷ xs) ≡ cond (p x) 1 0 + count_by p xs
count_after p x xs = sum_by-append (λ y. cond (p y) 1 0) (x ∷ []) xs ∙ ap (λ n. n + count_by p xs) (zero_plus (cond (p x) 1 0))

-- what rose by two counts rose by that of both lists
pub rises_then : {A : Type 0} (p : A → Bool) (xs ys : List A) (a b c : ℕ) → b ≡ plus a (count_by p xs) → c ≡ plus b (count_by p ys) → c ≡ plus a (count_by p (xs ++ ys))
rises_then p xs ys a b c first second = second ∙ ap (λ x. plus x (count_by p ys)) first ∙ more_and_more greatest a (count_by p xs) (count_by p ys) ∙ ap (plus a) (sym (sum_by-append (λ x. cond (p x) 1 0) xs ys))

-- a clone counts as what was cloned
clones_count : {V : Type 0} (is_clone : V → V → Type 0) (own answer : Result (Option V) OutOfMemory) (s : Stats) → IsCopiedAnswer is_clone own answer → after_look_up own s ≡ after_look_up answer s
clones_count is_clone (Err e) answer s copied = ap (λ a. after_look_up a s) (sym copied)
clones_count {V} is_clone (Ok None) (Ok b) s copied = ap (λ (o : Option V). after_look_up {E = OutOfMemory} (Ok o) s) (sym copied)
clones_count is_clone (Ok None) (Err e) s copied = absurd copied
clones_count is_clone (Ok (Some x)) (Ok (Some y)) s copied = refl
clones_count is_clone (Ok (Some x)) (Ok None) s copied = absurd copied
clones_count is_clone (Ok (Some x)) (Err e) s copied = absurd copied

module _ {K V P : Type 0} where
  -- no look-up is among the replies
  pub record IsQuiet (replies : List (Reply K V P)) : Type 0 where
    pub no_hits : count_by is_hit replies ≡ 0
    pub no_misses : count_by is_miss replies ≡ 0

  quiet_after : (r : Reply K V P) (rs : List (Reply K V P)) → is_hit r ≡ false → is_miss r ≡ false → IsQuiet rs → IsQuiet (r ∷ rs)
  quiet_after r rs no_hit no_miss rest = record {
    no_hits = count_after is_hit r rs ∙ ap (λ b. cond b 1 0 + count_by is_hit rs) no_hit ∙ zero_plus (count_by is_hit rs) ∙ rest.no_hits;
    no_misses = count_after is_miss r rs ∙ ap (λ b. cond b 1 0 + count_by is_miss rs) no_miss ∙ zero_plus (count_by is_miss rs) ∙ rest.no_misses;
  }

  posts_quietly : (now : Instant) (ticket : Ticket) (calls : List (Call K V P)) (replies : List (Reply K V P)) → Posts now ticket calls replies → IsQuiet replies
  posts_quietly now ticket calls replies (inl (c, r)) = subst IsQuiet (sym r) (record { no_hits = refl; no_misses = refl })
  posts_quietly now ticket calls replies (inr (more, c, r)) = subst IsQuiet (sym r) (record { no_hits = refl; no_misses = refl })

  inserts_quietly : (key : K) (hash : ℕ) (value : V) (now : Instant) (answer : Result (Unit {0}) (InsertRefused K V)) (calls : List (Call K V P)) (replies : List (Reply K V P)) → InsertsEntry key hash value now answer calls replies → IsQuiet replies
  inserts_quietly key hash value now (Ok done) calls replies (inl (c, r)) = subst IsQuiet (sym r) (record { no_hits = refl; no_misses = refl })
  inserts_quietly key hash value now (Ok done) calls replies (inr (ticket, posting, posted, posts, c, r)) =
      subst IsQuiet (sym r) (quiet_after (reply.Insert (Ok (ticket, now))) posted refl refl (posts_quietly now ticket posting posted posts))
  inserts_quietly key hash value now (Err refused) calls replies (c, r) = subst IsQuiet (sym r) (record { no_hits = refl; no_misses = refl })

  removes_quietly : (key : K) (hash : ℕ) (now : Instant) (taken : Option (V × Result (Unit {0}) OutOfMemory)) (calls : List (Call K V P)) (replies : List (Reply K V P)) → RemovesEntry key hash now taken calls replies → IsQuiet replies
  removes_quietly key hash now None calls replies (c, r) = subst IsQuiet (sym r) (record { no_hits = refl; no_misses = refl })
  removes_quietly key hash now (Some answer) calls replies (k, written, read, ticket, posting, posted, posts, c, r) =
      subst IsQuiet (sym r) (quiet_after (reply.Remove (Some (record { key = k; value = answer.0; last_modified = written; last_accessed = read }, ticket)) (Some answer.1)) posted refl refl (posts_quietly now ticket posting posted posts))

  makes_quietly : (key : K) (hash : ℕ) (now : Instant) (made : V) (answer : Result V (InsertRefused K V)) (calls : List (Call K V P)) (replies : List (Reply K V P)) → InsertsMade key hash now made answer calls replies → IsQuiet replies
  makes_quietly key hash now made (Ok value) calls replies (same, inserts) = inserts_quietly key hash made now (Ok tt) calls replies inserts
  makes_quietly key hash now made (Err refused) calls replies (inl (is, c, r)) = subst IsQuiet (sym r) (record { no_hits = refl; no_misses = refl })
  makes_quietly key hash now made (Err refused) calls replies (inr inserts) = inserts_quietly key hash made now (Err refused) calls replies inserts

  -- ---- what the counters make of it

  counted_quietly : (s : Stats) (replies : List (Reply K V P)) → AreCounters s → IsQuiet replies → IsCounted replies 0 s s
  counted_quietly s replies fit quiet = record {
    hits = no_more greatest s.hits fit.hits_fit ∙ ap (plus s.hits) (sym quiet.no_hits);
    misses = no_more greatest s.misses fit.misses_fit ∙ ap (plus s.misses) (sym quiet.no_misses);
    loads = no_more greatest s.loads fit.loads_fit;
  }

  -- a get alone
  gets : (s : Stats) (key : K) (hash : ℕ) (now : Instant) (own : Result (Option V) OutOfMemory) → Counts {P = P} (GetsValue key hash now own) 0 s (after_look_up own s)
  gets s key hash now own calls replies fit (a, is, c, r) = subst (λ rs. IsCounted rs 0 s (after_look_up own s)) (sym r) (subst (λ o. IsCounted {K = K} {V = V} {P = P} (reply.Get a ∷ []) 0 s (after_look_up o s)) (sym is) (at a))
    where
      at : (a : Result (Option (Entry K V)) OutOfMemory) → IsCounted {K = K} {V = V} {P = P} (reply.Get a ∷ []) 0 s (after_look_up (value_found a) s)
      at (Ok (Some entry)) = record { hits = refl; misses = no_more greatest s.misses fit.misses_fit; loads = no_more greatest s.loads fit.loads_fit }
      at (Ok None) = record { hits = no_more greatest s.hits fit.hits_fit; misses = refl; loads = no_more greatest s.loads fit.loads_fit }
      at (Err e) = record { hits = no_more greatest s.hits fit.hits_fit; misses = no_more greatest s.misses fit.misses_fit; loads = no_more greatest s.loads fit.loads_fit }

  -- a get that misses, and what looks nothing up
  misses_then : (s : Stats) (replies answers : List (Reply K V P)) → AreCounters s → replies ≡ reply.Get (Ok None) ∷ answers → IsQuiet answers → IsCounted replies 1 s (record s { misses = plus s.misses 1; loads = plus s.loads 1 })
  misses_then s replies answers fit is quiet = subst (λ rs. IsCounted rs 1 s (record s { misses = plus s.misses 1; loads = plus s.loads 1 })) (sym is) (record {
    hits = no_more greatest s.hits fit.hits_fit ∙ ap (plus s.hits) (sym (count_after is_hit (reply.Get (Ok None)) answers ∙ zero_plus (count_by is_hit answers) ∙ quiet.no_hits));
    misses = ap (plus s.misses) (sym (count_after is_miss (reply.Get (Ok None)) answers ∙ ap (λ n. 1 + n) quiet.no_misses));
    loads = refl;
  })

  gets_or_inserts : (s : Stats) (key : K) (hash : ℕ) (now : Instant) (made : Option V) (own : Result V (Option (InsertRefused K V))) → Counts {P = P} (GetsOrInserts key hash now made own) (loads_of made) s (after_get_with made own s)
  gets_or_inserts s key hash now None (Ok value) calls replies fit h = gets s key hash now (Ok (Some value)) calls replies fit h
  gets_or_inserts s key hash now None (Err None) calls replies fit (refused, h) = gets s key hash now (Err refused) calls replies fit h
  gets_or_inserts s key hash now (Some made) (Ok value) calls replies fit (later, answers, inserts, c, r) = misses_then s replies answers fit r (makes_quietly key hash now made (Ok value) later answers inserts)
  gets_or_inserts s key hash now (Some made) (Err (Some refused)) calls replies fit (later, answers, inserts, c, r) = misses_then s replies answers fit r (makes_quietly key hash now made (Err refused) later answers inserts)
  gets_or_inserts s key hash now made own calls replies fit h = absurd h

  -- a get that misses alone, after which a maker was called
  misses_only : (s : Stats) (key : K) (hash : ℕ) (now : Instant) → Counts {K = K} {V = V} {P = P} (GetsValue key hash now (Ok None)) 1 s (record s { misses = plus s.misses 1; loads = plus s.loads 1 })
  misses_only s key hash now calls replies fit h = let one = gets s key hash now (Ok None) calls replies fit h in record { hits = one.hits; misses = one.misses; loads = refl }

  pub if_made : (s : Stats) (key : K) (hash : ℕ) (now : Instant) (made : Option (Option V)) (own : Result (Option V) (Option (InsertRefused K V))) → Counts {P = P} (GetsOrInsertsIfMade key hash now made own) (loads_of made) s (after_get_with made own s)
  if_made s key hash now None (Ok (Some value)) calls replies fit h = gets_or_inserts s key hash now None (Ok value) calls replies fit h
  if_made s key hash now None (Err refused) calls replies fit h = gets_or_inserts s key hash now None (Err refused) calls replies fit h
  if_made s key hash now (Some None) (Ok None) calls replies fit h = misses_only s key hash now calls replies fit h
  if_made s key hash now (Some (Some made)) (Ok (Some value)) calls replies fit h = gets_or_inserts s key hash now (Some made) (Ok value) calls replies fit h
  if_made s key hash now (Some (Some made)) (Err refused) calls replies fit h = gets_or_inserts s key hash now (Some made) (Err refused) calls replies fit h
  if_made s key hash now made own calls replies fit h = absurd h

  pub if_no_error : {E : Type 0} (s : Stats) (key : K) (hash : ℕ) (now : Instant) (made : Option (Result V E)) (own : Result (Result V E) (Option (InsertRefused K V))) → Counts {P = P} (GetsOrInsertsIfNoError key hash now made own) (loads_of made) s (after_get_with made own s)
  if_no_error s key hash now None (Ok (Ok value)) calls replies fit h = gets_or_inserts s key hash now None (Ok value) calls replies fit h
  if_no_error s key hash now None (Err refused) calls replies fit h = gets_or_inserts s key hash now None (Err refused) calls replies fit h
  if_no_error s key hash now (Some (Err failed)) (Ok (Err error)) calls replies fit h = misses_only s key hash now calls replies fit h.1
  if_no_error s key hash now (Some (Ok made)) (Ok (Ok value)) calls replies fit h = gets_or_inserts s key hash now (Some made) (Ok value) calls replies fit h
  if_no_error s key hash now (Some (Ok made)) (Err refused) calls replies fit h = gets_or_inserts s key hash now (Some made) (Err refused) calls replies fit h
  if_no_error s key hash now made own calls replies fit h = absurd h

-- ---- calls after calls

module _ (K V P : Type 0) where
  pub adds_up : AddsUp K V P
  adds_up = record {
    at_first = λ s fit. counted_quietly s [] fit (record { no_hits = refl; no_misses = refl });
    goes_on = λ replies later m n s t u h k. record {
      hits = rises_then is_hit replies later s.hits t.hits u.hits h.hits k.hits;
      misses = rises_then is_miss replies later s.misses t.misses u.misses h.misses k.misses;
      loads = k.loads ∙ ap (λ x. plus x n) h.loads ∙ more_and_more greatest s.loads m n;
    };
    fits = λ replies m s t h. record {
      hits_fit = subst (λ n. n ≤ greatest) (sym h.hits) (within greatest (s.hits + count_by is_hit replies));
      misses_fit = subst (λ n. n ≤ greatest) (sym h.misses) (within greatest (s.misses + count_by is_miss replies));
      loads_fit = subst (λ n. n ≤ greatest) (sym h.loads) (within greatest (s.loads + m));
    };
  }

module _ {K V P : Type 0} where
  -- calls that look up, and then calls that do not
  counted_then : (s t : Stats) (replies later : List (Reply K V P)) → IsCounted replies 0 s t → AreCounters s → IsQuiet later → IsCounted (replies ++ later) 0 s t
  counted_then s t replies later h fit quiet = (adds_up K V P).goes_on replies later 0 0 s t t h (counted_quietly t later ((adds_up K V P).fits replies 0 s t h) quiet)

  quiet_then : (replies later : List (Reply K V P)) → IsQuiet replies → IsQuiet later → IsQuiet (replies ++ later)
  quiet_then replies later h k = record {
    no_hits = sum_by-append (λ x. cond (is_hit x) 1 0) replies later ∙ ap (λ n. n + count_by is_hit later) h.no_hits ∙ zero_plus (count_by is_hit later) ∙ k.no_hits;
    no_misses = sum_by-append (λ x. cond (is_miss x) 1 0) replies later ∙ ap (λ n. n + count_by is_miss later) h.no_misses ∙ zero_plus (count_by is_miss later) ∙ k.no_misses;
  }

  each_quietly : {A : Type 0} (Step : A → List (Call K V P) → List (Reply K V P) → Type 0) → ((x : A) (cs : List (Call K V P)) (rs : List (Reply K V P)) → Step x cs rs → IsQuiet rs) →
      (xs : List A) (calls : List (Call K V P)) (replies : List (Reply K V P)) → Each Step xs calls replies → IsQuiet replies
  each_quietly Step quiet [] calls replies none = subst IsQuiet (sym none.1) (record { no_hits = refl; no_misses = refl })
  each_quietly Step quiet (x ∷ xs) calls replies (asked, got, later, answers, first, rest, c, r) = subst IsQuiet (sym r) (quiet_then got answers (quiet x asked got first) (each_quietly Step quiet xs later answers rest))

  -- one call alone that looks nothing up
  just_quietly : (s : Stats) (c : Call K V P) (r : Reply K V P) (calls : List (Call K V P)) (replies : List (Reply K V P)) → AreCounters s → is_hit r ≡ false → is_miss r ≡ false → Just c r calls replies → IsCounted replies 0 s s
  just_quietly s c r calls replies fit no_hit no_miss h = counted_quietly s replies fit (subst IsQuiet (sym h.1) (quiet_after r [] no_hit no_miss (record { no_hits = refl; no_misses = refl })))

  -- a get, and only if it misses an insert, with no maker
  puts_or_gets : (s : Stats) (key : K) (hash : ℕ) (now : Instant) (put : Option V) (own : Result V (Option (InsertRefused K V))) → Counts {P = P} (GetsOrInserts key hash now put own) 0 s (after_get_or_insert put own s)
  puts_or_gets s key hash now None (Ok value) calls replies fit h = gets_or_inserts s key hash now None (Ok value) calls replies fit h
  puts_or_gets s key hash now None (Err refused) calls replies fit h = gets_or_inserts s key hash now None (Err refused) calls replies fit h
  puts_or_gets s key hash now (Some put) own calls replies fit h = let one = gets_or_inserts s key hash now (Some put) own calls replies fit h in record { hits = one.hits; misses = one.misses; loads = no_more greatest s.loads fit.loads_fit }

  module _ (is_clone : V → V → Type 0) (s : Stats) (key : K) (hash : ℕ) (now : Instant) (own got : Result (Option V) OutOfMemory) (fit : AreCounters s) (copied : IsCopiedAnswer is_clone own got) where
    gets_clone : (calls : List (Call K V P)) (replies : List (Reply K V P)) → GetsValue key hash now own calls replies → IsCounted replies 0 s (after_look_up got s)
    gets_clone calls replies h = subst (IsCounted replies 0 s) (clones_count is_clone own got s copied) (gets s key hash now own calls replies fit h)

    -- a get, and then calls that look nothing up
    gets_then : (Then : List (Call K V P) → List (Reply K V P) → Type 0) → ((cs : List (Call K V P)) (rs : List (Reply K V P)) → Then cs rs → IsQuiet rs) → (calls : List (Call K V P)) (replies : List (Reply K V P)) → InTurn (GetsValue key hash now own) Then calls replies → IsCounted replies 0 s (after_look_up got s)
    gets_then Then quiet calls replies (asked, found, later, answers, first, then, c, r) = subst (λ rs. IsCounted rs 0 s (after_look_up got s)) (sym r) (counted_then s (after_look_up got s) found answers (gets_clone asked found first) fit (quiet later answers then))

    upserts : (put : Option (V × Result V (InsertRefused K V))) (calls : List (Call K V P)) (replies : List (Reply K V P)) → Upserts key hash now own put calls replies → IsCounted replies 0 s (after_look_up got s)
    upserts None calls replies h = gets_clone calls replies h
    upserts (Some (value, answer)) calls replies h = gets_then (InsertsMade key hash now value answer) (λ cs rs k. makes_quietly key hash now value answer cs rs k) calls replies h

    computes : (done : Option (Computed K V)) (calls : List (Call K V P)) (replies : List (Reply K V P)) → Computes key hash now own done calls replies → IsCounted replies 0 s (after_look_up got s)
    computes None calls replies h = gets_clone calls replies h
    computes (Some Left) calls replies h = gets_clone calls replies h
    computes (Some LeftNone) calls replies h = gets_clone calls replies h
    computes (Some (Puts value answer)) calls replies h = gets_then (InsertsMade key hash now value answer) (λ cs rs k. makes_quietly key hash now value answer cs rs k) calls replies h
    computes (Some (Takes taken)) calls replies h = gets_then (RemovesEntry key hash now taken) (λ cs rs k. removes_quietly key hash now taken cs rs k) calls replies h

  module _ (hash_of : K → ℕ) (now : Instant) where
    inserts_many : (items : List (K × V)) (answer : Result (Unit {0}) (InsertManyRefused K V)) (calls : List (Call K V P)) (replies : List (Reply K V P)) → InsertsMany hash_of now items answer calls replies → IsQuiet replies
    inserts_many items (Ok all) calls replies h = each_quietly (InsertsItem hash_of now) (λ x cs rs k. inserts_quietly x.0 (hash_of x.0) x.1 now (Ok tt) cs rs k) items calls replies h
    inserts_many items (Err e) calls replies (put, is, done, (asked, got, later, answers, first, then, c, r)) =
        subst IsQuiet (sym r) (quiet_then got answers (each_quietly (InsertsItem hash_of now) (λ x cs rs k. inserts_quietly x.0 (hash_of x.0) x.1 now (Ok tt) cs rs k) put asked got first)
        (inserts_quietly e.refused.key (hash_of e.refused.key) e.refused.value now (Err e.refused) later answers then))

    invalidates : (answer : Result (Unit {0}) (NotTold V)) (key : K) (calls : List (Call K V P)) (replies : List (Reply K V P)) → Invalidates hash_of now answer key calls replies → IsQuiet replies
    invalidates answer key calls replies h = removes_quietly key (hash_of key) now h.0 calls replies h.2

    invalidates_many : (keys : List K) (answer : Result (Unit {0}) (InvalidateManyRefused V)) (calls : List (Call K V P)) (replies : List (Reply K V P)) → InvalidatesMany hash_of now keys answer calls replies → IsQuiet replies
    invalidates_many keys (Ok all) calls replies h = each_quietly (Invalidates hash_of now (Ok tt)) (invalidates (Ok tt)) keys calls replies h
    invalidates_many keys (Err e) calls replies (before, key, after, is, done, (asked, got, later, answers, first, then, c, r)) =
        subst IsQuiet (sym r) (quiet_then got answers (each_quietly (Invalidates hash_of now (Ok tt)) (invalidates (Ok tt)) before asked got first) (invalidates (Err e.refused) key later answers then))

    module _ (is_clone : V → V → Type 0) where
      gets_each : (s : Stats) (found : List (K × Option V)) (calls : List (Call K V P)) (replies : List (Reply K V P)) → AreCounters s → Each (GetsItem is_clone hash_of now) found calls replies → IsCounted replies 0 s (after_look_ups (map (λ g. g.1) found) s)
      gets_each s [] calls replies fit none = subst (λ rs. IsCounted rs 0 s s) (sym none.1) ((adds_up K V P).at_first s fit)
      gets_each s (g ∷ gs) calls replies fit (asked, got, later, answers, (own, copied, first), rest, c, r) =
          let t : Stats = after_look_up {V = V} {E = OutOfMemory} (Ok g.1) s in
          let one : IsCounted got 0 s t = gets_clone is_clone s g.0 (hash_of g.0) now (Ok own) (Ok g.1) fit copied asked got first in
          subst (λ rs. IsCounted rs 0 s (after_look_ups (map (λ g. g.1) gs) t)) (sym r)
          ((adds_up K V P).goes_on got answers 0 0 s t (after_look_ups (map (λ g. g.1) gs) t) one (gets_each t gs later answers ((adds_up K V P).fits got 0 s t one) rest))

      gets_many : (s : Stats) (keys : List K) (answer : Result (Vec (Option V) Global) (GetManyRefused V)) → Counts {P = P} (GetsMany is_clone hash_of now keys answer) 0 s (after_look_ups (found_by answer) s)
      gets_many s keys (Ok found) calls replies fit (got, of, is, each) = subst (λ xs. IsCounted replies 0 s (after_look_ups xs s)) (sym is) (gets_each s got calls replies fit each)
      gets_many s keys (Err e) calls replies fit (inl (none, c, r)) =
          subst (λ xs. IsCounted replies 0 s (after_look_ups xs s)) (sym none) (subst (λ rs. IsCounted rs 0 s s) (sym r) ((adds_up K V P).at_first s fit))
      gets_many s keys (Err e) calls replies fit (inr (got, key, after, of, is, refused, (asked, before, later, answers, each, last, c, r))) =
          let t : Stats = after_look_ups (map (λ g. g.1) got) s in
          let one : IsCounted before 0 s t = gets_each s got asked before fit each in
          let then : IsCounted answers 0 t t = gets t key (hash_of key) now (Err refused) later answers ((adds_up K V P).fits before 0 s t one) last in
          subst (λ xs. IsCounted replies 0 s (after_look_ups xs s)) (sym is) (subst (λ rs. IsCounted rs 0 s t) (sym r) ((adds_up K V P).goes_on before answers 0 0 s t t one then))

-- ---- the laws

pub counts_calls : (K V P E : Type 0) (is_clone : V → V → Type 0) → CountsCalls K V P E is_clone
counts_calls K V P E is_clone = record {
  get = λ s key hash now own answer copied calls replies fit h. gets_clone is_clone s key hash now own answer fit copied calls replies h;
  get_with = gets_or_inserts;
  optionally_get_with = if_made;
  try_get_with = if_no_error;
  insert = λ s key hash value now answer calls replies fit h. counted_quietly s replies fit (inserts_quietly key hash value now answer calls replies h);
  remove = λ s key hash now taken calls replies fit h. counted_quietly s replies fit (removes_quietly key hash now taken calls replies h);
  run_pending_tasks = λ s now more calls replies fit h. just_quietly s (own_run now) (reply.Run more) calls replies fit refl refl h;
  invalidate_all = λ s now calls replies fit h. just_quietly s (call.InvalidateAll now) reply.InvalidateAll calls replies fit refl refl h;
  set_max_capacity = λ s capacity answer calls replies fit h. just_quietly s (call.SetCapacity capacity) (reply.SetCapacity answer) calls replies fit refl refl h;
  or_insert = puts_or_gets;
  and_upsert_with = λ s key hash now own got put copied calls replies fit h. upserts is_clone s key hash now own got fit copied put calls replies h;
  and_compute_with = λ s key hash now own got done copied calls replies fit h. computes is_clone s key hash now own got fit copied done calls replies h;
  get_many = λ s hash_of now. gets_many hash_of now is_clone s;
  insert_many = λ s hash_of now items answer calls replies fit h. counted_quietly s replies fit (inserts_many hash_of now items answer calls replies h);
  invalidate_many = λ s hash_of now keys answer calls replies fit h. counted_quietly s replies fit (invalidates_many hash_of now keys answer calls replies h);
}

module _ (K V P : Type 0) where
  one_of_both : (r : Reply K V P) → cond (is_hit r) 1 0 + cond (is_miss r) 1 0 ≡ cond (is_look_up r) 1 0
  one_of_both (reply.Get (Ok (Some entry))) = refl
  one_of_both (reply.Get (Ok None)) = refl
  one_of_both (reply.Get (Err e)) = refl
  one_of_both r = refl

  all_of_both : (replies : List (Reply K V P)) → count_by is_hit replies + count_by is_miss replies ≡ count_by is_look_up replies
  all_of_both [] = refl
  all_of_both (r ∷ rs) =
      let h = count_after is_hit r rs in
      let m = count_after is_miss r rs in
      let l = count_after is_look_up r rs in
      sums _ _ _ _ _ _ _ _ _ h m l (one_of_both r) (all_of_both rs)
    where
      sums : (a b c d e f x y z : ℕ) → x ≡ a + b → y ≡ c + d → z ≡ e + f → a + c ≡ e → b + d ≡ f → x + y ≡ z
      sums a b c d e f x y z p q r s t = omega (arith, p, q, r, s, t)

  pub sums_to_look_ups : SumsToLookUps K V P
  sums_to_look_ups replies makers s h fits =
      let all = all_of_both replies in
      let parts = both_parts (count_by is_hit replies) (count_by is_miss replies) (count_by is_look_up replies) all in
      let hits = h.hits ∙ from_none greatest (count_by is_hit replies) (omega (arith, parts.0, fits)) in
      let misses = h.misses ∙ from_none greatest (count_by is_miss replies) (omega (arith, parts.1, fits)) in
      ap (λ n. n + s.misses) hits ∙ ap (λ n. count_by is_hit replies + n) misses ∙ all
