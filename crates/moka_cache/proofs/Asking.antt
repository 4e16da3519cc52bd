-- What inserts, gets and removals make, from the engine's steps.
use Rattle.std.proofs.Common.{◌≡◌, refl, ℕ, Bool, true, false, List, [], ◌∷◌, Option, Some, None, is_some, Result, Ok, Err, IfOk, OnErr, ap, sym, subst, ◌∙◌, inl, inr, MatchBool, true≢false}
use Rattle.std.specs.Prelude.{IfSome, IsOk}
use Rattle.moka_parts.specs.declared.notification.RemovalCause.{RemovalCause}
use Rattle.moka_records.specs.declared.instant.Instant.{Instant}
use Rattle.moka_records.specs.declared.records.Record.{Record}
use Rattle.moka_types.specs.declared.calls.Ticket.{Ticket}
use Rattle.moka_types.specs.declared.calls.Entry.{Entry}
use Rattle.moka_types.specs.declared.calls.KvEntry.{KvEntry}
use Rattle.moka_types.specs.declared.calls.Call.TheVariants as call
use Rattle.moka_types.specs.declared.calls.Reply.TheVariants as reply
use Rattle.moka_types.specs.declared.error.OutOfMemory.{OutOfMemory}
use Rattle.moka_types.specs.declared.error.InsertRefused.{InsertRefused}
use Rattle.moka_parts.specs.Notices.{Notice, when_listening}
use Rattle.moka_records.specs.Records.{record_of_key}
use Rattle.moka_parts.specs.State.{State, Settings, Meaning, Events, is_disabled}
use Rattle.moka_parts.specs.Causes.{cause_of_removal}
use Rattle.moka_parts.specs.Maintenance.{Terms, Course}
use Rattle.moka_parts.specs.Surroundings.{Leads, Heard}
use Rattle.moka_parts.specs.Calls.{no_events, only_notices, Unchanged, InsertStep, GetStep, GetsAt, ContainsStep, RemoveStep, NotifyStep}
use Rattle.moka_parts.specs.Copies.{IsCopiedAnswer, IsEntryCopy, IsKvEntryCopy, NotifiesOfCopy}
use Rattle.moka_parts.specs.Visibility.{IsShown, IsVisible}
use Rattle.moka_parts.specs.Runs.{Engine, Befalls}
use Rattle.moka_parts.specs.Listed.{ListedRun}
use Rattle.moka_engine.specs.Looks.{CanHandOut, CanHandOutValue}
use Rattle.moka_laws.proofs.Contained.{not_both}
use Rattle.moka_calls.specs.Given.{Sees}
use Rattle.moka_calls.specs.Synchronous.{Made, Makes, Posts, InsertsEntry, GetsValue, RemovesEntry, invalidated, removed, value_found, hears_clones}
use Rattle.moka_laws.proofs.Alike.{get_alike, listed_run_alike}
use Rattle.moka_laws.proofs.Quiet.{befalls_then, befalls-nothing, removal_keeps, unheard}
use Rattle.moka_calls.proofs.Made.{made_one, made_then, made_more, befalls_more}
use Rattle.moka_cache.proofs.Waiting.{insert_hands_out, insert_hands_back}

-- ---- inserts

module _ {K V S X L P W C : Type 0} (m : Meaning K V X L P W C (Unit {0})) (key : K) (hash : ℕ) (value : V) (now : Instant) where
  -- a disabled map lets key and value go
  pub let_go : (c : Engine K V S X L P W) (clock : C) → is_disabled c.state.capacity ≡ true → Makes m (InsertsEntry key hash value now (Ok tt)) c clock c clock
  let_go c clock off = (call.Insert key hash value now ∷ [], reply.Disabled key value ∷ [], inl (refl, refl), made_one m c c clock clock (call.Insert key hash value now) (reply.Disabled key value) no_events (off, refl, refl, (refl, refl)) (befalls-nothing m.tells c) refl refl tt)

  module _ (old mid : Engine K V S X L P W) (clock : C) (enabled : is_disabled old.state.capacity ≡ false) where
    -- an insert whose ticket is posted
    pub inserted : (a : Ticket × Instant) (e : Events K V) → InsertStep m.created m.updated m.weighs m.eq old.state key hash value now (Ok a) e mid.state → Befalls m.tells e old mid →
        (new : Engine K V S X L P W) (clock_after : C) → Makes m (Posts now a.0) mid clock new clock_after → Makes m (InsertsEntry key hash value now (Ok tt)) old clock new clock_after
    inserted a e step befell new clock_after (posting, posted, posts, made) =
        let out = insert_hands_out m.created m.updated m.weighs m.eq old.state key hash value now a e mid.state step in
        let at_now : InsertStep m.created m.updated m.weighs m.eq old.state key hash value now (Ok (a.0, now)) e mid.state = subst (λ at. InsertStep m.created m.updated m.weighs m.eq old.state key hash value now (Ok (a.0, at)) e mid.state) out.1 step in (
          call.Insert key hash value now ∷ posting,
          reply.Insert (Ok (a.0, now)) ∷ posted,
          inr (a.0, posting, posted, posts, refl, refl),
          made_then m (call.Insert key hash value now ∷ []) posting (reply.Insert (Ok (a.0, now)) ∷ []) posted old mid new clock clock clock_after (made_one m old mid clock clock (call.Insert key hash value now) (reply.Insert (Ok (a.0, now))) e (enabled, at_now) befell (subst (λ ts. Leads m.observes clock ts clock) (sym out.3) refl) out.2 tt) made,
        )

    -- an insert that is refused
    pub insert_refused : (refused : InsertRefused K V) (e : Events K V) → InsertStep m.created m.updated m.weighs m.eq old.state key hash value now (Err refused) e mid.state → Befalls m.tells e old mid →
        Makes m (InsertsEntry key hash value now (Err refused)) old clock mid clock
    insert_refused refused e step befell =
        let back = insert_hands_back m.created m.updated m.weighs m.eq old.state key hash value now refused e mid.state step in (
          call.Insert key hash value now ∷ [],
          reply.Insert (Err refused) ∷ [],
          (refl, refl),
          made_one m old mid clock clock (call.Insert key hash value now) (reply.Insert (Err refused)) e (enabled, step) befell (subst (λ ts. Leads m.observes clock ts clock) (sym (ap (λ (x : Events K V). x.readings) back.unchanged.1)) refl) (ap (λ (x : Events K V). x.ids) back.unchanged.1) tt,
        )

-- ---- gets

module _ {K V : Type 0} (is_key_clone : K → K → Type 0) (is_value_clone : V → V → Type 0) where
  -- of a clone of an entry the value is a clone
  pub value_copied : (a b : Result (Option (Entry K V)) OutOfMemory) → IsCopiedAnswer (IsEntryCopy is_key_clone is_value_clone) a b → IsCopiedAnswer is_value_clone (value_found a) (value_found b)
  value_copied (Err e) b copied = ap value_found copied
  value_copied (Ok None) (Ok b) copied = subst (λ x. IsCopiedAnswer is_value_clone (Ok None) (value_found (Ok x))) (sym copied) refl
  value_copied (Ok None) (Err e) copied = absurd copied
  value_copied (Ok (Some x)) (Ok (Some y)) copied = copied.value
  value_copied (Ok (Some x)) (Ok None) copied = absurd copied
  value_copied (Ok (Some x)) (Err e) copied = absurd copied

-- if an entry is handed out, so is its value
pub value_granted : {K V : Type 0} (a : Result (Option (Entry K V)) OutOfMemory) → IsOk a → IsOk (value_found a)
value_granted (Ok None) granted = refl
value_granted (Ok (Some x)) granted = refl
value_granted (Err e) granted = granted

-- where no key is asked for, only the clone of the value counts
pub value_alone : {K V : Type 0} (is_key_infallible : K → Type 0) (is_infallible : V → Type 0) (sought : Option (Record K V)) → CanHandOutValue is_infallible sought → CanHandOut is_key_infallible is_infallible false sought
value_alone is_key_infallible is_infallible sought granted r there = (granted r there, λ asked. absurd (true≢false (sym asked)))

module _ {K V X P W : Type 0} (eq : K → K → Bool) (says : P → K → V → Bool → Type 0) (is_clone : V → V → Type 0) (s : State K V X P W) (key : K) (now : ℕ) where
  -- what is seen is a clone of the value of the key's record
  pub seen_value : (got : Result (Option V) OutOfMemory) → IfOk got (Sees eq says is_clone s key now) → IfOk got (λ found. IfSome found (λ v. (r : Record K V) × (record_of_key eq s.records key ≡ Some r) × is_clone r.value v))
  seen_value (Ok (Some v)) (r, there, visible, cloned) = (r, there, cloned)
  seen_value (Ok None) sees = tt
  seen_value (Err e) sees = tt

  -- something is seen just where the key is contained
  pub seen_shown : (got : Result (Option V) OutOfMemory) → IfOk got (Sees eq says is_clone s key now) → IfOk got (λ found. ContainsStep says eq s key now (is_some found))
  seen_shown (Ok (Some v)) (r, there, visible, cloned) = subst (λ o. IsShown says s o now true) (sym there) visible
  seen_shown (Ok None) sees = sees
  seen_shown (Err e) sees = tt

  pub seen_found : (got : Result (Option V) OutOfMemory) → IfOk got (Sees eq says is_clone s key now) → ContainsStep says eq s key now true → IfOk got (λ found. is_some found ≡ true)
  seen_found (Ok (Some v)) sees shown = refl
  seen_found (Ok None) sees shown = absurd (not_both_at (record_of_key eq s.records key) shown sees)
    where
      not_both_at : (o : Option (Record K V)) → IsShown says s o now true → IsShown says s o now false → ⊥
      not_both_at None shown hidden = true≢false shown
      not_both_at (Some r) shown hidden = not_both says s r now hidden shown
  seen_found (Err e) sees shown = tt

module _ {K V X P W : Type 0} (says : P → K → V → Bool → Type 0) (read : X → K → V → ℕ → Option ℕ → ℕ → Option ℕ) (Runs : State K V X P W → Terms → Course → List (Notice K V) → State K V X P W → Type 0) (is_key_clone : K → K → Type 0) (is_value_clone : V → V → Type 0)
    (s : State K V X P W) (o : Option (Record K V)) (none_kept : is_disabled s.capacity ≡ true → o ≡ None) (hash now : ℕ) (a b : Result (Option (Entry K V)) OutOfMemory) (e : Events K V) (t : State K V X P W)
    (step : MatchBool (is_disabled s.capacity) ((a ≡ Ok None) × Unchanged s e t) (GetsAt says read Runs s o hash false false now a e t)) (copied : IsCopiedAnswer (IsEntryCopy is_key_clone is_value_clone) a b) where
  -- what a get answers where the key has that record or none: its value just where it is visible
  abbrev Answers : Result (Option (Entry K V)) OutOfMemory → Type 0
  Answers (Ok (Some entry)) = (r : Record K V) × (o ≡ Some r) × IsVisible says s r now × (entry.value ≡ r.value)
  Answers (Ok None) = IsShown says s o now false
  Answers (Err x) = Unchanged s e t

  answered : Answers a
  answered = go (is_disabled s.capacity) refl step
    where
      hidden_at : (p : Option (Record K V)) → o ≡ p → IsShown says s p now false → IsShown says s o now false
      hidden_at p there h = subst (λ p. IsShown says s p now false) (sym there) h

      at : (p : Option (Record K V)) → o ≡ p → (a : Result (Option (Entry K V)) OutOfMemory) → GetsAt says read Runs s p hash false false now a e t → Answers a
      at None there a h = subst Answers (sym h.0) (hidden_at None there refl)
      at (Some r) there (Ok None) h = elim (h.0) [
        | inl ignored ↦ absurd (true≢false (sym ignored))
        | inr hidden ↦ hidden_at (Some r) there hidden
      ]
      at (Some r) there (Ok (Some entry)) h = (r, there, h.0.1, h.1)
      at (Some r) there (Err x) h = h.1

      go : (off : Bool) → is_disabled s.capacity ≡ off → MatchBool off ((a ≡ Ok None) × Unchanged s e t) (GetsAt says read Runs s o hash false false now a e t) → Answers a
      go true off h = subst Answers (sym h.0) (hidden_at None (none_kept off) refl)
      go false on h = at o refl a h

  -- what holds of a clone of a visible value, and of nothing where none is visible, holds of what is handed out
  pub handed_out : (Q : Option V → Type 0) → ((r : Record K V) (v : V) → o ≡ Some r → IsVisible says s r now → is_value_clone r.value v → Q (Some v)) → (IsShown says s o now false → Q None) → IfOk (value_found b) Q
  handed_out Q found none = go a b answered copied
    where
      go : (a b : Result (Option (Entry K V)) OutOfMemory) → Answers a → IsCopiedAnswer (IsEntryCopy is_key_clone is_value_clone) a b → IfOk (value_found b) Q
      go (Err x) b h copied = rw copied tt
      go (Ok None) (Ok b) h copied = rw copied (none h)
      go (Ok None) (Err x) h copied = absurd copied
      go (Ok (Some x)) (Ok (Some y)) (r, there, visible, is) copied = found r y.value there visible (subst (λ v. is_value_clone v y.value) is copied.value)
      go (Ok (Some x)) (Ok None) h copied = absurd copied
      go (Ok (Some x)) (Err y) h copied = absurd copied

  -- a disabled map has nothing, and is left as it is
  pub nothing_found : is_disabled s.capacity ≡ true → (value_found b ≡ Ok None) × (is_disabled t.capacity ≡ true)
  nothing_found off = (none a b h.0 copied, ap (λ (x : State K V X P W). is_disabled x.capacity) h.1.0 ∙ off)
    where
      h : (a ≡ Ok None) × Unchanged s e t
      h = subst (λ off. MatchBool off ((a ≡ Ok None) × Unchanged s e t) (GetsAt says read Runs s o hash false false now a e t)) off step

      none : (a b : Result (Option (Entry K V)) OutOfMemory) → a ≡ Ok None → IsCopiedAnswer (IsEntryCopy is_key_clone is_value_clone) a b → value_found b ≡ Ok None
      none a b is copied = of b (subst (λ a. IsCopiedAnswer (IsEntryCopy is_key_clone is_value_clone) a b) is copied)
        where
          of : (b : Result (Option (Entry K V)) OutOfMemory) → IsCopiedAnswer (IsEntryCopy is_key_clone is_value_clone) (Ok None) b → value_found b ≡ Ok None
          of (Ok None) copied = refl
          of (Ok (Some y)) copied = (let impossible : Some y ≡ None = copied in absurd (cc))
          of (Err x) copied = absurd copied

  -- a refused get changes nothing and reads no clock
  pub unchanged_when_refused : {C : Type 0} (reads : C → Instant → C → Type 0) (clock clock_after : C) → Leads reads clock e.readings clock_after → OnErr (value_found b) ((t ≡ s) × (clock_after ≡ clock))
  unchanged_when_refused reads clock clock_after led = go a b answered copied
    where
      go : (a b : Result (Option (Entry K V)) OutOfMemory) → Answers a → IsCopiedAnswer (IsEntryCopy is_key_clone is_value_clone) a b → OnErr (value_found b) ((t ≡ s) × (clock_after ≡ clock))
      go a (Ok (Some y)) h copied = tt
      go a (Ok None) h copied = tt
      go (Ok x) (Err y) h copied = absurd copied
      go (Err x) (Err y) h copied = (h.0, subst (λ ts. Leads reads clock ts clock_after) (ap (λ (x : Events K V). x.readings) h.1) led)

module _ {K V S X L P W C : Type 0} (m : Meaning K V X L P W C (Unit {0})) (key : K) (hash : ℕ) (now : Instant) (old new : Engine K V S X L P W) (clock clock_after : C) where
  -- a get
  pub got : (a : Result (Option (Entry K V)) OutOfMemory) (e : Events K V) → GetStep m.says m.read (ListedRun m.says m.read old.write_list new.write_list) m.eq old.state key hash false false now.0 a e new.state → Befalls m.tells e old new → Leads m.observes clock e.readings clock_after →
      Makes m (GetsValue key hash now (value_found a)) old clock new clock_after
  got a e step befell read =
      let alike = get_alike (ListedRun m.says m.read old.write_list new.write_list) (listed_run_alike m.says m.read old.write_list new.write_list) m.says m.read m.eq old.state key hash false false now.0 a e new.state step in
      (call.Get key hash false now ∷ [], reply.Get a ∷ [], (a, refl, refl, refl), made_one m old new clock clock_after (call.Get key hash false now) (reply.Get a) e step befell read alike.1 tt)

-- ---- removals

-- what was told is answered as well
pub removed_told : {V : Type 0} (taken : Option (V × Result (Unit {0}) OutOfMemory)) → IfSome taken (λ t. IsOk t.1) → IsOk (removed taken)
removed_told None told = refl
removed_told (Some (value, Ok _)) told = refl
removed_told (Some (value, Err _)) told = told

pub invalidated_told : {V : Type 0} (taken : Option (V × Result (Unit {0}) OutOfMemory)) → IfSome taken (λ t. IsOk t.1) → IsOk (invalidated taken)
invalidated_told None told = refl
invalidated_told (Some (value, Ok _)) told = refl
invalidated_told (Some (value, Err _)) told = told

module _ {K V L : Type 0} (is_key_clone : K → K → Type 0) (is_value_clone : V → V → Type 0) (tells : L → K → V → RemovalCause → L → Type 0) where
  -- the notice of an entry, if one is told, and what the listener heard of it
  pub record IsHeardOf {X W : Type 0} (settings : Settings X W) (entry : KvEntry K V) (now : Instant) (told : Result (Unit {0}) OutOfMemory) (before after : Option L) : Type 0 where
    pub notices : List (Notice K V)
    pub step : NotifyStep settings entry now told notices
    pub heard : Heard (hears_clones is_key_clone is_value_clone tells) before notices after

  heard_one : (key k : K) (value v : V) (cause : RemovalCause) → is_key_clone key k → is_value_clone value v → (before after : Option L) → Heard tells before ((k, v, cause) ∷ []) after → Heard (hears_clones is_key_clone is_value_clone tells) before ((key, value, cause) ∷ []) after
  heard_one key k value v cause same_key same_value None None h = (let impossible : (k, v, cause) ∷ [] ≡ [] = h in absurd (cc))
  heard_one key k value v cause same_key same_value (Some l) (Some n) (mid, step, rest) = (mid, inr (k, v, same_key, same_value, step), rest)
  heard_one key k value v cause same_key same_value None (Some n) h = absurd h
  heard_one key k value v cause same_key same_value (Some l) None h = absurd h

  -- a notice of clones is heard as the entry's
  pub heard_of_clones : {X W : Type 0} (settings : Settings X W) (entry : KvEntry K V) (now : Instant) (told : Result (Unit {0}) OutOfMemory) (before after : Option L) (notices : List (Notice K V)) → NotifiesOfCopy is_key_clone is_value_clone settings entry now told notices → Heard tells before notices after → IsHeardOf settings entry now told before after
  heard_of_clones settings entry now (Err e) before after notices (copy, step, copied) heard = record { notices = []; step = (step.0, refl); heard = unheard tells (hears_clones is_key_clone is_value_clone tells) before after (subst (λ ns. Heard tells before ns after) step.1 heard) }
  heard_of_clones settings entry now (Ok u) before after notices (copy, step, copied) heard = record { notices = _; step = refl; heard = go settings.listening step }
    where
      cause : RemovalCause
      cause = cause_of_removal settings entry.last_modified.0 entry.last_accessed.0 now.0

      cause_copied : RemovalCause
      cause_copied = cause_of_removal settings copy.last_modified.0 copy.last_accessed.0 now.0

      one : IsKvEntryCopy is_key_clone is_value_clone entry copy → Heard tells before ((copy.key, copy.value, cause_copied) ∷ []) after → Heard (hears_clones is_key_clone is_value_clone tells) before ((entry.key, entry.value, cause) ∷ []) after
      one c h =
          let same : cause_copied ≡ cause = ap (λ at. cause_of_removal settings at.0 copy.last_accessed.0 now.0) c.last_modified ∙ ap (λ at. cause_of_removal settings entry.last_modified.0 at.0 now.0) c.last_accessed in
          heard_one entry.key copy.key entry.value copy.value cause c.key c.value before after (subst (λ x. Heard tells before ((copy.key, copy.value, x) ∷ []) after) same h)

      go : (b : Bool) → notices ≡ when_listening b ((copy.key, copy.value, cause_copied) ∷ []) → Heard (hears_clones is_key_clone is_value_clone tells) before (when_listening b ((entry.key, entry.value, cause) ∷ [])) after
      go false none = unheard tells (hears_clones is_key_clone is_value_clone tells) before after (subst (λ ns. Heard tells before ns after) none heard)
      go true told = elim copied [
        | inl none ↦ (let impossible : [] ≡ (copy.key, copy.value, cause_copied) ∷ [] = sym none ∙ told in absurd (cc))
        | inr c ↦ one c (subst (λ ns. Heard tells before ns after) told heard)
      ]

module _ {K V S X L P W C : Type 0} (is_key_clone : K → K → Type 0) (is_value_clone : V → V → Type 0) (m : Meaning K V X L P W C (Unit {0})) (key : K) (hash : ℕ) (now : Instant) (old mid : Engine K V S X L P W) (clock : C) where
  abbrev hears : Meaning K V X L P W C (Unit {0})
  hears = record m { tells = hears_clones is_key_clone is_value_clone m.tells }

  -- a removal that finds no key
  pub took_none : RemoveStep m.eq old.state key None mid.state → Befalls m.tells no_events old mid → Makes hears (RemovesEntry key hash now None) old clock mid clock
  took_none step befell = (
    call.Remove key hash (Some now) ∷ [],
    reply.Remove None None ∷ [],
    (refl, refl),
    made_one hears old mid clock clock (call.Remove key hash (Some now)) (reply.Remove None None) no_events (step, (refl, refl), refl) (befalls_more m (hears_clones is_key_clone is_value_clone m.tells) (λ l k v cause after step. inl step) no_events old mid befell) refl refl tt,
  )

  module _ (entry : KvEntry K V) (ticket : Ticket) (step : RemoveStep m.eq old.state key (Some (entry, ticket)) mid.state) (befell : Befalls m.tells no_events old mid)
      (told : Result (Unit {0}) OutOfMemory) (notices : List (Notice K V)) (notified : NotifiesOfCopy is_key_clone is_value_clone mid.state.settings entry now told notices) (third : Engine K V S X L P W) (same : third.state ≡ mid.state) (befell_notice : Befalls m.tells (only_notices notices) mid third) where
    -- the removal with its notice
    removed_and_told : Made hears (call.Remove key hash (Some now) ∷ []) (reply.Remove (Some (entry, ticket)) (Some told) ∷ []) old clock third clock
    removed_and_told =
        let settings = (removal_keeps m.eq old.state mid.state key (Some (entry, ticket)) step).0 in
        let h = heard_of_clones is_key_clone is_value_clone m.tells mid.state.settings entry now told mid.listener third.listener notices notified befell_notice.heard in
        let own : NotifyStep old.state.settings entry now told h.notices = subst (λ settings. NotifyStep settings entry now told h.notices) settings h.step in
        let notice : Befalls hears.tells (only_notices h.notices) mid third = record { kept = befell_notice.kept; heard = h.heard; passes = befell_notice.passes; listed = befell_notice.listed } in
        let first = befalls_more m (hears_clones is_key_clone is_value_clone m.tells) (λ l k v cause after step. inl step) no_events old mid befell in
        made_one hears old third clock clock (call.Remove key hash (Some now)) (reply.Remove (Some (entry, ticket)) (Some told)) (only_notices h.notices)
        (subst (RemoveStep m.eq old.state key (Some (entry, ticket))) (sym same) step, own, refl)
        (befalls_then hears.tells h.notices old mid third first notice) refl refl tt

    -- and its ticket posted
    pub took : (new : Engine K V S X L P W) (clock_after : C) → Makes m (Posts now ticket) third clock new clock_after → Makes hears (RemovesEntry key hash now (Some (entry.value, told))) old clock new clock_after
    took new clock_after (posting, posted, posts, made) = (
      call.Remove key hash (Some now) ∷ posting,
      reply.Remove (Some (entry, ticket)) (Some told) ∷ posted,
      (entry.key, entry.last_modified, entry.last_accessed, ticket, posting, posted, posts, refl, refl),
      made_then hears (call.Remove key hash (Some now) ∷ []) posting (reply.Remove (Some (entry, ticket)) (Some told) ∷ []) posted old third new clock clock clock_after removed_and_told
          (made_more m (hears_clones is_key_clone is_value_clone m.tells) (λ l k v cause after step. inl step) posting posted third new clock clock_after made),
    )
