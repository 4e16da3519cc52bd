-- What was put into an empty cache is found.
use Rattle.std.proofs.Common.{◌≡◌, refl, ℕ, Bool, true, false, List, [], Option, Some, None, Result, Ok, Err, option_map, ap, sym, subst, ◌∙◌, inl, inr, true≢false}
use Rattle.std.specs.Prelude.{IfOk, IfSome, MatchBool}
use Rattle.std.specs.Cmp.{IsEquivalence}
use Rattle.std.specs.FinMap.{get, insert, empty}
use Rattle.std.proofs.lemmas.Option.{same_Some}
use Rattle.moka_engine.specs.parts.Entry.{Entry}
use Rattle.moka_engine.specs.parts.Ticket.{Ticket}
use Rattle.moka_engine.specs.parts.OutOfMemory.{OutOfMemory}
use Rattle.moka_engine.specs.parts.Instant.{Instant}
use Rattle.moka_engine.specs.parts.Record.{Record}
use Rattle.moka_engine.specs.Calls.{InsertsAt, InsertStep, new_record, SendStep, GetsAt, GetStep, Unchanged}
use Rattle.moka_engine.specs.Copies.{HandsOut, IsCopiedAnswer, IsCopy, IsEntryCopy}
use Rattle.moka_engine.specs.Maintenance.{Terms, Course}
use Rattle.moka_engine.specs.Records.{Notice, Records, record_of_key}
use Rattle.moka_engine.specs.State.{State, Settings, Events, new_state, is_disabled}
use Rattle.moka_engine.proofs.Lookup.{record_of_key_empty, present_key}
use Rattle.moka_engine.proofs.Maps.{get_inserted, get_past_insert, nothing_at, same_or_apart}
use Rattle.moka_uses.proofs.Sent.{sends}

-- where a clone is seen as what was cloned is, the value that is handed out is seen as the one that was put
pub seen_alike : {K V B : Type 0} (seen : V → B) (value : V) (found : Option (Entry K V)) → IsCopy (λ x y. seen y ≡ seen x) (Some value) (option_map (λ x. x.value) found) → option_map (λ x. seen x.value) found ≡ Some (seen value)
seen_alike seen value (Some x) copy = ap Some copy
seen_alike seen value None copy = absurd copy

-- a map with one record has it at its key
pub one_record : {K V : Type 0} (eq : K → K → Bool) → IsEquivalence eq → (key : K) (n : ℕ) (r : Record K V) → eq key r.key ≡ true → record_of_key eq (insert empty n r) key ≡ Some r
one_record {K} {V} eq laws key n r same = present_key eq one key laws (λ a b p q at bt alike. only a p at ∙ sym (only b q bt)) n r (get_inserted empty n r) same
  where
    one : Records K V
    one = insert empty n r

    only : (a : ℕ) (p : Record K V) → get one a ≡ Some p → a ≡ n
    only a p at = elim (same_or_apart a n) [ inl e ↦ e | inr apart ↦ absurd (nothing_at a p (sym (get_past_insert empty n r a apart) ∙ at)) ]

module _ {K V X P W : Type 0} (eq : K → K → Bool) (says : P → K → V → Bool → Type 0) (read : X → K → V → ℕ → Option ℕ → ℕ → Option ℕ) (Runs : State K V X P W → Terms → Course → List (Notice K V) → State K V X P W → Type 0) where
  -- the record is the key's, and nothing hides it
  pub record IsOpen (s : State K V X P W) (key : K) (r : Record K V) : Type 0 where
    pub here : record_of_key eq s.records key ≡ Some r
    pub unhidden : s.predicates ≡ []
    pub valid : s.invalid_before ≡ None
    pub live : s.settings.time_to_live ≡ None
    pub idle : s.settings.time_to_idle ≡ None
    pub unexpiring : r.expires ≡ None
    pub enabled : is_disabled s.capacity ≡ false

  -- a get finds it
  got : (s : State K V X P W) (key : K) (r : Record K V) → IsOpen s key r → (hash : ℕ) (need_key : Bool) (now : ℕ) (found : Option (Entry K V)) (e : Events K V) (t : State K V X P W) → GetStep says read Runs eq s key hash need_key false now (Ok found) e t → option_map (λ x. x.value) found ≡ Some r.value
  got s key r shown hash need_key now found e t step = at found (rw (shown.enabled, shown.here) at step)
    where
      at : (found : Option (Entry K V)) → GetsAt says read Runs s (Some r) hash need_key false now (Ok found) e t → option_map (λ x. x.value) found ≡ Some r.value
      at None h = elim (h.0) [
        | inl ignored ↦ absurd (true≢false (sym ignored))
        | inr hidden ↦ absurd (elim (rw (shown.unhidden, shown.valid, shown.live, shown.idle, shown.unexpiring) at hidden) [ inl b ↦ true≢false (sym b) | inr none ↦ none ])
      ]
      at (Some entry) h = ap Some h.1

  module _ (created : X → K → V → ℕ → Option ℕ) (updated : X → K → V → ℕ → Option ℕ → Option ℕ) (weighs : W → K → V → ℕ → Type 0) where
    -- what was put into a new cache without times, and sent, is found by an equal key, and a clone of it handed out
    pub finds_what_was_put : (is_key_clone : K → K → Type 0) (is_value_clone : V → V → Type 0) → IsEquivalence eq → (settings : Settings X W) (capacity : Option ℕ) (first_ticket : ℕ) (old : State K V X P W) → old ≡ new_state settings capacity 0 first_ticket
        → settings.time_to_live ≡ None → settings.time_to_idle ≡ None → settings.expiry ≡ None → is_disabled capacity ≡ false
        → (key : K) (hash : ℕ) (value : V) (now : Instant) (a : Ticket × Instant) (e : Events K V) (s : State K V X P W) → InsertStep created updated weighs eq old key hash value now (Ok a) e s
        → (ticket : ℕ) (u : Unit {0}) (t : State K V X P W) → SendStep s ticket (Ok u) t
        → (asked : K) → eq asked key ≡ true → (get_hash : ℕ) (need_key : Bool) (at : ℕ) (found : Option (Entry K V)) (f : Events K V) (v : State K V X P W)
        → HandsOut (IsEntryCopy is_key_clone is_value_clone) (λ a. GetStep says read Runs eq t asked get_hash need_key false at a f v) (Ok found)
        → IsCopy is_value_clone (Some value) (option_map (λ x. x.value) found)
    finds_what_was_put is_key_clone is_value_clone laws settings capacity first_ticket old is live idle expiry enabled key hash value now a e s put ticket u t sent asked alike_key get_hash need_key at found f v got_out =
        let step : InsertsAt created updated weighs new None key hash value now (Ok a) e s = subst (λ o. InsertsAt created updated weighs new o key hash value now (Ok a) e s) (record_of_key_empty eq key) (subst (λ x. InsertStep created updated weighs eq x key hash value now (Ok a) e s) is put) in
        let send = sends s ticket u t sent in
        let r = new_record created updated new key hash value now step.0 in
        let shown : IsOpen t asked r = record {
          here = ap (λ m. record_of_key eq m asked) (send.records ∙ ap (λ x. x.records) step.5) ∙ one_record eq laws asked 1 r alike_key;
          unhidden = send.alike.predicates ∙ ap (λ x. x.predicates) step.5;
          valid = send.alike.bound ∙ ap (λ x. x.invalid_before) step.5;
          live = ap (λ x. x.time_to_live) (send.alike.settings ∙ ap (λ x. x.settings) step.5) ∙ live;
          idle = ap (λ x. x.time_to_idle) (send.alike.settings ∙ ap (λ x. x.settings) step.5) ∙ idle;
          unexpiring = rw expiry refl;
          enabled = ap is_disabled (send.alike.capacity ∙ ap (λ x. x.capacity) step.5) ∙ enabled;
        } in
        handed r shown got_out.0 got_out.1 got_out.2
      where
        new : State K V X P W
        new = new_state settings capacity 0 first_ticket

        copied : (r : Record K V) (own given : Option (Entry K V)) → option_map (λ x. x.value) own ≡ Some r.value → IsCopy (IsEntryCopy is_key_clone is_value_clone) own given → IsCopy is_value_clone (Some r.value) (option_map (λ x. x.value) given)
        copied r (Some x) (Some y) same copy = subst (λ v. is_value_clone v y.value) (same_Some x.value r.value same) copy.value
        copied r (Some x) None same copy = absurd copy
        copied r None given same copy = (let impossible : None ≡ Some r.value = same in absurd (cc))

        handed : (r : Record K V) → IsOpen t asked r → (own : Result (Option (Entry K V)) OutOfMemory) → GetStep says read Runs eq t asked get_hash need_key false at own f v → IsCopiedAnswer (IsEntryCopy is_key_clone is_value_clone) own (Ok found) → IsCopy is_value_clone (Some r.value) (option_map (λ x. x.value) found)
        handed r shown (Ok own) gets copy = copied r own found (got t asked r shown get_hash need_key at own f v gets) copy
        handed r shown (Err e) gets copy = (let impossible : Ok found ≡ Err e = copy in absurd (cc))

module _ {K V X P W : Type 0} (eq : K → K → Bool) (says : P → K → V → Bool → Type 0) (read : X → K → V → ℕ → Option ℕ → ℕ → Option ℕ) (Runs : State K V X P W → Terms → Course → List (Notice K V) → State K V X P W → Type 0) (is_key_clone : K → K → Type 0) (is_value_clone : V → V → Type 0) where
  keyless : (s : State K V X P W) (hash now : ℕ) (disabled : Bool) (o : Option (Record K V)) (a : Result (Option (Entry K V)) OutOfMemory) (e : Events K V) (t : State K V X P W) → MatchBool disabled ((a ≡ Ok None) × Unchanged s e t) (GetsAt says read Runs s o hash false false now a e t) → IfOk a (λ own. IfSome own (λ x. x.key ≡ None))
  keyless s hash now disabled o (Err refused) e t step = tt
  keyless s hash now disabled o (Ok None) e t step = tt
  keyless s hash now true o (Ok (Some x)) e t (same, rest) = cc
  keyless s hash now false None (Ok (Some x)) e t (same, rest) = cc
  keyless s hash now false (Some r) (Ok (Some x)) e t step = step.2

  no_key_of : (own found : Option K) → own ≡ None → IsCopy is_key_clone own found → found ≡ None
  no_key_of None found none copy = copy
  no_key_of (Some key) found none copy = cc

  -- a get that is not asked for the key hands none out
  pub hands_no_key : (s : State K V X P W) (key : K) (hash now : ℕ) (found : Option (Entry K V)) (e : Events K V) (t : State K V X P W) → HandsOut (IsEntryCopy is_key_clone is_value_clone) (λ a. GetStep says read Runs eq s key hash false false now a e t) (Ok found) → IfSome found (λ x. x.key ≡ None)
  hands_no_key s key hash now found e t (own, step, copy) = at own found step copy
    where
      at : (own : Result (Option (Entry K V)) OutOfMemory) (found : Option (Entry K V)) → GetStep says read Runs eq s key hash false false now own e t → IsCopiedAnswer (IsEntryCopy is_key_clone is_value_clone) own (Ok found) → IfSome found (λ x. x.key ≡ None)
      at own None step copy = tt
      at (Ok (Some x)) (Some y) step copy = no_key_of x.key y.key (keyless s hash now (is_disabled s.capacity) (record_of_key eq s.records key) (Ok (Some x)) e t step) copy.key
      at (Ok None) (Some y) step copy = (let impossible : Some y ≡ None = copy in absurd (cc))
      at (Err refused) (Some y) step copy = (let impossible : Ok (Some y) ≡ Err refused = copy in absurd (cc))

-- so what it hands out is the value alone
pub value_alone : {K V : Type 0} (value : V) (found : Option (Entry K V)) → option_map (λ x. x.value) found ≡ Some value → IfSome found (λ x. x.key ≡ None) → found ≡ Some (record { key = None; value = value })
value_alone value (Some x) same none = ap Some (ap (λ k. record x { key = k }) none ∙ ap (λ v. record x { key = None; value = v }) (same_Some x.value value same))
value_alone value None same none = cc
