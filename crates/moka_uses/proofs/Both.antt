-- Two entries that were put under different keys into a new cache stay in a run where there is room for both.
use Rattle.std.proofs.Common.{◌≡◌, refl, ℕ, ◌+◌, Bool, false, true≢false, List, [], Option, Some, None, Ok, ap, sym, subst, ◌∙◌, inl, inr, min, arith}
use Rattle.std.specs.Ordering.{nat_cmp}
use Rattle.std.specs.FinMap.{get, insert, remove, empty, len, len-empty}
use Rattle.std.proofs.lemmas.Option.{same_Some}
use Rattle.std.specs.Prelude.{sum_by}
use Rattle.moka_engine.specs.parts.Instant.{Instant}
use Rattle.moka_engine.specs.parts.Record.{Record}
use Rattle.moka_engine.specs.parts.Ticket.{Ticket}
use Rattle.moka_engine.specs.Calls.{InsertsAt, InsertStep, RunStep, Weighs, new_record}
use Rattle.moka_engine.specs.Exact.{IsExact, weight_of_records}
use Rattle.moka_engine.specs.Expiry.{expires_at_first}
use Rattle.moka_engine.specs.Listed.{ListedRun}
use Rattle.moka_engine.specs.Maintenance.{Terms}
use Rattle.moka_engine.specs.Records.{Records, record_of_key}
use Rattle.moka_engine.specs.State.{State, Settings, Events, new_state}
use Rattle.moka_engine.specs.Time.{greatest}
use Rattle.moka_engine.specs.Visibility.{has_lapsed}
use Rattle.moka_engine.proofs.Lookup.{record_of_key_empty, record_of_key_found}
use Rattle.moka_engine.proofs.Maps.{AreApart, same_or_apart, get_inserted, get_past_insert, get_removed, get_past_remove, nothing_at}
use Rattle.moka_engine.proofs.Values.{empty_map, len_removed, values-empty}
use Rattle.moka_cache.specs.Saves.{IsRoomyFor, KeepsUnexpired}
use Rattle.moka_cache.proofs.Keeping.{listed_run_keeps}
use Rattle.moka_cache.proofs.Lasting.{listed_run_lasts}
use Rattle.moka_cache.proofs.Roomy.{weighs_less}

module _ {K V : Type 0} where
  -- the two records stand there, under different numbers, and no others
  pub record AreBoth (m : Records K V) (a b : ℕ) (p q : Record K V) : Type 0 where
    pub first : get m a ≡ Some p
    pub second : get m b ≡ Some q
    pub apart : AreApart b a
    pub only : (n : ℕ) (r : Record K V) → AreApart n a → AreApart n b → get m n ≡ Some r → ⊥

  module _ (m : Records K V) (a b : ℕ) (p q : Record K V) (both : AreBoth m a b p q) where
    absent : (o : Option (Record K V)) → ((r : Record K V) → o ≡ Some r → ⊥) → o ≡ None
    absent None none = refl
    absent (Some r) none = absurd (none r refl)

    without_both : remove (remove m a) b ≡ empty
    without_both = empty_map (remove (remove m a) b) (λ n. elim (same_or_apart n b) [
      | inl e ↦ ap (get (remove (remove m a) b)) e ∙ get_removed (remove m a) b
      | inr past_b ↦ get_past_remove (remove m a) b n past_b ∙ elim (same_or_apart n a) [
        | inl e ↦ ap (get (remove m a)) e ∙ get_removed m a
        | inr past_a ↦ get_past_remove m a n past_a ∙ absent (get m n) (λ r there. both.only n r past_a past_b there)
      ]
    ])

    still : get (remove m a) b ≡ Some q
    still = get_past_remove m a b both.apart ∙ both.second

    pub len_of_both : len m ≡ 2
    len_of_both =
        let one = len_removed m a p both.first in
        let other = len_removed (remove m a) b q still in
        let none : len (remove (remove m a) b) ≡ 0 = ap len without_both ∙ len-empty nat_cmp (Record K V) in
        omega (arith, one, other, none)

    pub weight_of_both : weight_of_records m ≡ p.weight + q.weight
    weight_of_both =
        let one = weighs_less m a p both.first in
        let other = weighs_less (remove m a) b q still in
        let none : weight_of_records (remove (remove m a) b) ≡ 0 = ap weight_of_records without_both ∙ ap (sum_by (λ (r : Record K V). r.weight)) values-empty in
        omega (arith, one, other, none)

-- an exact report tells of both
pub reports_both : {K V X P W : Type 0} (t : State K V X P W) (a b : ℕ) (p q : Record K V) → IsExact t → AreBoth t.records a b p q → (t.count ≡ 2) × (t.weight ≡ min (p.weight + q.weight) greatest)
reports_both t a b p q exact both = (exact.count ∙ len_of_both t.records a b p q both, exact.weight ∙ ap (λ n. min n greatest) (weight_of_both t.records a b p q both))

-- without a weigher each weighs 1
pub weighs_one : {K V W : Type 0} (weighs : W → K → V → ℕ → Type 0) (weigher : Option W) (key : K) (value : V) (weight : ℕ) → Weighs weighs weigher key value weight → weigher ≡ None → weight ≡ 1
weighs_one weighs None key value weight is none = is
weighs_one weighs (Some weigher) key value weight is none = cc

module _ {K V X P W : Type 0} (eq : K → K → Bool) (created : X → K → V → ℕ → Option ℕ) (updated : X → K → V → ℕ → Option ℕ → Option ℕ) (weighs : W → K → V → ℕ → Type 0) where
  -- what two inserts left
  pub record ArePut (settings : Settings X W) (key : K) (value : V) (other : K) (second : V) (v x : State K V X P W) : Type 0 where
    pub missed : record_of_key eq v.records other ≡ None
    pub p : Record K V
    pub q : Record K V
    pub both : AreBoth x.records 1 2 p q
    pub weight_p : Weighs weighs settings.weigher key value p.weight
    pub weight_q : Weighs weighs settings.weigher other second q.weight
    pub unexpiring_p : p.expires ≡ None
    pub unexpiring_q : q.expires ≡ None

  -- the second is put into what has the records of the first, under another key
  pub put_both : (settings : Settings X W) (capacity : Option ℕ) (first_ticket : ℕ) (old : State K V X P W) → old ≡ new_state settings capacity 0 first_ticket → settings.expiry ≡ None
      → (key : K) (hash : ℕ) (value : V) (now : Instant) (a : Ticket × Instant) (e : Events K V) (t : State K V X P W) → InsertStep created updated weighs eq old key hash value now (Ok a) e t
      → (v : State K V X P W) → v.records ≡ t.records → v.next_number ≡ t.next_number → v.settings ≡ t.settings
      → (other : K) (other_hash : ℕ) (second : V) (later : Instant) (b : Ticket × Instant) (f : Events K V) (x : State K V X P W) → InsertStep created updated weighs eq v other other_hash second later (Ok b) f x
      → eq other key ≡ false → ArePut settings key value other second v x
  put_both settings capacity first_ticket old is plain key hash value now a e t put v records number set other other_hash second later b f x again apart = record {
    missed = none;
    p = p;
    q = q;
    both = record {
      first = at_one;
      second = at_two;
      apart = one_two;
      only = none_else;
    };
    weight_p = step.1;
    weight_q = subst (λ s. Weighs weighs s.weigher other second next.0) same next.1;
    unexpiring_p = ap (λ x. expires_at_first created x key value now.0) plain;
    unexpiring_q = ap (λ x. expires_at_first created x other second later.0) (ap (λ s. s.expiry) same ∙ plain);
  }
    where
      new : State K V X P W
      new = new_state settings capacity 0 first_ticket

      step : InsertsAt created updated weighs new None key hash value now (Ok a) e t
      step = subst (λ o. InsertsAt created updated weighs new o key hash value now (Ok a) e t) (record_of_key_empty eq key) (subst (λ x. InsertStep created updated weighs eq x key hash value now (Ok a) e t) is put)

      p : Record K V
      p = new_record created updated new key hash value now step.0

      same : v.settings ≡ settings
      same = set ∙ ap (λ x. x.settings) step.5

      has_one : v.records ≡ insert empty 1 p
      has_one = records ∙ ap (λ x. x.records) step.5

      is_two : v.next_number ≡ 2
      is_two = number ∙ ap (λ x. x.next_number) step.5

      only_one : (n : ℕ) (r : Record K V) → get v.records n ≡ Some r → p ≡ r
      only_one n r there = elim (same_or_apart n 1) [
        | inl e ↦ same_Some p r (sym (get_inserted empty 1 p) ∙ sym (ap (get (insert empty 1 p)) e) ∙ sym (ap (λ m. get m n) has_one) ∙ there)
        | inr past ↦ absurd (nothing_at n r (sym (get_past_insert empty 1 p n past) ∙ sym (ap (λ m. get m n) has_one) ∙ there))
      ]

      none : record_of_key eq v.records other ≡ None
      none = go (record_of_key eq v.records other) refl
        where
          go : (o : Option (Record K V)) → record_of_key eq v.records other ≡ o → o ≡ None
          go None found = refl
          go (Some r) found =
              let at = record_of_key_found eq v.records other r found in
              absurd (true≢false (sym at.2 ∙ ap (λ (r : Record K V). eq other r.key) (sym (only_one at.0 r at.1)) ∙ apart))

      next : InsertsAt created updated weighs v None other other_hash second later (Ok b) f x
      next = subst (λ o. InsertsAt created updated weighs v o other other_hash second later (Ok b) f x) none again

      q : Record K V
      q = new_record created updated v other other_hash second later next.0

      has_both : x.records ≡ insert (insert empty 1 p) 2 q
      has_both = ap (λ x. x.records) next.5 ∙ ap (λ n. insert v.records n q) is_two ∙ ap (λ m. insert m 2 q) has_one

      one_two : AreApart 2 1
      one_two = record { ordered = refl; forth = refl; back = refl }

      two_one : AreApart 1 2
      two_one = record { ordered = refl; forth = refl; back = refl }

      at_one : get x.records 1 ≡ Some p
      at_one = ap (λ m. get m 1) has_both ∙ get_past_insert (insert empty 1 p) 2 q 1 two_one ∙ get_inserted empty 1 p

      at_two : get x.records 2 ≡ Some q
      at_two = ap (λ m. get m 2) has_both ∙ get_inserted (insert empty 1 p) 2 q

      none_else : (n : ℕ) (r : Record K V) → AreApart n 1 → AreApart n 2 → get x.records n ≡ Some r → ⊥
      none_else n r past_one past_two there = nothing_at n r (sym (get_past_insert empty 1 p n past_one) ∙ sym (get_past_insert (insert empty 1 p) 2 q n past_two) ∙ sym (ap (λ m. get m n) has_both) ∙ there)

-- a record without an expiry is hidden at no moment where there are no times and no invalidation of all
pub never_lapses : {K V X W : Type 0} (settings : Settings X W) (bound : Option Instant) (r : Record K V) (now : ℕ) → settings.time_to_live ≡ None → settings.time_to_idle ≡ None → bound ≡ None → r.expires ≡ None → has_lapsed settings bound r now ≡ false
never_lapses settings bound r now live idle none unexpiring = rw (live, idle, none, unexpiring) refl

module _ {K V X P W : Type 0} (weighs : W → K → V → ℕ → Type 0) (says : P → K → V → Bool → Type 0) (read : X → K → V → ℕ → Option ℕ → ℕ → Option ℕ) (before after : List ℕ) where
  -- neither leaves in a run at a moment that hides neither
  pub both_stay : (s : State K V X P W) (terms : Terms) (more : Bool) (e : Events K V) (t : State K V X P W) → RunStep (ListedRun says read before after) s terms more e t → IsRoomyFor weighs [] s → (a b : ℕ) (p q : Record K V) → AreBoth s.records a b p q
      → has_lapsed s.settings s.invalid_before p terms.now ≡ false → has_lapsed s.settings s.invalid_before q terms.now ≡ false
      → (g h : ℕ) × AreBoth t.records a b (record p { applied = g }) (record q { applied = h })
  both_stay s terms more e t run roomy a b p q both shown_p shown_q = (
    one.0,
    other.0,
    record {
      first = one.1;
      second = other.1;
      apart = both.apart;
      only = λ n r past_a past_b there. (let was = kept n r there in both.only n was.0 past_a past_b was.1);
    },
  )
    where
      lasts : KeepsUnexpired terms.now s t
      lasts = (listed_run_lasts weighs says read before after s terms run.0 e.notices t run.1 [] roomy).0

      one : (g : ℕ) × (get t.records a ≡ Some (record p { applied = g }))
      one = lasts.there a p both.first shown_p

      other : (g : ℕ) × (get t.records b ≡ Some (record q { applied = g }))
      other = lasts.there b q both.second shown_q

      kept : (n : ℕ) (q : Record K V) → get t.records n ≡ Some q → (r : Record K V) × (get s.records n ≡ Some r) × ((g : ℕ) × (q ≡ record r { applied = g }))
      kept = listed_run_keeps says read before after s terms run.0 e.notices t run.1
