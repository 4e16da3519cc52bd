-- Going along the members of a scene.
use Rattle.std.proofs.Common.{◌≡◌, refl, ℕ, Bool, true, false, true≢false, ◌==◌, List, [], ◌∷◌, ◌++◌, append_assoc, Option, Some, None, IsSome, IfSome, option_map, ap, sym, subst, ◌∙◌}
use Rattle.std.specs.Prelude.{slice_get, if◌then◌else◌}
use Rattle.std.specs.FinMap.{get}
use Rattle.std.specs.List.{IsDistinct, AllByRecursion}
use Rattle.moka_records.specs.declared.records.Member.{Member}
use Rattle.moka_records.specs.declared.records.Record.{Record}
use Rattle.moka_records.specs.Records.{counted_of, member, numbers_of}
use Rattle.moka_records.proofs.Maps.{itself_tested, same_by_test}
use Rattle.moka_store.specs.Store.{Kept, IsPlaced, member_after}
use Rattle.moka_store.specs.declared.store.Handle.{Handle}
use Rattle.moka_parts.specs.Expiry.{remaining}
use Rattle.moka_lookups.specs.Expirations.{expiring_by}
use Rattle.moka_lookups.specs.Snapshot.{Scene, members_from, IsPassed, ArePassed, IsHiddenIn, IsShownIn, FindsNext, ListsNext, StandsIn}

-- the members from the first one on are all
pub from_front : (members : List Member) (o : Option ℕ) → o ≡ option_map (λ (a : Member). a.number) (slice_get members 0) → members_from o members ≡ members
from_front [] o e = rw e refl
from_front (a ∷ members) o e = rw (e, itself_tested a.number) refl

-- a number that stands in no list is not behind another
not_behind : (x n : ℕ) (members : List Member) → AllByRecursion (λ y. (x == y) ≡ false) (numbers_of members) → (b : Member) → member_after n members ≡ Some b → (x == b.number) ≡ false
not_behind x n [] apart b e = cc
not_behind x n (a ∷ []) apart b e = one (a.number == n) e
  where
    one : (t : Bool) → (if t then None else None) ≡ Some b → (x == b.number) ≡ false
    one true e = cc
    one false e = cc
not_behind x n (a ∷ c ∷ members) apart b e = go (a.number == n) (λ there. not_behind x n (c ∷ members) apart.1 b there) e
  where
    go : (t : Bool) → (member_after n (c ∷ members) ≡ Some b → (x == b.number) ≡ false) → (if t then Some c else member_after n (c ∷ members)) ≡ Some b → (x == b.number) ≡ false
    go true later e = (let same : c ≡ b = cc in subst (λ (m : Member). (x == m.number) ≡ false) same apart.1.0)
    go false later e = later e

-- a member apart from all others is not among those from another on
from_later : (a : Member) (members : List Member) → AllByRecursion (λ y. (a.number == y) ≡ false) (numbers_of members) → (n : ℕ) (o : Option Member) → member_after n members ≡ o → members_from (option_map (λ m. m.number) o) (a ∷ members) ≡ members_from (option_map (λ m. m.number) o) members
from_later a members apart n None e = refl
from_later a members apart n (Some b) e = rw (not_behind a.number n members apart b e) refl

-- those behind the first
from_first : (a : Member) (members : List Member) → AllByRecursion (λ y. (a.number == y) ≡ false) (numbers_of members) → members_from (option_map (λ m. m.number) (slice_get members 0)) (a ∷ members) ≡ members
from_first a [] apart = refl
from_first a (b ∷ members) apart = rw (apart.0, itself_tested b.number) refl

-- the members from the one of this number on are it and those from the next on
pub from_next : (n : ℕ) (members : List Member) → IsDistinct (◌==◌) (numbers_of members) → IsSome (counted_of n members) → (a : Member) × (a.number ≡ n) × (members_from (Some n) members ≡ a ∷ members_from (option_map (λ (m : Member). m.number) (member_after n members)) members)
unfolding IsDistinct
from_next n [] distinct is_in = absurd (true≢false (sym is_in))
from_next n (a ∷ members) distinct is_in = go (a.number == n) refl (λ there. from_next n members distinct.1 there)
  where
    go : (t : Bool) → (a.number == n) ≡ t → (IsSome (counted_of n members) → (b : Member) × (b.number ≡ n) × (members_from (Some n) members ≡ b ∷ members_from (option_map (λ (m : Member). m.number) (member_after n members)) members))
        → (b : Member) × (b.number ≡ n) × (members_from (Some n) (a ∷ members) ≡ b ∷ members_from (option_map (λ (m : Member). m.number) (member_after n (a ∷ members))) (a ∷ members))
    go true e later = (a, same_by_test a.number n e, rw e (ap (λ rest. a ∷ rest) (sym (from_first a members distinct.0))))
    go false e later = (let l = later (rw e at is_in) in
        (l.0, l.1, rw e (l.2 ∙ ap (λ rest. l.0 ∷ rest) (sym (from_later a members distinct.0 n (member_after n members) refl)))))

-- ---- handles

numbers_alike : (next : Option (Handle × ℕ)) → option_map (λ (a : Member). a.number) (option_map (λ f. member f.0.number f.1) next) ≡ option_map (λ (h : Handle). h.number) (option_map (λ m. m.0) next)
numbers_alike None = refl
numbers_alike (Some f) = refl

-- the first handle is that of the first member
pub starts : (members : List Member) (front : Option (Handle × ℕ)) (at : Option Handle) → option_map (λ f. member f.0.number f.1) front ≡ slice_get members 0 → at ≡ option_map (λ m. m.0) front → members_from (option_map (λ (h : Handle). h.number) at) members ≡ members
starts members front at is so = from_front members (option_map (λ (h : Handle). h.number) at) (ap (option_map (λ (h : Handle). h.number)) so ∙ sym (numbers_alike front) ∙ ap (option_map (λ (a : Member). a.number)) is)

-- from one handle to the next
pub goes_on : (members : List Member) → IsDistinct (◌==◌) (numbers_of members) → (h : Handle) (at : Option Handle) → at ≡ Some h → IsSome (counted_of h.number members) → (next : Option (Handle × ℕ)) → option_map (λ f. member f.0.number f.1) next ≡ member_after h.number members → (after : Option Handle) → after ≡ option_map (λ m. m.0) next
    → (a : Member) × (a.number ≡ h.number) × (members_from (option_map (λ (h : Handle). h.number) at) members ≡ a ∷ members_from (option_map (λ (h : Handle). h.number) after) members)
goes_on members distinct h at is is_in next behind_it after so =
    let one = from_next h.number members distinct is_in in
    let same : option_map (λ (a : Member). a.number) (member_after h.number members) ≡ option_map (λ (x : Handle). x.number) after = sym (ap (option_map (λ (a : Member). a.number)) behind_it) ∙ numbers_alike next ∙ sym (ap (option_map (λ (x : Handle). x.number)) so) in
    (one.0, one.1, rw is (one.2 ∙ ap (λ o. one.0 ∷ members_from o members) same))

-- which leads to a member
pub stands_next : {K V S : Type 0} (kept : Kept K V S) (next : Option (Handle × ℕ)) → IfSome next (λ f. IsPlaced kept f.0) → IfSome next (λ f. IsSome (counted_of f.0.number kept.access)) → (after : Option Handle) → after ≡ option_map (λ m. m.0) next → IfSome after (StandsIn kept)
stands_next kept None placed is_in after so = rw so tt
stands_next kept (Some f) placed is_in after so = rw so (placed, is_in)

module _ {K V X P : Type 0} (says : P → K → V → Bool → Type 0) (c : Scene K V X P) (a : Member) (n : ℕ) (at : a.number ≡ n) where
  -- the member's record left the map
  pub passed_gone : None ≡ get c.records n → IsPassed says c a
  passed_gone gone r there = (let impossible : None ≡ Some r = gone ∙ ap (get c.records) (sym at) ∙ there in absurd (cc))

  -- or is hidden
  pub passed_hidden : (q : Record K V) → Some q ≡ get c.records n → IsHiddenIn says c q → IsPassed says c a
  passed_hidden q found hidden r there = (let both : Some q ≡ Some r = found ∙ ap (get c.records) (sym at) ∙ there in let same : q ≡ r = cc in subst (IsHiddenIn says c) same hidden)

-- ---- a loop along the members

module _ {K V X P : Type 0} (says : P → K → V → Bool → Type 0) (c : Scene K V X P) where
  -- all members before those that are left were passed
  abbrev pub PassesTo : List Member → Type 0
  PassesTo rest = (hidden : List Member) × (c.members ≡ hidden ++ rest) × ArePassed says c hidden

  passed_more : (hidden : List Member) (a : Member) → ArePassed says c hidden → IsPassed says c a → ArePassed says c (hidden ++ a ∷ [])
  passed_more [] a all one = (one, tt)
  passed_more (b ∷ hidden) a all one = (all.0, passed_more hidden a all.1 one)

  -- one more
  pub passes_one : (rest after : List Member) (a : Member) → rest ≡ a ∷ after → IsPassed says c a → PassesTo rest → PassesTo after
  passes_one rest after a is one (hidden, so, all) = (hidden ++ a ∷ [], so ∙ ap (λ r. hidden ++ r) is ∙ sym (append_assoc hidden (a ∷ []) after), passed_more hidden a all one)

  -- all up to one that is visible
  pub passes_found : (rest after : List Member) (a : Member) → rest ≡ a ∷ after → (r : Record K V) → get c.records a.number ≡ Some r → IsShownIn says c r → PassesTo rest → FindsNext says c (Some r) (record c { members = after })
  passes_found rest after a is r there shown (hidden, so, all) = (hidden, a, so ∙ ap (λ m. hidden ++ m) is, refl, all, there, shown)

  -- the record that was found, as it is listed
  pub lists_found : (o : Option (Record K V)) (r : Record K V) (d : Scene K V X P) → o ≡ Some r → FindsNext says c o d → (left : Option ℕ) → left ≡ remaining (expiring_by c.expirations) r c.now
      → ListsNext says c (Some (record { key = r.key; value = r.value; written = r.written; read = r.read; expires = r.expires; left = left })) d
  lists_found o r d is finds left so =
      let f = rw is at finds in
      (f.0, f.1, f.2, f.3, f.4, record { kept = r; there = f.5; shown = f.6; same = ap (λ (l : Option ℕ). record { key = r.key; value = r.value; written = r.written; read = r.read; expires = r.expires; left = l }) so })
