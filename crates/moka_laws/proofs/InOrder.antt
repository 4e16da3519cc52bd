-- Records, members, the write list and what waits, in the order of writing: kept by each operation applied and each
-- step of a run.
use Rattle.std.proofs.Common.{◌≡◌, refl, ℕ, ◌<◌, false, not, ◌==◌, ◌||◌, List, [], ◌∷◌, ◌++◌, map, Option, Some, None, is_some, ap, sym, ◌∙◌, subst, ◌⊎◌, inl, inr, if◌then◌else◌, Contains, option_and_then}
use Rattle.std.proofs.lemmas.Bool.{or_right}
use Rattle.std.specs.Option.{option_map_or}
use Rattle.std.specs.List.{IsDistinct, AllByRecursion}
use Rattle.std.specs.FinMap.{get, remove}
use Rattle.moka_laws.proofs.Types.{Record, Member, Ticketed, Operation, Upsert, Removal, Records}
use Rattle.moka_records.specs.Records.{member, counted_of, is_member, is_applied, without_member, without_members, to_back, all_to_back, is_listed, without_number, without_numbers, number_to_back}
use Rattle.moka_parts.specs.Order.{written_if, written_by, IsNewer}
use Rattle.moka_records.proofs.Maps.{AreApart, same_or_apart, itself_tested, found_removed}
use Rattle.moka_records.proofs.AccessList.{counted_taken_out, counted_past_taken_out, counted_pushed, counted_past_pushed, counted-to_back, counted-all_to_back}
use Rattle.moka_laws.proofs.RunKeeps.{Keeps}
use Rattle.moka_laws.proofs.Rises.{Rises, Thins, thins_filtered}
use Rattle.moka_records.proofs.WriteList.{listed_pushed, listed_taken_out, listed_past_taken_out, unlisted_taken_out, listed_moved}
use Rattle.std.proofs.Math.Bool.{or-false}

-- ---- the write list and the members

-- the list has just the members' numbers
abbrev pub AreMembers : List ℕ → List Member → Type 0
AreMembers ns access = (k : ℕ) → is_listed k ns ≡ is_member k access

module _ (ns : List ℕ) (access : List Member) (h : AreMembers ns access) where
  pub members_taken_out : (n : ℕ) → AreMembers (without_number n ns) (without_member n access)
  members_taken_out n k = elim (same_or_apart k n) [
    | inl same ↦ ap (λ x. is_listed x (without_number n ns)) same ∙ listed_taken_out n ns ∙ sym (ap is_some (counted_taken_out n access)) ∙ sym (ap (λ x. is_member x (without_member n access)) same)
    | inr apart ↦ listed_past_taken_out n k ns apart ∙ h k ∙ sym (ap is_some (counted_past_taken_out n k access apart))
  ]

  -- members that only move
  pub members_moved : (n : ℕ) → AreMembers ns (to_back n access)
  members_moved n k = h k ∙ sym (ap is_some (counted-to_back n k access))

  pub members_all_moved : (moved : List ℕ) → AreMembers ns (all_to_back moved access)
  members_all_moved moved k = h k ∙ sym (ap is_some (counted-all_to_back moved k access))

  pub members_both_moved : (n : ℕ) → AreMembers (number_to_back n ns) (to_back n access)
  members_both_moved n k = listed_moved n k ns ∙ members_moved n k

  -- one more at the back
  pub members_pushed : (n w : ℕ) → counted_of n access ≡ None → AreMembers (ns ++ n ∷ []) (access ++ member n w ∷ [])
  members_pushed n w absent k = elim (same_or_apart k n) [
    | inl same ↦ ap (λ x. is_listed x (ns ++ n ∷ [])) same ∙ listed_pushed n n ns ∙ or_right (is_listed n ns) (n == n) (itself_tested n) ∙ sym (ap is_some (counted_pushed n w access absent)) ∙ sym (ap (λ x. is_member x (access ++ member n w ∷ [])) same)
    | inr apart ↦ listed_pushed k n ns ∙ ap (λ b. is_listed k ns || b) apart.back ∙ or-false (is_listed k ns) ∙ h k ∙ sym (ap is_some (counted_past_pushed n w k access apart))
  ]

pub members_without : (gone : List Member) (ns : List ℕ) (access : List Member) → AreMembers ns access → AreMembers (without_numbers gone ns) (without_members gone access)
members_without [] ns access h = h
members_without (a ∷ gone) ns access h = members_without gone (without_number a.number ns) (without_member a.number access) (members_taken_out ns access h a.number)

-- ---- moments of writing

module _ {K V : Type 0} where
  -- when a settled record was written
  abbrev pub settled_moment : Option (Record K V) → Option ℕ
  settled_moment o = option_and_then (λ r. if is_applied r then Some r.written.0 else None) o

  -- when the settled record of the number was written
  abbrev pub settled_at : Records K V → ℕ → Option ℕ
  settled_at records n = settled_moment (get records n)

  -- when the record that waits for the operation was written
  abbrev pub waiting_at : Records K V → Ticketed → Option ℕ
  waiting_at records h = written_by records h.operation

  pub unsettled_moment : (o : Option (Record K V)) → option_map_or is_applied o false ≡ false → settled_moment o ≡ None
  unsettled_moment None e = refl
  unsettled_moment (Some r) e = ap (λ b. if b then Some r.written.0 else None) e

  -- of records that are left, what waits has the same moments
  pub waiting_less : (old new : Records K V) → Keeps old new → (h : Ticketed) → (waiting_at new h ≡ waiting_at old h) ⊎ (waiting_at new h ≡ None)
  waiting_less old new keeps h = go h.operation
    where
      by : (g n : ℕ) (o : Option (Record K V)) → get new n ≡ o → (option_and_then (written_if new g) (get new n) ≡ option_and_then (written_if old g) (get old n)) ⊎ (option_and_then (written_if new g) (get new n) ≡ None)
      by g n None e = inr (ap (option_and_then (written_if new g)) e)
      by g n (Some q) e =
          let k = keeps n q e in
          inl (ap (option_and_then (written_if new g)) e ∙ ap (λ (x : Record K V). if g == x.generation then Some x.written.0 else None) k.2.1 ∙ sym (ap (option_and_then (written_if old g)) k.1))

      go : (o : Operation) → (written_by new o ≡ written_by old o) ⊎ (written_by new o ≡ None)
      go (Removal n g) = inl refl
      go (Upsert n g w x) = by g n (get new n) refl

  -- other numbers' records are as they were, or gone
  abbrev pub SameOrGone : ℕ → Records K V → Records K V → Type 0
  SameOrGone n old new = (k : ℕ) → AreApart k n → (get new k ≡ get old k) ⊎ (get new k ≡ None)

  pub settled_less : (n : ℕ) (old new : Records K V) → SameOrGone n old new → (k : ℕ) → AreApart k n → (settled_at new k ≡ settled_at old k) ⊎ (settled_at new k ≡ None)
  settled_less n old new h k apart = elim (h k apart) [ inl same ↦ inl (ap settled_moment same) | inr none ↦ inr (ap settled_moment none) ]

  -- what waits is newer than the records that are left
  pub newer_left : (records : Records K V) (n : ℕ) (o : Operation) → IsNewer records o → IsNewer (remove records n) o
  newer_left records n (Removal m g) old = tt
  newer_left records n (Upsert m g w x) old = λ r there. old r (found_removed records n m r there).1

-- ---- the order

-- the later operation has the later generation, if both are upserts of one record
abbrev pub IsLater : Operation → Operation → Type 0
IsLater (Removal n g) later = Unit {0}
IsLater (Upsert n g w x) (Removal m k) = Unit {0}
IsLater (Upsert n g w x) (Upsert m k v y) = n ≡ m → g < k

-- of each record's upserts the later have the later generations
abbrev pub AreLater : List Ticketed → Type 0
AreLater [] = Unit {0}
AreLater (h ∷ hs) = AllByRecursion (λ (q : Ticketed). IsLater h.operation q.operation) hs × AreLater hs

-- all that an order in writing needs
pub record IsOrdered {K V : Type 0} (records : Records K V) (access : List Member) (ns : List ℕ) (waiting : List Ticketed) : Type 0 where
  pub once : IsDistinct (◌==◌) ns
  pub members : AreMembers ns access
  pub newer : (h : Ticketed) → Contains waiting h → IsNewer records h.operation
  pub rises : Rises 0 (map (settled_at records) ns ++ map (waiting_at records) waiting)
  pub later : AreLater waiting

-- the second list is what is left of the first, without the number
abbrev pub IsLeftOf : ℕ → List ℕ → List ℕ → Type 0
IsLeftOf n ns left = (f g : ℕ → Option ℕ) (xs ys : List (Option ℕ)) → ((k : ℕ) → AreApart k n → (g k ≡ f k) ⊎ (g k ≡ None)) → Thins xs ys → Thins (map f ns ++ xs) (map g left ++ ys)

pub left_taken_out : (n : ℕ) (ns : List ℕ) → IsLeftOf n ns (without_number n ns)
left_taken_out n ns f g xs ys less t = thins_filtered f g (λ m. not (m == n)) ns xs ys (λ k kept. elim (same_or_apart k n) [
  | inl same ↦ (let stays = ap (λ x. not (x == n)) same in let taken = ap not (itself_tested n) in cc)
  | inr apart ↦ less k apart
]) t

pub left_unlisted : (n : ℕ) (ns : List ℕ) → is_listed n ns ≡ false → IsLeftOf n ns ns
left_unlisted n ns absent = subst (IsLeftOf n ns) (unlisted_taken_out n ns absent) (left_taken_out n ns)

thins_gone : (gone : List Member) (ns : List ℕ) (f : ℕ → Option ℕ) (xs : List (Option ℕ)) → Thins (map f ns ++ xs) (map f (without_numbers gone ns) ++ xs)
thins_gone [] ns f xs low h = h
thins_gone (a ∷ gone) ns f xs low h = thins_gone gone (without_number a.number ns) f xs low (left_taken_out a.number ns f f xs xs (λ k apart. inl refl) (λ low h. h) low h)

pub left_without : (gone : List Member) (n : ℕ) (ns : List ℕ) → is_listed n (without_numbers gone ns) ≡ false → IsLeftOf n ns (without_numbers gone ns)
left_without gone n ns absent f g xs ys less t low h = left_unlisted n (without_numbers gone ns) absent f g xs ys less t low (thins_gone gone ns f xs low h)
