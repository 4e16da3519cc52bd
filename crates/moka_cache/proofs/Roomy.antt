-- Where the capacity has room for all records, nothing is rejected or evicted, and it keeps the room.
use Rattle.std.proofs.Common.{◌≡◌, refl, ℕ, ◌+◌, ◌≤◌, true, false, cond, not, nat_le, ◌==◌, List, [], ◌∷◌, ◌++◌, Option, Some, None, ap, sym, ◌∙◌, ◌⊎◌, inl, inr, arith}
use Rattle.std.specs.List.{IsDistinct}
use Rattle.std.specs.FinMap.{get, remove, values}
use Rattle.std.proofs.lemmas.List.Sums.{sum_by-cons}
use Rattle.std.proofs.lemmas.List.Sorted.{sum_by-IsPermutation}
use Rattle.std.proofs.lemmas.Option.{none-some, same_Some}
use Rattle.moka_records.specs.declared.records.Member.{Member}
use Rattle.moka_records.specs.declared.records.Record.{Record}
use Rattle.moka_parts.specs.Exact.{weight_of_records}
use Rattle.moka_parts.specs.Maintenance.{is_over}
use Rattle.moka_records.specs.Records.{Records, member, counted_of, numbers_of, total_weight, has_room, without_member, to_back}
use Rattle.moka_parts.specs.State.{Contents}
use Rattle.moka_parts.specs.Writes.{with_applied}
use Rattle.moka_records.proofs.AccessList.{counted_taken_out, counted_past_taken_out, counted_pushed, counted_past_pushed, counted-to_back, distinct_taken_out, distinct_pushed, distinct-to_back, front_once, rest_once}
use Rattle.moka_records.proofs.Maps.{AreApart, same_or_apart, itself_tested, get_inserted, get_past_insert, get_removed, get_past_remove}
use Rattle.moka_records.proofs.Values.{values_removed, values_replaced}

module _ {K V : Type 0} where
  -- the record stands there with this weight
  abbrev pub Stays : Records K V → ℕ → ℕ → Type 0
  Stays records n w = (r : Record K V) × (get records n ≡ Some r) × (r.weight ≡ w)

  -- without one of them they weigh less by its weight
  pub weighs_less : (records : Records K V) (n : ℕ) (r : Record K V) → get records n ≡ Some r → weight_of_records records ≡ r.weight + weight_of_records (remove records n)
  weighs_less records n r there =
      sum_by-IsPermutation (λ (x : Record K V). x.weight) _ _ (values_removed records n r there) ∙ sum_by-cons (λ (x : Record K V). x.weight) r (values (remove records n))

  -- members that stand once, each with the weight of its record, weigh no more than the records
  below : (records : Records K V) (access : List Member) → IsDistinct (◌==◌) (numbers_of access) → ((n w : ℕ) → counted_of n access ≡ Some w → Stays records n w) → total_weight access ≤ weight_of_records records
  below records [] once counted = omega arith
  below records (a ∷ access) once counted =
      let first = counted a.number a.counted (ap (λ b. cond b (Some a.counted) (counted_of a.number access)) (itself_tested a.number)) in
      let rest : total_weight access ≤ weight_of_records (remove records a.number) = below (remove records a.number) access (rest_once a access once) (λ n w is. past first n w is (same_or_apart n a.number)) in
      let all = weighs_less records a.number first.0 first.1 in
      let one = sum_by-cons (λ (m : Member). m.counted) a access in
      omega (arith, rest, all, one, first.2)
    where
      past : Stays records a.number a.counted → (n w : ℕ) → counted_of n access ≡ Some w → (n ≡ a.number) ⊎ AreApart n a.number → Stays (remove records a.number) n w
      past first n w is (inl same) = absurd (none-some w (sym (front_once a access once) ∙ sym (ap (λ k. counted_of k access) same) ∙ is))
      past first n w is (inr apart) =
          let at = counted n w (ap (λ b. cond b (Some a.counted) (counted_of n access)) apart.back ∙ is) in
          (at.0, get_past_remove records a.number n apart ∙ at.1, at.2)

  module _ (Waits : ℕ → ℕ → Type 0) (limit : ℕ) where
    -- members and what waits weigh what the records do, and these no more than the limit
    pub record Fits (records : Records K V) (access : List Member) : Type 0 where
      pub once : IsDistinct (◌==◌) (numbers_of access)
      pub counted : (n w : ℕ) → counted_of n access ≡ Some w → (r : Record K V) × (get records n ≡ Some r) × (r.weight ≡ w)
      pub waiting : (n w : ℕ) → Waits n w → (r : Record K V) → get records n ≡ Some r → r.weight ≡ w
      pub within : weight_of_records records ≤ limit

    module _ (records : Records K V) (access : List Member) (fits : Fits records access) where
      -- there is room for a record outside the access list
      pub room_for : (k : ℕ) (q : Record K V) → counted_of k access ≡ None → get records k ≡ Some q → total_weight access + q.weight ≤ limit
      room_for k q outside there =
          let rest : total_weight access ≤ weight_of_records (remove records k) = below (remove records k) access fits.once (λ n w is. past n w is (same_or_apart n k)) in
          let all = weighs_less records k q there in
          let within = fits.within in
          omega (arith, rest, all, within)
        where
          past : (n w : ℕ) → counted_of n access ≡ Some w → (n ≡ k) ⊎ AreApart n k → Stays (remove records k) n w
          past n w is (inl same) = absurd (none-some w (sym outside ∙ sym (ap (λ m. counted_of m access) same) ∙ is))
          past n w is (inr apart) = let at = fits.counted n w is in (at.0, get_past_remove records k n apart ∙ at.1, at.2)

      -- the members are within the limit
      pub members_within : total_weight access ≤ limit
      members_within = let all = below records access fits.once fits.counted in let within = fits.within in omega (arith, all, within)

      -- ---- what keeps the room

      pub taken_out : (k : ℕ) → Fits records (without_member k access)
      taken_out k = record {
        once = distinct_taken_out k access fits.once;
        counted = λ n w is. past n w is (same_or_apart n k);
        waiting = fits.waiting;
        within = fits.within;
      }
        where
          past : (n w : ℕ) → counted_of n (without_member k access) ≡ Some w → (n ≡ k) ⊎ AreApart n k → Stays records n w
          past n w is (inl same) = absurd (none-some w (sym (counted_taken_out k access) ∙ sym (ap (λ m. counted_of m (without_member k access)) same) ∙ is))
          past n w is (inr apart) = fits.counted n w (sym (counted_past_taken_out k n access apart) ∙ is)

      pub moved_back : (k : ℕ) → Fits records (to_back k access)
      moved_back k = record {
        once = distinct-to_back k access fits.once;
        counted = λ n w is. fits.counted n w (sym (counted-to_back k n access) ∙ is);
        waiting = fits.waiting;
        within = fits.within;
      }

      -- a record leaves map and access list
      pub left : (k : ℕ) (q : Record K V) → get records k ≡ Some q → Fits (remove records k) (without_member k access)
      left k q there = record {
        once = distinct_taken_out k access fits.once;
        counted = λ n w is. past n w is (same_or_apart n k);
        waiting = λ n w waits r at. still n w waits r at (same_or_apart n k);
        within = (let all = weighs_less records k q there in let within = fits.within in omega (arith, all, within));
      }
        where
          past : (n w : ℕ) → counted_of n (without_member k access) ≡ Some w → (n ≡ k) ⊎ AreApart n k → Stays (remove records k) n w
          past n w is (inl same) = absurd (none-some w (sym (counted_taken_out k access) ∙ sym (ap (λ m. counted_of m (without_member k access)) same) ∙ is))
          past n w is (inr apart) = let at = fits.counted n w (sym (counted_past_taken_out k n access apart) ∙ is) in (at.0, get_past_remove records k n apart ∙ at.1, at.2)

          still : (n w : ℕ) → Waits n w → (r : Record K V) → get (remove records k) n ≡ Some r → (n ≡ k) ⊎ AreApart n k → r.weight ≡ w
          still n w waits r at (inl same) = absurd (none-some r (sym (get_removed records k) ∙ sym (ap (get (remove records k)) same) ∙ at))
          still n w waits r at (inr apart) = fits.waiting n w waits r (sym (get_past_remove records k n apart) ∙ at)

      -- a record enters the access list with its own weight
      pub enters : (k g w : ℕ) (q : Record K V) → get records k ≡ Some q → q.weight ≡ w → counted_of k access ≡ None → Fits (with_applied records k q g) (access ++ member k w ∷ [])
      enters k g w q there weight outside = record {
        once = distinct_pushed k w access fits.once outside;
        counted = λ n v is. past n v is (same_or_apart n k);
        waiting = λ n v waits r at. still n v waits r at (same_or_apart n k);
        within = (let same = replaced in let within = fits.within in omega (arith, same, within));
      }
        where
          replaced : weight_of_records (with_applied records k q g) ≡ weight_of_records records
          replaced =
              let both = sum_by-IsPermutation (λ (x : Record K V). x.weight) _ _ (values_replaced records k q (record q { applied = g }) there) in
              let after = sum_by-cons (λ (x : Record K V). x.weight) q (values (with_applied records k q g)) in
              let before = sum_by-cons (λ (x : Record K V). x.weight) (record q { applied = g }) (values records) in
              omega (arith, both, after, before)

          past : (n v : ℕ) → counted_of n (access ++ member k w ∷ []) ≡ Some v → (n ≡ k) ⊎ AreApart n k → Stays (with_applied records k q g) n v
          past n v is (inl same) =
              let own : Some w ≡ Some v = sym (counted_pushed k w access outside) ∙ sym (ap (λ m. counted_of m (access ++ member k w ∷ [])) same) ∙ is in
              (record q { applied = g }, ap (get (with_applied records k q g)) same ∙ get_inserted records k (record q { applied = g }), weight ∙ same_Some w v own)
          past n v is (inr apart) = let at = fits.counted n v (sym (counted_past_pushed k w n access apart) ∙ is) in (at.0, get_past_insert records k (record q { applied = g }) n apart ∙ at.1, at.2)

          still : (n v : ℕ) → Waits n v → (r : Record K V) → get (with_applied records k q g) n ≡ Some r → (n ≡ k) ⊎ AreApart n k → r.weight ≡ v
          still n v waits r at (inl same) =
              let is : record q { applied = g } ≡ r = same_Some (record q { applied = g }) r (sym (get_inserted records k (record q { applied = g })) ∙ sym (ap (get (with_applied records k q g)) same) ∙ at) in
              sym (ap (λ (x : Record K V). x.weight) is) ∙ fits.waiting n v waits q (ap (get records) same ∙ there)
          still n v waits r at (inr apart) = fits.waiting n v waits r (sym (get_past_insert records k (record q { applied = g }) n apart) ∙ at)

    -- so does one that was in it
    pub enters_again : (records : Records K V) (access : List Member) → Fits records access → (k g w : ℕ) (q : Record K V) → get records k ≡ Some q → q.weight ≡ w → Fits (with_applied records k q g) (without_member k access ++ member k w ∷ [])
    enters_again records access fits k g w q there weight = enters records (without_member k access) (taken_out records access fits k) k g w q there weight (counted_taken_out k access)

  -- ---- by the capacity

  -- there is none, or it has room for the limit
  abbrev pub FitsIn : Option ℕ → (ℕ → ℕ → Type 0) → ℕ → Contents K V → Type 0
  FitsIn None Waits limit c = Unit {0}
  FitsIn (Some capacity) Waits limit c = Fits Waits limit c.records c.access × (limit ≤ capacity)

  -- what leaves room for the limit leaves it where there is a capacity
  pub fits_still : (capacity : Option ℕ) (Waits : ℕ → ℕ → Type 0) (limit : ℕ) (c d : Contents K V) → (Fits Waits limit c.records c.access → Fits Waits limit d.records d.access) → FitsIn capacity Waits limit c → FitsIn capacity Waits limit d
  fits_still None Waits limit c d still fits = tt
  fits_still (Some capacity) Waits limit c d still (fits, enough) = (still fits, enough)

  -- so a newcomer has room
  pub newcomer_has_room : (capacity : Option ℕ) (Waits : ℕ → ℕ → Type 0) (limit : ℕ) (c : Contents K V) (k w : ℕ) (q : Record K V) → FitsIn capacity Waits limit c → Waits k w → counted_of k c.access ≡ None → get c.records k ≡ Some q → has_room capacity (total_weight c.access) w ≡ true
  newcomer_has_room None Waits limit c k w q fits waits outside there = refl
  newcomer_has_room (Some capacity) Waits limit c k w q (fits, enough) waits outside there =
      let weight = fits.waiting k w waits q there in
      let room = room_for Waits limit c.records c.access fits k q outside there in
      grind (arith, weight, room, enough)

  -- and nothing is too much
  pub never_over : (capacity : Option ℕ) (Waits : ℕ → ℕ → Type 0) (limit : ℕ) (c : Contents K V) → FitsIn capacity Waits limit c → is_over capacity c.access ≡ false
  never_over None Waits limit c fits = refl
  never_over (Some capacity) Waits limit c (fits, enough) =
      let all = members_within Waits limit c.records c.access fits in
      let room : nat_le (total_weight c.access + 0) capacity ≡ true = grind (arith, all, enough) in
      ap not room
