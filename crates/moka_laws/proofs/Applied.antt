-- An operation that is applied keeps what always holds, whatever becomes of it.
use Rattle.std.proofs.Common.{◌≡◌, refl, ℕ, ◌<◌, ◌≤◌, Bool, true, false, ◌==◌, List, [], ◌∷◌, ◌++◌, Option, Some, None, ◌⊎◌, inl, inr, arith, if◌then◌else◌}
use Rattle.std.specs.FinMap.{get, insert, remove}
use Rattle.moka_laws.proofs.Types.{Record, Member, Operation, Upsert, Removal, Records}
use Rattle.moka_records.specs.Records.{member, counted_of, without_member, numbers_of}
use Rattle.moka_parts.specs.Settling.{IsTracked, IsSound, IsConsistent}
use Rattle.moka_records.proofs.Maps.{get_inserted, get_past_insert, get_removed, get_past_remove, AreApart}
use Rattle.moka_records.proofs.AccessList.{counted_taken_out, counted_past_taken_out, counted_pushed, counted_past_pushed, distinct_taken_out, distinct_pushed}
use Rattle.moka_laws.proofs.Waiting.{TakesIn}
use Rattle.moka_laws.proofs.Consistent.{consistent_after, alike_taking}
use Rattle.std.specs.List.{IsDistinct}

module _ {K V : Type 0} (Before After : Operation → Type 0) (records : Records K V) (access : List Member) (h : IsConsistent Before records access) where
  -- a removal takes its number out of the access list
  pub removal_kept : (n generation : ℕ) → TakesIn Before After (Removal n generation) → IsConsistent After records (without_member n access)
  removal_kept n generation taken =
      consistent_after n Before After records records access (without_member n access) (record {
        records_kept = λ k apart. refl;
        members_kept = λ k apart. counted_past_taken_out n k access apart;
        waiting_kept = λ x apart. alike_taking Before After n (Removal n generation) refl x apart taken;
      }) (distinct_taken_out n access h.once) (rw (counted_taken_out n access) (gone (get records n) (h.sound n))) (λ k apart. h.sound k)
    where
      gone : (o : Option (Record K V)) → IsSound Before n o (counted_of n access) → IsSound After n o None
      gone None s = tt
      gone (Some r) s = absurd (s.stays generation taken.there)

  -- an upsert of a record that left the map does nothing
  pub late_kept : (n generation weight hash : ℕ) → get records n ≡ None → TakesIn Before After (Upsert n generation weight hash) → IsConsistent After records access
  late_kept n generation weight hash absent taken =
      consistent_after n Before After records records access access (record {
        records_kept = λ k apart. refl;
        members_kept = λ k apart. refl;
        waiting_kept = λ x apart. alike_taking Before After n (Upsert n generation weight hash) refl x apart taken;
      }) h.once (rw absent (waits (counted_of n access) (rw absent at (h.sound n)))) (λ k apart. h.sound k)
    where
      removal : (g : ℕ) → After (Removal n g) ⊎ (Removal n g ≡ Upsert n generation weight hash) → After (Removal n g)
      removal g (inl a) = a
      removal g (inr e) = cc

      waits : (o : Option ℕ) → IsSound {K = K} {V = V} Before n None o → IsSound {K = K} {V = V} After n None o
      waits None s = tt
      waits (Some w) s = (s.0, removal s.0 (taken.forth (Removal n s.0) s.1))

  -- where an older upsert is applied, the present one waits on
  still_pending : (n generation weight hash : ℕ) (r : Record K V) → generation < r.generation → TakesIn Before After (Upsert n generation weight hash) → (hs : ℕ) × Before (Upsert n r.generation r.weight hs) → (hs : ℕ) × After (Upsert n r.generation r.weight hs)
  still_pending n generation weight hash r newer taken (hs, waits) = elim (taken.forth (Upsert n r.generation r.weight hs) waits) [ inl on ↦ (hs, on) | inr e ↦ (let same : r.generation ≡ generation = cc in absurd (omega arith)) ]

  -- an upsert that is not newer than what was applied leaves record and counted weight
  pub overtaken_kept : (n generation weight hash : ℕ) (r : Record K V) → get records n ≡ Some r → generation ≤ r.applied → TakesIn Before After (Upsert n generation weight hash) → IsConsistent After records access
  overtaken_kept n generation weight hash r there old taken =
      consistent_after n Before After records records access access (record {
        records_kept = λ k apart. refl;
        members_kept = λ k apart. refl;
        waiting_kept = λ x apart. alike_taking Before After n (Upsert n generation weight hash) refl x apart taken;
      }) h.once (rw there here) (λ k apart. h.sound k)
    where
      before : IsTracked Before n r (counted_of n access)
      before = rw there at (h.sound n)

      here : IsTracked After n r (counted_of n access)
      here = record {
        applied = before.applied;
        outside = before.outside;
        weighed = before.weighed;
        pending = λ below. still_pending n generation weight hash r (omega arith) taken (before.pending below);
        carried = λ g w hs waits. before.carried g w hs (taken.back (Upsert n g w hs) waits);
        stays = λ g waits. before.stays g (taken.back (Removal n g) waits);
      }

  -- a record that has seen a newer upsert, and its member, if it has one, are tracked
  seen_tracked : (n generation weight hash : ℕ) (r : Record K V) (counted : Option ℕ) → get records n ≡ Some r → r.applied < generation →
      (counted ≡ Some weight) ⊎ ((counted ≡ None) × (generation < r.generation)) → TakesIn Before After (Upsert n generation weight hash) → IsTracked After n (record r { applied = generation }) counted
  seen_tracked n generation weight hash r counted there newer now taken =
      let carried = before.carried generation weight hash taken.there in
      let limit : generation ≤ r.generation = carried.0 in
      record {
        applied = limit;
        outside = λ none. outside now none;
        weighed = λ w counts all. weighed now w counts (carried.1 all);
        pending = λ below. still_pending n generation weight hash r below taken (before.pending (omega arith));
        carried = λ g w hs waits. before.carried g w hs (taken.back (Upsert n g w hs) waits);
        stays = λ g waits. before.stays g (taken.back (Removal n g) waits);
      }
    where
      before : IsTracked Before n r (counted_of n access)
      before = rw there at (h.sound n)

      outside : (counted ≡ Some weight) ⊎ ((counted ≡ None) × (generation < r.generation)) → counted ≡ None → generation < r.generation
      outside (inl some) none = cc
      outside (inr p) none = p.1

      weighed : (counted ≡ Some weight) ⊎ ((counted ≡ None) × (generation < r.generation)) → (w : ℕ) → counted ≡ Some w → weight ≡ r.weight → w ≡ r.weight
      weighed (inl some) w counts all = cc
      weighed (inr p) w counts all = let none = p.0 in cc

  -- a newer upsert of a record enters it at the back of a list that has no member of its number and is sound elsewhere
  pub entered_kept : (n generation weight hash : ℕ) (r : Record K V) (others : Records K V) (front : List Member) → get records n ≡ Some r → r.applied < generation → ((k : ℕ) → AreApart k n → IsSound Before k (get others k) (counted_of k front)) →
      IsDistinct (◌==◌) (numbers_of front) → counted_of n front ≡ None → TakesIn Before After (Upsert n generation weight hash) → IsConsistent After (insert others n (record r { applied = generation })) (front ++ member n weight ∷ [])
  entered_kept n generation weight hash r others front there newer elsewhere once absent taken =
      consistent_after n Before After others (insert others n (record r { applied = generation })) front (front ++ member n weight ∷ []) (record {
        records_kept = λ k apart. get_past_insert others n (record r { applied = generation }) k apart;
        members_kept = λ k apart. counted_past_pushed n weight k front apart;
        waiting_kept = λ x apart. alike_taking Before After n (Upsert n generation weight hash) refl x apart taken;
      }) (distinct_pushed n weight front once absent)
      (rw (get_inserted others n (record r { applied = generation }), counted_pushed n weight front absent) (seen_tracked n generation weight hash r (Some weight) there newer (inl refl) taken)) elsewhere

  -- a rejected record leaves, unless it was updated since
  pub rejected_kept : (n generation weight hash : ℕ) (r : Record K V) (front : List Member) → get records n ≡ Some r → r.applied < generation →
      IsConsistent Before records front → counted_of n front ≡ None → TakesIn Before After (Upsert n generation weight hash) →
      (b : Bool) → (r.generation == generation) ≡ b → IsConsistent After (if b then remove records n else insert records n (record r { applied = generation })) front
  rejected_kept n generation weight hash r front there newer consistent absent taken true last =
      consistent_after n Before After records (remove records n) front front (record {
        records_kept = λ k apart. get_past_remove records n k apart;
        members_kept = λ k apart. refl;
        waiting_kept = λ x apart. alike_taking Before After n (Upsert n generation weight hash) refl x apart taken;
      }) consistent.once (rw (get_removed records n, absent) tt) (λ k apart. consistent.sound k)
  rejected_kept n generation weight hash r front there newer consistent absent taken false updated =
      let before : IsTracked Before n r (counted_of n access) = rw there at (h.sound n) in
      let limit : generation ≤ r.generation = (before.carried generation weight hash taken.there).0 in
      let below : generation < r.generation = grind (arith, limit, updated) in
      consistent_after n Before After records (insert records n (record r { applied = generation })) front front (record {
        records_kept = λ k apart. get_past_insert records n (record r { applied = generation }) k apart;
        members_kept = λ k apart. refl;
        waiting_kept = λ x apart. alike_taking Before After n (Upsert n generation weight hash) refl x apart taken;
      }) consistent.once
      (rw (get_inserted records n (record r { applied = generation }), absent) (seen_tracked n generation weight hash r None there newer (inr (refl, below)) taken)) (λ k apart. consistent.sound k)
