-- What always holds of records, members and operations is kept, one lemma a kind of change.
use Rattle.std.proofs.Common.{◌≡◌, refl, ℕ, ◌≤◌, ◌==◌, List, [], ◌∷◌, Option, Some, None, ap, sym, ◌∙◌, subst, ◌⊎◌, inl, inr, arith, true≢false, ◌<◌, ◌↔◌}
use Rattle.std.specs.List.{IsDistinct}
use Rattle.std.specs.FinMap.{get, insert, remove}
use Rattle.moka_laws.proofs.Types.{Record, Member, Operation, Upsert, Removal, Records}
use Rattle.moka_records.specs.Records.{counted_of, numbers_of, without_member, without_members, to_back, all_to_back}
use Rattle.moka_parts.specs.Settling.{number_of, IsTracked, IsSound, IsConsistent}
use Rattle.moka_parts.specs.Writes.{without_records}
use Rattle.moka_records.proofs.Maps.{AreApart, itself_tested, same_or_apart, get_inserted, get_past_insert, get_removed, get_past_remove}
use Rattle.moka_records.proofs.AccessList.{counted_taken_out, counted_past_taken_out, counted-to_back, counted-all_to_back, distinct_taken_out, distinct-to_back, distinct-all_to_back}
use Rattle.moka_laws.proofs.Waiting.{HandsOut, WaitAlike, TakesIn}

-- equal numbers are not apart
pub differ : (a b : ℕ) → a ≡ b → AreApart a b → ⊥
differ a b same apart = true≢false (sym (itself_tested b) ∙ sym (ap (λ x. x == b) same) ∙ apart.forth)

module _ (Before After : Operation → Type 0) (n : ℕ) (o : Operation) (own : number_of o ≡ n) (x : Operation) (apart : AreApart (number_of x) n) where
  another : x ≡ o → ⊥
  another e = differ (number_of x) n (ap number_of e ∙ own) apart

  -- another number's operations wait as before where one of this number is handed out
  alike_handing : HandsOut Before After o → Before x ↔ After x
  alike_handing out = (out.forth x, λ waits. elim (out.back x waits) [ inl before ↦ before | inr e ↦ absurd (another e) ])

  -- and where one is applied
  pub alike_taking : TakesIn Before After o → Before x ↔ After x
  alike_taking taken = (λ waits. elim (taken.forth x waits) [ inl after ↦ after | inr e ↦ absurd (another e) ], taken.back x)

module _ {K V : Type 0} where
  -- a number stays sound where the same operations of it wait
  sound_elsewhere : (Before After : Operation → Type 0) (n : ℕ) (o : Option (Record K V)) (counted : Option ℕ) → ((x : Operation) → number_of x ≡ n → Before x ↔ After x) → IsSound Before n o counted → IsSound After n o counted
  sound_elsewhere Before After n None None alike h = tt
  sound_elsewhere Before After n None (Some w) alike h = (h.0, (alike (Removal n h.0) refl).0 h.1)
  sound_elsewhere Before After n (Some r) counted alike h = record {
    applied = h.applied;
    outside = h.outside;
    weighed = h.weighed;
    pending = λ below. let p = h.pending below in (p.0, (alike (Upsert n r.generation r.weight p.0) refl).0 p.1);
    carried = λ generation weight hash waits. h.carried generation weight hash ((alike (Upsert n generation weight hash) refl).1 waits);
    stays = λ generation waits. h.stays generation ((alike (Removal n generation) refl).1 waits);
  }

  -- a change at one number
  pub record ChangesOnly (n : ℕ) (Before After : Operation → Type 0) (records records_after : Records K V) (access access_after : List Member) : Type 0 where
    pub records_kept : (k : ℕ) → AreApart k n → get records_after k ≡ get records k
    pub members_kept : (k : ℕ) → AreApart k n → counted_of k access_after ≡ counted_of k access
    pub waiting_kept : (x : Operation) → AreApart (number_of x) n → Before x ↔ After x

  -- is kept where the number itself is sound afterwards
  pub consistent_after : (n : ℕ) (Before After : Operation → Type 0) (records records_after : Records K V) (access access_after : List Member) →
      ChangesOnly n Before After records records_after access access_after → IsDistinct (◌==◌) (numbers_of access_after) →
      IsSound After n (get records_after n) (counted_of n access_after) → ((k : ℕ) → AreApart k n → IsSound Before k (get records k) (counted_of k access)) → IsConsistent After records_after access_after
  consistent_after n Before After records records_after access access_after change once here elsewhere = record {
    once = once;
    sound = λ k. elim (same_or_apart k n) [
      | inl same ↦ subst (λ x. IsSound After x (get records_after x) (counted_of x access_after)) (sym same) here
      | inr apart ↦ rw (change.records_kept k apart, change.members_kept k apart)
          (sound_elsewhere Before After k (get records k) (counted_of k access) (λ x own. change.waiting_kept x (subst (λ m. AreApart m n) (sym own) apart)) (elsewhere k apart))
    ];
  }

-- ---- calls

module _ {K V : Type 0} (Before After : Operation → Type 0) (records : Records K V) (access : List Member) (h : IsConsistent Before records access) where
  -- the same operations wait, in another place
  pub waiting_alike : WaitAlike Before After → IsConsistent After records access
  waiting_alike same = record {
    once = h.once;
    sound = λ n. sound_elsewhere Before After n (get records n) (counted_of n access) (λ x own. (same.forth x, same.back x)) (h.sound n);
  }

  -- a record is put in, under an operation that is newer than all of its number that wait
  pub put_kept : (n : ℕ) (r : Record K V) (hash : ℕ) → r.applied < r.generation → ((g w x : ℕ) → Before (Upsert n g w x) → g < r.generation) → ((g : ℕ) → Before (Removal n g) → ⊥) →
      HandsOut Before After (Upsert n r.generation r.weight hash) → IsConsistent After (insert records n r) access
  put_kept n r hash fresh older none out =
      consistent_after n Before After records (insert records n r) access access (record {
        records_kept = λ k apart. get_past_insert records n r k apart;
        members_kept = λ k apart. refl;
        waiting_kept = λ x apart. alike_handing Before After n (Upsert n r.generation r.weight hash) refl x apart out;
      }) h.once (rw (get_inserted records n r) here) (λ k apart. h.sound k)
    where
      newest : (g w x : ℕ) → Before (Upsert n g w x) ⊎ (Upsert n g w x ≡ Upsert n r.generation r.weight hash) → (g ≤ r.generation) × (g ≡ r.generation → w ≡ r.weight)
      newest g w x (inl b) = let below : g < r.generation = older g w x b in (omega arith, λ all. absurd (omega arith))
      newest g w x (inr e) = let one : g ≡ r.generation = cc in let same : w ≡ r.weight = cc in (omega arith, λ _. same)

      no_removal : (g : ℕ) → Before (Removal n g) ⊎ (Removal n g ≡ Upsert n r.generation r.weight hash) → ⊥
      no_removal g (inl b) = none g b
      no_removal g (inr e) = cc

      here : IsTracked After n r (counted_of n access)
      here = record {
        applied = omega arith;
        outside = λ _. fresh;
        weighed = λ w counted all. absurd (omega arith);
        pending = λ _. (hash, out.there);
        carried = λ g w x waits. newest g w x (out.back (Upsert n g w x) waits);
        stays = λ g waits. no_removal g (out.back (Removal n g) waits);
      }

  -- a caller's removal: the record leaves, its member stays
  pub take_kept : (n : ℕ) (generation : ℕ) → HandsOut Before After (Removal n generation) → IsConsistent After (remove records n) access
  take_kept n generation out =
      consistent_after n Before After records (remove records n) access access (record {
        records_kept = λ k apart. get_past_remove records n k apart;
        members_kept = λ k apart. refl;
        waiting_kept = λ x apart. alike_handing Before After n (Removal n generation) refl x apart out;
      }) h.once (rw (get_removed records n) (here (counted_of n access))) (λ k apart. h.sound k)
    where
      here : (o : Option ℕ) → IsSound {K = K} {V = V} After n None o
      here None = tt
      here (Some w) = (generation, out.there)

module _ {K V : Type 0} (Waits : Operation → Type 0) (records : Records K V) (access : List Member) (h : IsConsistent Waits records access) where
  -- a read, or what else leaves weight and generations of a record as they are
  pub renew_kept : (n : ℕ) (r q : Record K V) → get records n ≡ Some r → q.generation ≡ r.generation → q.applied ≡ r.applied → q.weight ≡ r.weight → IsConsistent Waits (insert records n q) access
  renew_kept n r q there generation applied weight =
      consistent_after n Waits Waits records (insert records n q) access access (record {
        records_kept = λ k apart. get_past_insert records n q k apart;
        members_kept = λ k apart. refl;
        waiting_kept = λ x apart. (λ waits. waits, λ waits. waits);
      }) h.once (rw (get_inserted records n q) here) (λ k apart. h.sound k)
    where
      old : IsTracked Waits n r (counted_of n access)
      old = rw there at (h.sound n)

      here : IsTracked Waits n q (counted_of n access)
      here = record {
        applied = rw (generation, applied) (old.applied);
        outside = λ o. rw (generation, applied) (old.outside o);
        weighed = λ w counted all. old.weighed w counted (sym applied ∙ all ∙ generation) ∙ sym weight;
        pending = rw (generation, applied, weight) (old.pending);
        carried = rw (generation, weight) (old.carried);
        stays = old.stays;
      }

  -- a record leaves map and access list
  pub leave_kept : (n : ℕ) → IsConsistent Waits (remove records n) (without_member n access)
  leave_kept n =
      consistent_after n Waits Waits records (remove records n) access (without_member n access) (record {
        records_kept = λ k apart. get_past_remove records n k apart;
        members_kept = λ k apart. counted_past_taken_out n k access apart;
        waiting_kept = λ x apart. (λ waits. waits, λ waits. waits);
      }) (distinct_taken_out n access h.once) (rw (get_removed records n, counted_taken_out n access) tt) (λ k apart. h.sound k)

  -- a member goes to the back
  pub back_kept : (n : ℕ) → IsConsistent Waits records (to_back n access)
  back_kept n = record {
    once = distinct-to_back n access h.once;
    sound = λ k. rw (counted-to_back n k access) (h.sound k);
  }

  -- members go to the back
  pub all_back_kept : (ns : List ℕ) → IsConsistent Waits records (all_to_back ns access)
  all_back_kept ns = record {
    once = distinct-all_to_back ns access h.once;
    sound = λ k. rw (counted-all_to_back ns k access) (h.sound k);
  }

-- victims leave map and access list
pub victims_kept : {K V : Type 0} (Waits : Operation → Type 0) (victims : List Member) (records : Records K V) (access : List Member) → IsConsistent Waits records access → IsConsistent Waits (without_records victims records) (without_members victims access)
victims_kept Waits [] records access h = h
victims_kept Waits (a ∷ victims) records access h = victims_kept Waits victims (remove records a.number) (without_member a.number access) (leave_kept Waits records access h a.number)
