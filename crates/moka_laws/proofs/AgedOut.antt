-- From a state in order, a run that leaves a front of the write list that is not past its time leaves no record that
-- is.
use Rattle.std.proofs.Common.{◌≡◌, refl, ℕ, ◌+◌, ◌≤◌, Bool, true, false, ◌==◌, ◌||◌, min, nat_le, List, [], ◌∷◌, ◌++◌, map, Option, Some, None, is_some, ap, sym, ◌∙◌, subst, arith, true≢false, if◌then◌else◌}
use Rattle.std.specs.FinMap.{get}
use Rattle.moka_laws.proofs.Types.{Record, Operation, Upsert, Removal, State, Freedom}
use Rattle.moka_records.specs.Time.{greatest, deadline, has_passed, is_before, moment_of}
use Rattle.moka_records.specs.Records.{counted_of, is_member, is_applied, is_listed}
use Rattle.moka_parts.specs.State.{keeps_write_list}
use Rattle.moka_parts.specs.Visibility.{is_past_live, is_written_before}
use Rattle.moka_parts.specs.Maintenance.{AreFree, after_run, tests_of}
use Rattle.moka_parts.specs.Settling.{IsSound, IsConsistent, IsConsistentState, IsWaitingIn, AreRising, IsAllSent}
use Rattle.moka_parts.specs.Order.{waiting_by_ticket, IsInOrder, write_list_at_end, IsAtRestByWrite}
use Rattle.moka_records.proofs.Maps.{same_by_test, itself_tested}
use Rattle.moka_laws.proofs.RunKeepsSound.{run_kept}
use Rattle.moka_laws.proofs.AtEnd.{nothing_waits, all_applied}
use Rattle.moka_laws.proofs.Rises.{Rises}
use Rattle.moka_laws.proofs.InOrder.{settled_moment, settled_at, waiting_at}
use Rattle.moka_laws.proofs.OrderedStates.{rises_from, run_in_order}

-- ---- where nothing waits, all is settled

module _ {K V : Type 0} (Waits : Operation → Type 0) (none : (o : Operation) → Waits o → ⊥) where
  -- a record in the map is a settled member
  record_settled : (n : ℕ) (r : Record K V) (counted : Option ℕ) → IsSound Waits n (Some r) counted → (is_applied r ≡ true) × (is_some counted ≡ true)
  record_settled n r None s = let p = s.pending (s.outside refl) in absurd (none (Upsert n r.generation r.weight p.0) p.1)
  record_settled n r (Some w) s = (all_applied Waits n r (Some w) s none, refl)

-- ---- moments behind the first

rises_above : (f : ℕ → Option ℕ) (low : ℕ) (ns : List ℕ) (xs : List (Option ℕ)) (n x : ℕ) → Rises low (map f ns ++ xs) → is_listed n ns ≡ true → f n ≡ Some x → low ≤ x
rises_above f low [] xs n x h there at = absurd (true≢false (sym there))
rises_above f low (k ∷ ns) xs n x h there at = go (λ y behind listed. rises_above f y ns xs n x behind listed at) (f k) refl h (k == n) refl there
  where
    go : ((y : ℕ) → Rises y (map f ns ++ xs) → is_listed n ns ≡ true → y ≤ x) → (v : Option ℕ) → f k ≡ v → Rises low (v ∷ map f ns ++ xs) → (b : Bool) → (k == n) ≡ b → (b || is_listed n ns) ≡ true → low ≤ x
    go above v e h true same there = first v (sym e ∙ ap f (same_by_test k n same) ∙ at) h
      where
        first : (v : Option ℕ) → v ≡ Some x → Rises low (v ∷ map f ns ++ xs) → low ≤ x
        first None e h = cc
        first (Some y) e h = let same : y ≡ x = cc in let le = h.0 in omega arith
    go above None e h false other there = above low h there
    go above (Some y) e h false other there = let le = h.0 in let last = above y h.1 there in omega arith

-- ---- what is later is not past its time either

later_lasts : (d : Option ℕ) (a b now : ℕ) → a ≤ b → has_passed (deadline d a) now ≡ false → has_passed (deadline d b) now ≡ false
later_lasts None a b now le e = refl
later_lasts (Some t) a b now le e = not_yet (a + t) (b + t) greatest now (omega arith) e
  where
    not_yet : (x y top now : ℕ) → x ≤ y → nat_le (min x top) now ≡ false → nat_le (min y top) now ≡ false
    not_yet x y top now le e = grind (arith, le, e)

later_after : (bound : Option ℕ) (a b : ℕ) → a ≤ b → is_before a bound ≡ false → is_before b bound ≡ false
later_after None a b le e = refl
later_after (Some t) a b le e = grind (arith, le, e)

module _ {K V X P W : Type 0} (t : State K V X P W) (now : ℕ) (Waits : Operation → Type 0) (none : (o : Operation) → Waits o → ⊥) (sound : IsConsistent Waits t.records t.access) where
  -- then none is
  all_last : (ns : List ℕ) → IsInOrder t ns → IsAtRestByWrite (tests_of t now) t.records ns → (n : ℕ) (r : Record K V) → get t.records n ≡ Some r → (is_past_live t.settings r now ≡ false) × (is_written_before t.invalid_before r ≡ false)
  all_last ns o front n r there = go ns front (rises_from t ns o) (o.listed.1 n ∙ settled.1) (λ k. o.listed.1 k)
    where
      settled : (is_applied r ≡ true) × (is_some (counted_of n t.access) ≡ true)
      settled = record_settled Waits none n r (counted_of n t.access) (subst (λ v. IsSound Waits n v (counted_of n t.access)) there (sound.sound n))

      moment : settled_at t.records n ≡ Some r.written.0
      moment = ap settled_moment there ∙ ap (λ b. if b then Some r.written.0 else None) settled.0

      member_settled : (k : ℕ) (v : Option (Record K V)) (counted : Option ℕ) → is_some counted ≡ true → IsSound Waits k v counted → (p : Record K V) × (v ≡ Some p) × (is_applied p ≡ true)
      member_settled k None None c s = absurd (true≢false (sym c))
      member_settled k None (Some w) c s = absurd (none (Removal k s.0) s.1)
      member_settled k (Some p) counted c s = (p, refl, (record_settled Waits none k p counted s).0)

      is_first : (k : ℕ) (ns : List ℕ) → is_listed k (k ∷ ns) ≡ true
      is_first k ns = ap (λ b. b || is_listed k ns) (itself_tested k)

      go : (ns : List ℕ) → IsAtRestByWrite (tests_of t now) t.records ns → Rises 0 (map (settled_at t.records) ns ++ map (waiting_at t.records) (waiting_by_ticket t)) → is_listed n ns ≡ true → ((k : ℕ) → is_listed k ns ≡ is_member k t.access) → (is_past_live t.settings r now ≡ false) × (is_written_before t.invalid_before r ≡ false)
      go [] front rises listed members = absurd (true≢false (sym listed))
      go (k ∷ ns) front rises listed members =
          let own = member_settled k (get t.records k) (counted_of k t.access) (sym (members k) ∙ is_first k ns) (sound.sound k) in
          let first : settled_at t.records k ≡ Some own.0.written.0 = ap settled_moment own.1 ∙ ap (λ b. if b then Some own.0.written.0 else None) own.2 in
          let raised : Rises own.0.written.0 (map (settled_at t.records) (k ∷ ns) ++ map (waiting_at t.records) (waiting_by_ticket t)) = raise (settled_at t.records k) own.0.written.0 (map (settled_at t.records) ns ++ map (waiting_at t.records) (waiting_by_ticket t)) first rises in
          let le = rises_above (settled_at t.records) own.0.written.0 (k ∷ ns) (map (waiting_at t.records) (waiting_by_ticket t)) n r.written.0 raised listed moment in
          let lasts = front k own.0 refl own.1 in
          (later_lasts t.settings.time_to_live own.0.written.0 r.written.0 now le lasts.0, later_after (moment_of t.invalid_before) own.0.written.0 r.written.0 le lasts.1)
        where
          raise : (v : Option ℕ) (w : ℕ) (xs : List (Option ℕ)) → v ≡ Some w → Rises 0 (v ∷ xs) → Rises w (v ∷ xs)
          raise None w xs e h = cc
          raise (Some y) w xs e h = let same : y ≡ w = cc in (omega arith, h.1)

-- after a run from a state in order, that leaves such a front once all is sent, no record is
pub last_after_run : {K V X P W : Type 0} (says : P → K → V → Bool → Type 0) (s : State K V X P W) (now : ℕ) (ns : List ℕ) (ch : Freedom) → IsConsistentState s → AreRising s.outstanding s.writes → keeps_write_list s.settings ≡ true → AreFree says s now ch → IsInOrder s ns → IsAllSent s →
    IsAtRestByWrite (tests_of s now) (after_run s ch).records (write_list_at_end s ns ch) → (n : ℕ) (r : Record K V) → get (after_run s ch).records n ≡ Some r → (is_past_live s.settings r now ≡ false) × (is_written_before s.invalid_before r ≡ false)
last_after_run says s now ns ch h rising kept free o all front n r there = all_last (after_run s ch) now (IsWaitingIn s.outstanding []) (nothing_waits s.outstanding all) (run_kept s ch h) (write_list_at_end s ns ch) (run_in_order says s now ns ch kept free rising o) front n r there
