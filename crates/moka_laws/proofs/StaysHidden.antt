-- A key that is hidden stays so until it is inserted again.
use Rattle.std.proofs.Common.{◌≡◌, refl, ℕ, ◌≤◌, Bool, true, false, ◌||◌, List, [], ◌∷◌, ◌++◌, Option, Some, None, ap, sym, ◌∙◌, subst, inl, inr, arith, true≢false, Contains}
use Rattle.std.specs.Cmp.{IsEquivalence}
use Rattle.std.proofs.lemmas.List.Elements.{Contains-append_left, Contains-append_right, Contains-push, at_from_Contains}
use Rattle.std.specs.FinMap.{get, insert}
use Rattle.moka_laws.proofs.Types.{Instant, Record, Registered, Call, Reply, Step, Notice, State, Settings, Meaning, Events, Terms, Course, Freedom}
use Rattle.moka_types.specs.declared.calls.Call.TheVariants as call
use Rattle.moka_parts.specs.Settling.{IsWellNumbered, IsValid}
use Rattle.moka_parts.specs.Calls.{new_record, updated_record, hit_record, ContainsStep}
use Rattle.moka_parts.specs.Runs.{CallStep, AreSteps, last_state}
use Rattle.moka_parts.specs.Laws.{moment_in, later_of, IsNoEarlier, is_insert_of, NeverLowers, NeverGoesBack, InsertsNever, last_moment, StaysHidden}
use Rattle.moka_records.proofs.Maps.{found_inserted, found_removed}
use Rattle.moka_records.proofs.Lookup.{record_of_key_found, absent_key, present_key}
use Rattle.moka_laws.proofs.Contained.{not_both}
use Rattle.moka_laws.proofs.CallsKeep.{record_at_its_number}
use Rattle.moka_laws.proofs.Kept.{kept_by_run}
use Rattle.moka_laws.proofs.EachCall.{IsKept, kept_by_call}
use Rattle.moka_laws.proofs.StepsKeep.{call_keeps}
use Rattle.moka_records.specs.Time.{has_passed, is_before, deadline, moment_of}
use Rattle.moka_records.specs.Records.{record_of_key}
use Rattle.moka_parts.specs.Visibility.{is_expired, is_past_live, is_past_idle, has_lapsed, Covers, SomeCovers, IsVisible, IsHidden, IsShown}
use Rattle.moka_parts.specs.Maintenance.{predicates_at_end, MaintenanceRun, AreFree, after_run, at_end}
use Rattle.moka_laws.proofs.RunKeeps.{run_keeps}
use Rattle.moka_laws.proofs.Dropped.{covering_stays}
use Rattle.std.proofs.lemmas.Bool.{or_cases, or_left, or_right}
use Rattle.moka_parts.proofs.Registry.{some_covers}

-- ---- tests that stay true

passed_later : (o : Option ℕ) (t u : ℕ) → t ≤ u → has_passed o t ≡ true → has_passed o u ≡ true
passed_later None t u le e = cc
passed_later (Some d) t u le e = grind arith

or_weaker : {a b c d : Bool} → (a ≡ true → c ≡ true) → (b ≡ true → d ≡ true) → (a || b) ≡ true → (c || d) ≡ true
or_weaker {a} {b} {c} {d} f g e = elim (or_cases a b e) [ inl x ↦ or_left c d (f x) | inr y ↦ or_right c d (g y) ]

before_raised : (bound : Option ℕ) (now x : ℕ) → is_before now bound ≡ false → is_before x bound ≡ true → is_before x (Some now) ≡ true
before_raised None now x low e = cc
before_raised (Some b) now x low e = grind arith

module _ {K V X W : Type 0} where
  lapsed_later : (settings : Settings X W) (bound : Option Instant) (r : Record K V) (t u : ℕ) → t ≤ u → has_lapsed settings bound r t ≡ true → has_lapsed settings bound r u ≡ true
  lapsed_later settings bound r t u le =
      let own : is_expired r t ≡ true → is_expired r u ≡ true = passed_later (moment_of r.expires) t u le in
      let live : is_past_live settings r t ≡ true → is_past_live settings r u ≡ true = passed_later (deadline settings.time_to_live r.written.0) t u le in
      let idle : is_past_idle settings r t ≡ true → is_past_idle settings r u ≡ true = passed_later (deadline settings.time_to_idle r.read.0) t u le in
      or_weaker (or_weaker (or_weaker (or_weaker own live) idle) (λ e. e)) (λ e. e)

  lapsed_raised : (settings : Settings X W) (bound : Option Instant) (raised : Instant) (r : Record K V) (t : ℕ) → is_before raised.0 (moment_of bound) ≡ false → has_lapsed settings bound r t ≡ true → has_lapsed settings (Some raised) r t ≡ true
  lapsed_raised settings bound raised r t low =
      or_weaker (or_weaker (λ e. e) (before_raised (moment_of bound) raised.0 r.written.0 low)) (before_raised (moment_of bound) raised.0 r.read.0 low)

module _ {K V P : Type 0} (says : P → K → V → Bool → Type 0) where
  covers_more : (ps : List (Registered P)) (p : Registered P) (r : Record K V) → SomeCovers says ps r → SomeCovers says (ps ++ p ∷ []) r
  covers_more [] p r h = absurd h
  covers_more (q ∷ ps) p r (inl c) = inl c
  covers_more (q ∷ ps) p r (inr h) = inr (covers_more ps p r h)

  one_covers : (ps : List (Registered P)) (r : Record K V) → SomeCovers says ps r → (p : Registered P) × Contains ps p × Covers says p r
  one_covers [] r h = absurd h
  one_covers (q ∷ ps) r (inl c) = (q, Contains-append_left (q ∷ []) ps q (Contains-push [] q), c)
  one_covers (q ∷ ps) r (inr h) = let x = one_covers ps r h in (x.0, Contains-append_right (q ∷ []) ps x.0 x.1, x.2)

  some_cover : (ps : List (Registered P)) (p : Registered P) (r : Record K V) → Contains ps p → Covers says p r → SomeCovers says ps r
  some_cover ps p r there covers =
      let at = at_from_Contains ps p there in
      some_covers says r ps at.0 at.1 (λ d. subst (λ x. Covers says x r) (sym (at.2 d)) covers)

-- every record with the key is hidden
abbrev pub IsKeyHidden : {K V X P W : Type 0} → (K → K → Bool) → (P → K → V → Bool → Type 0) → State K V X P W → K → ℕ → Type 0
IsKeyHidden {K} {V} eq says s key t = (n : ℕ) (r : Record K V) → get s.records n ≡ Some r → eq key r.key ≡ true → IsHidden says s r t

module _ {K V X P W : Type 0} (eq : K → K → Bool) (says : P → K → V → Bool → Type 0) (key : K) where
  hidden_later : (s : State K V X P W) (t u : ℕ) → t ≤ u → IsKeyHidden eq says s key t → IsKeyHidden eq says s key u
  hidden_later s t u le h n r there same = elim (h n r there same) [
    | inl e ↦ inl (lapsed_later s.settings s.invalid_before r t u le e)
    | inr c ↦ inr c
  ]

  -- a run takes away and hides, and shows nothing
  hidden_run : (s : State K V X P W) (now : ℕ) (ch : Freedom) (u : ℕ) → AreFree says s now ch → IsKeyHidden eq says s key u → IsKeyHidden eq says (after_run s ch) key u
  hidden_run s now ch u free h n q there same =
      let old = run_keeps s ch n q there in
      let look : q ≡ record old.0 { applied = old.2.0 } = old.2.1 in
      go old.0 q old.2.0 look old.1 there (h n old.0 old.1 (sym (ap (λ (x : Record K V). eq key x.key) look) ∙ same))
    where
      go : (r q : Record K V) (g : ℕ) → q ≡ record r { applied = g } → get s.records n ≡ Some r → get (at_end s ch).records n ≡ Some q → IsHidden says s r u → IsHidden says (after_run s ch) q u
      go r q g look old there (inl e) = inl (ap (λ (x : Record K V). has_lapsed s.settings s.invalid_before x u) look ∙ e)
      go r q g look old there (inr c) =
          let one = one_covers says s.predicates r c in
          let now_covers : Covers says one.0 q = subst (λ (x : Record K V). Covers says one.0 x) (sym look) one.2 in
          inr (some_cover says (predicates_at_end s ch) one.0 q (covering_stays says s now ch free one.0 n q one.1 there now_covers) now_covers)

  run_hides : (s t : State K V X P W) (terms : Terms) (course : Course) (notices : List (Notice K V)) (u : ℕ) → IsKeyHidden eq says s key u → MaintenanceRun says s terms course notices t → IsKeyHidden eq says t key u
  run_hides s t terms course notices u h run = kept_by_run (λ x. IsKeyHidden eq says x key u) s t h _ says terms course notices (λ ch on free. hidden_run s terms.now ch u free h) run.0

  -- a record in place of another that is not of the hidden key
  put_hides : (s : State K V X P W) (m : ℕ) (q : Record K V) (u : ℕ) → (eq key q.key ≡ true → ⊥) → IsKeyHidden eq says s key u → (n : ℕ) (r : Record K V) → get (insert s.records m q) n ≡ Some r → eq key r.key ≡ true → IsHidden says s r u
  put_hides s m q u other h n r there same = elim (found_inserted s.records m q n r there) [
    | inl (at, one) ↦ absurd (other (ap (λ (x : Record K V). eq key x.key) one ∙ same))
    | inr (apart, before) ↦ h n r before same
  ]

-- ---- lists of calls

no_earlier : (t : ℕ) (o : Option ℕ) → IsNoEarlier t o → t ≤ later_of t o
no_earlier t None h = omega arith
no_earlier t (Some u) h = h

module _ {K V X L P W C I : Type 0} (m : Meaning K V X L P W C I) (laws : IsEquivalence m.eq) (key : K) where
  hidden_kept : (s : State K V X P W) (c : Call K V P) (u : ℕ) → ((now : ℕ) → moment_in c ≡ Some now → u ≡ now) → IsWellNumbered m.eq s → IsKeyHidden m.eq m.says s key u → NeverLowers c s.invalid_before → is_insert_of m.eq key c ≡ false →
      IsKept m (λ x. IsKeyHidden m.eq m.says x key u) (λ x. IsKeyHidden m.eq m.says x key u) s c
  hidden_kept s c u at numbered h low apart = record {
    begins = h;
    left = h;
    inserted = λ other hash value now w is on absent. put_hides m.eq m.says key s s.next_number (new_record m.created m.updated s other hash value now w) u (λ mine. true≢false (sym mine ∙ laws.symm key other ∙ another other hash value now is)) h;
    replaced = λ r other hash value now w is found. put_hides m.eq m.says key s r.number (updated_record m.created m.updated s r other value now w) u
        (λ mine. true≢false (sym mine ∙ laws.symm key r.key ∙ sym (laws.congr other r.key key (record_of_key_found m.eq s.records other r found).2) ∙ another other hash value now is)) h;
    removed = λ other hash now r is found n q there mine. h n q (found_removed s.records r.number n q there).1 mine;
    sent = λ ticket o is there room. h;
    hit = λ other r now moment found visible.
        let seen : IsVisible m.says s r u = subst (IsVisible m.says s r) (sym (at now moment)) visible in
        let after = put_hides m.eq m.says key s r.number (hit_record m.read s r now) u (λ mine. not_both m.says s r u (h r.number r (record_at_its_number m.eq s other r numbered found) mine) seen) h in
        (after, after);
    hidden = λ now is n r there mine. elim (h n r there mine) [
      | inl e ↦ inl (lapsed_raised s.settings s.invalid_before now r u (subst (λ c. NeverLowers c s.invalid_before) is low) e)
      | inr c ↦ inr c
    ];
    registered = λ p n r there mine. elim (h n r there mine) [
      | inl e ↦ inl e
      | inr c ↦ inr (covers_more m.says s.predicates p r c)
    ];
    resized = λ capacity is on. h;
    aside = λ t reads housekeeping h. h;
  }
    where
      another : (other : K) (hash : ℕ) (value : V) (now : Instant) → c ≡ call.Insert other hash value now → m.eq other key ≡ false
      another other hash value now is = sym (ap (is_insert_of m.eq key) is) ∙ apart

  -- the key is hidden at the moment of the call
  call_hides : (s t : State K V X P W) (c : Call K V P) (r : Reply K V P) (e : Events K V) (now : ℕ) → IsWellNumbered m.eq s → IsKeyHidden m.eq m.says s key (later_of now (moment_in c)) → NeverLowers c s.invalid_before → is_insert_of m.eq key c ≡ false →
      CallStep m (MaintenanceRun m.says) s c r e t → IsKeyHidden m.eq m.says t key (later_of now (moment_in c))
  call_hides s t c r e now numbered h low apart step =
      let u : ℕ = later_of now (moment_in c) in
      kept_by_call m (MaintenanceRun m.says) (λ x. IsKeyHidden m.eq m.says x key u) (λ x. IsKeyHidden m.eq m.says x key u) (λ s terms course notices t h run. run_hides m.eq m.says key s t terms course notices u h run)
      s t c r e (hidden_kept s c u (λ at moment. ap (later_of now) moment) numbered h low apart) step

  steps_hide : (s : State K V X P W) (steps : List (Step K V X P W)) (now : ℕ) → IsValid m.eq s → AreSteps m (MaintenanceRun m.says) s steps → NeverGoesBack now s steps → InsertsNever m.eq key steps → IsKeyHidden m.eq m.says s key now → IsKeyHidden m.eq m.says (last_state s steps) key (last_moment now steps)
  steps_hide s [] now valid done forward never h = h
  steps_hide s (x ∷ xs) now valid (step, rest) (later, low, forward) (apart, never) h =
      steps_hide x.after xs (later_of now (moment_in x.call)) (call_keeps m laws s x.after x.call x.reply x.events valid step) rest forward never
      (call_hides s x.after x.call x.reply x.events now valid.numbered (hidden_later m.eq m.says key s now (later_of now (moment_in x.call)) (no_earlier now (moment_in x.call) later) h) low apart step)

  -- from one look to all records with the key, and back
  look_hides : (s : State K V X P W) (now : ℕ) → IsWellNumbered m.eq s → ContainsStep m.says m.eq s key now false → IsKeyHidden m.eq m.says s key now
  look_hides s now n look k r there same = go (record_of_key m.eq s.records key) refl look
    where
      go : (o : Option (Record K V)) → record_of_key m.eq s.records key ≡ o → IsShown m.says s o now false → IsHidden m.says s r now
      go None found look = absurd (true≢false (sym same ∙ absent_key m.eq s.records key found k r there))
      go (Some q) found look =
          let both : Some q ≡ Some r = sym found ∙ present_key m.eq s.records key laws n.numbered.one_each k r there same in
          let one : q ≡ r = cc in
          subst (λ x. IsHidden m.says s x now) one look

  hides_look : (s : State K V X P W) (now : ℕ) (shown : Bool) → IsKeyHidden m.eq m.says s key now → ContainsStep m.says m.eq s key now shown → shown ≡ false
  hides_look s now shown h look = go (record_of_key m.eq s.records key) shown refl look
    where
      go : (o : Option (Record K V)) (shown : Bool) → record_of_key m.eq s.records key ≡ o → IsShown m.says s o now shown → shown ≡ false
      go None shown found look = look
      go (Some r) false found look = refl
      go (Some r) true found look = let at = record_of_key_found m.eq s.records key r found in absurd (not_both m.says s r now (h at.0 r at.1 at.2) look)

-- a key that is hidden stays so until it is inserted again
pub stays_hidden : {K V X L P W C I : Type 0} (m : Meaning K V X L P W C I) → IsEquivalence m.eq → StaysHidden m
stays_hidden m laws s steps key now later shown valid are forward never last look after =
    hides_look m laws key (last_state s steps) later shown
    (hidden_later m.eq m.says key (last_state s steps) (last_moment now steps) later last (steps_hide m laws key s steps now valid are forward never (look_hides m laws key s now valid.numbered look))) after
