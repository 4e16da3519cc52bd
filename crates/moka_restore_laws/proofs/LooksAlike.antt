-- A cache and one that was made again of it answer a list of look-ups alike.
use Rattle.std.proofs.Common.{◌≡◌, refl, ℕ, ◌≤◌, Bool, true, false, List, [], ◌∷◌, Option, Some, None, Ok, Err, ap, sym, subst, ◌∙◌, ◌⊎◌, inl, inr, arith, append-nil}
use Rattle.std.specs.Cmp.{IsEquivalence}
use Rattle.std.specs.FinMap.{get}
use Rattle.std.specs.List.{AllByRecursion, AllZip}
use Rattle.std.proofs.lemmas.Option.{same_Some}
use Rattle.moka_types.specs.declared.calls.Call.{Call}
use Rattle.moka_types.specs.declared.calls.Call.TheVariants as call
use Rattle.moka_types.specs.declared.calls.Entry.{Entry}
use Rattle.moka_types.specs.declared.calls.Reply.{Reply}
use Rattle.moka_types.specs.declared.calls.Reply.TheVariants as reply
use Rattle.moka_records.specs.declared.instant.Instant.{Instant}
use Rattle.moka_records.specs.declared.records.Record.{Record}
use Rattle.moka_parts.specs.Calls.{after_hit, hit_record}
use Rattle.moka_parts.specs.Copies.{ClonesAreEqual}
use Rattle.moka_parts.specs.Laws.{IsNoEarlier, later_of, moment_in}
use Rattle.moka_parts.specs.Listed.{AreListedSteps, ListedRun}
use Rattle.moka_parts.specs.Runs.{CallStep, Step, calls_of, replies_of}
use Rattle.moka_parts.specs.Settling.{IsValid}
use Rattle.moka_parts.specs.State.{State, Settings, Meaning, Events}
use Rattle.moka_records.proofs.Lookup.{record_of_key_found, present_key}
use Rattle.moka_records.proofs.Maps.{found_inserted, get_inserted, get_past_insert, same_or_apart}
use Rattle.moka_laws.proofs.CallsKeep.{record_at_its_number}
use Rattle.moka_laws.proofs.OrderedDrive.{listed_call_made}
use Rattle.moka_laws.proofs.StepsKeep.{call_keeps}
use Rattle.moka_engine.specs.parts.Restored.{Restored}
use Rattle.moka_cache.specs.Saves.{IsRoomyFor}
use Rattle.moka_restore_laws.specs.Looks.{AreInTime, IsAnswered, IsLikeFirst, LookAlike, LooksAnswerAlike}
use Rattle.moka_restore_laws.proofs.MadeAgain.{clone_from, cloned, written_in_first}
use Rattle.moka_restore_laws.proofs.Twins.{HasSameTimes, IsFresh, IsReflected, IsTimely, IsTwin, fresh_twin, hit_twins, reflected_later, timely_later, times_turned, turned, twin_applied}
use Rattle.moka_restore_laws.proofs.Looking.{IsHere, IsLooked, IsMissing, IsQuiet, IsSteady, contains_looked, get_looked, hit_timely, quiet_steady, scan_looked}

module _ {K V X P W : Type 0} (weighs : W → K → V → ℕ → Type 0) (says : P → K → V → Bool → Type 0) (eq : K → K → Bool) (laws : IsEquivalence eq) where
  -- ---- each record that has not expired keeps its twin

  reflected_quiet : (now : ℕ) (s t u v : State K V X P W) → HasSameTimes s t → IsReflected now s t → IsQuiet weighs says now s u → IsQuiet weighs says now t v → IsReflected now u v
  reflected_quiet now s t u v times reflected first second n r there fresh =
      let was = first.keeps n r there in
      let fresh_was : IsFresh s was.0 now = rw (← first.settings) (subst (λ x. IsFresh u x now) was.2.1 fresh) in
      let (k, q, here, twin) = reflected n was.0 was.1 fresh_was in
      let still = second.there k q here (fresh_twin s t was.0 q now times twin fresh_was) in
      (k, record q { applied = still.0 }, still.1, subst (λ x. IsTwin x (record q { applied = still.0 })) (sym was.2.1) (twin_applied was.0 q was.2.0 still.0 twin))

  reflected_hit : (read : X → K → V → ℕ → Option ℕ → ℕ → Option ℕ) (now : ℕ) (s t : State K V X P W) (r q : Record K V) → IsValid eq s → HasSameTimes s t → IsTwin r q → get s.records r.number ≡ Some r → get t.records q.number ≡ Some q → IsReflected now s t → IsReflected now (after_hit read s r now) (after_hit read t q now)
  reflected_hit read now s t r q valid times twin at_r at_q reflected n x there fresh = elim (found_inserted s.records r.number (hit_record read s r now) n x there) [
    | inl (same, one) ↦ (q.number, hit_record read t q now, get_inserted t.records q.number (hit_record read t q now), subst (λ y. IsTwin y (hit_record read t q now)) one (hit_twins read s t r q now times twin))
    | inr (apart, old) ↦
        let (k, y, here, other) = reflected n x old fresh in
        elim (same_or_apart k q.number) [
          | inl same ↦
              let is : y ≡ q = same_Some y q (sym here ∙ ap (get t.records) same ∙ at_q) in
              let one : x.key ≡ r.key = sym other.key ∙ ap (λ (z : Record K V). z.key) is ∙ twin.key in
              let number : n ≡ r.number = valid.numbered.numbered.one_each n r.number x r old at_r (ap (λ z. eq z r.key) one ∙ laws.refl r.key) in
              (q.number, hit_record read t q now, get_inserted t.records q.number (hit_record read t q now), subst (λ z. IsTwin z (hit_record read t q now)) (same_Some (hit_record read s r now) x (sym (get_inserted s.records r.number (hit_record read s r now)) ∙ sym (ap (get (after_hit read s r now).records) number) ∙ there)) (hit_twins read s t r q now times twin))
          | inr far ↦ (k, y, get_past_insert t.records q.number (hit_record read t q now) k far ∙ here, other)
        ]
  ]

  -- what is here is there
  twin_here : (now : ℕ) (s t : State K V X P W) (key : K) (r : Record K V) → IsValid eq t → HasSameTimes s t → IsReflected now s t → IsHere weighs says eq s key now r → (q : Record K V) × IsHere weighs says eq t key now q × IsTwin r q
  twin_here now s t key r valid times reflected (found, fresh) =
      let at = record_of_key_found eq s.records key r found in
      let (k, q, there, twin) = reflected at.0 r at.1 fresh in
      (q, (present_key eq t.records key laws valid.numbered.numbered.one_each k q there (ap (eq key) twin.key ∙ at.2), fresh_twin s t r q now times twin fresh), twin)

  -- ---- two caches that answer alike

  pub record AreAlike (now : ℕ) (s t : State K V X P W) : Type 0 where
    pub times : HasSameTimes s t
    pub forth : IsReflected now s t
    pub back : IsReflected now t s
    pub first : IsSteady weighs says now s
    pub second : IsSteady weighs says now t
    pub valid : IsValid eq s
    pub other_valid : IsValid eq t

  pub alike_later : (now later : ℕ) (s t : State K V X P W) → now ≤ later → AreAlike now s t → AreAlike later s t
  alike_later now later s t le alike = record {
    times = alike.times;
    forth = reflected_later now later s t le alike.forth;
    back = reflected_later now later t s le alike.back;
    first = record { roomy = alike.first.roomy; timely = timely_later now later s le alike.first.timely };
    second = record { roomy = alike.second.roomy; timely = timely_later now later t le alike.second.timely };
    valid = alike.valid;
    other_valid = alike.other_valid;
  }

  times_kept : (s t u v : State K V X P W) → HasSameTimes s t → u.settings ≡ s.settings → v.settings ≡ t.settings → HasSameTimes u v
  times_kept s t u v times first second = record {
    live = ap (λ (x : Settings X W). x.time_to_live) second ∙ times.live ∙ sym (ap (λ (x : Settings X W). x.time_to_live) first);
    idle = ap (λ (x : Settings X W). x.time_to_idle) second ∙ times.idle ∙ sym (ap (λ (x : Settings X W). x.time_to_idle) first);
    expiry = ap (λ (x : Settings X W). x.expiry) second ∙ times.expiry ∙ sym (ap (λ (x : Settings X W). x.expiry) first);
  }

  alike_quiet : (now : ℕ) (s t u v : State K V X P W) → HasSameTimes s t → IsReflected now s t → IsReflected now t s → IsTimely now s → IsTimely now t → IsQuiet weighs says now s u → IsQuiet weighs says now t v → IsValid eq u → IsValid eq v → AreAlike now u v
  alike_quiet now s t u v times forth back timely other_timely first second valid other_valid = record {
    times = times_kept s t u v times first.settings second.settings;
    forth = reflected_quiet now s t u v times forth first second;
    back = reflected_quiet now t s v u (times_turned s t times) back second first;
    first = quiet_steady weighs says now s u timely first;
    second = quiet_steady weighs says now t v other_timely second;
    valid = valid;
    other_valid = other_valid;
  }

  -- ---- a look-up of both

  module _ (now : ℕ) (s t : State K V X P W) (alike : AreAlike now s t) (key : K) where
    -- nothing is missing in one that is here in the other
    not_missing : (r : Record K V) → IsHere weighs says eq s key now r → IsMissing weighs says eq t key now → ⊥
    not_missing r here missing = (let (q, there, twin) = twin_here now s t key r alike.other_valid alike.times alike.forth here in missing q there.0 there.1)

    not_missing_back : (q : Record K V) → IsHere weighs says eq t key now q → IsMissing weighs says eq s key now → ⊥
    not_missing_back q here missing = (let (r, there, twin) = twin_here now t s key q alike.valid (times_turned s t alike.times) alike.back here in missing r there.0 there.1)

    -- what is here in both are twins
    both_twins : (r q : Record K V) → IsHere weighs says eq s key now r → IsHere weighs says eq t key now q → IsTwin r q
    both_twins r q here there =
        let (x, also, twin) = twin_here now s t key r alike.other_valid alike.times alike.forth here in
        subst (IsTwin r) (same_Some x q (sym also.0 ∙ there.0)) twin

    contains_alike : (shown other : Bool) → ((shown ≡ false) × IsMissing weighs says eq s key now) ⊎ ((shown ≡ true) × ((r : Record K V) × IsHere weighs says eq s key now r)) → ((other ≡ false) × IsMissing weighs says eq t key now) ⊎ ((other ≡ true) × ((q : Record K V) × IsHere weighs says eq t key now q)) → other ≡ shown
    contains_alike shown other (inl (gone, missing)) (inl (none, absent)) = none ∙ sym gone
    contains_alike shown other (inl (gone, missing)) (inr (seen, (q, here))) = absurd (not_missing_back q here missing)
    contains_alike shown other (inr (seen, (r, here))) (inl (gone, missing)) = absurd (not_missing r here missing)
    contains_alike shown other (inr (seen, here)) (inr (too, there)) = too ∙ sym seen

    scan_alike : (a b : Option V) → ((a ≡ None) × IsMissing weighs says eq s key now) ⊎ ((r : Record K V) × (a ≡ Some r.value) × IsHere weighs says eq s key now r) → ((b ≡ None) × IsMissing weighs says eq t key now) ⊎ ((q : Record K V) × (b ≡ Some q.value) × IsHere weighs says eq t key now q) → b ≡ a
    scan_alike a b (inl (gone, missing)) (inl (none, absent)) = none ∙ sym gone
    scan_alike a b (inl (gone, missing)) (inr (q, is, here)) = absurd (not_missing_back q here missing)
    scan_alike a b (inr (r, is, here)) (inl (gone, missing)) = absurd (not_missing r here missing)
    scan_alike a b (inr (r, is, here)) (inr (q, too, there)) = too ∙ ap Some (both_twins r q here there).value ∙ sym is

    module _ (read : X → K → V → ℕ → Option ℕ → ℕ → Option ℕ) (b1 a1 b2 a2 : List ℕ) (need_key : Bool) (e f : Events K V) (u v : State K V X P W) (valid : IsValid eq u) (other_valid : IsValid eq v) where
      get_alike : (a b : Option (Entry K V)) → IsLooked weighs says eq s key now read b1 a1 alike.valid need_key e u a → IsLooked weighs says eq t key now read b2 a2 alike.other_valid need_key f v b → (b ≡ a) × AreAlike now u v
      get_alike a b (inl (gone, missing, quiet)) (inl (none, absent, still)) =
          (none ∙ sym gone, alike_quiet now s t u v alike.times alike.forth alike.back alike.first.timely alike.second.timely quiet still valid other_valid)
      get_alike a b (inl (gone, missing, quiet)) (inr (q, is, here, still)) = absurd (not_missing_back q here missing)
      get_alike a b (inr (r, is, here, quiet)) (inl (gone, missing, still)) = absurd (not_missing r here missing)
      get_alike a b (inr (r, is, here, quiet)) (inr (q, too, there, still)) =
          let twin = both_twins r q here there in
          let at_r = record_at_its_number eq s key r alike.valid.numbered here.0 in
          let at_q = record_at_its_number eq t key q alike.other_valid.numbered there.0 in (
            too ∙ ap Some (rw (twin.key, twin.value) refl) ∙ sym is,
            alike_quiet now (after_hit read s r now) (after_hit read t q now) u v (record { live = alike.times.live; idle = alike.times.idle; expiry = alike.times.expiry })
                (reflected_hit read now s t r q alike.valid alike.times twin at_r at_q alike.forth)
                (reflected_hit read now t s q r alike.other_valid (times_turned s t alike.times) (turned r q twin) at_q at_r alike.back)
                (hit_timely weighs says eq read s alike.valid key now r here.0 alike.first.timely) (hit_timely weighs says eq read t alike.other_valid key now q there.0 alike.second.timely) quiet still valid other_valid,
          )

-- ---- lists of look-ups

module _ {K V X L P W C : Type 0} (m : Meaning K V X L P W C (Unit {0})) (laws : IsEquivalence m.eq) where
  abbrev Alike : ℕ → State K V X P W → State K V X P W → Type 0
  Alike now s t = AreAlike m.weighs m.says m.eq laws now s t

  module _ (s t u v : State K V X P W) (valid : IsValid m.eq u) (other_valid : IsValid m.eq v) (b1 a1 b2 a2 : List ℕ) (e f : Events K V) where
    abbrev First : Call K V P → Reply K V P → Type 0
    First c r = CallStep m (ListedRun m.says m.read b1 a1) s c r e u

    abbrev Second : Call K V P → Reply K V P → Type 0
    Second c r = CallStep m (ListedRun m.says m.read b2 a2) t c r f v

    abbrev Both : ℕ → Reply K V P → Reply K V P → Type 0
    Both now r a = (a ≡ r) × Alike now u v

    still : (now : ℕ) → Alike now s t → u ≡ s → v ≡ t → Alike now u v
    still now alike same other = subst (λ x. Alike now x v) (sym same) (subst (Alike now s) (sym other) alike)

    module _ (key : K) (h1 h2 : ℕ) (need_key : Bool) (at : Instant) (alike : Alike at.0 s t) where
      get_other : (x : Option (Entry K V)) (a : Reply K V P) → IsAnswered a → First (call.Get key h1 need_key at) (reply.Get (Ok x)) → Second (call.Get key h2 need_key at) a → Both at.0 (reply.Get (Ok x)) a
      get_other x (reply.Get (Ok y)) answered step other =
          let (same, after) = get_alike m.weighs m.says m.eq laws at.0 s t alike key m.read b1 a1 b2 a2 need_key e f u v valid other_valid x y
          (get_looked m.weighs m.says m.eq s key at.0 m.read b1 a1 alike.valid need_key e u alike.first h1 x step)
          (get_looked m.weighs m.says m.eq t key at.0 m.read b2 a2 alike.other_valid need_key f v alike.second h2 y other) in
          (ap (λ z. reply.Get (Ok z)) same, after)
      get_other x (reply.Get (Err refused)) answered step other = absurd answered
      get_other x a answered step other = absurd other

      get_both : (r a : Reply K V P) → IsAnswered r → IsAnswered a → First (call.Get key h1 need_key at) r → Second (call.Get key h2 need_key at) a → Both at.0 r a
      get_both (reply.Get (Ok x)) a answered also step other = get_other x a also step other
      get_both (reply.Get (Err refused)) a answered also step other = absurd answered
      get_both r a answered also step other = absurd step

    module _ (key : K) (h1 h2 : ℕ) (at : Instant) (alike : Alike at.0 s t) where
      contains_other : (shown : Bool) (a : Reply K V P) → First (call.Contains key h1 at) (reply.Contains shown) → Second (call.Contains key h2 at) a → Both at.0 (reply.Contains shown) a
      contains_other shown (reply.Contains other_shown) step other = (
        ap reply.Contains (contains_alike m.weighs m.says m.eq laws at.0 s t alike key shown other_shown (contains_looked m.weighs m.says m.eq s key at.0 alike.first.roomy shown step.0) (contains_looked m.weighs m.says m.eq t key at.0 alike.second.roomy other_shown other.0)),
        still at.0 alike step.1.0 other.1.0,
      )
      contains_other shown a step other = absurd other

      contains_both : (r a : Reply K V P) → First (call.Contains key h1 at) r → Second (call.Contains key h2 at) a → Both at.0 r a
      contains_both (reply.Contains shown) a step other = contains_other shown a step other
      contains_both r a step other = absurd step

    module _ (key : K) (at : Instant) (alike : Alike at.0 s t) where
      scan_other : (x : Option V) (a : Reply K V P) → IsAnswered a → First (call.Scan key at) (reply.Scan (Ok x)) → Second (call.Scan key at) a → Both at.0 (reply.Scan (Ok x)) a
      scan_other x (reply.Scan (Ok y)) answered step other = (
        ap (λ z. reply.Scan (Ok z)) (scan_alike m.weighs m.says m.eq laws at.0 s t alike key x y (scan_looked m.weighs m.says m.eq s key at.0 alike.first.roomy x step.0) (scan_looked m.weighs m.says m.eq t key at.0 alike.second.roomy y other.0)),
        still at.0 alike step.1.0 other.1.0,
      )
      scan_other x (reply.Scan (Err refused)) answered step other = absurd answered
      scan_other x a answered step other = absurd other

      scan_both : (r a : Reply K V P) → IsAnswered r → IsAnswered a → First (call.Scan key at) r → Second (call.Scan key at) a → Both at.0 r a
      scan_both (reply.Scan (Ok x)) a answered also step other = scan_other x a also step other
      scan_both (reply.Scan (Err refused)) a answered also step other = absurd answered
      scan_both r a answered also step other = absurd step

    -- one look-up of each
    module _ (r a : Reply K V P) (answered : IsAnswered r) (also : IsAnswered a) (moment : ℕ) (alike : Alike moment s t) where
      like_get : (key : K) (h1 : ℕ) (need_key : Bool) (at : Instant) (d : Call K V P) → LookAlike (call.Get key h1 need_key at) d → moment ≤ at.0 → First (call.Get key h1 need_key at) r → Second d a → Both at.0 r a
      like_get key h1 need_key at (call.Get k h2 need n) (one, needed, now) in_time step other =
          get_both key h1 h2 need_key at (alike_later m.weighs m.says m.eq laws moment at.0 s t in_time alike) r a answered also step
          (subst (λ x. Second (call.Get x h2 need_key at) a) one (subst (λ b. Second (call.Get k h2 b at) a) needed (subst (λ x. Second (call.Get k h2 need x) a) now other)))
      like_get key h1 need_key at d like in_time step other = absurd like

      like_contains : (key : K) (h1 : ℕ) (at : Instant) (d : Call K V P) → LookAlike (call.Contains key h1 at) d → moment ≤ at.0 → First (call.Contains key h1 at) r → Second d a → Both at.0 r a
      like_contains key h1 at (call.Contains k h2 n) (one, now) in_time step other =
          contains_both key h1 h2 at (alike_later m.weighs m.says m.eq laws moment at.0 s t in_time alike) r a step
          (subst (λ x. Second (call.Contains x h2 at) a) one (subst (λ x. Second (call.Contains k h2 x) a) now other))
      like_contains key h1 at d like in_time step other = absurd like

      like_scan : (key : K) (at : Instant) (d : Call K V P) → LookAlike (call.Scan key at) d → moment ≤ at.0 → First (call.Scan key at) r → Second d a → Both at.0 r a
      like_scan key at (call.Scan k n) (one, now) in_time step other =
          scan_both key at (alike_later m.weighs m.says m.eq laws moment at.0 s t in_time alike) r a answered also step
          (subst (λ x. Second (call.Scan x at) a) one (subst (λ x. Second (call.Scan k x) a) now other))
      like_scan key at d like in_time step other = absurd like

      look_alike : (c d : Call K V P) → LookAlike c d → IsNoEarlier moment (moment_in c) → First c r → Second d a → Both (later_of moment (moment_in c)) r a
      look_alike (call.Get key h1 need_key at) d like in_time step other = like_get key h1 need_key at d like in_time step other
      look_alike (call.Contains key h1 at) d like in_time step other = like_contains key h1 at d like in_time step other
      look_alike (call.Scan key at) d like in_time step other = like_scan key at d like in_time step other
      look_alike c d like in_time step other = absurd like

  -- each look-up of both
  steps_alike : (moment : ℕ) (s t : State K V X P W) (b1 l1 b2 l2 : List ℕ) (xs ys : List (Step K V X P W)) → Alike moment s t → AllZip LookAlike (calls_of xs) (calls_of ys) → AreInTime moment (calls_of xs) → AllByRecursion IsAnswered (replies_of xs) → AllByRecursion IsAnswered (replies_of ys) →
      AreListedSteps m s b1 xs l1 → AreListedSteps m t b2 ys l2 → replies_of ys ≡ replies_of xs
  steps_alike moment s t b1 l1 b2 l2 [] [] alike like in_time answered also first second = refl
  steps_alike moment s t b1 l1 b2 l2 [] (y ∷ ys) alike like in_time answered also first second = absurd like
  steps_alike moment s t b1 l1 b2 l2 (x ∷ xs) [] alike like in_time answered also first second = absurd like
  steps_alike moment s t b1 l1 b2 l2 (x ∷ xs) (y ∷ ys) alike like in_time answered also (a1, first, rest) (a2, second, others) =
      let valid = call_keeps m laws s x.after x.call x.reply x.events alike.valid (listed_call_made m s b1 a1 x first) in
      let other_valid = call_keeps m laws t y.after y.call y.reply y.events alike.other_valid (listed_call_made m t b2 a2 y second) in
      let (same, after) = look_alike s t x.after y.after valid other_valid b1 a1 b2 a2 x.events y.events x.reply y.reply answered.0 also.0 moment alike x.call y.call like.0 in_time.0 first.0 second.0 in
      let more = steps_alike (later_of moment (moment_in x.call)) x.after y.after a1 l1 a2 l2 xs ys after like.1 in_time.1 answered.1 also.1 rest others in
      ap (λ r. r ∷ replies_of ys) same ∙ ap (λ rs. x.reply ∷ rs) more

  -- ---- from what was saved and put back

  module _ (is_key_clone : K → K → Type 0) (is_value_clone : V → V → Type 0) (keys_equal : ClonesAreEqual is_key_clone) (values_equal : ClonesAreEqual is_value_clone) where
    begin_alike : (saved put now : ℕ) (items : List (Restored K V)) (first start second : State K V X P W) → IsValid m.eq first → IsValid m.eq second → IsLikeFirst m.weighs m.eq m.says is_key_clone is_value_clone saved put items first start second → saved ≤ now → put ≤ now → Alike now first second
    begin_alike saved put now items first start second valid other_valid like late_saved late_put = record {
      times = record {
        live = ap (λ (x : Settings X W). x.time_to_live) like.made_again.hides.settings ∙ like.made_again.time_to_live;
        idle = ap (λ (x : Settings X W). x.time_to_idle) like.made_again.hides.settings ∙ like.made_again.time_to_idle;
        expiry = ap (λ (x : Settings X W). x.expiry) like.made_again.hides.settings ∙ like.expiry;
      };
      forth = λ n r there fresh.
          let (k, q, here, visible, of) = cloned m.weighs m.eq laws m.says is_key_clone is_value_clone saved put items first start second like.made_again now late_saved late_put n r there (rw like.roomy.bound fresh, rw like.roomy.predicates tt) in
          (k, q, here, record { key = keys_equal r.key q.key of.key; value = values_equal r.value q.value of.value; written = of.written; read = of.read; expires = of.expires });
      back = λ k q there fresh.
          let (n, r, here, visible, of) = clone_from m.weighs m.eq laws m.says is_key_clone is_value_clone saved put items first start second like.made_again now late_saved late_put k q there (rw (like.made_again.hides.bound, like.made_again.roomy.bound) fresh, rw (like.made_again.hides.predicates like.made_again.roomy.predicates) tt) in
          (n, r, here, record { key = sym (keys_equal r.key q.key of.key); value = sym (values_equal r.value q.value of.value); written = sym of.written; read = sym of.read; expires = sym of.expires });
      first = record { roomy = like.roomy; timely = timely_later saved now first late_saved like.written };
      second = record { roomy = (like.lasts [] (subst (λ xs. IsRoomyFor m.weighs xs start) (sym (append-nil items)) like.made_again.roomy)).1; timely = timely };
      valid = valid;
      other_valid = other_valid;
    }
      where
        timely_in : IsTimely saved first → IsTimely now second
        timely_in (inl none) = inl (ap (λ (x : Settings X W). x.expiry) like.made_again.hides.settings ∙ like.expiry ∙ none)
        timely_in (inr early) = inr (λ k q there.
            let (n, r, here, same) = written_in_first m.weighs m.eq laws m.says is_key_clone is_value_clone saved put items first start second like.made_again now late_saved late_put k q there in
            let before = early n r here in
            subst (λ (x : Instant). x.0 ≤ now) (sym same) (omega (arith, before, late_saved)))

        timely : IsTimely now second
        timely = timely_in like.written

  pub looks_answer_alike : (S : Type 0) (is_key_clone : K → K → Type 0) (is_value_clone : V → V → Type 0) → LooksAnswerAlike S m is_key_clone is_value_clone
  looks_answer_alike S is_key_clone is_value_clone keys_equal values_equal saved put now items first second after other_after start clock clock_after other other_clock calls others replies answers valid other_valid like late_saved late_put alike in_time made also_made answered also =
      let begun = begin_alike is_key_clone is_value_clone keys_equal values_equal saved put now items first.state start second.state valid other_valid like late_saved late_put in
      let same = steps_alike now first.state second.state first.write_list after.write_list second.write_list other_after.write_list made.steps also_made.steps begun
      (subst (λ ds. AllZip LookAlike (calls_of made.steps) ds) (sym also_made.is_run.calls_made) (subst (λ cs. AllZip LookAlike cs others) (sym made.is_run.calls_made) alike))
      (subst (AreInTime now) (sym made.is_run.calls_made) in_time)
      (subst (AllByRecursion IsAnswered) (sym made.is_run.replies_given) answered)
      (subst (AllByRecursion IsAnswered) (sym also_made.is_run.replies_given) also)
      made.listed also_made.listed in
      sym also_made.is_run.replies_given ∙ same ∙ made.is_run.replies_given
