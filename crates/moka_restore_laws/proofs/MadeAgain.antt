-- A cache made again of what was saved of another answers as that one does.
use Rattle.std.proofs.Common.{◌≡◌, refl, ℕ, ◌<◌, ◌≤◌, ◌==◌, Bool, true, false, List, [], ◌∷◌, Option, Some, None, ap, sym, subst, ◌∙◌, inl, inr, arith, true≢false}
use Rattle.std.specs.Prelude.{Contains}
use Rattle.std.specs.Cmp.{IsEquivalence}
use Rattle.std.specs.FinMap.{get}
use Rattle.std.specs.List.{IsDistinct, sum_by}
use Rattle.std.proofs.lemmas.List.Elements.{Contains-append_left, Contains-append_right, Contains-append_cases, Contains-push, Contains-push_cases}
use Rattle.std.proofs.lemmas.Option.{same_Some}
use Rattle.moka_records.specs.declared.records.Member.{Member}
use Rattle.moka_records.specs.declared.records.Operation.TheVariants.{Upsert}
use Rattle.moka_records.specs.declared.records.Record.{Record}
use Rattle.moka_parts.specs.Exact.{weight_of_records}
use Rattle.moka_records.specs.Records.{counted_of, is_member, numbers_of}
use Rattle.moka_parts.specs.Settling.{IsValid}
use Rattle.moka_parts.specs.State.{State, Settings}
use Rattle.moka_records.specs.Time.{has_passed, deadline, moment_of}
use Rattle.moka_parts.specs.Visibility.{is_expired, is_past_live, is_past_idle, is_written_before, is_read_before, IsVisible}
use Rattle.moka_laws.proofs.Contained.{not_both}
use Rattle.moka_records.proofs.Lookup.{record_of_key_found, present_key}
use Rattle.moka_records.proofs.Maps.{same_by_test, nothing_at}
use Rattle.moka_laws.proofs.OrderKept.{of_each}
use Rattle.moka_records.proofs.Values.{values-empty}
use Rattle.moka_laws.proofs.Surplus.{none_of_five}
use Rattle.moka_engine.specs.parts.Restored.{Restored}
use Rattle.moka_engine.specs.Snapshot.{Seen, IsListed, scene_of}
use Rattle.moka_cache.specs.Saves.{AreAsWeighed, AreSaved, IsOfItem, IsSaved, IsRestored, HasRoomFor, has_expired}
use Rattle.moka_cache.proofs.Membership.{none_waits}
use Rattle.moka_cache.specs.Visible.{ClonesAreSameKeys}
use Rattle.moka_restore_laws.specs.Again.{IsMadeAgain, AnswerAlike, MadeAgainAnswersAlike, EmptyHasRoom}
use Rattle.moka_restore_laws.proofs.Answering.{answers_alike}

-- ---- what has not expired had not expired before

pub not_passed_before : (o : Option ℕ) (t u : ℕ) → t ≤ u → has_passed o u ≡ false → has_passed o t ≡ false
not_passed_before None t u le none = refl
not_passed_before (Some d) t u le none = grind arith

-- the second record has clones of the key and the value of the first, its moments and its expiry
pub record IsCloneOf {K V : Type 0} (is_key_clone : K → K → Type 0) (is_value_clone : V → V → Type 0) (r q : Record K V) : Type 0 where
  pub key : is_key_clone r.key q.key
  pub value : is_value_clone r.value q.value
  pub written : q.written ≡ r.written
  pub read : q.read ≡ r.read
  pub expires : q.expires ≡ r.expires

-- the entry was saved of the record
record IsSavedOf {K V : Type 0} (is_key_clone : K → K → Type 0) (is_value_clone : V → V → Type 0) (r : Record K V) (item : Restored K V) : Type 0 where
  key : is_key_clone r.key item.key
  value : is_value_clone r.value item.value
  written : item.last_modified ≡ r.written
  read : item.last_accessed ≡ r.read
  expires : item.expires ≡ r.expires

module _ {K V X P W : Type 0} (weighs : W → K → V → ℕ → Type 0) (eq : K → K → Bool) (laws : IsEquivalence eq) (says : P → K → V → Bool → Type 0) (is_key_clone : K → K → Type 0) (is_value_clone : V → V → Type 0) where
  pub visible_before : (s : State K V X P W) (r : Record K V) (t u : ℕ) → t ≤ u → IsVisible says s r u → IsVisible says s r t
  visible_before s r t u le visible =
      let none = none_of_five (is_expired r u) (is_past_live s.settings r u) (is_past_idle s.settings r u) (is_written_before s.invalid_before r) (is_read_before s.invalid_before r) visible.0 in (
        rw (not_passed_before (moment_of r.expires) t u le none.0, not_passed_before (deadline s.settings.time_to_live r.written.0) t u le none.1, not_passed_before (deadline s.settings.time_to_idle r.read.0) t u le none.2, none.3, none.4) refl,
        visible.1,
      )

  -- it has not expired at a moment at which the record is visible
  unexpired : (first second : State K V X P W) (r : Record K V) (item : Restored K V) (t u : ℕ) → t ≤ u → second.settings.time_to_live ≡ first.settings.time_to_live → second.settings.time_to_idle ≡ first.settings.time_to_idle → IsSavedOf is_key_clone is_value_clone r item → IsVisible says first r u → has_expired second.settings t item ≡ false
  unexpired first second r item t u le live idle of visible =
      let none = none_of_five (is_expired r u) (is_past_live first.settings r u) (is_past_idle first.settings r u) (is_written_before first.invalid_before r) (is_read_before first.invalid_before r) visible.0 in
      rw (live, idle, of.written, of.read, of.expires, not_passed_before (moment_of r.expires) t u le none.0, not_passed_before (deadline first.settings.time_to_live r.written.0) t u le none.1, not_passed_before (deadline first.settings.time_to_idle r.read.0) t u le none.2) refl

  module _ (first : State K V X P W) (saved : ℕ) where
    abbrev Saved : List Member → List (Restored K V) → Type 0
    Saved members items = AreSaved says is_key_clone is_value_clone (scene_of first saved) members items

    saved_of : (a : Member) (seen : Seen K V) (item : Restored K V) → (listed : IsListed says (scene_of first saved) a seen) → IsSaved is_key_clone is_value_clone seen item → IsSavedOf is_key_clone is_value_clone listed.kept item
    saved_of a seen item listed is = record {
      key = subst (λ (x : Seen K V). is_key_clone x.key item.key) listed.same is.key;
      value = subst (λ (x : Seen K V). is_value_clone x.value item.value) listed.same is.value;
      written = is.written ∙ ap (λ (x : Seen K V). x.written) listed.same;
      read = is.read ∙ ap (λ (x : Seen K V). x.read) listed.same;
      expires = is.expires ∙ ap (λ (x : Seen K V). x.expires) listed.same;
    }

    -- a visible record of a member has its entry
    item_of : (n : ℕ) (r : Record K V) → get first.records n ≡ Some r → IsVisible says first r saved → (members : List Member) (items : List (Restored K V)) → is_member n members ≡ true → Saved members items → (item : Restored K V) × Contains items item × IsSavedOf is_key_clone is_value_clone r item
    item_of n r there visible [] items member all = absurd (true≢false (sym member))
    item_of n r there visible (a ∷ members) items member all = go (item_of n r there visible members) (a.number == n) refl all
      where
        later : (a.number == n) ≡ false → is_member n members ≡ true
        later other = rw other at member

        go : ((rest : List (Restored K V)) → is_member n members ≡ true → Saved members rest → (item : Restored K V) × Contains rest item × IsSavedOf is_key_clone is_value_clone r item) → (b : Bool) → (a.number == n) ≡ b → Saved (a ∷ members) items → (item : Restored K V) × Contains items item × IsSavedOf is_key_clone is_value_clone r item
        go next true same (inl (passed, rest)) = absurd (not_both says first r saved (passed r (ap (get first.records) (same_by_test a.number n same) ∙ there)) visible)
        go next true same (inr (seen, item, rest, is, listed, saved_item, more)) =
            let one : listed.kept ≡ r = same_Some listed.kept r (sym listed.there ∙ ap (get first.records) (same_by_test a.number n same) ∙ there) in
            (item, subst (λ xs. Contains xs item) (sym is) (Contains-append_left (item ∷ []) rest item (Contains-push [] item)), subst (λ x. IsSavedOf is_key_clone is_value_clone x item) one (saved_of a seen item listed saved_item))
        go next false other (inl (passed, rest)) = next items (later other) rest
        go next false other (inr (seen, item, rest, is, listed, saved_item, more)) =
            let found = next rest (later other) more in
            (found.0, subst (λ xs. Contains xs found.0) (sym is) (Contains-append_right (item ∷ []) rest found.0 found.1), found.2)

    -- an entry was saved of a record that was visible
    record_of : (members : List Member) (items : List (Restored K V)) (item : Restored K V) → Saved members items → Contains items item → (n : ℕ) × (r : Record K V) × (get first.records n ≡ Some r) × IsVisible says first r saved × IsSavedOf is_key_clone is_value_clone r item
    record_of [] items item none inside = (let below : (subst (λ xs. Contains xs item) none inside).0 < 0 = (subst (λ xs. Contains xs item) none inside).1 in absurd (omega arith))
    record_of (a ∷ members) items item (inl (passed, rest)) inside = record_of members items item rest inside
    record_of (a ∷ members) items item (inr (seen, own, rest, is, listed, saved_item, more)) inside = elim (Contains-append_cases (own ∷ []) rest item (subst (λ xs. Contains xs item) is inside)) [
      | inl only ↦ elim (Contains-push_cases [] own item only) [
        | inl none ↦ let below : none.0 < 0 = none.1 in absurd (omega arith)
        | inr e ↦ (a.number, listed.kept, listed.there, listed.shown, subst (IsSavedOf is_key_clone is_value_clone listed.kept) e (saved_of a seen own listed saved_item))
      ]
      | inr behind ↦ record_of members rest item more behind
    ]

  module _ (saved put : ℕ) (items : List (Restored K V)) (first start second : State K V X P W) (d : IsMadeAgain weighs eq says is_key_clone is_value_clone saved put items first start second) (now : ℕ) (late_saved : saved ≤ now) (late_put : put ≤ now) where
    live : second.settings.time_to_live ≡ first.settings.time_to_live
    live = ap (λ (x : Settings X W). x.time_to_live) d.hides.settings ∙ d.time_to_live

    idle : second.settings.time_to_idle ≡ first.settings.time_to_idle
    idle = ap (λ (x : Settings X W). x.time_to_idle) d.hides.settings ∙ d.time_to_idle

    alike : (r q : Record K V) (item : Restored K V) → IsSavedOf is_key_clone is_value_clone r item → IsOfItem item q → IsVisible says first r saved → (IsVisible says first r now → IsVisible says second q now) × (IsVisible says second q now → IsVisible says first r now)
    alike r q item of put_back visible =
        answers_alike X W says first second r q saved now live idle (d.hides.bound ∙ d.roomy.bound) (d.hides.predicates d.roomy.predicates)
        (put_back.written_is ∙ of.written) (put_back.read_is ∙ of.read) (put_back.expires_is ∙ of.expires) visible

    clone_of : (r q : Record K V) (item : Restored K V) → IsSavedOf is_key_clone is_value_clone r item → IsOfItem item q → IsCloneOf is_key_clone is_value_clone r q
    clone_of r q item of put_back = record {
      key = subst (is_key_clone r.key) (sym put_back.key_is) of.key;
      value = subst (is_value_clone r.value) (sym put_back.value_is) of.value;
      written = put_back.written_is ∙ of.written;
      read = put_back.read_is ∙ of.read;
      expires = put_back.expires_is ∙ of.expires;
    }

    -- each visible record of the first has its clone in the second
    pub cloned : (n : ℕ) (r : Record K V) → get first.records n ≡ Some r → IsVisible says first r now → (k : ℕ) × (q : Record K V) × (get second.records k ≡ Some q) × IsVisible says second q now × IsCloneOf is_key_clone is_value_clone r q
    cloned n r there visible =
        let seen = visible_before first r saved now late_saved visible in
        let (item, inside, of) = item_of first saved n r there seen first.access items (d.all_saved n r there) d.items_saved in
        let restored : IsRestored eq second item = of_each _ items (d.there d.roomy) item inside (unexpired first start r item put now late_put d.time_to_live d.time_to_idle of visible) in
        let place = record_of_key_found eq second.records item.key restored.kept restored.found in
        (place.0, restored.kept, place.1, (alike r restored.kept item of restored.of_item seen).0 visible, clone_of r restored.kept item of restored.of_item)

    -- and each of the second is the clone of one
    pub clone_from : (k : ℕ) (q : Record K V) → get second.records k ≡ Some q → IsVisible says second q now → (n : ℕ) × (r : Record K V) × (get first.records n ≡ Some r) × IsVisible says first r now × IsCloneOf is_key_clone is_value_clone r q
    clone_from k q there visible = elim (d.adds k q there) [
      | inl (r, old, same) ↦ absurd (nothing_at k r (ap (λ records. get records k) (sym d.no_records) ∙ old))
      | inr (item, inside, put_back) ↦
          let (n, r, here, seen, of) = record_of first saved first.access items item d.items_saved inside in
          (n, r, here, (alike r q item of put_back seen).1 visible, clone_of r q item of put_back)
    ]

    -- the moment of writing of a record in the second is one of the first
    pub written_in_first : (k : ℕ) (q : Record K V) → get second.records k ≡ Some q → (n : ℕ) × (r : Record K V) × (get first.records n ≡ Some r) × (q.written ≡ r.written)
    written_in_first k q there = elim (d.adds k q there) [
      | inl (r, old, same) ↦ absurd (nothing_at k r (ap (λ records. get records k) (sym d.no_records) ∙ old))
      | inr (item, inside, put_back) ↦ let (n, r, here, seen, of) = record_of first saved first.access items item d.items_saved inside in (n, r, here, put_back.written_is ∙ of.written)
    ]

  answer_alike : ClonesAreSameKeys eq is_key_clone → (saved put : ℕ) (items : List (Restored K V)) (first start second : State K V X P W) → IsValid eq first → IsValid eq second → IsMadeAgain weighs eq says is_key_clone is_value_clone saved put items first start second →
      (key : K) (now : ℕ) → saved ≤ now → put ≤ now → AnswerAlike eq says is_value_clone first second key now
  answer_alike same saved put items first start second valid_first valid_second d key now late_saved late_put = record {
    forth = λ r seen.
        let at = record_of_key_found eq first.records key r seen.0 in
        let (k, q, there, visible, of) = cloned saved put items first start second d now late_saved late_put at.0 r at.1 seen.1 in
        (q, (present_key eq second.records key laws valid_second.numbered.numbered.one_each k q there (laws.congr key r.key q.key at.2 ∙ same r.key q.key of.key), visible), of.value);
    back = λ q seen.
        let at = record_of_key_found eq second.records key q seen.0 in
        let (n, r, there, visible, of) = clone_from saved put items first start second d now late_saved late_put at.0 q at.1 seen.1 in
        (r, (present_key eq first.records key laws valid_first.numbered.numbered.one_each n r there (laws.congr key q.key r.key at.2 ∙ laws.symm q.key r.key ∙ same r.key q.key of.key), visible), of.value);
  }

pub made_again_answers_alike : {K V P W : Type 0} (X : Type 0) (weighs : W → K → V → ℕ → Type 0) (eq : K → K → Bool) → IsEquivalence eq → (says : P → K → V → Bool → Type 0) (is_key_clone : K → K → Type 0) (is_value_clone : V → V → Type 0) → MadeAgainAnswersAlike X weighs eq says is_key_clone is_value_clone
made_again_answers_alike X weighs eq laws says is_key_clone is_value_clone = answer_alike {X = X} weighs eq laws says is_key_clone is_value_clone

-- ---- room in an empty cache

no_members_once : IsDistinct (◌==◌) (numbers_of [])
unfolding IsDistinct
no_members_once = tt

pub empty_has_room : {K V W : Type 0} (X P : Type 0) (weighs : W → K → V → ℕ → Type 0) → EmptyHasRoom X P weighs
empty_has_room {K} {V} {W} X P weighs items start capacity total none bound predicates is enabled weigh fits = record {
  room = subst (λ o. HasRoomFor weighs o items start) (sym is) (enabled, weighed, (total, weigh, omega (arith, light, fits)));
  bound = bound;
  predicates = predicates;
}
  where
    light : weight_of_records start.records ≡ 0
    light = ap weight_of_records none.records ∙ ap (sum_by (λ (r : Record K V). r.weight)) values-empty

    weighed : AreAsWeighed start
    weighed = record {
      once = subst (λ members. IsDistinct (◌==◌) (numbers_of members)) (sym none.access) no_members_once;
      counted = λ n w counted. (let nobody : None ≡ Some w = ap (counted_of n) (sym none.access) ∙ counted in absurd (cc));
      waiting = λ n g w hash waits. absurd (none_waits start none.outstanding none.writes (Upsert n g w hash) waits);
    }
