-- What every step keeps is kept by none and by one step after another.
use Rattle.std.proofs.Common.{◌≡◌, ℕ, ◌≤◌, true, List, Option, Some, None, is_some, ap, sym, subst, ◌∙◌, inl, refl, arith, if◌then◌else◌, ◌==◌}
use Rattle.std.proofs.lemmas.Option.{same_Some}
use Rattle.std.proofs.lemmas.Bool.{cond-false, ne_eqb}
use Rattle.std.specs.FinMap.{FinMap, get, insert, remove}
use Rattle.std.specs.Ordering.{nat_cmp}
use Rattle.moka_records.specs.declared.records.Member.{Member}
use Rattle.moka_records.specs.declared.records.Record.{Record}
use Rattle.moka_records.specs.Records.{Records, counted_of, is_member, without_member, without_number}
use Rattle.moka_records.specs.Time.{moment_of}
use Rattle.moka_records.proofs.AccessList.{counted_taken_out}
use Rattle.moka_store.specs.Store.{Kept, cursor_past, with_timer}
use Rattle.moka_store.proofs.Gets.{after_remove, get-past_insert, get-past_remove, get-inserted}
use Rattle.moka_maintenance.specs.Expel.{without_record}
use Rattle.moka_parts.specs.Maintenance.{Choice}
use Rattle.moka_maintenance.specs.Steps.{Stock, stock_in, after_steps}
use Rattle.moka_maintenance.specs.Timers.{AreOnTime, KeepsTimers, SetsTimers}
use Rattle.moka_maintenance.specs.Upkeep.{Upkeep, SetsNoTimer, UpkeepAt}
use Rattle.moka_maintenance.proofs.Placed.{none_inserted, places-gone, places-on, rows-gone, rows-on}
use Rattle.moka_maintenance.proofs.Stepped.{still_there}
use Rattle.moka_maintenance.proofs.Timing.{keeps-none, keeps-on, member-was, sets-at, sets-outside, still-on_time, timer-past, timer-set}

module _ {K V S : Type 0} where
  -- nothing is done
  pub upkeep-none : (k : Kept K V S) → Upkeep k k
  upkeep-none k = record { timers = keeps-none k; places = λ n p at. at; rows = λ n p at gone. gone; room = omega arith }

  -- one step and then another
  pub upkeep-on : (a b c : Kept K V S) → Upkeep a b → Upkeep b c → Upkeep a c
  upkeep-on a b c h j = record {
    timers = keeps-on a b c h.timers j.timers;
    places = places-on a b c h.places j.places;
    rows = rows-on a b c j.places h.rows j.rows;
    room = (let before = h.room in let after = j.room in omega arith);
  }

  pub untimed-none : (k : Kept K V S) → SetsNoTimer k k
  untimed-none k = record { keeps = upkeep-none k; fewer = λ n t there. there }

  pub untimed-on : (a b c : Kept K V S) → SetsNoTimer a b → SetsNoTimer b c → SetsNoTimer a c
  untimed-on a b c h j = record { keeps = upkeep-on a b c h.keeps j.keeps; fewer = λ n t there. h.fewer n t (j.fewer n t there) }

  -- ---- one step

  module _ (old : Kept K V S) {records : Records K V} {access : List Member} {written : List ℕ} {timers : FinMap nat_cmp ℕ} {cursor : Option ℕ} where
    -- rows stay, and so does each record that has one
    pub upkeep-changed : (old.timed ≡ true → SetsTimers old (record old { records = records; access = access; written = written; timers = timers; cursor = cursor })) → ((n : ℕ) → get records n ≡ None → get old.records n ≡ None) → Upkeep old (record old { records = records; access = access; written = written; timers = timers; cursor = cursor })
    upkeep-changed set rows = record { timers = record { ordered = refl; timed = refl; hasher = refl; set = set }; places = λ n p at. at; rows = λ n p at gone. rows n gone; room = omega arith }

  -- members move, and all else stays
  pub untimed-moved : (old new : Kept K V S) {xs : List Member} {ns : List ℕ} {cursor : Option ℕ} → new ≡ record old { access = xs; written = ns; cursor = cursor } → ((k : ℕ) → counted_of k new.access ≡ counted_of k old.access) → SetsNoTimer old new
  untimed-moved old new moved counted =
      subst (λ (k : Kept K V S). SetsNoTimer old k) (sym moved)
      record {
        keeps = upkeep-changed old (λ _ n r there is_in applied. inl (there, sym (ap is_some (counted n)) ∙ ap (λ (k : Kept K V S). is_member n k.access) moved ∙ is_in, refl)) (λ n gone. gone);
        fewer = λ n t there. there;
      }

  -- the timer of a number is set to its record's expiry
  pub upkeep-timed : (old new : Kept K V S) (n : ℕ) (r : Record K V) → get old.records n ≡ Some r → new ≡ record old { timers = if old.timed then with_timer old.timers n (moment_of r.expires) else old.timers } → Upkeep old new
  upkeep-timed old new n r found set =
      let timed = record old { timers = if old.timed then with_timer old.timers n (moment_of r.expires) else old.timers } in
      subst (λ (k : Kept K V S). Upkeep old k) (sym set)
      (upkeep-changed old
      (λ kept. sets-at old timed n (λ k other. refl) (λ k other is_in. is_in) (timer-past old.timed old.timers n (moment_of r.expires))
      (λ p there is_in. timer-set old.timed old.timers n (moment_of r.expires) kept ∙ ap (λ (x : Record K V). moment_of x.expires) (same_Some r p (sym found ∙ there)))) (λ n gone. gone))

  -- a record outside the access list changes
  pub upkeep-outside : (old new : Kept K V S) (n : ℕ) (r : Record K V) → counted_of n old.access ≡ None → new ≡ record old { records = insert old.records n r } → Upkeep old new
  upkeep-outside old new n r out step =
      let changed = record old { records = insert old.records n r } in
      subst (λ (k : Kept K V S). Upkeep old k) (sym step)
      (upkeep-changed old (λ _. sets-outside old changed n (get-past_insert old.records n r) (λ k other is_in. is_in) (λ k other. refl) out) (none_inserted old.records n r))

  -- a number leaves both orders and the timers, and perhaps its row goes
  pub upkeep-left : (old new : Kept K V S) (n room : ℕ) (places : FinMap nat_cmp ℕ) → new ≡ record old { access = without_member n old.access; written = without_number n old.written; timers = remove old.timers n; cursor = cursor_past n old.written old.cursor; places = places; room = room } → ((k p : ℕ) → get places k ≡ Some p → get old.places k ≡ Some p) → old.room ≤ room → Upkeep old new
  upkeep-left old new n room places step fewer more =
      let left = record old { access = without_member n old.access; timers = remove old.timers n } in
      subst (λ (k : Kept K V S). Upkeep old k) (sym step)
      record {
        timers = record {
          ordered = refl;
          timed = refl;
          hasher = refl;
          set = λ _. sets-outside old left n (λ k other. refl) (λ k other is_in. member-was n k old.access is_in) (get-past_remove old.timers n) (counted_taken_out n old.access);
        };
        places = fewer;
        rows = λ k p at gone. gone;
        room = more;
      }

  -- a record leaves
  pub untimed-gone : (old : Kept K V S) (n room : ℕ) → old.room ≤ room → SetsNoTimer old (without_record n room old)
  untimed-gone old n room more =
      let new = without_record n room old in
      record {
        keeps = record {
          timers = record {
            ordered = refl;
            timed = refl;
            hasher = refl;
            set = λ _. sets-outside old new n (get-past_remove old.records n) (λ k other is_in. member-was n k old.access is_in) (get-past_remove old.timers n) (counted_taken_out n old.access);
          };
          places = places-gone old new n refl;
          rows = rows-gone old new n refl refl;
          room = more;
        };
        fewer = λ k t there. (after_remove old.timers n k t there).1;
      }

  -- a record has seen an operation, and its member goes to the back with another weight
  module _ (old mid new : Kept K V S) (n generation weight : ℕ) (r : Record K V) (seen : mid ≡ record old { records = insert old.records n (record r { applied = generation }) }) where
    pub entered-upkeep : (last : Kept K V S) {xs : List Member} {ns : List ℕ} {cursor : Option ℕ} → new ≡ record mid { access = xs; written = ns; cursor = cursor } → ((k : ℕ) → counted_of k new.access ≡ (if k == n then Some weight else counted_of k mid.access))
        → ((p : Record K V) → get new.records n ≡ Some p → last ≡ record new { timers = if new.timed then with_timer new.timers n (moment_of p.expires) else new.timers }) → Upkeep old last
    entered-upkeep last {xs} {ns} {cursor} step counted set =
        let changed : Record K V = record r { applied = generation } in
        let listed : Kept K V S = record old { records = insert old.records n changed; access = xs; written = ns; cursor = cursor } in
        let timed : Kept K V S = record listed { timers = if old.timed then with_timer old.timers n (moment_of r.expires) else old.timers } in
        let there : new ≡ listed = step ∙ ap (λ (k : Kept K V S). record k { access = xs; written = ns; cursor = cursor }) seen in
        let found : get new.records n ≡ Some changed = ap (λ (k : Kept K V S). get k.records n) there ∙ get-inserted old.records n changed in
        subst (λ (k : Kept K V S). Upkeep old k) (sym (set changed found ∙ ap (λ (k : Kept K V S). record k { timers = if k.timed then with_timer k.timers n (moment_of r.expires) else k.timers }) there))
        (upkeep-changed old
        (λ kept. sets-at old timed n (get-past_insert old.records n changed)
        (λ k other is_in.
        (let same : counted_of k xs ≡ counted_of k old.access = ap (λ (s : Kept K V S). counted_of k s.access) (sym step) ∙ counted k ∙ cond-false (k == n) (Some weight) (counted_of k mid.access) (ne_eqb k n other) ∙ ap (λ (s : Kept K V S). counted_of k s.access) seen in
        sym (ap is_some same) ∙ is_in))
        (timer-past old.timed old.timers n (moment_of r.expires))
        (λ p at is_in. timer-set old.timed old.timers n (moment_of r.expires) kept ∙ ap (λ (x : Record K V). moment_of x.expires) (same_Some changed p (sym (get-inserted old.records n changed) ∙ at))))
        (none_inserted old.records n changed))

  -- ---- no timer is due

  -- nor is one where none is new
  pub still-upkept : (now : ℕ) (a b c : Kept K V S) → SetsNoTimer b c → UpkeepAt now a b → UpkeepAt now a c
  still-upkept now a b c h j = record { upkeep = upkeep-on a b c j.upkeep h.keeps; none = λ n t there. j.none n t (h.fewer n t there) }

  -- a step and then one after which none is due
  pub upkept-on : (now : ℕ) (a b c : Kept K V S) → Upkeep a b → UpkeepAt now b c → UpkeepAt now a c
  upkept-on now a b c h j = record { upkeep = upkeep-on a b c h j.upkeep; none = j.none }

  -- ---- steps of a run

  -- timers that were on time are so after them
  pub upkept-on_time : (old new : Kept K V S) → KeepsTimers old new → (xs : List Choice) → stock_in new ≡ after_steps (stock_in old) xs → AreOnTime old → AreOnTime new
  upkept-on_time old new kept xs led =
      still-on_time old new kept (λ n r there. still_there (stock_in old) xs n r (sym (ap (λ (s : Stock K V). get s.contents.records n) led) ∙ there))
