-- What becomes of an upsert, by its fate.
use Rattle.std.proofs.Common.{◌≡◌, refl, ℕ, ◌<◌, ◌≤◌, Bool, true, false, List, [], ◌∷◌, ◌++◌, Option, Some, None, ◌⊎◌, inl, inr, is_some, nat_lt, ap, sym, ◌∙◌, subst, arith, if◌then◌else◌, take}
use Rattle.std.specs.Option.{option_map_or}
use Rattle.std.proofs.lemmas.Bool.{cond-false, eq-eqb}
use Rattle.std.specs.FinMap.{get, remove, insert}
use Rattle.moka_parts.specs.declared.notification.RemovalCause.{RemovalCause}
use Rattle.moka_parts.specs.declared.notification.RemovalCause.TheVariants.{Size}
use Rattle.moka_types.specs.declared.policy.EvictionPolicy.{EvictionPolicy}
use Rattle.moka_types.specs.declared.policy.EvictionPolicy.TheVariants.{TinyLfu}
use Rattle.moka_records.specs.declared.records.Record.{Record}
use Rattle.moka_records.specs.declared.records.Member.{Member}
use Rattle.moka_records.specs.declared.records.Operation.TheVariants.{Removal, Upsert}
use Rattle.moka_records.specs.Records.{counted_of, entered_by, has_room, is_listed, is_member, number_to_back, to_back, total_weight, without_member, without_number, member, without_numbers, IsListOf}
use Rattle.moka_parts.specs.State.{Contents}
use Rattle.moka_parts.specs.Candidates.{are_unsettled, is_preferred, victims_for}
use Rattle.moka_parts.specs.Writes.{AreMoves, Fate, Ignored, Overtaken, Counted, Admitted, TooHeavy, Preferred, Refused, is_compared, fate, fate_of_record, fate_of_newcomer, fate_by_policy, fate_by_frequency, after_fate, left_by_fate, left_by_rejection, entered, rejected, with_applied, left_with, with_moved, without_victims}
use Rattle.moka_parts.specs.Maintenance.{Removes, after_choice}
use Rattle.moka_parts.specs.Order.{written_after_fate}
use Rattle.moka_records.proofs.AccessList.{absent_taken_out, counted-all_to_back}
use Rattle.moka_parts.specs.Frequency.{SketchTable}
use Rattle.moka_store.specs.Store.{Kept}
use Rattle.moka_store.proofs.Gets.{none_by_test, some_is}
use Rattle.moka_store.proofs.Members.{absent_to_back}
use Rattle.moka_maintenance.specs.declared.admission.PlacedUpsert.{PlacedUpsert}
use Rattle.moka_maintenance.specs.declared.bounds.Bounds.{Bounds}
use Rattle.moka_maintenance.specs.Handles.{IsOutside}
use Rattle.moka_maintenance.specs.Steps.{Told, contents_in, contents_with}
use Rattle.moka_maintenance.specs.Admission.{AppliesUpsert, IsApplied, IsCompared}
use Rattle.moka_maintenance.specs.Upkeep.{Upkeep}
use Rattle.moka_maintenance.specs.Choice.{Chooses}
use Rattle.moka_maintenance.proofs.Told.{told-none}
use Rattle.moka_maintenance.proofs.Upkeep.{untimed-moved}

module _ {K V : Type 0} (capacity : Option ℕ) (policy : EvictionPolicy) (c : Contents K V) (weight hash : ℕ) where
  -- a newcomer enters where there is room for it
  pub newcomer-fits : has_room capacity (total_weight c.access) weight ≡ true → fate_of_newcomer capacity policy c weight hash ≡ Admitted
  newcomer-fits fits = ap (λ b. if b then Admitted else (if has_room capacity 0 weight then fate_by_policy policy c weight hash else TooHeavy)) fits

  module _ (full : has_room capacity (total_weight c.access) weight ≡ false) where
    without_room : fate_of_newcomer capacity policy c weight hash ≡ (if has_room capacity 0 weight then fate_by_policy policy c weight hash else TooHeavy)
    without_room = ap (λ b. if b then Admitted else (if has_room capacity 0 weight then fate_by_policy policy c weight hash else TooHeavy)) full

    -- it is rejected where it alone is too heavy
    pub newcomer-heavy : has_room capacity 0 weight ≡ false → fate_of_newcomer capacity policy c weight hash ≡ TooHeavy
    newcomer-heavy heavy = without_room ∙ ap (λ b. if b then fate_by_policy policy c weight hash else TooHeavy) heavy

    -- else the policy decides
    pub newcomer-by_policy : has_room capacity 0 weight ≡ true → (p : EvictionPolicy) → policy ≡ p → fate_of_newcomer capacity policy c weight hash ≡ fate_by_policy p c weight hash
    newcomer-by_policy fits p is = without_room ∙ ap (λ b. if b then fate_by_policy policy c weight hash else TooHeavy) fits ∙ ap (λ p. fate_by_policy p c weight hash) is

-- TinyLFU has compared
compared : {K V : Type 0} (c : Contents K V) (hash : ℕ) (o : Option (List Member)) → is_compared (fate_by_frequency c hash o) ≡ true
compared c hash None = refl
compared c hash (Some victims) = go (is_preferred c hash victims)
  where
    go : (b : Bool) → is_compared (if b then Preferred victims else Refused) ≡ true
    go true = refl
    go false = refl

-- a removal of a number
pub applied-removal : {K V L : Type 0} (tells : L → K → V → RemovalCause → L → Type 0) (capacity : Option ℕ) (policy : EvictionPolicy) (ordered : Bool) (c d : Contents K V) (ns ms : List ℕ) (number generation : ℕ) (l : Option L) →
    d ≡ record c { access = without_member number c.access } → (ordered ≡ true → ms ≡ without_number number ns) → IsApplied tells capacity policy ordered c d ns ms (Removal number generation) l l
applied-removal tells capacity policy ordered c d ns ms number generation l led listed = record { moved = []; may = tt; led = led; listed = listed; told = told-none tells l }

module _ {K V L : Type 0} (tells : L → K → V → RemovalCause → L → Type 0) (capacity : Option ℕ) (policy : EvictionPolicy) (ordered : Bool) (c : Contents K V) (number generation weight hash : ℕ) where
  -- a record that left the map
  pub applied-absent : (ns : List ℕ) (l : Option L) → get c.records number ≡ None → IsApplied tells capacity policy ordered c c ns ns (Upsert number generation weight hash) l l
  applied-absent ns l none = record {
    moved = [];
    may = tt;
    led = sym (ap (λ o. option_map_or (λ r. after_fate c number generation weight [] r (fate capacity policy c (Upsert number generation weight hash))) o c) none);
    listed = λ kept. sym (ap (λ o. written_after_fate true number ns (option_map_or (fate_of_record capacity policy c number generation weight hash) o Ignored)) none);
    told = subst (λ ns. Told tells l ns l) (sym (ap (λ o. option_map_or (λ r. left_by_fate c generation r (fate capacity policy c (Upsert number generation weight hash))) o []) none)) (told-none tells l);
  }

  module _ (d : Contents K V) (ns ms : List ℕ) (r : Record K V) (found : get c.records number ≡ Some r) (l m : Option L) where
    moves_by_fate : (moved : List ℕ) (f : Fate) → fate capacity policy c (Upsert number generation weight hash) ≡ f → (moved ≡ []) ⊎ ((is_compared f ≡ true) × (are_unsettled c.records moved ≡ true)) → AreMoves capacity policy c (Upsert number generation weight hash) moved
    moves_by_fate [] f is may = tt
    moves_by_fate (n ∷ moved) f is (inl none) = cc
    moves_by_fate (n ∷ moved) f is (inr may) = (ap is_compared is ∙ may.0, may.1)

    -- a record with that fate
    by_fate : (moved : List ℕ) (f : Fate) → fate_of_record capacity policy c number generation weight hash r ≡ f → (moved ≡ []) ⊎ ((is_compared f ≡ true) × (are_unsettled c.records moved ≡ true)) → d ≡ after_fate c number generation weight moved r f → (ordered ≡ true → ms ≡ written_after_fate true number ns f) → Told tells l (left_by_fate c generation r f) m → IsApplied tells capacity policy ordered c d ns ms (Upsert number generation weight hash) l m
    by_fate moved f is may led listed told =
        let is' : fate capacity policy c (Upsert number generation weight hash) ≡ f = ap (λ o. option_map_or (fate_of_record capacity policy c number generation weight hash) o Ignored) found ∙ is in
        record {
          moved = moved;
          may = moves_by_fate moved f is' may;
          led = led ∙ sym (ap (λ o. option_map_or (λ r. after_fate c number generation weight moved r (fate capacity policy c (Upsert number generation weight hash))) o c) found ∙ ap (after_fate c number generation weight moved r) is');
          listed = λ kept. listed kept ∙ sym (ap (written_after_fate true number ns) is');
          told = subst (λ ns. Told tells l ns m) (sym (ap (λ o. option_map_or (λ r. left_by_fate c generation r (fate capacity policy c (Upsert number generation weight hash))) o []) found ∙ ap (left_by_fate c generation r) is')) told;
        }

    -- the fates of an upsert that is newer than all that its record has seen, and of another
    abbrev newer : Bool → Fate
    newer is = if is then Counted else fate_of_newcomer capacity policy c weight hash

    abbrev older : Bool → Fate
    older is = if is then Overtaken else Ignored

    fate_newer : r.applied < generation → fate_of_record capacity policy c number generation weight hash r ≡ newer (is_member number c.access)
    fate_newer new = let lt : nat_lt r.applied generation ≡ true = grind (arith, new) in ap (λ b. if b then newer (is_member number c.access) else older (is_member number c.access)) lt

    fate_older : generation ≤ r.applied → fate_of_record capacity policy c number generation weight hash r ≡ older (is_member number c.access)
    fate_older seen = let lt : nat_lt r.applied generation ≡ false = grind (arith, seen) in ap (λ b. if b then newer (is_member number c.access) else older (is_member number c.access)) lt

    none : m ≡ l → Told {K = K} {V = V} tells l [] m
    none same = subst (λ k. Told {K = K} {V = V} tells l [] k) (sym same) (told-none tells l)

    -- it saw an operation as new
    pub applied-overtaken : generation ≤ r.applied → d ≡ record c { access = to_back number c.access } → (ordered ≡ true → ms ≡ number_to_back number ns) → (ordered ≡ true → IsListOf c.access ns) → m ≡ l → IsApplied tells capacity policy ordered c d ns ms (Upsert number generation weight hash) l m
    applied-overtaken seen led listed order same = go (is_member number c.access) refl
      where
        unmoved : ordered ≡ true → is_member number c.access ≡ false → number_to_back number ns ≡ ns
        unmoved kept out = cond-false (is_listed number ns) (without_number number ns ++ number ∷ []) ns ((order kept).1 number ∙ out)

        go : (b : Bool) → is_member number c.access ≡ b → IsApplied tells capacity policy ordered c d ns ms (Upsert number generation weight hash) l m
        go true there = by_fate [] Overtaken (fate_older seen ∙ ap older there) (inl refl) led listed (none same)
        go false there = by_fate [] Ignored (fate_older seen ∙ ap older there) (inl refl) (led ∙ ap (λ xs. record c { access = xs }) (absent_to_back number c.access (none_by_test (counted_of number c.access) there))) (λ kept. listed kept ∙ unmoved kept there) (none same)

    -- its member goes to the back with the new weight
    pub applied-counted : r.applied < generation → is_member number c.access ≡ true → d ≡ entered number generation weight r (record c { access = without_member number c.access }) → (ordered ≡ true → ms ≡ number_to_back number ns) → m ≡ l → IsApplied tells capacity policy ordered c d ns ms (Upsert number generation weight hash) l m
    applied-counted new there led listed same = by_fate [] Counted (fate_newer new ∙ ap newer there) (inl refl) led listed (none same)

    -- it is outside the list
    applied-newcomer : r.applied < generation → is_member number c.access ≡ false → (moved : List ℕ) (f : Fate) → fate_of_newcomer capacity policy c weight hash ≡ f → (moved ≡ []) ⊎ ((is_compared f ≡ true) × (are_unsettled c.records moved ≡ true)) → d ≡ after_fate c number generation weight moved r f → (ordered ≡ true → ms ≡ written_after_fate true number ns f) → Told tells l (left_by_fate c generation r f) m → IsApplied tells capacity policy ordered c d ns ms (Upsert number generation weight hash) l m
    applied-newcomer new apart moved f is = by_fate moved f (fate_newer new ∙ ap newer apart ∙ is)

-- an upsert, which is no removal
pub applies-upsert : {K V S L : Type 0} (tells : L → K → V → RemovalCause → L → Type 0) (bounds : Bounds) (sketch : Option SketchTable) (old new : Kept K V S) (u : PlacedUpsert) (l m : Option L)
    → IsApplied tells bounds.capacity bounds.policy old.ordered (contents_with sketch old) (contents_with sketch new) old.written new.written (Upsert u.handle.number u.generation u.weight u.hash) l m
    → Upkeep old new → AppliesUpsert tells bounds sketch old new u l m
applies-upsert tells bounds sketch old new u l m applied upkeep = record { applied = applied; upkeep = upkeep; rows = λ n p at gone. (upkeep.rows n p at gone, λ generation is. cc) }

-- an upsert of a record outside the access list, in a store
module _ {K V S L : Type 0} (tells : L → K → V → RemovalCause → L → Type 0) (bounds : Bounds) (sketch : Option SketchTable) (old new : Kept K V S) (u : PlacedUpsert) (l m : Option L) (outside : IsOutside old u.handle) (newer : (r : Record K V) → get old.records u.handle.number ≡ Some r → r.applied < u.generation) (upkeep : Upkeep old new) where
  there : (r : Record K V) × (get old.records u.handle.number ≡ Some r)
  there = some_is (get old.records u.handle.number) outside.handle.stored

  applies : (moved : List ℕ) (f : Fate) → fate_of_newcomer bounds.capacity bounds.policy (contents_with sketch old) u.weight u.hash ≡ f → (moved ≡ []) ⊎ ((is_compared f ≡ true) × (are_unsettled old.records moved ≡ true)) → contents_with sketch new ≡ after_fate (contents_with sketch old) u.handle.number u.generation u.weight moved there.0 f
      → (old.ordered ≡ true → new.written ≡ written_after_fate true u.handle.number old.written f) → Told tells l (left_by_fate (contents_with sketch old) u.generation there.0 f) m → AppliesUpsert tells bounds sketch old new u l m
  applies moved f is may led listed told =
      applies-upsert tells bounds sketch old new u l m (applied-newcomer tells bounds.capacity bounds.policy old.ordered (contents_with sketch old) u.handle.number u.generation u.weight u.hash (contents_with sketch new) old.written new.written there.0 there.1 l m (newer there.0 there.1) (ap is_some outside.apart) moved f is may led listed told) upkeep

  -- it enters
  pub applies-admitted : fate_of_newcomer bounds.capacity bounds.policy (contents_with sketch old) u.weight u.hash ≡ Admitted → ((r : Record K V) → get old.records u.handle.number ≡ Some r → contents_in new ≡ entered u.handle.number u.generation u.weight r (contents_in old)) → new.written ≡ entered_by old.ordered u.handle.number old.written → m ≡ l → AppliesUpsert tells bounds sketch old new u l m
  applies-admitted is step written same = applies [] Admitted is (inl refl) (ap (λ (c : Contents K V). record c { sketch = sketch }) (step there.0 there.1)) (λ kept. written ∙ ap (λ b. entered_by b u.handle.number old.written) kept) (subst (λ k. Told {K = K} {V = V} tells l [] k) (sym same) (told-none tells l))

  -- it is rejected
  pub applies-rejected : fate_of_newcomer bounds.capacity bounds.policy (contents_with sketch old) u.weight u.hash ≡ TooHeavy → ((r : Record K V) → get old.records u.handle.number ≡ Some r → contents_in new ≡ rejected u.handle.number u.generation r (contents_in old)) → (old.ordered ≡ true → new.written ≡ old.written) → ((r : Record K V) → get old.records u.handle.number ≡ Some r → Told tells l (left_by_rejection u.generation r) m) → AppliesUpsert tells bounds sketch old new u l m
  applies-rejected is step listed told = applies [] TooHeavy is (inl refl) (ap (λ (c : Contents K V). record c { sketch = sketch }) (step there.0 there.1)) listed (told there.0 there.1)

  -- TinyLFU has compared it
  pub applies-compared : fate_of_newcomer bounds.capacity bounds.policy (contents_with sketch old) u.weight u.hash ≡ fate_by_policy TinyLfu (contents_with sketch old) u.weight u.hash → ((r : Record K V) → get old.records u.handle.number ≡ Some r → IsCompared tells old.ordered (contents_with sketch old) (contents_with sketch new) old.written new.written u.handle.number u.generation u.weight u.hash r l m) → AppliesUpsert tells bounds sketch old new u l m
  applies-compared is all = (let by = all there.0 there.1 in let victims = victims_for (contents_with sketch old) u.weight in applies by.moved (fate_by_frequency (contents_with sketch old) u.hash victims) is (inr (compared (contents_with sketch old) u.hash victims, by.unsettled)) by.led by.listed by.told)

-- a record has seen an operation, and then its member goes to the back with another weight
pub entered-recounted : {K V S : Type 0} (old mid new : Kept K V S) (n generation weight : ℕ) (r : Record K V) → mid ≡ record old { records = insert old.records n (record r { applied = generation }) } → (sketch : Option SketchTable) → contents_with sketch new ≡ contents_with sketch (record mid { access = without_member n mid.access ++ member n weight ∷ [] }) → contents_with sketch new ≡ entered n generation weight r (record (contents_with sketch old) { access = without_member n old.access })
entered-recounted {K} {V} {S} old mid new n generation weight r seen sketch step = step ∙ ap (λ (m : Kept K V S). contents_with sketch (record m { access = without_member n m.access ++ member n weight ∷ [] })) seen

-- a record that no list has leaves as one that is rejected
pub rejected-gone : {K V : Type 0} (c d : Contents K V) (number generation : ℕ) (r : Record K V) → r.generation ≡ generation → counted_of number c.access ≡ None → d ≡ after_choice c (Removes number Size) → d ≡ rejected number generation r c
rejected-gone c d number generation r same apart led =
    led ∙ ap (λ xs. record c { records = remove c.records number; access = xs }) (absent_taken_out number c.access apart)
    ∙ sym (ap (λ b. record c { records = if b then remove c.records number else with_applied c.records number r generation }) (eq-eqb r.generation generation same))

-- ---- a candidate that was compared enters in its victims' place, or is rejected

-- what the comparison moves keeps its timer and its row
pub upkeep-chosen : {K V S : Type 0} (sketch : Option SketchTable) (old mid : Kept K V S) (weight hash victims : ℕ) {preferred : Bool} → Chooses (contents_with sketch old) weight hash mid.access victims preferred → mid ≡ record old { access = mid.access } → Upkeep old mid
upkeep-chosen sketch old mid weight hash victims chosen rest = (untimed-moved old mid rest (λ k. ap (counted_of k) chosen.order ∙ counted-all_to_back chosen.moved k old.access)).keeps

module _ {K V S : Type 0} (sketch : Option SketchTable) (old mid : Kept K V S) (number generation weight hash victims : ℕ) {preferred : Bool} (chosen : Chooses (contents_with sketch old) weight hash mid.access victims preferred) (rest : mid ≡ record old { access = mid.access }) where
  -- a record outside the access list stays outside
  pub still_apart : counted_of number old.access ≡ None → counted_of number mid.access ≡ None
  still_apart apart = ap (counted_of number) chosen.order ∙ counted-all_to_back chosen.moved number old.access ∙ apart

  moved_is : contents_with sketch mid ≡ with_moved chosen.moved (contents_with sketch old)
  moved_is = ap (contents_with sketch) rest ∙ ap (λ xs. record (contents_with sketch old) { access = xs }) chosen.order

  fate_is : (b : Bool) → preferred ≡ b → fate_by_frequency (contents_with sketch old) hash (victims_for (contents_with sketch old) weight) ≡ (if b then Preferred (take victims mid.access) else Refused)
  fate_is b is = chosen.fate ∙ ap (λ b. if b then Preferred (take victims mid.access) else Refused) is

  module _ {L : Type 0} (tells : L → K → V → RemovalCause → L → Type 0) (r : Record K V) (new : Kept K V S) (l m : Option L) where
    compared_by : (f : Fate) → fate_by_frequency (contents_with sketch old) hash (victims_for (contents_with sketch old) weight) ≡ f → contents_with sketch new ≡ after_fate (contents_with sketch old) number generation weight chosen.moved r f → (old.ordered ≡ true → new.written ≡ written_after_fate true number old.written f) → Told tells l (left_by_fate (contents_with sketch old) generation r f) m
        → IsCompared tells old.ordered (contents_with sketch old) (contents_with sketch new) old.written new.written number generation weight hash r l m
    compared_by f is led listed told = record {
      moved = chosen.moved;
      unsettled = chosen.unsettled;
      led = led ∙ sym (ap (after_fate (contents_with sketch old) number generation weight chosen.moved r) is);
      listed = λ kept. listed kept ∙ sym (ap (written_after_fate true number old.written) is);
      told = subst (λ f. Told tells l (left_by_fate (contents_with sketch old) generation r f) m) (sym is) told;
    }

    -- it is preferred: the victims leave, and it enters
    pub compared-preferred : (gone : Kept K V S) → preferred ≡ true → contents_in gone ≡ without_victims (take victims mid.access) (contents_in mid) → contents_in new ≡ entered number generation weight r (contents_in gone) → gone.ordered ≡ mid.ordered → gone.written ≡ without_numbers (take victims mid.access) mid.written → new.written ≡ entered_by gone.ordered number gone.written → Told tells l (left_with (take victims mid.access) mid.records) m
        → IsCompared tells old.ordered (contents_with sketch old) (contents_with sketch new) old.written new.written number generation weight hash r l m
    compared-preferred gone is leave enter ordered without within told =
        compared_by (Preferred (take victims mid.access)) (fate_is true is)
        (ap (λ (c : Contents K V). record c { sketch = sketch }) enter
        ∙ ap (λ (c : Contents K V). entered number generation weight r (record c { sketch = sketch })) leave
        ∙ ap (λ (c : Contents K V). entered number generation weight r (without_victims (take victims mid.access) c)) moved_is)
        (λ kept.
        within ∙ ap (λ b. entered_by b number gone.written) (ordered ∙ ap (λ (k : Kept K V S). k.ordered) rest ∙ kept)
        ∙ ap (entered_by true number) (without ∙ ap (λ (k : Kept K V S). without_numbers (take victims mid.access) k.written) rest))
        (subst (λ (k : Kept K V S). Told tells l (left_with (take victims mid.access) k.records) m) rest told)

    -- it is rejected
    pub compared-refused : preferred ≡ false → contents_in new ≡ rejected number generation r (contents_in mid) → (mid.ordered ≡ true → new.written ≡ mid.written) → Told tells l (left_by_rejection generation r) m → IsCompared tells old.ordered (contents_with sketch old) (contents_with sketch new) old.written new.written number generation weight hash r l m
    compared-refused is leave written told =
        compared_by Refused (fate_is false is) (ap (λ (c : Contents K V). record c { sketch = sketch }) leave ∙ ap (λ (c : Contents K V). rejected number generation r c) moved_is)
        (λ kept. written (ap (λ (k : Kept K V S). k.ordered) rest ∙ kept) ∙ ap (λ (k : Kept K V S). k.written) rest) told
