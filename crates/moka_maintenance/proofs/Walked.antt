-- A walk along the order of writing, member after member.
use Rattle.std.proofs.Common.{◌≡◌, ◌≢◌, refl, ℕ, ◌+◌, ◌≤◌, Bool, true, false, true≢false, cond, ◌==◌, ◌||◌, List, [], ◌∷◌, ◌++◌, length, Option, Some, slice_get, inl, inr, ap, sym, subst, ◌∙◌, arith, append_assoc, append-nil, length-append, None, IfSome, IsSome, option_map}
use Rattle.std.proofs.lemmas.Bool.{cond-true, cond-false, or_left, or_right}
use Rattle.std.proofs.lemmas.List.Elements.{filter-append}
use Rattle.std.specs.Int.{from_bool}
use Rattle.std.specs.FinMap.{get, remove}
use Rattle.std.specs.List.{IsDistinct}
use Rattle.std.specs.Option.{option_map_or}
use Rattle.moka_parts.specs.declared.notification.RemovalCause.{RemovalCause}
use Rattle.moka_parts.specs.declared.notification.RemovalCause.TheVariants.{Explicit}
use Rattle.moka_records.specs.declared.records.Record.{Record}
use Rattle.moka_parts.specs.declared.records.Registered.{Registered}
use Rattle.moka_records.specs.Records.{Records, is_applied, is_listed, is_settled, without_number, counted_of}
use Rattle.moka_parts.specs.Visibility.{NoneCovers}
use Rattle.moka_parts.specs.Maintenance.{Choice, Removes, MovesToBack, Drops}
use Rattle.moka_records.proofs.Maps.{itself_tested, same_by_test, same_or_apart}
use Rattle.moka_laws.proofs.Scanned.{uncovered-none, uncovered-push, uncovered-kept}
use Rattle.moka_records.proofs.WriteList.{listed_taken_out, listed_past_taken_out, once_taken_out}
use Rattle.moka_store.specs.Store.{Kept, number_after, IsPlaced, IsOrdered}
use Rattle.moka_store.specs.declared.store.Handle.{Handle}
use Rattle.moka_store.proofs.Gets.{after_remove, get-past_remove}
use Rattle.moka_maintenance.specs.Scan.{LeavesSome, settled_numbers, MayScan, LooksAt, IsWalked}
use Rattle.moka_maintenance.specs.Steps.{Stock, after_step, after_steps, stock_in, MayAll}
use Rattle.moka_maintenance.specs.Expel.{without_record}
use Rattle.moka_maintenance.specs.Upkeep.{SetsNoTimer}
use Rattle.moka_maintenance.proofs.Stepped.{stepped-none, stepped-one, stepped-on, member-past}
use Rattle.moka_maintenance.proofs.Listed.{after_split, listed_between, without_split}
use Rattle.moka_maintenance.proofs.Upkeep.{untimed-none, untimed-gone}
use Rattle.moka_maintenance.proofs.Popped.{Head, head_of}

-- ---- what a walk passes and what stays of it

pub some-append : (xs ks ys js : List ℕ) → LeavesSome xs ks → LeavesSome ys js → LeavesSome (xs ++ ys) (ks ++ js)
some-append [] ks ys js none more = subst (λ zs. LeavesSome ys (zs ++ js)) (sym none) more
some-append (x ∷ xs) ks ys js (inl gone) more = inl (some-append xs ks ys js gone more)
some-append (x ∷ xs) ks ys js (inr there) more = inr (there.0 ++ js, ap (λ zs. zs ++ js) there.1, some-append xs there.0 ys js there.2 more)

module _ {K V : Type 0} (records : Records K V) where
  pub settled-append : (xs ys : List ℕ) → length (settled_numbers records (xs ++ ys)) ≡ length (settled_numbers records xs) + length (settled_numbers records ys)
  settled-append xs ys = ap length (filter-append (λ n. is_settled records n) xs ys) ∙ length-append (settled_numbers records xs) (settled_numbers records ys)

  one_more : (ns : List ℕ) (n : ℕ) → is_settled records n ≡ true → length (settled_numbers records (ns ++ n ∷ [])) ≡ length (settled_numbers records ns) + 1
  one_more ns n e = let all = settled-append ns (n ∷ []) in let one = ap length (cond-true (is_settled records n) (n ∷ []) [] e) in omega arith

  no_more : (ns : List ℕ) (n : ℕ) → is_settled records n ≡ false → length (settled_numbers records (ns ++ n ∷ [])) ≡ length (settled_numbers records ns)
  no_more ns n e = let all = settled-append ns (n ∷ []) in let one = ap length (cond-false (is_settled records n) (n ∷ []) [] e) in omega arith

  pub none_looked : (ns : List ℕ) → length (settled_numbers records ns) ≡ 0 → (n : ℕ) → is_listed n ns ≡ true → is_settled records n ≡ false
  none_looked [] none n there = absurd (true≢false (sym there))
  none_looked (m ∷ ns) none n there = go (is_settled records m) refl (m == n) refl (λ none there. none_looked ns none n there) none there
    where
      go : (s : Bool) → is_settled records m ≡ s → (b : Bool) → (m == n) ≡ b → (length (settled_numbers records ns) ≡ 0 → is_listed n ns ≡ true → is_settled records n ≡ false) → length (cond s (m ∷ settled_numbers records ns) (settled_numbers records ns)) ≡ 0 → (b || is_listed n ns) ≡ true → is_settled records n ≡ false
      go true e b f later none there = absurd (omega arith)
      go false e true f later none there = ap (is_settled records) (sym (same_by_test m n f)) ∙ e
      go false e false f later none there = later none there

-- the same numbers are settled, where their records are the same
pub settled-same : {K V : Type 0} (records others : Records K V) (ns : List ℕ) → ((n : ℕ) → is_listed n ns ≡ true → get others n ≡ get records n) → settled_numbers others ns ≡ settled_numbers records ns
settled-same records others [] same = refl
settled-same records others (m ∷ ns) same =
    ap (λ o. cond (option_map_or is_applied o false) (m ∷ settled_numbers others ns) (settled_numbers others ns)) (same m (or_left (m == m) (is_listed m ns) (itself_tested m)))
    ∙ ap (λ zs. cond (is_settled records m) (m ∷ zs) zs) (settled-same records others ns (λ n there. same n (or_right (m == n) (is_listed n ns) there)))

listed_still : (n m : ℕ) (ns : List ℕ) → is_listed n (without_number m ns) ≡ true → (n ≢ m) × (is_listed n ns ≡ true)
listed_still n m ns there = elim (same_or_apart n m) [
  | inl same ↦ absurd (true≢false (sym (subst (λ k. is_listed k (without_number m ns) ≡ true) same there) ∙ listed_taken_out m ns))
  | inr apart ↦ ((λ same. true≢false (sym (ap (λ k. k == m) same ∙ itself_tested m) ∙ apart.forth)), sym (listed_past_taken_out m n ns apart) ∙ there)
]

module _ {K V P : Type 0} (says : P → K → V → Bool → Type 0) (ps : List (Registered P)) where
  -- what still stands in the order of writing after steps of a scan stood there before, and has the record that it had
  pub stands_still : (c : Stock K V) (xs : List Choice) (n : ℕ) → MayAll (MayScan says ps) c xs → is_listed n (after_steps c xs).written ≡ true → (is_listed n c.written ≡ true) × (get (after_steps c xs).contents.records n ≡ get c.contents.records n)
  stands_still c [] n may there = (there, refl)
  stands_still c (Removes m cause ∷ xs) n may there =
      let rest = stands_still (after_step c (Removes m cause)) xs n may.1 there in
      let now = listed_still n m c.written rest.0 in
      (now.1, rest.1 ∙ get-past_remove c.contents.records m n now.0)
  stands_still c (MovesToBack m ∷ xs) n may there = absurd may.0
  stands_still c (Drops i ∷ xs) n may there = absurd may.0

-- one member was looked at, or none
pub at_most_one : (settled : Bool) (more : ℕ) → more ≡ from_bool settled → more ≤ 1
at_most_one false more none = omega arith
at_most_one true more one = omega arith

-- ---- the walk

module _ {K V L P S : Type 0} (tells : L → K → V → RemovalCause → L → Type 0) (says : P → K → V → Bool → Type 0) (ps : List (Registered P)) (old : Kept K V S) (l : Option L) (before rest : List ℕ) where
  pub walked-none : (next : Option ℕ) → old.written ≡ before ++ rest → next ≡ slice_get rest 0 → IsWalked tells says ps old old l l before rest next 0 0
  unfolding stepped-none
  walked-none next list at = record {
    walked = [];
    kept = [];
    ahead = rest;
    split = refl;
    list = list;
    at = at;
    count = refl;
    stay = refl;
    looks = refl;
    by = stepped-none tells (MayScan says ps) (stock_in old) l;
    few = omega arith;
    uncovered = uncovered-none says ps old.records;
  }

  -- and then at this member, behind which the next stands
  module _ (mid : Kept K V S) (m : Option L) (at next : Option ℕ) (n looked passed : ℕ) (h : IsWalked tells says ps old mid l m before rest at looked passed) (is : at ≡ Some n) (behind : next ≡ number_after n mid.written) (once : IsDistinct (◌==◌) mid.written) where
    abbrev Goes : Kept K V S → Option L → ℕ → Type 0
    Goes new k more = IsWalked tells says ps old new l k before rest next (looked + more) (passed + 1)

    here : Head n h.ahead
    here = head_of n h.ahead (sym h.at ∙ is)

    list_is : mid.written ≡ (before ++ h.kept) ++ n ∷ here.behind
    list_is = h.list ∙ ap (λ zs. before ++ (h.kept ++ zs)) here.split ∙ sym (append_assoc before h.kept (n ∷ here.behind))

    once_there : IsDistinct (◌==◌) ((before ++ h.kept) ++ n ∷ here.behind)
    once_there = subst (IsDistinct (◌==◌)) list_is once

    next_is : next ≡ slice_get here.behind 0
    next_is = behind ∙ ap (number_after n) list_is ∙ after_split (before ++ h.kept) here.behind n once_there

    split_is : rest ≡ (h.walked ++ n ∷ []) ++ here.behind
    split_is = h.split ∙ ap (λ zs. h.walked ++ zs) here.split ∙ sym (append_assoc h.walked (n ∷ []) here.behind)

    count_is : passed + 1 ≡ length (h.walked ++ n ∷ [])
    count_is = let both = length-append h.walked (n ∷ []) in let one : length (n ∷ []) ≡ 1 = refl in let c = h.count in omega arith

    -- it has the record that it had
    same_record : get mid.records n ≡ get old.records n
    same_record = ap (λ (c : Stock K V). get c.contents.records n) h.by.led ∙ (stands_still says ps (stock_in old) h.by.steps n h.by.may (ap (λ (c : Stock K V). is_listed n c.written) (sym h.by.led) ∙ ap (is_listed n) list_is ∙ listed_between (before ++ h.kept) here.behind n)).1

    same_settled : is_settled old.records n ≡ is_settled mid.records n
    same_settled = ap (λ o. option_map_or is_applied o false) (sym same_record)

    -- it stays
    stays : (more : ℕ) → looked + more ≡ length (settled_numbers old.records (h.walked ++ n ∷ [])) → ((r : Record K V) → get mid.records n ≡ Some r → is_applied r ≡ true → NoneCovers says ps r) → Goes mid m more
    stays more looks found = record {
      walked = h.walked ++ n ∷ [];
      kept = h.kept ++ n ∷ [];
      ahead = here.behind;
      split = split_is;
      list = h.list ∙ ap (λ zs. before ++ (h.kept ++ zs)) here.split ∙ ap (λ zs. before ++ zs) (sym (append_assoc h.kept (n ∷ []) here.behind));
      at = next_is;
      count = count_is;
      stay = some-append h.walked h.kept (n ∷ []) (n ∷ []) h.stay (inr ([], refl, refl));
      looks = looks;
      by = h.by;
      few = (let f = h.few in omega arith);
      uncovered = uncovered-push says ps mid.records h.walked n found h.uncovered;
    }

    pub walked-on : (settled : Bool) (new : Kept K V S) (k : Option L) (more : ℕ) → more ≡ from_bool settled → LooksAt tells says ps mid new m k n settled → Goes new k more
    unfolding stepped-one stepped-on
    walked-on false new k more none turn =
        subst (λ k. Goes new k more) (sym turn.2) (subst (λ new. Goes new m more) (sym turn.1)
        (stays more (let looks = h.looks ∙ sym (no_more old.records h.walked n (same_settled ∙ turn.0)) in omega arith) (λ r at applied. absurd (true≢false (sym applied ∙ sym (settled_is r at) ∙ turn.0)))))
      where
        settled_is : (r : Record K V) → get mid.records n ≡ Some r → is_settled mid.records n ≡ is_applied r
        settled_is r at = ap (λ o. option_map_or is_applied o false) at
    walked-on true new k more one turn = let looks : looked + more ≡ length (settled_numbers old.records (h.walked ++ n ∷ [])) = (let all = h.looks in let next = one_more old.records h.walked n (same_settled ∙ turn.0) in omega arith) in elim turn.1 [
      | inl same ↦ subst (λ k. Goes new k more) (sym same.1) (subst (λ new. Goes new m more) (sym same.0) (stays more looks (λ r at applied. same.2 r at)))
      | inr left ↦
          let records : new.records ≡ remove mid.records n = ap (λ (s : Kept K V S). s.records) left.1.whole in
          let gone : (j : ℕ) (r : Record K V) → get new.records j ≡ Some r → (j ≡ n → ⊥) × (get mid.records j ≡ Some r) = λ j r at. after_remove mid.records n j r (sym (ap (λ rs. get rs j) records) ∙ at) in
          record {
            walked = h.walked ++ n ∷ [];
            kept = h.kept;
            ahead = here.behind;
            split = split_is;
            list = ap (λ (s : Kept K V S). s.written) left.1.whole ∙ ap (without_number n) list_is ∙ without_split (before ++ h.kept) here.behind n once_there ∙ append_assoc before h.kept here.behind;
            at = next_is;
            count = count_is;
            stay = subst (LeavesSome (h.walked ++ n ∷ [])) (append-nil h.kept) (some-append h.walked h.kept (n ∷ []) [] h.stay (inl refl));
            looks = looks;
            by = stepped-on tells (MayScan says ps) (stock_in old) (stock_in mid) (stock_in new) l m k h.by (stepped-one tells (MayScan says ps) (stock_in mid) (stock_in new) m k (Removes n Explicit) left.0 left.1.step left.1.told);
            few = (let f = h.few in let both = length-append h.by.steps (Removes n Explicit ∷ []) in omega arith);
            uncovered = uncovered-push says ps new.records h.walked n (λ r at applied. absurd ((gone n r at).0 refl)) (uncovered-kept says ps mid.records new.records h.walked (λ j r at. (gone j r at).1) h.uncovered);
          }
    ]

  -- a cursor put elsewhere
  pub walked-cursor : (new : Kept K V S) (m : Option L) (next at : Option ℕ) (looked passed : ℕ) → IsWalked tells says ps old new l m before rest next looked passed → IsWalked tells says ps old (record new { cursor = at }) l m before rest next looked passed
  walked-cursor new m next at looked passed h = record { walked = h.walked; kept = h.kept; ahead = h.ahead; split = h.split; list = h.list; at = h.at; count = h.count; stay = h.stay; looks = h.looks; by = h.by; few = h.few; uncovered = h.uncovered }

-- ---- what stays of a store while a scan looks at a member

-- what stands behind a number is another
next_other : (ns : List ℕ) (n m : ℕ) → IsDistinct (◌==◌) ns → number_after n ns ≡ Some m → m ≢ n
unfolding IsDistinct
next_other [] n m once e = cc
next_other (x ∷ xs) n m once e = go (x == n) refl (λ at. next_other xs n m once.1 at) e
  where
    first : (ys : List ℕ) → IsDistinct (◌==◌) (x ∷ ys) → slice_get ys 0 ≡ Some m → (x == m) ≡ false
    first [] o at = cc
    first (y ∷ ys) o at = (let same : y ≡ m = cc in subst (λ k. (x == k) ≡ false) same o.0.0)

    go : (b : Bool) → (x == n) ≡ b → (number_after n xs ≡ Some m → m ≢ n) → cond b (slice_get xs 0) (number_after n xs) ≡ Some m → m ≢ n
    go true is later at same = true≢false (sym (itself_tested x) ∙ ap (λ k. x == k) (same_by_test x n is ∙ sym same) ∙ first xs once at)
    go false is later at same = later at same

if_some : {A : Type 0} {P Q : A → Type 0} (o : Option A) → ((a : A) → o ≡ Some a → P a → Q a) → IfSome o P → IfSome o Q
if_some None f h = h
if_some (Some a) f h = f a refl h

-- another number keeps its row and both its places, and no number stands twice then either
pub record KeepsOthers {K V S : Type 0} (old new : Kept K V S) (n : ℕ) : Type 0 where
  pub placed : (h : Handle) → h.number ≢ n → IsPlaced old h → IsPlaced new h
  pub members : (k : ℕ) → k ≢ n → IsSome (counted_of k old.access) → IsSome (counted_of k new.access)
  pub listed : (k : ℕ) → k ≢ n → is_listed k old.written ≡ true → is_listed k new.written ≡ true
  pub once : IsDistinct (◌==◌) old.written → IsDistinct (◌==◌) new.written
  pub upkeep : SetsNoTimer old new

module _ {K V : Type 0} where
  -- another member stays in the order of writing
  still-ordered : {S : Type 0} → (old new : Kept K V S) (n : ℕ) → KeepsOthers old new n → (h : Handle) → h.number ≢ n → IsOrdered old h → IsOrdered new h
  still-ordered old new n keeps h other at = record { placed = keeps.placed h other at.placed; member = keeps.members h.number other at.member; listed = keeps.listed h.number other at.listed }

  -- and so does the one behind that number
  pub next-ordered : {S : Type 0} → (old new : Kept K V S) (n : ℕ) → KeepsOthers old new n → IsDistinct (◌==◌) old.written → (next : Option Handle) → option_map (λ h. h.number) next ≡ number_after n old.written → IfSome next (IsOrdered old) → IfSome next (IsOrdered new)
  next-ordered old new n keeps once next behind = if_some next (λ h is. still-ordered old new n keeps h (next_other old.written n h.number once (sym behind ∙ ap (option_map (λ (h : Handle). h.number)) is)))

  keeps_same : {S : Type 0} → (old : Kept K V S) (n : ℕ) → KeepsOthers old old n
  keeps_same old n = record { placed = λ h other at. at; members = λ k other there. there; listed = λ k other there. there; once = λ o. o; upkeep = untimed-none old }

  keeps_past : {S : Type 0} → (old : Kept K V S) (n room : ℕ) → old.room ≤ room → KeepsOthers old (without_record n room old) n
  keeps_past old n room more = record {
    placed = λ h other at. get-past_remove old.places n h.number other ∙ at;
    members = λ k other there. member-past n k old.access other ∙ there;
    listed = λ k other there. elim (same_or_apart k n) [ inl same ↦ absurd (other same) | inr apart ↦ listed_past_taken_out n k old.written apart ∙ there ];
    once = λ o. once_taken_out n old.written o;
    upkeep = untimed-gone old n room more;
  }

  module _ {L P : Type 0} (tells : L → K → V → RemovalCause → L → Type 0) (says : P → K → V → Bool → Type 0) (ps : List (Registered P)) where
    pub turn_keeps : {S : Type 0} → (old new : Kept K V S) (l m : Option L) (n : ℕ) (settled : Bool) → LooksAt tells says ps old new l m n settled → KeepsOthers old new n
    turn_keeps old new l m n false turn = subst (λ new. KeepsOthers old new n) (sym turn.1) (keeps_same old n)
    turn_keeps old new l m n true turn = elim turn.1 [
      | inl same ↦ subst (λ new. KeepsOthers old new n) (sym same.0) (keeps_same old n)
      | inr left ↦ subst (λ new. KeepsOthers old new n) (sym left.1.whole) (keeps_past old n new.room left.1.upkeep.keeps.room)
    ]
