-- A scan's walk from the cursor to the end, and then from the front on.
use Rattle.std.proofs.Common.{◌≡◌, refl, ℕ, ◌+◌, ◌-◌, ◌≤◌, nat_le, ◌<◌, ◌⊎◌, Bool, true, false, true≢false, cond, ◌==◌, ◌||◌, List, [], ◌∷◌, ◌++◌, length, Option, Some, None, is_none, slice_get, inl, inr, ap, sym, subst, ◌∙◌, arith, append_assoc, append-nil, length-append}
use Rattle.std.proofs.lemmas.Bool.{cond-true, cond-false}
use Rattle.std.proofs.lemmas.List.{nil_from_length}
use Rattle.std.proofs.lemmas.List.Sorted.{IsPermutation-append_comm}
use Rattle.std.proofs.lemmas.Map.Keys.{IsDistinct-IsPermutation}
use Rattle.std.specs.FinMap.{get}
use Rattle.std.specs.List.{AllByRecursion, IsDistinct}
use Rattle.moka_parts.specs.declared.notification.RemovalCause.{RemovalCause}
use Rattle.moka_parts.specs.declared.records.Registered.{Registered}
use Rattle.moka_records.specs.Records.{is_listed, is_settled, numbers_of, IsListOf}
use Rattle.moka_parts.specs.Scan.{AreUncovered}
use Rattle.moka_records.proofs.Maps.{itself_tested, same_by_test, same_or_apart}
use Rattle.moka_laws.proofs.Scanned.{uncovered-append, uncovered-kept, listed_append}
use Rattle.moka_store.specs.Store.{Kept}
use Rattle.moka_maintenance.specs.Upkeep.{SetsNoTimer}
use Rattle.moka_maintenance.proofs.Upkeep.{untimed-on}
use Rattle.moka_maintenance.specs.Scan.{from_cursor, before_cursor, round_from, LeavesSome, MayScan, IsWalked, GoesRound, IsRound}
use Rattle.moka_maintenance.specs.Steps.{Stock, stock_in}
use Rattle.moka_maintenance.proofs.Stepped.{stepped-on, still_there}
use Rattle.moka_maintenance.proofs.Walked.{none_looked, settled-append, settled-same, some-append, stands_still}
use Rattle.moka_maintenance.proofs.Listed.{all_mid, filter_few, listed_first, listed_second, members_few, written_few}
use Rattle.moka_maintenance.proofs.Fronts.{all_unsettled}
use Rattle.moka_maintenance.proofs.Popped.{front_empty}

-- ---- the round from a cursor

-- the order of writing is what stands before the cursor, and what stands from it on
pub before_and_from : (cursor : Option ℕ) (ns : List ℕ) → ns ≡ before_cursor cursor ns ++ from_cursor cursor ns
before_and_from None ns = refl
before_and_from (Some n) [] = refl
before_and_from (Some n) (m ∷ ns) = elim (m == n) as (λ b. m ∷ ns ≡ cond b [] (m ∷ before_cursor (Some n) ns) ++ cond b (m ∷ ns) (from_cursor (Some n) ns)) [
  | true ↦ refl
  | false ↦ ap (λ zs. m ∷ zs) (before_and_from (Some n) ns)
]

-- a cursor at a number is the first of those from it on
pub first_from : (n : ℕ) (ns : List ℕ) → is_listed n ns ≡ true → Some n ≡ slice_get (from_cursor (Some n) ns) 0
first_from n [] there = absurd (true≢false (sym there))
first_from n (m ∷ ns) there = go (m == n) refl (first_from n ns) there
  where
    go : (b : Bool) → (m == n) ≡ b → (is_listed n ns ≡ true → Some n ≡ slice_get (from_cursor (Some n) ns) 0) → (b || is_listed n ns) ≡ true → Some n ≡ slice_get (cond b (m ∷ ns) (from_cursor (Some n) ns)) 0
    go true same later there = ap (λ k. Some k) (sym (same_by_test m n same))
    go false other later there = later there

at_split : (xs ys : List ℕ) (n : ℕ) → IsDistinct (◌==◌) (xs ++ n ∷ ys) → (from_cursor (Some n) (xs ++ n ∷ ys) ≡ n ∷ ys) × (before_cursor (Some n) (xs ++ n ∷ ys) ≡ xs)
unfolding IsDistinct
at_split [] ys n once = (cond-true (n == n) (n ∷ ys) (from_cursor (Some n) ys) (itself_tested n), cond-true (n == n) [] (n ∷ before_cursor (Some n) ys) (itself_tested n))
at_split (x ∷ xs) ys n once =
    let other = all_mid (λ y. (x == y) ≡ false) xs ys n once.0 in
    let rest = at_split xs ys n once.1 in (
      cond-false (x == n) (x ∷ (xs ++ n ∷ ys)) (from_cursor (Some n) (xs ++ n ∷ ys)) other ∙ rest.0,
      cond-false (x == n) [] (x ∷ before_cursor (Some n) (xs ++ n ∷ ys)) other ∙ ap (λ zs. x ∷ zs) rest.1,
    )

-- the round from the first of some, or from the front where there are none
round_at : (xs ys : List ℕ) (next : Option ℕ) → IsDistinct (◌==◌) (xs ++ ys) → next ≡ slice_get ys 0 → round_from next (xs ++ ys) ≡ ys ++ xs
round_at xs [] next once at = ap (λ o. round_from o (xs ++ [])) at ∙ append-nil (xs ++ []) ∙ append-nil xs
round_at xs (n ∷ ys) next once at =
    let split = at_split xs ys n once in
    ap (λ o. round_from o (xs ++ n ∷ ys)) at ∙ ap (λ zs. zs ++ before_cursor (Some n) (xs ++ n ∷ ys)) split.0 ∙ ap (λ zs. (n ∷ ys) ++ zs) split.1

-- ---- lists of which one is a part of another

record Prefix (xs ys zs ws : List ℕ) : Type 0 where
  left : List ℕ
  longer : zs ≡ xs ++ left
  rest : ys ≡ left ++ ws

prefix_of : (xs ys zs ws : List ℕ) → xs ++ ys ≡ zs ++ ws → length xs ≤ length zs → Prefix xs ys zs ws
prefix_of [] ys zs ws e few = record { left = zs; longer = refl; rest = e }
prefix_of (x ∷ xs) ys [] ws e few = absurd (omega arith)
prefix_of (x ∷ xs) ys (z ∷ zs) ws e few =
    let same : x ≡ z = cc in
    let others : xs ++ ys ≡ zs ++ ws = cc in
    let rest = prefix_of xs ys zs ws others (omega arith) in
    record { left = rest.left; longer = ap (λ k. k ∷ zs) (sym same) ∙ ap (λ ks. x ∷ ks) rest.longer; rest = rest.rest }

some_few : (xs ks : List ℕ) → LeavesSome xs ks → length ks ≤ length xs
some_few [] ks none = let e = ap length none in omega arith
some_few (x ∷ xs) ks (inl gone) = let rest = some_few xs ks gone in omega arith
some_few (x ∷ xs) ks (inr there) = let rest = some_few xs there.0 there.2 in let e = ap length there.1 in omega arith

all_prefix : (P : ℕ → Type 0) (xs ys : List ℕ) → AllByRecursion P (xs ++ ys) → AllByRecursion P xs
all_prefix P [] ys h = tt
all_prefix P (x ∷ xs) ys h = (h.0, all_prefix P xs ys h.1)

once_prefix : (xs ys : List ℕ) → IsDistinct (◌==◌) (xs ++ ys) → IsDistinct (◌==◌) xs
unfolding IsDistinct
once_prefix [] ys once = tt
once_prefix (x ∷ xs) ys once = (all_prefix (λ y. (x == y) ≡ false) xs ys once.0, once_prefix xs ys once.1)

flips : (a b : ℕ) → (a == b) ≡ (b == a)
flips a b = elim (same_or_apart a b) [
  | inl same ↦ ap (λ k. k == b) same ∙ ap (λ k. b == k) (sym same)
  | inr apart ↦ apart.forth ∙ sym apart.back
]

-- no number stands twice in the first of a round
round_once : (before rest walked ahead : List ℕ) → IsDistinct (◌==◌) (before ++ rest) → rest ++ before ≡ walked ++ ahead → IsDistinct (◌==◌) walked
round_once before rest walked ahead once round = once_prefix walked ahead (subst (IsDistinct (◌==◌)) round (IsDistinct-IsPermutation (◌==◌) flips (before ++ rest) (rest ++ before) (IsPermutation-append_comm before rest) once))

nothing_ahead : (ns : List ℕ) (next : Option ℕ) → next ≡ slice_get ns 0 → is_none next ≡ true → ns ≡ []
nothing_ahead [] next at none = refl
nothing_ahead (n ∷ ns) next at none = absurd (true≢false (sym none ∙ ap is_none at))

some_ahead : (ns : List ℕ) (next : Option ℕ) → next ≡ slice_get ns 0 → is_none next ≡ false → 1 ≤ length ns
some_ahead [] next at some = absurd (true≢false (sym (ap is_none at) ∙ some))
some_ahead (n ∷ ns) next at some = omega arith

-- a list is as long as another, or shorter
is_through : (a b : ℕ) → a ≤ b → nat_le a b ≡ true
is_through a b h = grind arith

is_short : (a b : ℕ) → b < a → nat_le a b ≡ false
is_short a b h = grind arith

-- what a store says of both its orders
pub record IsKnown {K V S : Type 0} (s : Kept K V S) : Type 0 where
  pub distinct : IsDistinct (◌==◌) (numbers_of s.access)
  pub once : IsDistinct (◌==◌) s.written
  pub listed : s.ordered ≡ true → IsListOf s.access s.written
  pub unlisted : s.ordered ≡ false → s.written ≡ []

-- ---- one walk, and then another

module _ {K V L P S : Type 0} (tells : L → K → V → RemovalCause → L → Type 0) (says : P → K → V → Bool → Type 0) (ps : List (Registered P)) (batch : ℕ) (old mid : Kept K V S) (l m : Option L) (looked passed : ℕ) (known : IsKnown old)
    (h : IsWalked tells says ps old mid l m (before_cursor old.cursor old.written) (from_cursor old.cursor old.written) mid.cursor looked passed) (once : IsDistinct (◌==◌) mid.written) (most : looked ≤ batch) where
  abbrev before : List ℕ
  before = before_cursor old.cursor old.written

  abbrev rest : List ℕ
  rest = from_cursor old.cursor old.written

  list : old.written ≡ before ++ rest
  list = before_and_from old.cursor old.written

  lengths : length old.written ≡ length before + (passed + length h.ahead)
  lengths =
      let all = ap length list ∙ length-append before rest in
      let behind = ap length h.split ∙ length-append h.walked h.ahead in
      let c = h.count in
      omega arith

  fewer : looked ≤ passed
  fewer = let some = filter_few (is_settled old.records) h.walked in let all = h.looks in let c = h.count in omega arith

  few_written : length old.written ≤ length old.access
  few_written = go old.ordered refl
    where
      go : (b : Bool) → old.ordered ≡ b → length old.written ≤ length old.access
      go true ordered = written_few old.access old.written (known.listed ordered)
      go false off = let none = ap length (known.unlisted off) in omega arith

  -- the walk did not come to the end
  module _ (on : is_none mid.cursor ≡ false) (stopped : (length old.access ≤ passed) ⊎ (batch ≤ looked)) where
    beyond : length old.access ≤ passed → ⊥
    beyond all = let few = few_written in let more = some_ahead h.ahead mid.cursor h.at on in let sum = lengths in absurd (omega arith)

    goes-part : GoesRound says ps batch old mid looked
    goes-part = record {
      walked = h.walked;
      ahead = h.ahead ++ before;
      round = round;
      once = round_once before rest h.walked (h.ahead ++ before) (subst (IsDistinct (◌==◌)) list known.once) round;
      looks = h.looks;
      uncovered = h.uncovered;
      most = most;
      used = λ _. elim stopped [ inl all ↦ absurd (beyond all) | inr used ↦ inl (omega arith) ];
      kept = h.kept;
      stay = h.stay;
      next = ap (round_from mid.cursor) list_now ∙ round_at (before ++ h.kept) h.ahead mid.cursor (subst (IsDistinct (◌==◌)) list_now once) h.at ∙ sym (append_assoc h.ahead before h.kept);
    }
      where
        round : rest ++ before ≡ h.walked ++ (h.ahead ++ before)
        round = ap (λ zs. zs ++ before) h.split ∙ append_assoc h.walked h.ahead before

        list_now : mid.written ≡ (before ++ h.kept) ++ h.ahead
        list_now = h.list ∙ sym (append_assoc before h.kept h.ahead)

    pub round-part : SetsNoTimer old mid → (end : Bool) → end ≡ false → IsRound tells says ps batch old mid l m looked end
    unfolding goes-part
    round-part keeps end part = record {
      by = h.by;
      goes = goes-part;
      ended = part ∙ sym (is_short (length rest) (length h.walked) (let all = ap length h.split ∙ length-append h.walked h.ahead in let more = some_ahead h.ahead mid.cursor h.at on in omega arith));
      few = h.few;
      unlooked = λ ordered some none. elim stopped [ inl all ↦ absurd (beyond all) | inr used ↦ absurd (omega arith) ];
      whole = λ ordered large. elim stopped [ inl all ↦ absurd (beyond all) | inr used ↦ absurd (beyond (let f = fewer in omega arith)) ];
      upkeep = keeps;
    }

  -- it did, and another walk began at the front
  module _ (new : Kept K V S) (k : Option L) (looked_then passed_then : ℕ) (over : is_none mid.cursor ≡ true) (j : IsWalked tells says ps mid new m k [] mid.written new.cursor looked_then passed_then) (once_then : IsDistinct (◌==◌) new.written) (few_then : looked_then ≤ batch - looked)
      (few_passed : passed_then ≤ length old.access - passed) (stopped : is_none new.cursor ≡ false → (length old.access - passed ≤ passed_then) ⊎ (batch - looked ≤ looked_then)) where
    none_ahead : h.ahead ≡ []
    none_ahead = nothing_ahead h.ahead mid.cursor h.at over

    all_walked : rest ≡ h.walked
    all_walked = h.split ∙ ap (λ zs. h.walked ++ zs) none_ahead ∙ append-nil h.walked

    total : length old.written ≡ length before + passed
    total = let sum = lengths in let none = ap length none_ahead in omega arith

    there_now : before ++ (h.kept ++ h.ahead) ≡ j.walked ++ j.ahead
    there_now = sym h.list ∙ j.split

    lengths_now : length before + length h.kept ≡ passed_then + length j.ahead
    lengths_now =
        let all = ap length there_now ∙ length-append j.walked j.ahead in
        let first = length-append before (h.kept ++ h.ahead) in
        let then = length-append h.kept h.ahead in
        let none = ap length none_ahead in
        let c = j.count in
        omega arith

    -- the second walk went no farther than to the start
    in_front : passed_then ≤ length before
    in_front = go old.ordered refl
      where
        go : (b : Bool) → old.ordered ≡ b → passed_then ≤ length before
        go true ordered = let few = members_few old.access old.written known.distinct (known.listed ordered) in let sum = total in omega arith
        go false off = let none = ap length (known.unlisted off) in let sum = total in let few = some_few h.walked h.kept h.stay in let c = h.count in let now = lengths_now in omega arith

    part : Prefix j.walked j.ahead before (h.kept ++ h.ahead)
    part = prefix_of j.walked j.ahead before (h.kept ++ h.ahead) (sym there_now) (let c = j.count in let f = in_front in omega arith)

    lengths_left : length before ≡ passed_then + length part.left
    lengths_left = let all = ap length part.longer ∙ length-append j.walked part.left in let c = j.count in omega arith

    -- the batch is used up, or the second walk went past all that stood before the start
    used_up : (looked + looked_then ≡ batch) ⊎ (part.left ≡ [])
    used_up = go (is_none new.cursor) refl
      where
        go : (b : Bool) → is_none new.cursor ≡ b → (looked + looked_then ≡ batch) ⊎ (part.left ≡ [])
        go true none = inr (front_empty part.left (h.kept ++ h.ahead) (sym part.rest ∙ nothing_ahead j.ahead new.cursor j.at none))
        go false some = elim (stopped some) [
          | inl all ↦ inr (nil_from_length part.left (let few = few_written in let sum = total in let left = lengths_left in omega arith))
          | inr used ↦ inl (omega arith)
        ]

    -- what the second walk passes was as it is now
    same_records : (n : ℕ) → is_listed n j.walked ≡ true → get mid.records n ≡ get old.records n
    same_records n there =
        let listed : is_listed n mid.written ≡ true = ap (is_listed n) j.split ∙ listed_first n j.walked j.ahead there in
        ap (λ (c : Stock K V). get c.contents.records n) h.by.led ∙ (stands_still says ps (stock_in old) h.by.steps n h.by.may (ap (λ (c : Stock K V). is_listed n c.written) (sym h.by.led) ∙ listed)).1

    goes-whole : GoesRound says ps batch old new (looked + looked_then)
    goes-whole = record {
      walked = h.walked ++ j.walked;
      ahead = part.left;
      round = round;
      once = round_once before rest (h.walked ++ j.walked) part.left (subst (IsDistinct (◌==◌)) list known.once) round;
      looks = (let first = h.looks in let then = j.looks ∙ ap length (settled-same old.records mid.records j.walked same_records) in let both = settled-append old.records h.walked j.walked in omega arith);
      uncovered = uncovered-append says ps new.records h.walked j.walked first j.uncovered;
      most = omega arith;
      used = λ _. used_up;
      kept = h.kept ++ j.kept;
      stay = some-append h.walked h.kept j.walked j.kept h.stay j.stay;
      next = ap (round_from new.cursor) j.list ∙ round_at j.kept j.ahead new.cursor (subst (IsDistinct (◌==◌)) j.list once_then) j.at ∙ ap (λ zs. zs ++ j.kept) ahead_is ∙ append_assoc part.left h.kept j.kept;
    }
      where
        round : rest ++ before ≡ (h.walked ++ j.walked) ++ part.left
        round = ap (λ zs. zs ++ before) all_walked ∙ ap (λ zs. h.walked ++ zs) part.longer ∙ sym (append_assoc h.walked j.walked part.left)

        first : AreUncovered says ps new.records h.walked
        first = uncovered-kept says ps mid.records new.records h.walked (λ n r at. still_there (stock_in mid) j.by.steps n r (sym (ap (λ (c : Stock K V). get c.contents.records n) j.by.led) ∙ at)) h.uncovered

        ahead_is : j.ahead ≡ part.left ++ h.kept
        ahead_is = part.rest ∙ ap (λ zs. part.left ++ (h.kept ++ zs)) none_ahead ∙ ap (λ zs. part.left ++ zs) (append-nil h.kept)

    -- all are passed, where the batch is not used up
    all_passed : looked + looked_then < batch ⊎ length old.access ≤ batch → old.ordered ≡ true → (n : ℕ) → is_listed n old.written ≡ true → is_listed n (h.walked ++ j.walked) ≡ true
    all_passed within ordered n there = elim used_up [
      | inl used ↦ all_by (elim within [
        | inl less ↦ absurd (omega arith)
        | inr large ↦ (let few = few_written in let sum = total in let f = fewer in let some = filter_few (is_settled mid.records) j.walked in let all = j.looks in let c = j.count in let left = lengths_left in nil_from_length part.left (omega arith))
      ])
      | inr through ↦ all_by through
    ]
      where
        all_by : part.left ≡ [] → is_listed n (h.walked ++ j.walked) ≡ true
        all_by none = elim (listed_append n before rest (ap (is_listed n) (sym list) ∙ there)) [
          | inl early ↦ listed_second n h.walked j.walked (ap (is_listed n) (sym (part.longer ∙ ap (λ zs. j.walked ++ zs) none ∙ append-nil j.walked)) ∙ early)
          | inr late ↦ listed_first n h.walked j.walked (ap (is_listed n) (sym all_walked) ∙ late)
        ]

    pub round-whole : SetsNoTimer old mid → SetsNoTimer mid new → (end : Bool) → end ≡ true → IsRound tells says ps batch old new l k (looked + looked_then) end
    unfolding stepped-on goes-whole
    round-whole keeps then_keeps end over_all = record {
      by = stepped-on tells (MayScan says ps) (stock_in old) (stock_in mid) (stock_in new) l m k h.by j.by;
      goes = goes-whole;
      ended = over_all ∙ sym (is_through (length rest) (length (h.walked ++ j.walked)) (let same = ap length all_walked in let both = length-append h.walked j.walked in omega arith));
      few = (let both = length-append h.by.steps j.by.steps in let f = h.few in let g = j.few in omega arith);
      unlooked = λ ordered some none. all_unsettled old.records old.access (λ n member.
          none_looked old.records (h.walked ++ j.walked) (sym goes-whole.looks ∙ none) n (all_passed (inl (omega arith)) ordered n ((known.listed ordered).1 n ∙ member)));
      whole = λ ordered large. (record { settled = λ n r listed at applied. goes-whole.uncovered.settled n r (all_passed (inr large) ordered n listed) at applied }, over_all);
      upkeep = untimed-on old mid new keeps then_keeps;
    }
