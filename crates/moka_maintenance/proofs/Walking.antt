-- The walk of the choice over the access list: what was met and what is ahead decide the victims together.
use Rattle.std.proofs.Common.{◌≡◌, refl, ℕ, ◌+◌, ◌-◌, ◌<◌, ◌≤◌, Bool, true, false, cond, not, ◌==◌, ◌||◌, nat_le, List, [], ◌∷◌, ◌++◌, Option, Some, None, is_some, option_map, option_to_list, slice_get, ap, sym, subst, ◌∙◌, arith, append_assoc, append-nil, if◌then◌else◌, take, ◌&&◌, nat_lt, length, ◌⊎◌, inl, inr, true≢false, leb→le, length-append}
use Rattle.std.proofs.Math.Numerals.{one-add}
use Rattle.std.proofs.Math.Bool.{or-false, and-false, and-true}
use Rattle.std.proofs.Math.Seq.{take-append_seam}
use Rattle.std.specs.List.{IsDistinct, before_first, last_or, position_or_len, list_all}
use Rattle.std.specs.Bool.{passes}
use Rattle.std.specs.Option.{option_map_or}
use Rattle.std.proofs.lemmas.List.Elements.{filter-append}
use Rattle.std.proofs.lemmas.List.Folds.{list_all-append}
use Rattle.std.proofs.lemmas.List.Sums.{sum_by-append, sum_by_push}
use Rattle.moka_records.specs.declared.records.Member.{Member}
use Rattle.moka_records.specs.Records.{Records, counted_of, is_member, is_settled, member, numbers_of, settled_members, to_back, without_member, all_to_back, total_weight}
use Rattle.moka_parts.specs.Candidates.{prefix, has_six_unsettled, before_last_of, are_unsettled, hash_of, frequency_of_all, victims_for, is_preferred}
use Rattle.moka_parts.specs.State.{Contents}
use Rattle.moka_parts.specs.Writes.{Preferred, Refused, fate_by_frequency}
use Rattle.moka_records.proofs.AccessList.{absent_taken_out, distinct-all_to_back, front_once, rest_once, counted_front}
use Rattle.moka_records.proofs.Maps.{itself_tested, same_by_test}
use Rattle.moka_laws.proofs.Surplus.{prefix_of_none}
use Rattle.moka_laws.proofs.Conserved.{still_within}
use Rattle.moka_store.specs.Store.{member_after}
use Rattle.moka_parts.specs.Frequency.{frequency}
use Rattle.moka_maintenance.specs.Choice.{Chooses}
use Rattle.moka_maintenance.proofs.Fronts.{settled-append, settled-pushed, none_front}
use Rattle.moka_maintenance.proofs.Popped.{none_first, front_empty, Head, head_of}

-- ---- the victims

-- what is ahead decides which front of all is heavy enough, where so much was met
abbrev pub GoesOn : List Member → List Member → ℕ → ℕ → Type 0
GoesOn met ahead weight so_far = prefix (met ++ ahead) weight ≡ option_map (λ f. met ++ f) (prefix ahead (weight - so_far))

join : (met : List Member) (a : Member) (o : Option (List Member)) → option_map (λ f. met ++ f) (option_map (λ f. a ∷ f) o) ≡ option_map (λ f. (met ++ a ∷ []) ++ f) o
join met a None = refl
join met a (Some f) = ap (λ xs. Some xs) (sym (append_assoc met (a ∷ []) f))

pub still_light : (w s : ℕ) → s < w → ((w - s) == 0) ≡ false
still_light w s h = grind (arith, h)

-- nothing was met
pub goes_none : (ahead : List Member) (weight : ℕ) → GoesOn [] ahead weight 0
goes_none ahead weight = ap (prefix ahead) (same weight) ∙ itself (prefix ahead (weight - 0))
  where
    same : (w : ℕ) → w ≡ w - 0
    same w = omega arith

    itself : (o : Option (List Member)) → o ≡ option_map (λ f. [] ++ f) o
    itself None = refl
    itself (Some f) = refl

-- one more settled member, while the victims are too light
pub goes_on : (met ahead : List Member) (a : Member) (weight so_far : ℕ) → so_far < weight → GoesOn met (a ∷ ahead) weight so_far → GoesOn (met ++ a ∷ []) ahead weight (so_far + a.counted)
goes_on met ahead a weight so_far light h =
    ap (λ xs. prefix xs weight) (append_assoc met (a ∷ []) ahead) ∙ h
    ∙ ap (λ b. option_map (λ f. met ++ f) (if b then Some [] else option_map (λ f. a ∷ f) (prefix ahead (weight - so_far - a.counted)))) (still_light weight so_far light)
    ∙ join met a (prefix ahead (weight - so_far - a.counted))
    ∙ ap (λ w. option_map (λ f. (met ++ a ∷ []) ++ f) (prefix ahead w)) (apart weight so_far a.counted)
  where
    apart : (w s c : ℕ) → (w - s) - c ≡ w - (s + c)
    apart w s c = omega arith

-- once they are heavy enough, they are the victims
pub is_enough : (met ahead : List Member) (weight so_far : ℕ) → weight ≤ so_far → GoesOn met ahead weight so_far → prefix (met ++ ahead) weight ≡ Some met
is_enough met ahead weight so_far heavy h = h ∙ ap (option_map (λ f. met ++ f)) (prefix_of_none ahead (weight - so_far) (none weight so_far heavy)) ∙ ap (λ xs. Some xs) (append-nil met)
  where
    none : (w s : ℕ) → w ≤ s → w - s ≡ 0
    none w s h = omega arith

-- and where nothing is ahead while they are too light, there are none
pub is_none : (met : List Member) (weight so_far : ℕ) → so_far < weight → GoesOn met [] weight so_far → prefix (met ++ []) weight ≡ None
is_none met weight so_far light h = h ∙ ap (λ b. option_map (λ f. met ++ f) (if b then Some [] else None)) (still_light weight so_far light)

-- the victims begin with those that were met
pub is_longer : (met ahead victims : List Member) (weight so_far : ℕ) → GoesOn met ahead weight so_far → prefix (met ++ ahead) weight ≡ Some victims → (more : List Member) × (prefix ahead (weight - so_far) ≡ Some more) × (met ++ more ≡ victims)
is_longer met ahead victims weight so_far h e = go (prefix ahead (weight - so_far)) refl (sym h ∙ e)
  where
    go : (o : Option (List Member)) → prefix ahead (weight - so_far) ≡ o → option_map (λ f. met ++ f) o ≡ Some victims → (more : List Member) × (prefix ahead (weight - so_far) ≡ Some more) × (met ++ more ≡ victims)
    go None is e = cc
    go (Some more) is e = (more, is, (let same = e in cc))

-- ---- rows of unsettled members

module _ {K V : Type 0} (records : Records K V) where
  -- so many unsettled members stand at the end of what was walked over, in which no six stood side by side before
  abbrev pub StandsBefore : List Member → ℕ → Type 0
  StandsBefore walked row = (ahead : List Member) → has_six_unsettled records 0 (walked ++ ahead) ≡ (nat_le 6 row || has_six_unsettled records row ahead)

  pub stands_none : StandsBefore [] 0
  stands_none ahead = refl

  below : (row : ℕ) → row < 6 → nat_le 6 row ≡ false
  below row h = grind (arith, h)

  one_more : (row : ℕ) → nat_le 5 row ≡ nat_le 6 (row + 1)
  one_more row = grind arith

  -- a settled member ends the row
  pub stands_settled : (walked : List Member) (row : ℕ) (a : Member) → is_settled records a.number ≡ true → row < 6 → StandsBefore walked row → StandsBefore (walked ++ a ∷ []) 0
  stands_settled walked row a is few h ahead =
      ap (has_six_unsettled records 0) (append_assoc walked (a ∷ []) ahead) ∙ h (a ∷ ahead)
      ∙ ap (λ b. b || has_six_unsettled records row (a ∷ ahead)) (below row few)
      ∙ ap (λ b. if b then has_six_unsettled records 0 ahead else (nat_le 5 row || has_six_unsettled records (row + 1) ahead)) is

  -- an unsettled one goes on with it
  pub stands_unsettled : (walked : List Member) (row : ℕ) (a : Member) → is_settled records a.number ≡ false → row < 6 → StandsBefore walked row → StandsBefore (walked ++ a ∷ []) (row + 1)
  stands_unsettled walked row a is few h ahead =
      ap (has_six_unsettled records 0) (append_assoc walked (a ∷ []) ahead) ∙ h (a ∷ ahead)
      ∙ ap (λ b. b || has_six_unsettled records row (a ∷ ahead)) (below row few)
      ∙ ap (λ b. if b then has_six_unsettled records 0 ahead else (nat_le 5 row || has_six_unsettled records (row + 1) ahead)) is
      ∙ ap (λ b. b || has_six_unsettled records (row + 1) ahead) (one_more row)

  -- no six stand side by side in what was walked over
  pub stands_below : (walked : List Member) (row : ℕ) → row < 6 → StandsBefore walked row → has_six_unsettled records 0 walked ≡ false
  stands_below walked row few h = ap (has_six_unsettled records 0) (sym (append-nil walked)) ∙ h [] ∙ or-false (nat_le 6 row) ∙ below row few

  -- six do, whatever is ahead
  pub six_stand : (walked ahead : List Member) (row : ℕ) → 6 ≤ row → StandsBefore walked row → has_six_unsettled records 0 (walked ++ ahead) ≡ true
  six_stand walked ahead row six h = h ahead ∙ ap (λ b. b || has_six_unsettled records row ahead) (above row six)
    where
      above : (row : ℕ) → 6 ≤ row → nat_le 6 row ≡ true
      above row h = grind (arith, h)

-- ---- places in a list in which no number stands twice

-- what is not counted in a whole is not in its back
uncounted_back : (n : ℕ) (xs ys : List Member) → counted_of n (xs ++ ys) ≡ None → counted_of n ys ≡ None
uncounted_back n [] ys none = none
uncounted_back n (x ∷ xs) ys none = go (uncounted_back n xs ys) (x.number == n) none
  where
    go : (counted_of n (xs ++ ys) ≡ None → counted_of n ys ≡ None) → (b : Bool) → cond b (Some x.counted) (counted_of n (xs ++ ys)) ≡ None → counted_of n ys ≡ None
    go back true none = cc
    go back false none = back none

-- a number of the back is not in the front
pub apart_front : (xs ys : List Member) (n : ℕ) → IsDistinct (◌==◌) (numbers_of (xs ++ ys)) → is_member n ys ≡ true → counted_of n xs ≡ None
apart_front [] ys n once there = refl
apart_front (x ∷ xs) ys n once there = go (apart_front xs ys n (rest_once x (xs ++ ys) once) there) (x.number == n) refl
  where
    go : counted_of n xs ≡ None → (b : Bool) → (x.number == n) ≡ b → cond b (Some x.counted) (counted_of n xs) ≡ None
    go behind true e =
        let none : counted_of n ys ≡ None = uncounted_back n xs ys (subst (λ k. counted_of k (xs ++ ys) ≡ None) (same_by_test x.number n e) (front_once x (xs ++ ys) once)) in
        let gone : is_member n ys ≡ false = ap is_some none in cc
    go behind false e = behind

-- the back is as distinct
pub distinct_back : (xs ys : List Member) → IsDistinct (◌==◌) (numbers_of (xs ++ ys)) → IsDistinct (◌==◌) (numbers_of ys)
distinct_back [] ys once = once
distinct_back (x ∷ xs) ys once = distinct_back xs ys (rest_once x (xs ++ ys) once)

counted_past : (n : ℕ) (xs ys : List Member) → counted_of n xs ≡ None → counted_of n (xs ++ ys) ≡ counted_of n ys
counted_past n [] ys none = refl
counted_past n (x ∷ xs) ys none = go (counted_past n xs ys) (x.number == n) none
  where
    go : (counted_of n xs ≡ None → counted_of n (xs ++ ys) ≡ counted_of n ys) → (b : Bool) → cond b (Some x.counted) (counted_of n xs) ≡ None → cond b (Some x.counted) (counted_of n (xs ++ ys)) ≡ counted_of n ys
    go past true none = cc
    go past false none = past none

-- the member behind one in the middle
after_apart : (front back : List Member) (a : Member) → counted_of a.number front ≡ None → member_after a.number (front ++ a ∷ back) ≡ slice_get back 0
after_apart [] back a none = ap (λ b. if b then slice_get back 0 else member_after a.number back) (itself_tested a.number)
after_apart (x ∷ front) back a none = at (after_apart front back a) (x.number == a.number) none
  where
    at : (counted_of a.number front ≡ None → member_after a.number (front ++ a ∷ back) ≡ slice_get back 0) → (b : Bool) → cond b (Some x.counted) (counted_of a.number front) ≡ None → (if b then slice_get (front ++ a ∷ back) 0 else member_after a.number (front ++ a ∷ back)) ≡ slice_get back 0
    at behind true none = cc
    at behind false none = behind none

pub after_middle : (front back : List Member) (a : Member) → IsDistinct (◌==◌) (numbers_of (front ++ a ∷ back)) → member_after a.number (front ++ a ∷ back) ≡ slice_get back 0
after_middle front back a once = after_apart front back a (apart_front front (a ∷ back) a.number once (ap is_some (counted_front a back)))

-- one in the middle goes to the back
pub middle_to_back : (front back : List Member) (a : Member) → IsDistinct (◌==◌) (numbers_of (front ++ a ∷ back)) → to_back a.number (front ++ a ∷ back) ≡ front ++ (back ++ a ∷ [])
middle_to_back front back a once =
    let away = apart_front front (a ∷ back) a.number once (ap is_some (counted_front a back)) in
    let gone : counted_of a.number back ≡ None = front_once a back (distinct_back front (a ∷ back) once) in
    let out : without_member a.number (a ∷ back) ≡ back = ap (λ b. cond (not b) (a ∷ without_member a.number back) (without_member a.number back)) (itself_tested a.number) ∙ absent_taken_out a.number back gone in
    let left : without_member a.number (front ++ a ∷ back) ≡ front ++ back =
    filter-append (λ (b : Member). not (b.number == a.number)) front (a ∷ back) ∙ ap (λ xs. xs ++ without_member a.number (a ∷ back)) (absent_taken_out a.number front away) ∙ ap (λ xs. front ++ xs) out in
    ap (λ xs. xs ++ option_to_list (option_map (member a.number) (counted_of a.number (front ++ a ∷ back)))) left
    ∙ ap (λ o. (front ++ back) ++ option_to_list (option_map (member a.number) o)) (counted_past a.number front (a ∷ back) away ∙ counted_front a back)
    ∙ append_assoc front back (a ∷ [])

-- what stands before a number that is not in the front
pub before_ahead : (front back : List Member) (n : ℕ) → counted_of n front ≡ None → before_first (λ a. a.number == n) (front ++ back) ≡ front ++ before_first (λ a. a.number == n) back
before_ahead [] back n none = refl
before_ahead (x ∷ front) back n none = go (before_ahead front back n) (x.number == n) none
  where
    go : (counted_of n front ≡ None → before_first (λ a. a.number == n) (front ++ back) ≡ front ++ before_first (λ a. a.number == n) back) → (b : Bool) → cond b (Some x.counted) (counted_of n front) ≡ None
        → take (cond (not b) (1 + position_or_len (λ (a : Member). a.number == n) (front ++ back)) 0) (x ∷ (front ++ back)) ≡ x ∷ (front ++ before_first (λ a. a.number == n) back)
    go behind true none = cc
    go behind false none = rw one-add (ap (λ xs. x ∷ xs) (behind none))

-- the last of the victims is one of the members, whatever stands before them
pub record Last (members victims : List Member) : Type 0 where
  pub last : Member
  pub ends : (o : Option Member) → last_or o victims ≡ Some last
  pub is_in : is_member last.number members ≡ true

module _ {K V : Type 0} (records : Records K V) where
  pub last_victim : (members : List Member) (weight : ℕ) (victims : List Member) → (weight == 0) ≡ false → prefix (settled_members records members) weight ≡ Some victims → Last members victims
  last_victim [] weight victims some e = go (weight == 0) some e
    where
      go : (b : Bool) → b ≡ false → (if b then Some [] else None) ≡ Some victims → Last [] victims
      go true some e = cc
      go false some e = cc
  last_victim (a ∷ members) weight victims some e = at (last_victim members) (is_settled records a.number) e
    where
      one : ((w : ℕ) (f : List Member) → (w == 0) ≡ false → prefix (settled_members records members) w ≡ Some f → Last members f) → (w : ℕ) (b : Bool) → (w == 0) ≡ b → (f : List Member) → prefix (settled_members records members) w ≡ Some f → a ∷ f ≡ victims → Last (a ∷ members) victims
      one ih w true none f is same =
          let empty : [] ≡ f = (let e = sym (prefix_of_none (settled_members records members) w (same_by_test w 0 none)) ∙ is in cc) in
          subst (Last (a ∷ members)) (ap (λ f. a ∷ f) empty ∙ same) (record { last = a; ends = λ o. refl; is_in = ap is_some (counted_front a members) })
      one ih w false light f is same =
          let last = ih w f light is in
          subst (Last (a ∷ members)) same (record { last = last.last; ends = λ o. last.ends (Some a); is_in = still_within a members last.last.number last.is_in })

      first : ((w : ℕ) (f : List Member) → (w == 0) ≡ false → prefix (settled_members records members) w ≡ Some f → Last members f) → (o : Option (List Member)) → prefix (settled_members records members) (weight - a.counted) ≡ o → option_map (λ f. a ∷ f) o ≡ Some victims → Last (a ∷ members) victims
      first ih None is e = cc
      first ih (Some f) is e = one ih (weight - a.counted) ((weight - a.counted) == 0) refl f is (let same = e in cc)

      at : ((w : ℕ) (f : List Member) → (w == 0) ≡ false → prefix (settled_members records members) w ≡ Some f → Last members f) → (b : Bool) → prefix (cond b (a ∷ settled_members records members) (settled_members records members)) weight ≡ Some victims → Last (a ∷ members) victims
      at ih true e = first ih (prefix (settled_members records members) (weight - a.counted)) refl (sym (ap (λ b. if b then Some [] else option_map (λ f. a ∷ f) (prefix (settled_members records members) (weight - a.counted))) some) ∙ e)
      at ih false e =
          let last = ih weight victims some e in
          record { last = last.last; ends = last.ends; is_in = still_within a members last.last.number last.is_in }

-- ---- the walk

moved_more : (ns : List ℕ) (n : ℕ) (xs : List Member) → all_to_back (ns ++ n ∷ []) xs ≡ to_back n (all_to_back ns xs)
moved_more [] n xs = refl
moved_more (m ∷ ns) n xs = moved_more ns n (to_back m xs)

-- the first of two lists, one behind the other
pub record First (a : Member) (xs ys behind : List Member) : Type 0 where
  pub more : List Member
  pub split : xs ≡ a ∷ more
  pub rest : behind ≡ more ++ ys

first_of_two : (a : Member) (xs ys behind : List Member) → xs ++ ys ≡ a ∷ behind → First a xs ys behind ⊎ ((xs ≡ []) × (ys ≡ a ∷ behind))
first_of_two a [] ys behind e = inr (refl, e)
first_of_two a (x ∷ xs) ys behind e = inl (record { more = xs; split = (let same : x ≡ a = cc in ap (λ x. x ∷ xs) same); rest = (let same : xs ++ ys ≡ behind = cc in sym same) })

last_append : (o : Option Member) (xs ys : List Member) → last_or o (xs ++ ys) ≡ last_or (last_or o xs) ys
last_append o [] ys = refl
last_append o (x ∷ xs) ys = last_append (Some x) xs ys

-- what stands before the first of a list
before_front : (a : Member) (xs : List Member) → before_first (λ b. b.number == a.number) (a ∷ xs) ≡ []
before_front a xs = ap (λ t. take (if not t then 1 + position_or_len (λ (b : Member). b.number == a.number) xs else 0) (a ∷ xs)) (itself_tested a.number)

module _ {K V : Type 0} (c : Contents K V) (weight hash : ℕ) where
  -- the walk goes over the members that stood there at the start: it met the settled ones of those behind it, and the
  -- others stand at the back
  pub record Goes (met ahead : List Member) (next : Option Member) (row left : ℕ) : Type 0 where
    pub walked : List Member
    pub rest : List Member
    pub passed : List Member
    pub split : c.access ≡ walked ++ rest
    pub those : met ≡ settled_members c.records walked
    pub order : ahead ≡ rest ++ passed
    pub waiting : settled_members c.records passed ≡ []
    pub goes : GoesOn met (settled_members c.records rest) weight (total_weight met)
    pub stands : StandsBefore c.records walked row
    pub apart : weight ≤ total_weight met → has_six_unsettled c.records 0 (before_last_of met c.access) ≡ false
    pub ends : next ≡ None → rest ≡ []
    pub left_is : left ≡ length rest

  -- or it meets again what it moved itself, and the candidate is refused whatever it meets
  pub record Rounds (met ahead : List Member) (left : ℕ) : Type 0 where
    pub refused : fate_by_frequency c hash (victims_for c weight) ≡ Refused
    pub light : total_weight met < weight
    pub waiting : settled_members c.records ahead ≡ []
    pub left_is : left ≡ 0

  -- the walk has met so many settled members, which stand in front, and comes to the next
  pub record Walks (now : List Member) (next : Option Member) (victims weights frequencies row left : ℕ) : Type 0 where
    pub met : List Member
    pub ahead : List Member
    pub moved : List ℕ
    pub order : now ≡ met ++ ahead
    pub moves : now ≡ all_to_back moved c.access
    pub unsettled : are_unsettled c.records moved ≡ true
    pub settled : list_all (λ a. is_settled c.records a.number) met ≡ true
    pub count : victims ≡ length met
    pub weighs : weights ≡ total_weight met
    pub seen : frequencies ≡ frequency_of_all c met
    pub few : row ≤ 6
    pub first : (a : Member) → next ≡ Some a → Head a ahead
    pub phase : Goes met ahead next row left ⊎ Rounds met ahead left

  -- the start
  pub walks-none : Walks c.access (slice_get c.access 0) 0 0 0 0 (length c.access)
  walks-none = record {
    met = [];
    ahead = c.access;
    moved = [];
    order = refl;
    moves = refl;
    unsettled = refl;
    settled = refl;
    count = refl;
    weighs = refl;
    seen = refl;
    few = omega arith;
    first = λ a e. head_of a c.access e;
    phase = inl (record {
      walked = [];
      rest = c.access;
      passed = [];
      split = refl;
      those = refl;
      order = sym (append-nil c.access);
      waiting = refl;
      goes = goes_none (settled_members c.records c.access) weight;
      stands = stands_none c.records;
      apart = λ enough. refl;
      ends = λ e. none_first c.access (sym e);
      left_is = refl;
    });
  }

  -- the settled members are those that were met, and those ahead
  all_settled : (met ahead : List Member) (next : Option Member) (row left : ℕ) (g : Goes met ahead next row left) → settled_members c.records c.access ≡ met ++ settled_members c.records g.rest
  all_settled met ahead next row left g = ap (settled_members c.records) g.split ∙ settled-append c.records g.walked g.rest ∙ ap (λ xs. xs ++ settled_members c.records g.rest) (sym g.those)

  -- where nothing is ahead and they are too light, there are no victims
  none_at_end : (met ahead : List Member) (next : Option Member) (row left : ℕ) (g : Goes met ahead next row left) → total_weight met < weight → g.rest ≡ [] → victims_for c weight ≡ None
  none_at_end met ahead next row left g light over =
      let ended : settled_members c.records g.rest ≡ [] = ap (settled_members c.records) over in
      ap (λ xs. prefix xs weight) (all_settled met ahead next row left g ∙ ap (λ xs. met ++ xs) ended)
      ∙ is_none met weight (total_weight met) light (subst (λ xs. GoesOn met xs weight (total_weight met)) ended g.goes)

  settled_front : (a : Member) (xs : List Member) → is_settled c.records a.number ≡ true → settled_members c.records (a ∷ xs) ≡ a ∷ settled_members c.records xs
  settled_front a xs is = ap (λ b. if b then a ∷ settled_members c.records xs else settled_members c.records xs) is

  unsettled_front : (a : Member) (xs : List Member) → is_settled c.records a.number ≡ false → settled_members c.records (a ∷ xs) ≡ settled_members c.records xs
  unsettled_front a xs is = ap (λ b. if b then a ∷ settled_members c.records xs else settled_members c.records xs) is

  module _ (once : IsDistinct (◌==◌) (numbers_of c.access)) (met ahead behind : List Member) (a : Member) (next : Option Member) (row left : ℕ) (split : ahead ≡ a ∷ behind) (light : total_weight met < weight) (few : row < 6) (follows : next ≡ slice_get behind 0) where
    module _ {o : Option Member} (g : Goes met ahead o row left) where
      halves : First a g.rest g.passed behind ⊎ ((g.rest ≡ []) × (g.passed ≡ a ∷ behind))
      halves = first_of_two a g.rest g.passed behind (sym g.order ∙ split)

      before_it : (more : List Member) → c.access ≡ g.walked ++ a ∷ more → before_first (λ b. b.number == a.number) c.access ≡ g.walked
      before_it more whole =
          ap (before_first (λ b. b.number == a.number)) whole
          ∙ before_ahead g.walked (a ∷ more) a.number (apart_front g.walked (a ∷ more) a.number (subst (λ xs. IsDistinct (◌==◌) (numbers_of xs)) whole once) (ap is_some (counted_front a more)))
          ∙ ap (λ xs. g.walked ++ xs) (before_front a more) ∙ append-nil g.walked

      -- over a settled member
      goes-settled : is_settled c.records a.number ≡ true → (1 ≤ left) × Goes (met ++ a ∷ []) behind next 0 (left - 1)
      goes-settled is = go halves
        where
          go : First a g.rest g.passed behind ⊎ ((g.rest ≡ []) × (g.passed ≡ a ∷ behind)) → (1 ≤ left) × Goes (met ++ a ∷ []) behind next 0 (left - 1)
          go (inr over) = absurd (true≢false (sym is ∙ (none_front c.records a behind (sym (ap (settled_members c.records) over.1) ∙ g.waiting)).0))
          go (inl f) =
              let stood = g.left_is in
              let split = ap length f.split in
              let whole : c.access ≡ g.walked ++ a ∷ f.more = g.split ∙ ap (λ xs. g.walked ++ xs) f.split in (
                omega arith,
                record {
                  walked = g.walked ++ a ∷ [];
                  rest = f.more;
                  passed = g.passed;
                  split = whole ∙ sym (append_assoc g.walked (a ∷ []) f.more);
                  those = ap (λ xs. xs ++ a ∷ []) g.those ∙ ap (λ xs. settled_members c.records g.walked ++ xs) (sym (settled_front a [] is)) ∙ sym (settled-append c.records g.walked (a ∷ []));
                  order = f.rest;
                  waiting = g.waiting;
                  goes = subst (GoesOn (met ++ a ∷ []) (settled_members c.records f.more) weight) (sym (sum_by_push (λ (a : Member). a.counted) met a))
                      (goes_on met (settled_members c.records f.more) a weight (total_weight met) light (subst (λ xs. GoesOn met xs weight (total_weight met)) (ap (settled_members c.records) f.split ∙ settled_front a f.more is) g.goes));
                  stands = stands_settled c.records g.walked row a is few g.stands;
                  apart = λ enough.
                      ap (λ o. has_six_unsettled c.records 0 (option_map_or (λ (last : Member). before_first (λ b. b.number == last.number) c.access) o [])) (last_append None met (a ∷ []))
                      ∙ ap (has_six_unsettled c.records 0) (before_it f.more whole) ∙ stands_below c.records g.walked row few g.stands;
                  ends = λ e. front_empty f.more g.passed (sym f.rest ∙ none_first behind (sym e ∙ follows));
                  left_is = omega arith;
                },
              )

      -- over an unsettled one
      goes-unsettled : is_settled c.records a.number ≡ false → Goes met (behind ++ a ∷ []) next (row + 1) (left - 1) ⊎ Rounds met (behind ++ a ∷ []) (left - 1)
      goes-unsettled is = go halves
        where
          go : First a g.rest g.passed behind ⊎ ((g.rest ≡ []) × (g.passed ≡ a ∷ behind)) → Goes met (behind ++ a ∷ []) next (row + 1) (left - 1) ⊎ Rounds met (behind ++ a ∷ []) (left - 1)
          go (inl f) = inl (record {
            walked = g.walked ++ a ∷ [];
            rest = f.more;
            passed = g.passed ++ a ∷ [];
            split = g.split ∙ ap (λ xs. g.walked ++ xs) f.split ∙ sym (append_assoc g.walked (a ∷ []) f.more);
            those = g.those ∙ sym (append-nil (settled_members c.records g.walked)) ∙ ap (λ xs. settled_members c.records g.walked ++ xs) (sym (unsettled_front a [] is)) ∙ sym (settled-append c.records g.walked (a ∷ []));
            order = ap (λ xs. xs ++ a ∷ []) f.rest ∙ append_assoc f.more g.passed (a ∷ []);
            waiting = settled-pushed c.records g.passed a g.waiting is;
            goes = subst (λ xs. GoesOn met xs weight (total_weight met)) (ap (settled_members c.records) f.split ∙ unsettled_front a f.more is) g.goes;
            stands = stands_unsettled c.records g.walked row a is few g.stands;
            apart = λ enough. absurd (omega arith);
            ends = λ e. front_empty f.more g.passed (sym f.rest ∙ none_first behind (sym e ∙ follows));
            left_is = (let now = g.left_is in let split = ap length f.split in omega arith);
          })
          go (inr over) = inr (record {
            refused = ap (fate_by_frequency c hash) (none_at_end met ahead o row left g light over.0);
            light = light;
            waiting = settled-pushed c.records behind a (none_front c.records a behind (sym (ap (settled_members c.records) over.1) ∙ g.waiting)).1 is;
            left_is = (let now = g.left_is in let none = ap length over.0 in omega arith);
          })

    rounds-unsettled : Rounds met ahead left → is_settled c.records a.number ≡ false → Rounds met (behind ++ a ∷ []) (left - 1)
    rounds-unsettled r is = record {
      refused = r.refused;
      light = light;
      waiting = settled-pushed c.records behind a (none_front c.records a behind (sym (ap (settled_members c.records) split) ∙ r.waiting)).1 is;
      left_is = (let now = r.left_is in omega arith);
    }

    rounds-settled : Rounds met ahead left → is_settled c.records a.number ≡ true → ⊥
    rounds-settled r is = true≢false (sym is ∙ (none_front c.records a behind (sym (ap (settled_members c.records) split) ∙ r.waiting)).0)

  module _ (once : IsDistinct (◌==◌) (numbers_of c.access)) {now : List Member} {o : Option Member} {victims weights frequencies row left : ℕ} (a : Member) (walk : Walks now o victims weights frequencies row left) (here : o ≡ Some a) where
    next_is : Head a walk.ahead
    next_is = walk.first a here

    now_split : now ≡ walk.met ++ a ∷ next_is.behind
    now_split = walk.order ∙ ap (λ xs. walk.met ++ xs) next_is.split

    now_once : IsDistinct (◌==◌) (numbers_of (walk.met ++ a ∷ next_is.behind))
    now_once = subst (λ xs. IsDistinct (◌==◌) (numbers_of xs)) now_split (subst (λ xs. IsDistinct (◌==◌) (numbers_of xs)) (sym walk.moves) (distinct-all_to_back walk.moved c.access once))

    -- the one behind it
    after_is : member_after a.number now ≡ slice_get next_is.behind 0
    after_is = ap (member_after a.number) now_split ∙ after_middle walk.met next_is.behind a now_once

    module _ (light : weights < weight) (few : row < 6) (next : Option Member) (follows : next ≡ member_after a.number now) where
      too_light : total_weight walk.met < weight
      too_light = subst (λ w. w < weight) walk.weighs light

      follows_behind : next ≡ slice_get next_is.behind 0
      follows_behind = follows ∙ after_is

      -- over a settled member, which stood there at the start
      pub walks-settled : is_settled c.records a.number ≡ true → (1 ≤ left) × Walks now next (victims + 1) (weights + a.counted) (frequencies + frequency c.sketch (hash_of c a)) 0 (left - 1)
      walks-settled is = (
        on.0,
        record {
          met = walk.met ++ a ∷ [];
          ahead = next_is.behind;
          moved = walk.moved;
          order = now_split ∙ sym (append_assoc walk.met (a ∷ []) next_is.behind);
          moves = walk.moves;
          unsettled = walk.unsettled;
          settled = list_all-append (λ (a : Member). is_settled c.records a.number) walk.met (a ∷ []) ∙ ap (λ b. b && (is_settled c.records a.number && true)) walk.settled ∙ ap (λ b. b && true) is;
          count = (let now = walk.count in let more = length-append walk.met (a ∷ []) in omega arith);
          weighs = ap (λ w. w + a.counted) walk.weighs ∙ sym (sum_by_push (λ (a : Member). a.counted) walk.met a);
          seen = ap (λ f. f + frequency c.sketch (hash_of c a)) walk.seen ∙ sym (sum_by_push (λ a. frequency c.sketch (hash_of c a)) walk.met a);
          few = omega arith;
          first = λ b e. head_of b next_is.behind (sym follows_behind ∙ e);
          phase = inl on.1;
        },
      )
        where
          on : (1 ≤ left) × Goes (walk.met ++ a ∷ []) next_is.behind next 0 (left - 1)
          on = elim walk.phase [
            | inl g ↦ goes-settled once walk.met walk.ahead next_is.behind a next row left next_is.split too_light few follows_behind g is
            | inr r ↦ absurd (rounds-settled once walk.met walk.ahead next_is.behind a next row left next_is.split too_light few follows_behind r is)
          ]

      -- over an unsettled one
      pub walks-unsettled : (after : List Member) → after ≡ to_back a.number now → is_settled c.records a.number ≡ false → Walks after next victims weights frequencies (row + 1) (left - 1)
      walks-unsettled after step is = record {
        met = walk.met;
        ahead = next_is.behind ++ a ∷ [];
        moved = walk.moved ++ a.number ∷ [];
        order = step ∙ ap (to_back a.number) now_split ∙ middle_to_back walk.met next_is.behind a now_once;
        moves = step ∙ ap (to_back a.number) walk.moves ∙ sym (moved_more walk.moved a.number c.access);
        unsettled = list_all-append (λ n. not (is_settled c.records n)) walk.moved (a.number ∷ []) ∙ ap (λ b. b && (not (is_settled c.records a.number) && true)) walk.unsettled ∙ ap (λ b. not b && true) is;
        settled = walk.settled;
        count = walk.count;
        weighs = walk.weighs;
        seen = walk.seen;
        few = omega arith;
        first = λ b e. (let s = head_of b next_is.behind (sym follows_behind ∙ e) in record { behind = s.behind ++ a ∷ []; split = ap (λ xs. xs ++ a ∷ []) s.split });
        phase = elim walk.phase [
          | inl g ↦ goes-unsettled once walk.met walk.ahead next_is.behind a next row left next_is.split too_light few follows_behind g is
          | inr r ↦ inr (rounds-unsettled once walk.met walk.ahead next_is.behind a next row left next_is.split too_light few follows_behind r is)
        ];
      }

  -- the same walk, as its counters tell it
  pub walks-as : {now : List Member} {next : Option Member} {victims weights frequencies row left w f k : ℕ} → w ≡ weights → f ≡ frequencies → k ≡ left → Walks now next victims weights frequencies row left → Walks now next victims w f row k
  walks-as weighs seen left_is walk = rw (weighs, seen, left_is) walk

  -- ---- the end

  module _ (once : IsDistinct (◌==◌) (numbers_of c.access)) {now : List Member} {next : Option Member} {victims weights frequencies row left : ℕ} (walk : Walks now next victims weights frequencies row left) where
    front_is : take victims now ≡ walk.met
    front_is = ap (λ n. take n now) walk.count ∙ ap (take (length walk.met)) walk.order ∙ take-append_seam walk.met walk.ahead

    module _ (g : Goes walk.met walk.ahead next row left) where
      enough_chosen : weight ≤ weights → fate_by_frequency c hash (victims_for c weight) ≡ (if nat_lt frequencies (frequency c.sketch hash) then Preferred (take victims now) else Refused)
      enough_chosen heavy =
          let heavy' : weight ≤ total_weight walk.met = subst (λ w. weight ≤ w) walk.weighs heavy in
          ap (fate_by_frequency c hash) (ap (λ xs. prefix xs weight) (all_settled walk.met walk.ahead next row left g) ∙ is_enough walk.met (settled_members c.records g.rest) weight (total_weight walk.met) heavy' g.goes)
          ∙ ap (λ b. if nat_lt (frequency_of_all c walk.met) (frequency c.sketch hash) && not b then Preferred walk.met else Refused) (g.apart heavy')
          ∙ ap (λ b. if b then Preferred walk.met else Refused) (and-true (nat_lt (frequency_of_all c walk.met) (frequency c.sketch hash)))
          ∙ ap (λ f. if nat_lt f (frequency c.sketch hash) then Preferred walk.met else Refused) (sym walk.seen)
          ∙ ap (λ xs. if nat_lt frequencies (frequency c.sketch hash) then Preferred xs else Refused) (sym front_is)

      -- no victims, or such as are not preferred
      refused_by : ((more : List Member) → prefix (settled_members c.records g.rest) (weight - total_weight walk.met) ≡ Some more → is_preferred c hash (walk.met ++ more) ≡ false) → fate_by_frequency c hash (victims_for c weight) ≡ Refused
      refused_by not_preferred = go (victims_for c weight) refl
        where
          go : (o : Option (List Member)) → victims_for c weight ≡ o → fate_by_frequency c hash o ≡ Refused
          go None e = refl
          go (Some chosen) e =
              let longer = is_longer walk.met (settled_members c.records g.rest) chosen weight (total_weight walk.met) g.goes (sym (ap (λ xs. prefix xs weight) (all_settled walk.met walk.ahead next row left g)) ∙ e) in
              ap (λ b. if b then Preferred chosen else Refused) (ap (is_preferred c hash) (sym longer.2) ∙ not_preferred longer.0 longer.1)

      seldom_refused : frequency c.sketch hash < frequencies → fate_by_frequency c hash (victims_for c weight) ≡ Refused
      seldom_refused seldom = refused_by (λ more is.
          (let sum = sum_by-append (λ a. frequency c.sketch (hash_of c a)) walk.met more in
          let seen = walk.seen in
          let less : nat_lt (frequency_of_all c (walk.met ++ more)) (frequency c.sketch hash) ≡ false = grind (arith, sum, seen, seldom) in
          ap (λ b. b && not (has_six_unsettled c.records 0 (before_last_of (walk.met ++ more) c.access))) less))

      row_refused : weights < weight → 6 ≤ row → fate_by_frequency c hash (victims_for c weight) ≡ Refused
      row_refused light six = refused_by (λ more is.
          (let some : ((weight - total_weight walk.met) == 0) ≡ false = still_light weight (total_weight walk.met) (subst (λ w. w < weight) walk.weighs light) in
          let last = last_victim c.records g.rest (weight - total_weight walk.met) more some is in
          let ends : last_or None (walk.met ++ more) ≡ Some last.last = last_append None walk.met more ∙ last.ends (last_or None walk.met) in
          let before : before_last_of (walk.met ++ more) c.access ≡ g.walked ++ before_first (λ a. a.number == last.last.number) g.rest =
          ap (λ o. option_map_or (λ (last : Member). before_first (λ a. a.number == last.number) c.access) o []) ends
          ∙ ap (before_first (λ a. a.number == last.last.number)) g.split
          ∙ before_ahead g.walked g.rest last.last.number (apart_front g.walked g.rest last.last.number (subst (λ xs. IsDistinct (◌==◌) (numbers_of xs)) g.split once) last.is_in) in
          let six_are : has_six_unsettled c.records 0 (before_last_of (walk.met ++ more) c.access) ≡ true = ap (has_six_unsettled c.records 0) before ∙ six_stand c.records g.walked (before_first (λ a. a.number == last.last.number) g.rest) row six g.stands in
          ap (λ b. nat_lt (frequency_of_all c (walk.met ++ more)) (frequency c.sketch hash) && not b) six_are ∙ and-false (nat_lt (frequency_of_all c (walk.met ++ more)) (frequency c.sketch hash))))

    chosen_fate : (weight ≤ weights) ⊎ ((frequency c.sketch hash < frequencies) ⊎ ((6 ≤ row) ⊎ (next ≡ None))) → fate_by_frequency c hash (victims_for c weight) ≡ (if nat_le weight weights && nat_lt frequencies (frequency c.sketch hash) then Preferred (take victims now) else Refused)
    chosen_fate over = by_weight (nat_le weight weights) refl walk.phase over
      where
        by_weight : (b : Bool) → nat_le weight weights ≡ b → Goes walk.met walk.ahead next row left ⊎ Rounds walk.met walk.ahead left → (weight ≤ weights) ⊎ ((frequency c.sketch hash < frequencies) ⊎ ((6 ≤ row) ⊎ (next ≡ None)))
            → fate_by_frequency c hash (victims_for c weight) ≡ (if b && nat_lt frequencies (frequency c.sketch hash) then Preferred (take victims now) else Refused)
        by_weight true heavy (inl g) over = enough_chosen g (leb→le _ _ (passes _ heavy))
        by_weight true heavy (inr r) over = (let enough : weight ≤ weights = leb→le _ _ (passes _ heavy) in let light = r.light in let same = walk.weighs in absurd (omega arith))
        by_weight false light (inr r) over = r.refused
        by_weight false light (inl g) (inl heavy) = (let not_light : nat_le weight weights ≡ true = grind (arith, heavy) in cc)
        by_weight false light (inl g) (inr (inl seldom)) = seldom_refused g seldom
        by_weight false light (inl g) (inr (inr (inl six))) = row_refused g (let l = light in grind (arith, l)) six
        by_weight false light (inl g) (inr (inr (inr ended))) = ap (fate_by_frequency c hash) (none_at_end walk.met walk.ahead next row left g (subst (λ w. w < weight) walk.weighs (let l = light in grind (arith, l))) (g.ends ended))

    -- what the walk has come to
    pub walks-over : (weight ≤ weights) ⊎ ((frequency c.sketch hash < frequencies) ⊎ ((6 ≤ row) ⊎ (next ≡ None))) → Chooses c weight hash now victims (nat_le weight weights && nat_lt frequencies (frequency c.sketch hash))
    walks-over over = record {
      moved = walk.moved;
      unsettled = walk.unsettled;
      order = walk.moves;
      settled = ap (list_all (λ (a : Member). is_settled c.records a.number)) front_is ∙ walk.settled;
      fate = chosen_fate over;
    }
