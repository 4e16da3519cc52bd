-- The counters that words show: reading one, writing one, halving all, and a fresh table.
use Rattle.std.proofs.Common.{◌≡◌, ◌≢◌, ℕ, false, ◌+◌, ◌-◌, ◌*◌, ◌/◌, ◌%◌, ◌^◌, ◌<◌, ◌≤◌, List, [], ◌∷◌, Option, Some, length, get_or, set, map, replicate, refl, sym, ap, ◌∙◌, subst, arith, length-set, get_or-set_same, get_or-set_other, bit_and}
use Rattle.std.proofs.Math.Nat.{zero-div}
use Rattle.std.proofs.lemmas.List.{get_or-map, get_or-replicate, length-replicate, length-map, set-get_or}
use Rattle.std.proofs.lemmas.List.FromFn.{length-map-range_with_len, get_or-map-range_with_len}
use Rattle.std.proofs.lemmas.Grind.{same_number_lists}
use Rattle.std.proofs.lemmas.Nat.{and_mask, pow_pos}
use Rattle.std.specs.Int.{IsPowerOfTwo}
use Rattle.moka_parts.specs.Frequency.{SketchTable, no_counts, group_of, place_of, places_of, raised, can_rise, raised_if, counted_once}
use Rattle.moka_sketch.specs.Words.{counter_at, counters_of, table_of, IsSketch}

pub length-counters_of : (words : List ℕ) → length (counters_of words) ≡ 16 * length words
unfolding counters_of
length-counters_of words = length-map-range_with_len (λ p. counter_at (get_or words (p / 16) 0) (p % 16)) 0 (16 * length words)

get_or-counters_of : (words : List ℕ) (p : ℕ) → p < 16 * length words → get_or (counters_of words) p 0 ≡ counter_at (get_or words (p / 16) 0) (p % 16)
unfolding counters_of
get_or-counters_of words p l =
    get_or-map-range_with_len (λ p. counter_at (get_or words (p / 16) 0) (p % 16)) 0 (16 * length words) p p 0 l (omega arith)

-- the counter at a position of a word
pub counter-of_word : (words : List ℕ) (at q : ℕ) → at < length words → q < 16 → get_or (counters_of words) (16 * at + q) 0 ≡ counter_at (get_or words at 0) q
counter-of_word words at q l m =
    get_or-counters_of words (16 * at + q) (omega arith)
    ∙ ap (λ x. counter_at (get_or words x 0) ((16 * at + q) % 16)) (omega arith)
    ∙ ap (λ x. counter_at (get_or words at 0) x) (omega arith)

-- a word is written that differs in one counter
pub counters_of-set : (words : List ℕ) (at q v : ℕ) → at < length words → q < 16 → ((r : ℕ) → r ≢ q → counter_at v r ≡ counter_at (get_or words at 0) r) → counters_of (set words at v) ≡ set (counters_of words) (16 * at + q) (counter_at v q)
counters_of-set words at q v l m others =
    let same_length : length (set words at v) ≡ length words = length-set words at v in
    let long = length-counters_of words in
    same_number_lists _ _ (length-counters_of (set words at v) ∙ ap (λ n. 16 * n) same_length ∙ sym long ∙ sym (length-set (counters_of words) (16 * at + q) (counter_at v q))) (λ k h.
    let below : k < 16 * length words = omega (arith, length-counters_of (set words at v)) in
    let low : k / 16 < length words = omega arith in
    let read = get_or-counters_of (set words at v) k (omega arith) in
    grind (
      arith,
      read,
      get_or-set_same words at v 0 l,
      get_or-set_other words at (k / 16) v 0,
      others (k % 16),
      get_or-counters_of words k below,
      get_or-set_same (counters_of words) (16 * at + q) (counter_at v q) 0 (omega arith),
      get_or-set_other (counters_of words) (16 * at + q) k (counter_at v q) 0,
    ))

-- each counter of each word is halved
pub counters_of-halved : (words halves : List ℕ) → length halves ≡ length words → ((i q : ℕ) → i < length words → q < 16 → counter_at (get_or halves i 0) q ≡ counter_at (get_or words i 0) q / 2) → counters_of halves ≡ map (λ c. c / 2) (counters_of words)
counters_of-halved words halves e each =
    same_number_lists _ _ (length-counters_of halves ∙ ap (λ n. 16 * n) e ∙ sym (length-counters_of words) ∙ sym (length-map (counters_of words) (λ c. c / 2))) (λ k h.
    let below : k < 16 * length words = omega (arith, length-counters_of halves) in
    get_or-counters_of halves k (omega arith)
    ∙ each (k / 16) (k % 16) (omega arith) (omega arith)
    ∙ ap (λ c. c / 2) (sym (get_or-counters_of words k below))
    ∙ sym (get_or-map (λ c. c / 2) (counters_of words) k 0 0 (omega (arith, length-counters_of words))))

-- words of zeros show no counts
pub counters_of-zeros : (n : ℕ) → counters_of (replicate {A = ℕ} n 0) ≡ replicate {A = ℕ} (16 * n) 0
counters_of-zeros n =
    let long : length (replicate {A = ℕ} n 0) ≡ n = length-replicate {A = ℕ} n 0 in
    same_number_lists _ _ (length-counters_of (replicate n 0) ∙ ap (λ x. 16 * x) long ∙ sym (length-replicate {A = ℕ} (16 * n) 0)) (λ k h.
    let all = length-counters_of (replicate n 0) in
    let below : k < 16 * n = omega arith in
    get_or-counters_of (replicate n 0) k (omega arith)
    ∙ ap (λ x. counter_at x (k % 16)) (get_or-replicate {A = ℕ} n (k / 16) 0 0 (omega arith))
    ∙ ap (λ x. x % 16) (zero-div (2 ^ (4 * (k % 16))))
    ∙ sym (get_or-replicate {A = ℕ} (16 * n) k 0 0 below))

-- ---- the table that words show

pub table_of-some : (words : List ℕ) (size : ℕ) → 0 < length words → table_of words size ≡ Some (record { table_length = length words; counters = counters_of words; size = size })
table_of-some [] size l = absurd (omega arith)
table_of-some (word ∷ words) size l = refl

-- words of zeros show a fresh table
pub table_of-zeros : (n : ℕ) → 0 < n → table_of (replicate {A = ℕ} n 0) 0 ≡ Some (no_counts n)
table_of-zeros n l =
    let long : length (replicate {A = ℕ} n 0) ≡ n = length-replicate {A = ℕ} n 0 in
    let build : ℕ → List ℕ → Option SketchTable = λ a b. Some (record { table_length = a; counters = b; size = 0 }) in
    table_of-some (replicate n 0) 0 (omega arith)
    ∙ ap (λ x. build x (counters_of (replicate n 0))) long
    ∙ ap (λ x. build n x) (counters_of-zeros n)

-- ---- the place of a counter

-- a mask is a remainder by a power of two
pub and_power : (x n : ℕ) → IsPowerOfTwo n → bit_and x (n - 1) ≡ x % n
and_power x n (k, e) = ap (λ m. bit_and x (m - 1)) e ∙ and_mask x k ∙ ap (λ m. x % m) (sym e)

pub power_pos : (n : ℕ) → IsPowerOfTwo n → 0 < n
power_pos n (k, e) = omega (arith, pow_pos k)

-- a counter that cannot rise stays
pub raised-greatest : (counters : List ℕ) (p n : ℕ) → get_or counters p 0 ≡ n → 15 ≤ n → n < 16 → counters ≡ raised counters p
raised-greatest counters p n e l m = sym (ap (λ x. set counters p x) (omega arith) ∙ set-get_or counters p 0)

-- the i-th counter of a hash is at its position of its word
module _ (words : List ℕ) (hash i factor at position : ℕ) (e : at ≡ group_of (length words) hash factor) (f : position ≡ 4 * (hash % 4) + i) (l : at < length words) (m : position < 16) where
  place-is : place_of (length words) hash i factor ≡ 16 * at + position
  place-is = ap (λ x. 16 * x + (4 * (hash % 4) + i)) (sym e) ∙ ap (λ x. 16 * at + x) (sym f)

  pub counter-at_place : get_or (counters_of words) (place_of (length words) hash i factor) 0 ≡ counter_at (get_or words at 0) position
  counter-at_place = ap (λ x. get_or (counters_of words) x 0) place-is ∙ counter-of_word words at position l m

  -- it rises with its word, if it is below 15
  pub raised-word : (word : ℕ) → counter_at (get_or words at 0) position < 15 → counter_at word position ≡ counter_at (get_or words at 0) position + 1
      → ((q : ℕ) → q ≢ position → counter_at word q ≡ counter_at (get_or words at 0) q)
      → counters_of (set words at word) ≡ raised (counters_of words) (place_of (length words) hash i factor)
  raised-word word small here others =
      let place = place_of (length words) hash i factor in
      let now : get_or (counters_of words) place 0 ≡ counter_at (get_or words at 0) position = counter-at_place in
      counters_of-set words at position word l m others
      ∙ ap (λ x. set (counters_of words) x (counter_at word position)) (sym place-is)
      ∙ ap (λ x. set (counters_of words) place x) (omega arith)

-- a fresh table is sound
pub IsSound-zeros : (n room : ℕ) → IsPowerOfTwo n → n ≤ 2 ^ 30 → 128 ≤ room → IsSketch (replicate {A = ℕ} n 0) room 0
IsSound-zeros n room power within enough =
    let long : length (replicate {A = ℕ} n 0) ≡ n = length-replicate {A = ℕ} n 0 in
    let some = power_pos n power in
    record {
      room_for_128 = enough;
      power = λ _. subst IsPowerOfTwo (sym long) power;
      within = omega arith;
      size_below = λ _. omega arith;
    }

-- where no counter of a hash can rise, the table stays
pub counted_once-kept : (words after : List ℕ) (size hash : ℕ) → 0 < length words → after ≡ words → can_rise (counters_of words) (places_of (length words) hash) ≡ false → table_of after size ≡ counted_once (table_of words size) hash
counted_once-kept words after size hash some same none =
    let t : SketchTable = record { table_length = length words; counters = counters_of words; size = size } in
    ap (λ (x : List ℕ). table_of x size) same
    ∙ table_of-some words size some
    ∙ sym (ap (λ x. counted_once x hash) (table_of-some words size some) ∙ ap (λ b. Some (raised_if b t (places_of (length words) hash))) none)
