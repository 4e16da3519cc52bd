-- The lists as they are made.
use Rattle.std.proofs.Common.{◌≡◌, ℕ, zero, suc, ◌+◌, ◌/◌, ◌<◌, inl, inr, List, [], ◌∷◌, ◌++◌, length, get_or, replicate, refl, sym, ap, ◌∙◌, subst, arith}
use Rattle.std.proofs.lemmas.Bool.{cases_lt}
use Rattle.std.proofs.lemmas.List.{get_or_append_left, get_or_push}
use Rattle.std.specs.FinMap.{empty, get, len, get-empty, len-empty}
use Rattle.std.specs.Ordering.{nat_cmp}
use Rattle.moka_links.proofs.Chains.{no-frees}
use Rattle.moka_wheel.specs.TimerWheel.{Timer}
use Rattle.moka_wheel.specs.declared.buckets.Buckets.{Buckets}
use Rattle.moka_wheel.specs.Nodes.{Node, blank, at, befores, behinds, buckets, Hop, Links, timer_at, timers_of}
use Rattle.moka_wheel.specs.Buckets.{AreBuckets, IsFiled}
use Rattle.moka_wheel.specs.Invariant.{IsWheel}
use Rattle.moka_wheel.proofs.Frames.{head-none, past-none}
use Rattle.moka_wheel.proofs.Sound.{placed-from}
use Rattle.moka_wheel.proofs.Maps.{same-timers}
use Rattle.moka_wheel.proofs.Bits.{bit-of_zero}

-- a head alone in its list
abbrev pub head : ℕ → Node
head i = record { value = record { number = 0; at = 0; bucket = i }; before = i; behind = i }

-- one more head behind those that are there
pub more-heads : (ns : List Node) (n : ℕ) → length ns ≡ n → ((i : ℕ) → i < n → at ns i ≡ head i) → (i : ℕ) → i < n + 1 → at (ns ++ head n ∷ []) i ≡ head i
more-heads ns n size heads i l = grind (arith, heads i, get_or_push ns (head n) blank i, get_or_append_left ns (head n ∷ []) blank i)

pub heads-placed : (ns : List Node) (ws : List ℕ) (w : ℕ) → length ns ≡ 2049 → ((i : ℕ) → i < 2049 → at ns i ≡ head i) → ((k : ℕ) → get_or ws k 0 ≡ 0) → IsFiled ns ws w 2048
heads-placed ns ws w size heads off =
    let k : (i : ℕ) → i < 2049 → buckets ns i ≡ i = λ i l. ap (λ (n : Node). n.value.bucket) (heads i l) in
    let f : (i : ℕ) → i < 2049 → behinds ns i ≡ i = λ i l. ap (λ (n : Node). n.behind) (heads i l) in
    let g : (i : ℕ) → i < 2049 → befores ns i ≡ i = λ i l. ap (λ (n : Node). n.before) (heads i l) in
    let links : Links (length ns) (behinds ns) (befores ns) (buckets ns) (λ _. 0) = record {
      sized = omega (arith, size);
      head = k;
      on = λ i q l. subst (λ j. Hop (length ns) (buckets ns) (befores ns) i j) (sym (f i (omega (arith, size)))) (record { within = q; same = refl; back = g i (omega (arith, size)) });
      back = λ i q l. subst (λ j. Hop (length ns) (buckets ns) (behinds ns) i j) (sym (g i (omega (arith, size)))) (record { within = q; same = refl; back = f i (omega (arith, size)) });
      rising = λ i far q l. absurd (omega (arith, size));
    } in
    placed-from ns ws w 2048 (λ _. 0) links (λ i t. absurd (omega (arith, t.past, t.within, size)))
    (λ j l ne on. absurd (omega (arith, bit-of_zero ws j (off (j / 64)), on))) (λ l. absurd (omega arith))

pub zeros : (n k : ℕ) → get_or {A = ℕ} (replicate n 0) k 0 ≡ 0
zeros zero k = refl
zeros (suc n) zero = refl
zeros (suc n) (suc k) = zeros n k

-- no timer stands in the heads
pub no-timers : (ns : List Node) → length ns ≡ 2049 → timers_of ns ≡ empty
no-timers ns size = same-timers ns empty (λ q. elim (cases_lt q 2049) as (λ _. timer_at ns q ≡ get (empty {X = Timer} {R = nat_cmp}) q) [
  | inl l ↦ head-none ns q l ∙ sym (get-empty nat_cmp q)
  | inr l ↦ past-none ns q (omega (arith, size)) ∙ sym (get-empty nat_cmp q)
])

pub heads-wheel : (b : Buckets) → AreBuckets b 2048 → length b.nodes.items ≡ 2049 → IsWheel b 0 0
heads-wheel b placed size = record {
  placed = placed;
  small = omega (arith, size);
  counted = sym (len-empty nat_cmp Timer) ∙ ap len (sym (no-timers b.nodes.items size));
  frees = [];
  chain = no-frees (behinds b.nodes.items) 0 (length b.nodes.items);
  past = λ j l. absurd (omega arith);
  unused = λ j l. absurd (omega arith);
  total = omega (arith, size);
}
