-- Which timers there are after each step, and how many stand in a bucket.
use Rattle.std.proofs.Common.{◌≡◌, ◌≢◌, ℕ, ◌<◌, ◌≤◌, cond, nat_lt, List, Some, None, length, inl, inr, refl, sym, ap, ◌∙◌, subst, arith}
use Rattle.std.proofs.lemmas.Bool.{cases_eq, cond-true, cond-false, lt-ltb, le-ltb}
use Rattle.std.proofs.lemmas.Bool.Decides.{nat_tests}
use Rattle.std.proofs.lemmas.List.{get_or_past}
use Rattle.moka_wheel.specs.declared.nodes.Entry.{Entry}
use Rattle.moka_wheel.specs.Nodes.{Node, blank, at, befores, behinds, buckets, moments, numbers, detached, attached, held, timer_at}
use Rattle.moka_wheel.specs.Buckets.{IsTimer, IsFiled, Keeps}
use Rattle.moka_wheel.proofs.Sound.{detached-fields, attached-fields}

-- what a node holds decides its timer
pub held-is : (ns ms : List Node) (i : ℕ) → (at ms i).value ≡ (at ns i).value → timer_at ms i ≡ timer_at ns i
held-is ns ms i e = ap (λ (e : Entry). cond (nat_lt i 2049) None (cond (nat_lt e.bucket 2049) (Some (record { number = e.number; at = e.at })) None)) e

pub past-head : (ns : List Node) (i : ℕ) → 2049 ≤ i → timer_at ns i ≡ held (at ns i)
past-head ns i l = cond-false (nat_lt i 2049) None (held (at ns i)) (le-ltb i 2049 l)

-- a head holds no timer
pub head-none : (ns : List Node) (i : ℕ) → i < 2049 → timer_at ns i ≡ None
head-none ns i l = cond-true (nat_lt i 2049) None (held (at ns i)) (lt-ltb i 2049 l)

-- a free node holds none
pub held-none : (ns : List Node) (i : ℕ) → 2049 ≤ buckets ns i → timer_at ns i ≡ None
held-none ns i free = grind (arith, nat_tests)

-- a slot past the last node holds none
pub past-none : (ns : List Node) (i : ℕ) → length ns ≤ i → timer_at ns i ≡ None
past-none ns i l = held-none ns i (omega (arith, ap (λ (n : Node). n.value.bucket) (get_or_past ns i blank l)))

pub held-some : (ns : List Node) (i : ℕ) → 2049 ≤ i → buckets ns i < 2049 → timer_at ns i ≡ Some (record { number = numbers ns i; at = moments ns i })
held-some ns i past held = past-head ns i past ∙ cond-true (nat_lt (buckets ns i) 2049) _ None (lt-ltb (buckets ns i) 2049 held)

-- a node that is not free links no free one
not-free : (ns : List Node) (i j : ℕ) → buckets ns j ≡ buckets ns i → buckets ns i < 2049 → (m : ℕ) → 2049 ≤ buckets ns m → m ≢ j
not-free ns i j e l m free z = omega (arith, ap (buckets ns) z, e)

-- the timer in slot s is gone
pub record Removes (ns ms : List Node) (s : ℕ) : Type 0 where
  pub size : length ms ≡ length ns
  pub gone : timer_at ms s ≡ None
  pub others : (i : ℕ) → i ≢ s → timer_at ms i ≡ timer_at ns i
  pub free : (i : ℕ) → 2049 ≤ buckets ns i → at ms i ≡ at ns i
  pub bucket : buckets ms s ≡ 2049
  pub number : numbers ms s ≡ numbers ns s
  pub moment : moments ms s ≡ moments ns s

pub detach-removes : (ns : List Node) (ws : List ℕ) (w r s : ℕ) → IsFiled ns ws w r → IsTimer ns s → Removes ns (detached ns s) s
detach-removes ns ws w r s placed t =
    let ms = detached ns s in
    let d = detached-fields ns ws w r s placed t in
    let p = placed.links.back s t.within t.held in
    let b = placed.links.on s t.within t.held in
    let free : buckets ms s ≡ 2049 = ap (λ (e : Entry). e.bucket) d.value_at in
    record {
      size = d.size;
      gone = held-none ms s (omega (arith, free));
      others = λ i ne. held-is ns ms i (d.value i ne);
      free = λ i l. d.whole i (not-free ns s s refl t.held i l) (not-free ns s (befores ns s) p.same t.held i l) (not-free ns s (behinds ns s) b.same t.held i l);
      bucket = free;
      number = ap (λ (e : Entry). e.number) d.value_at;
      moment = ap (λ (e : Entry). e.at) d.value_at;
    }

-- a timer comes into slot s
pub record Adds (ns ms : List Node) (s : ℕ) : Type 0 where
  pub size : length ms ≡ length ns
  pub here : timer_at ms s ≡ Some (record { number = numbers ns s; at = moments ns s })
  pub others : (i : ℕ) → i ≢ s → timer_at ms i ≡ timer_at ns i
  pub free : (i : ℕ) → i ≢ s → 2049 ≤ buckets ns i → at ms i ≡ at ns i

pub attach-adds : (ns : List Node) (ws : List ℕ) (w r s h : ℕ) → IsFiled ns ws w r → 2049 ≤ s → s < length ns → h < 2049 → Adds ns (attached ns s h) s
attach-adds ns ws w r s h placed past inside low =
    let ms = attached ns s h in
    let a = attached-fields ns ws w r s h placed inside low in
    let kh = placed.links.head h low in
    let h_in : h < length ns = omega (arith, placed.links.sized) in
    let held_h : buckets ns h < 2049 = omega (arith, kh) in
    let p = placed.links.back h h_in held_h in
    let bucket_at : buckets ms s ≡ h = ap (λ (e : Entry). e.bucket) a.value_at in
    record {
      size = a.size;
      here = held-some ms s past (omega (arith, bucket_at)) ∙ ap (λ (e : Entry). Some (record { number = e.number; at = e.at })) a.value_at;
      others = λ i ne. held-is ns ms i (a.value i ne);
      free = λ i ne l. a.whole i ne (not-free ns h (befores ns h) p.same held_h i l) (not-free ns h h refl held_h i l);
    }

-- a timer that leaves its list and comes into another keeps everything
pub move-keeps : (ns ms os : List Node) (s : ℕ) → IsTimer ns s → Removes ns ms s → Adds ms os s → Keeps ns os
move-keeps ns ms os s t r a =
    let here : timer_at os s ≡ timer_at ns s = a.here ∙ ap (λ n. Some (record { number = n; at = moments ms s })) r.number
    ∙ ap (λ x. Some (record { number = numbers ns s; at = x })) r.moment ∙ sym (held-some ns s t.past t.held) in
    record {
      size = a.size ∙ r.size;
      timers = λ i. elim (cases_eq i s) as (λ _. timer_at os i ≡ timer_at ns i) [
        | inl e ↦ ap (timer_at os) e ∙ here ∙ ap (timer_at ns) (sym e)
        | inr ne ↦ a.others i ne ∙ r.others i ne
      ];
      free = λ i l.
          let ne : i ≢ s = λ e. omega (arith, ap (buckets ns) e, t.held, l) in
          let same = r.free i l in
          a.free i ne (subst (λ n. 2049 ≤ n.value.bucket) (sym same) l) ∙ same;
    }

pub keeps-trans : (ns ms os : List Node) → Keeps ns ms → Keeps ms os → Keeps ns os
keeps-trans ns ms os a b = record {
  size = b.size ∙ a.size;
  timers = λ i. b.timers i ∙ a.timers i;
  free = λ i l. b.free i (subst (λ n. 2049 ≤ n.value.bucket) (sym (a.free i l)) l) ∙ a.free i l;
}
