-- The walk along the due list.
use Rattle.std.proofs.Common.{◌≡◌, ◌≢◌, ℕ, zero, suc, ◌+◌, ◌<◌, ◌≤◌, ◌⊎◌, Bool, true, false, cond, nat_eq, List, length, inl, inr, refl, sym, ap, ◌∙◌, subst, arith}
use Rattle.std.proofs.lemmas.Bool.{cases_lt, cases_Bool, false≢true}
use Rattle.std.proofs.lemmas.Bool.Decides.{nat_tests}
use Rattle.moka_wheel.specs.Nodes.{Node, befores, behinds, buckets, moments}
use Rattle.moka_wheel.specs.Buckets.{IsTimer, IsFiled}
use Rattle.moka_wheel.proofs.Counts.{count_to, count-fewer, count-none, count-more}
use Rattle.moka_wheel.proofs.Rings.{behind-other}

-- the test that one more number passes
abbrev with_one : (ℕ → Bool) → ℕ → ℕ → Bool
with_one f s i = cond (nat_eq i s) true (f i)

pub record IsDue (ns : List Node) (i : ℕ) : Type 0 where
  pub timer : IsTimer ns i
  pub bucket : buckets ns i ≡ 2048

-- after so many steps along the due list the walk has come to a slot, and what it has seen is later than `now`
pub record Walk (ns : List Node) (now slot steps : ℕ) : Type 0 where
  pub seen : ℕ → Bool
  pub within : slot < length ns
  pub bucket : buckets ns slot ≡ 2048
  pub back : (i : ℕ) → IsDue ns i → seen i ≡ true → 2049 ≤ befores ns i → seen (befores ns i) ≡ true
  pub next : (i : ℕ) → IsDue ns i → (befores ns i ≡ 2048) ⊎ (seen (befores ns i) ≡ true) → (seen i ≡ true) ⊎ (i ≡ slot)
  pub later : (i : ℕ) → IsDue ns i → seen i ≡ true → now < moments ns i
  pub fresh : 2049 ≤ slot → seen slot ≡ false
  pub from : (befores ns slot ≡ 2048) ⊎ (seen (befores ns slot) ≡ true)
  pub counted : count_to seen (length ns) ≡ steps

-- the walk begins behind the head
pub walk-start : (ns : List Node) (ws : List ℕ) (w now : ℕ) → IsFiled ns ws w 2048 → Walk ns now (behinds ns 2048) 0
walk-start ns ws w now placed =
    let head = placed.links.head 2048 (omega arith) in
    let t = placed.links.on 2048 (omega (arith, placed.links.sized)) (omega (arith, head)) in
    record {
      seen = λ _. false;
      within = t.within;
      bucket = t.same ∙ head;
      back = λ i d e. absurd (false≢true e);
      next = λ i d o. elim o as (λ _. (false ≡ true) ⊎ (i ≡ behinds ns 2048)) [
        | inl e ↦ inr (sym (placed.links.back i d.timer.within d.timer.held).back ∙ ap (behinds ns) e)
        | inr e ↦ absurd (false≢true e)
      ];
      later = λ i d e. absurd (false≢true e);
      fresh = λ _. refl;
      from = inl t.back;
      counted = count-none (length ns);
    }

-- a slot that is in the due list is its head or a timer
pub due-or-head : (ns : List Node) (ws : List ℕ) (w i : ℕ) → IsFiled ns ws w 2048 → i < length ns → buckets ns i ≡ 2048 → (i ≡ 2048) ⊎ IsDue ns i
due-or-head ns ws w i placed l e = elim (cases_lt i 2049) as (λ _. (i ≡ 2048) ⊎ IsDue ns i) [
  | inl low ↦ inl (sym (placed.links.head i low) ∙ e)
  | inr past ↦ inr (record { timer = record { past = past; within = l; held = omega (arith, e) }; bucket = e })
]

-- one step past a timer that is later
pub walk-step : (ns : List Node) (ws : List ℕ) (w now slot steps : ℕ) → IsFiled ns ws w 2048 → Walk ns now slot steps → slot ≢ 2048 → now < moments ns slot → Walk ns now (behinds ns slot) (steps + 1)
walk-step ns ws w now slot steps placed walk ne late =
    let past : 2049 ≤ slot = elim (due-or-head ns ws w slot placed walk.within walk.bucket) as (λ _. 2049 ≤ slot) [
      | inl e ↦ absurd (ne e)
      | inr d ↦ d.timer.past
    ] in
    let held : buckets ns slot < 2049 = omega (arith, walk.bucket) in
    let t = placed.links.on slot walk.within held in
    let seen = with_one walk.seen slot in
    let was : (i : ℕ) → seen i ≡ true → (i ≡ slot) ⊎ (walk.seen i ≡ true) = λ i e. grind (arith, nat_tests) in
    let keep : (i : ℕ) → walk.seen i ≡ true → seen i ≡ true = λ i e. grind (arith, nat_tests) in
    let here : seen slot ≡ true = grind (arith, nat_tests) in
    let other : (i : ℕ) → i ≢ slot → seen i ≡ walk.seen i = λ i ne. grind (arith, nat_tests) in
    let new : walk.seen slot ≡ false = walk.fresh past in
    record {
      seen = seen;
      within = t.within;
      bucket = t.same ∙ walk.bucket;
      back = λ i d e l. grind (arith, was i e, walk.from, walk.back i d, keep (befores ns i));
      next = λ i d o. grind (arith, o, was (befores ns i), walk.next i d, keep i, here, (placed.links.back i d.timer.within d.timer.held).back);
      later = λ i d e. elim (was i e) as (λ _. now < moments ns i) [
        | inl same ↦ subst (λ x. now < moments ns x) (sym same) late
        | inr s ↦ walk.later i d s
      ];
      fresh = λ l.
          let d : IsDue ns (behinds ns slot) = record { timer = record { past = l; within = t.within; held = omega (arith, t.same, held) }; bucket = t.same ∙ walk.bucket } in
          let apart : behinds ns slot ≢ slot = behind-other (length ns) (behinds ns) (befores ns) (buckets ns) placed.rank placed.links slot past walk.within held in
          other (behinds ns slot) apart ∙ elim (cases_Bool (walk.seen (behinds ns slot))) as (λ _. walk.seen (behinds ns slot) ≡ false) [
            | inl e ↦ absurd (false≢true (sym new ∙ ap walk.seen (sym t.back) ∙ walk.back (behinds ns slot) d e (omega (arith, t.back))))
            | inr e ↦ e
          ];
      from = inr (ap seen t.back ∙ here);
      counted = count-more walk.seen seen slot (length ns) walk.within new here other ∙ ap (λ n. n + 1) walk.counted;
    }

-- what is due was seen, where the walk is back at the head
pub seen-all : (ns : List Node) (ws : List ℕ) (w now slot steps : ℕ) (placed : IsFiled ns ws w 2048) (walk : Walk ns now slot steps) → slot ≡ 2048
    → (n i : ℕ) → placed.rank i < n → IsDue ns i → walk.seen i ≡ true
seen-all ns ws w now slot steps placed walk home zero i r d = absurd (omega arith)
seen-all ns ws w now slot steps placed walk home (suc n) i r d =
    let t = placed.links.back i d.timer.within d.timer.held in
    let up = placed.links.rising i d.timer.past d.timer.within d.timer.held in
    let o : (befores ns i ≡ 2048) ⊎ (walk.seen (befores ns i) ≡ true) = elim (due-or-head ns ws w (befores ns i) placed t.within (t.same ∙ d.bucket)) as (λ _. (befores ns i ≡ 2048) ⊎ (walk.seen (befores ns i) ≡ true)) [
      | inl e ↦ inl e
      | inr e ↦ inr (seen-all ns ws w now slot steps placed walk home n (befores ns i) (omega arith) e)
    ] in
    elim (walk.next i d o) as (λ _. walk.seen i ≡ true) [
      | inl s ↦ s
      | inr same ↦ absurd (omega (arith, same, home, d.timer.past))
    ]

pub walk-home : (ns : List Node) (ws : List ℕ) (w now slot steps i : ℕ) → IsFiled ns ws w 2048 → Walk ns now slot steps → slot ≡ 2048 → IsTimer ns i → buckets ns i ≡ 2048 → now < moments ns i
walk-home ns ws w now slot steps i placed walk home t e =
    let d : IsDue ns i = record { timer = t; bucket = e } in
    walk.later i d (seen-all ns ws w now slot steps placed walk home (placed.rank i + 1) i (omega arith) d)

-- after as many steps as there are nodes the walk is back at the head
pub walk-end : (ns : List Node) (ws : List ℕ) (w now slot : ℕ) → IsFiled ns ws w 2048 → Walk ns now slot (length ns) → slot ≡ 2048
walk-end ns ws w now slot placed walk = elim (due-or-head ns ws w slot placed walk.within walk.bucket) as (λ _. slot ≡ 2048) [
  | inl e ↦ e
  | inr d ↦ absurd (omega (arith, count-fewer walk.seen (length ns) slot walk.within (walk.fresh d.timer.past), walk.counted))
]
