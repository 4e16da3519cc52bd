-- What each call leaves of the whole wheel.
use Rattle.std.proofs.Common.{◌≡◌, ◌≢◌, ℕ, zero, suc, ◌+◌, ◌-◌, ◌<◌, ◌≤◌, List, ◌∷◌, Some, None, IsSome, unwrap_or, length, refl, sym, ap, ◌∙◌, subst, arith, drop}
use Rattle.std.proofs.lemmas.Bool.{false≢true}
use Rattle.std.specs.FinMap.{get, len}
use Rattle.moka_links.specs.Chains.{Frees, free_of}
use Rattle.moka_wheel.specs.declared.buckets.Buckets.{Buckets}
use Rattle.moka_wheel.specs.TimerWheel.{Timer}
use Rattle.moka_wheel.specs.Nodes.{Node, at, behinds, buckets, moments, numbers, timer_at, timers_of}
use Rattle.moka_wheel.specs.Buckets.{AreBuckets, IsTimer, Keeps, Puts, Takes}
use Rattle.moka_wheel.specs.Invariant.{IsWheel}
use Rattle.moka_links.proofs.FinMaps.{len-inserted, len-kept, len-removed, len-some}
use Rattle.moka_links.proofs.Chains.{Frees-same, more-frees, fewer-frees, free_of-rest, length-rest}
use Rattle.moka_wheel.proofs.Frames.{head-none, held-none, held-some, past-none}
use Rattle.moka_wheel.proofs.Maps.{get-timers, keeps-timers, puts-timers, takes-timers}

-- a slot that has a timer
pub is-timer : (ns : List Node) (s : ℕ) → IsSome (get (timers_of ns) s) → IsTimer ns s
is-timer ns s some =
    let here : IsSome (timer_at ns s) = subst (λ o. IsSome o) (get-timers ns s) some in
    let not_none : timer_at ns s ≢ None = λ e. false≢true (subst (λ o. IsSome o) e here) in
    record {
      past = grind (arith, not_none, head-none ns s);
      within = grind (arith, not_none, past-none ns s);
      held = grind (arith, not_none, held-none ns s);
    }

pub timer-is : (ns : List Node) (s : ℕ) → IsTimer ns s → get (timers_of ns) s ≡ Some (record { number = numbers ns s; at = moments ns s })
timer-is ns s t = get-timers ns s ∙ held-some ns s t.past t.held

pub timer-some : (ns : List Node) (s : ℕ) → IsTimer ns s → IsSome (get (timers_of ns) s)
timer-some ns s t = subst (λ o. IsSome o) (sym (timer-is ns s t)) refl

-- no timer is in a new slot
pub none-past : (ns : List Node) (s : ℕ) → length ns ≤ s → get (timers_of ns) s ≡ None
none-past ns s l = get-timers ns s ∙ past-none ns s l

-- the free nodes stay as they are
same-wheel : (b b' : Buckets) (count count' free : ℕ) (o : IsWheel b count free) → AreBuckets b' 2048 → length b.nodes.items ≤ length b'.nodes.items
    → ((i : ℕ) → i < length o.frees → at b'.nodes.items (free_of o.frees i) ≡ at b.nodes.items (free_of o.frees i))
    → count' ≡ len (timers_of b'.nodes.items) → count' + length o.frees + 2049 ≡ length b'.nodes.items → length b'.nodes.items ≤ 4294967296
    → IsWheel b' count' free
same-wheel b b' count count' free o placed grown same counted total small =
    let ns = b.nodes.items in
    let ms = b'.nodes.items in
    record {
      placed = placed;
      small = small;
      counted = counted;
      frees = o.frees;
      chain = Frees-same (behinds ns) (behinds ms) (free_of o.frees) (length o.frees) free (length ns) (length ms) o.chain grown (λ i l. ap (λ (n : Node). n.behind) (same i l));
      past = o.past;
      unused = λ j l. subst (λ (n : Node). 2049 ≤ n.value.bucket) (sym (same j l)) (o.unused j l);
      total = total;
    }

-- the wheel's moment moves
pub keeps-wheel : (b b' : Buckets) (count free : ℕ) → IsWheel b count free → AreBuckets b' 2048 → Keeps b.nodes.items b'.nodes.items → IsWheel b' count free
keeps-wheel b b' count free o placed keeps =
    same-wheel b b' count count free o placed (omega (arith, keeps.size)) (λ i l. keeps.free (free_of o.frees i) (o.unused i l))
    (o.counted ∙ ap len (sym (keeps-timers b.nodes.items b'.nodes.items keeps))) (omega (arith, o.total, keeps.size)) (omega (arith, keeps.size, o.small))

-- a timer comes into a new node, where none is free
pub append-wheel : (b b' : Buckets) (count free slot : ℕ) (t : Timer) → IsWheel b count free → length b.nodes.items ≤ count + 2049 → length b.nodes.items < 4294967296
    → AreBuckets b' 2048 → Puts b.nodes.items b'.nodes.items slot t → length b'.nodes.items ≡ length b.nodes.items + 1 → slot ≡ length b.nodes.items
    → IsWheel b' (count + 1) free
append-wheel b b' count free slot t o full fits placed puts size is =
    let ns = b.nodes.items in
    let none = none-past ns slot (omega arith) in
    same-wheel b b' count (count + 1) free o placed (omega (arith, size)) (λ i l. absurd (omega (arith, o.total)))
    (omega (arith, o.counted, ap len (puts-timers ns b'.nodes.items slot t puts), len-inserted (timers_of ns) slot t none)) (omega (arith, o.total, size)) (omega (arith, size))

-- ---- free nodes

module _ {b : Buckets} {count free : ℕ} (o : IsWheel b count free) where
  -- one is free where not all are in use
  some-free : count + 2049 < length b.nodes.items → 0 < length o.frees
  some-free more = omega (arith, o.total)

  -- it has no timer
  pub none-free : count + 2049 < length b.nodes.items → get (timers_of b.nodes.items) free ≡ None
  none-free more =
      let some = some-free more in
      let first : free_of o.frees 0 ≡ free = sym (o.chain.first some) in
      get-timers b.nodes.items free ∙ held-none b.nodes.items free (rw first at (o.unused 0 some))

  -- so none is a timer's
  free-other : (s j : ℕ) → IsTimer b.nodes.items s → j < length o.frees → free_of o.frees j ≢ s
  free-other s j t l e = omega (arith, ap (buckets b.nodes.items) e, o.unused j l, t.held)

  -- where there is a timer, it is counted
  pub some-timer : (s : ℕ) → IsTimer b.nodes.items s → 0 < count
  some-timer s t = omega (arith, o.counted, len-some (timers_of b.nodes.items) s _ (timer-is b.nodes.items s t))

-- a timer comes into the first free node
pub reuse-wheel : (b b' : Buckets) (count free next : ℕ) (t : Timer) → IsWheel b count free → count + 2049 < length b.nodes.items
    → AreBuckets b' 2048 → Puts b.nodes.items b'.nodes.items free t → length b'.nodes.items ≡ length b.nodes.items → next ≡ behinds b.nodes.items free
    → IsWheel b' (count + 1) next
reuse-wheel b b' count free next t o more placed puts size leads =
    let ns = b.nodes.items in
    let ms = b'.nodes.items in
    let some = some-free o more in
    let len_is = length-rest o.frees some in
    let first : free ≡ free_of o.frees 0 = o.chain.first some in
    let same : (i : ℕ) → 0 < i → i < length o.frees → at ms (free_of o.frees i) ≡ at ns (free_of o.frees i) = λ i p l.
    puts.free (free_of o.frees i) (λ e. o.chain.apart 0 i p l (sym first ∙ sym e)) (o.unused i l) in
    record {
      placed = placed;
      small = omega (arith, size, o.small);
      counted = omega (arith, o.counted, ap len (puts-timers ns ms free t puts), len-inserted (timers_of ns) free t (none-free o more));
      frees = drop 1 o.frees;
      chain = subst (λ n. Frees (behinds ms) (free_of (drop 1 o.frees)) (length (drop 1 o.frees)) next n) (sym size)
          (fewer-frees (behinds ns) (behinds ms) o.frees free next (length ns) o.chain some (λ i p l. ap (λ (n : Node). n.behind) (same i p l)) leads);
      past = λ j l. subst (λ s. 2049 ≤ s) (sym (free_of-rest o.frees j)) (o.past (j + 1) (omega arith));
      unused = λ j l. subst (λ s. 2049 ≤ buckets ms s) (sym (free_of-rest o.frees j))
          (subst (λ (n : Node). 2049 ≤ n.value.bucket) (sym (same (j + 1) (omega arith) (omega arith))) (o.unused (j + 1) (omega arith)));
      total = omega (arith, o.total, size, len_is);
    }

-- a timer is given another moment
pub reset-wheel : (b b' : Buckets) (count free slot : ℕ) (t : Timer) → IsWheel b count free → IsTimer b.nodes.items slot
    → AreBuckets b' 2048 → Puts b.nodes.items b'.nodes.items slot t → length b'.nodes.items ≡ length b.nodes.items
    → IsWheel b' count free
reset-wheel b b' count free slot t o timer placed puts size =
    let ns = b.nodes.items in
    same-wheel b b' count count free o placed (omega (arith, size)) (λ i l. puts.free (free_of o.frees i) (free-other o slot i timer l) (o.unused i l))
    (omega (arith, o.counted, ap len (puts-timers ns b'.nodes.items slot t puts), len-kept (timers_of ns) slot t _ (timer-is ns slot timer)))
    (omega (arith, o.total, size)) (omega (arith, size, o.small))

-- a timer is taken out
pub release-wheel : (b b' : Buckets) (count free slot : ℕ) → IsWheel b count free → IsTimer b.nodes.items slot
    → AreBuckets b' 2048 → Takes b.nodes.items b'.nodes.items slot free → length b'.nodes.items ≡ length b.nodes.items
    → IsWheel b' (count - 1) slot
release-wheel b b' count free slot o timer placed takes size =
    let ns = b.nodes.items in
    let ms = b'.nodes.items in
    let other : (i : ℕ) → i < length o.frees → free_of o.frees i ≢ slot = λ i l. free-other o slot i timer l in
    let same : (i : ℕ) → i < length o.frees → at ms (free_of o.frees i) ≡ at ns (free_of o.frees i) = λ i l. takes.free (free_of o.frees i) (o.unused i l) (other i l) in
    let one = some-timer o slot timer in
    record {
      placed = placed;
      small = omega (arith, size, o.small);
      counted = omega (arith, o.counted, ap len (takes-timers ns ms slot free takes), len-removed (timers_of ns) slot _ (timer-is ns slot timer));
      frees = slot ∷ o.frees;
      chain = subst (λ n. Frees (behinds ms) (free_of (slot ∷ o.frees)) (length (slot ∷ o.frees)) slot n) (sym size)
          (more-frees (behinds ns) (behinds ms) o.frees free (length ns) slot o.chain timer.within other (λ i l. ap (λ (n : Node). n.behind) (same i l)) takes.leads);
      past = λ j l. elim j as (λ j. j < length (slot ∷ o.frees) → 2049 ≤ free_of (slot ∷ o.frees) j) [
        | zero ↦ λ _. timer.past
        | suc i ↦ λ k. o.past i (omega arith)
      ] l;
      unused = λ j l. elim j as (λ j. j < length (slot ∷ o.frees) → 2049 ≤ buckets ms (free_of (slot ∷ o.frees) j)) [
        | zero ↦ λ _. takes.unused
        | suc i ↦ λ k. subst (λ (n : Node). 2049 ≤ n.value.bucket) (sym (same i (omega arith))) (o.unused i (omega arith))
      ] l;
      total = omega (arith, o.total, size, one);
    }

-- ---- what `advance` answers

-- where no timer is due after the wheel's moment has moved, none was before
pub later-timer : (ns ms : List Node) (now s : ℕ) (t : Timer) → Keeps ns ms → ((i : ℕ) → IsTimer ms i → now < moments ms i) → get (timers_of ns) s ≡ Some t → now < t.at
later-timer ns ms now s t keeps later e =
    let e' : get (timers_of ms) s ≡ Some t = ap (λ m. get m s) (keeps-timers ns ms keeps) ∙ e in
    let timer = is-timer ms s (subst (λ o. IsSome o) (sym e') refl) in
    let same : moments ms s ≡ t.at = ap (λ o. (unwrap_or o t).at) (sym (timer-is ms s timer) ∙ e') in
    omega (arith, later s timer, same)

-- the timer that is due had its slot before
pub due-timer : (ns ms : List Node) (s n a : ℕ) → Keeps ns ms → IsTimer ms s → n ≡ numbers ms s → a ≡ moments ms s → get (timers_of ns) s ≡ Some (record { number = n; at = a })
due-timer ns ms s n a keeps timer is_n is_a =
    ap (λ m. get m s) (sym (keeps-timers ns ms keeps)) ∙ timer-is ms s timer
    ∙ ap (λ x. Some (record { number = x; at = moments ms s })) (sym is_n) ∙ ap (λ x. Some (record { number = n; at = x })) (sym is_a)
