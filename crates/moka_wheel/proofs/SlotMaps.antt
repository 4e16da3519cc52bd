-- Timers in slots as a map.
use Rattle.std.proofs.Common.{◌≡◌, ◌≢◌, ℕ, zero, suc, ◌+◌, ◌<◌, ◌≤◌, List, Option, Some, None, refl, sym, ap, ◌∙◌, arith}
use Rattle.std.proofs.lemmas.Bool.{cond-true, cond-false, eq-eqb, ne_eqb}
use Rattle.std.proofs.lemmas.Cmp.{nat_cmp_total}
use Rattle.std.specs.Cmp.{unsigned_tied}
use Rattle.std.specs.Ordering.{nat_cmp, eq_by_cmp}
use Rattle.std.specs.FinMap.{find, get, get-from_entries}
use Rattle.moka_wheel.specs.TimerWheel.{Timer}
use Rattle.moka_wheel.specs.Slots.{entry, entries_of, map_of}

-- an entry of another slot is passed over
find-other : (i q : ℕ) (t : Option Timer) (es : List (ℕ × Timer)) → q ≢ i → find nat_cmp q (entry i t es) ≡ find nat_cmp q es
find-other i q None es ne = refl
find-other i q (Some t) es ne = cond-false (eq_by_cmp nat_cmp q i) (Some t) (find nat_cmp q es) (unsigned_tied q i ∙ ne_eqb q i ne)

-- the entry of the slot itself is found
find-here : (q : ℕ) (t : Option Timer) (es : List (ℕ × Timer)) → find nat_cmp q es ≡ None → find nat_cmp q (entry q t es) ≡ t
find-here q None es none = none
find-here q (Some t) es none = cond-true (eq_by_cmp nat_cmp q q) (Some t) (find nat_cmp q es) (unsigned_tied q q ∙ eq-eqb q q refl)

-- no entry is of a slot outside
find-before : (t : ℕ → Option Timer) (i n q : ℕ) → q < i → find nat_cmp q (entries_of t i n) ≡ None
find-before t i zero q l = refl
find-before t i (suc n) q l = find-other i q (t i) (entries_of t (suc i) n) (λ e. omega arith) ∙ find-before t (suc i) n q (omega arith)

find-past : (t : ℕ → Option Timer) (i n q : ℕ) → i + n ≤ q → find nat_cmp q (entries_of t i n) ≡ None
find-past t i zero q l = refl
find-past t i (suc n) q l = find-other i q (t i) (entries_of t (suc i) n) (λ e. omega arith) ∙ find-past t (suc i) n q (omega arith)

find-within : (t : ℕ → Option Timer) (n i d q : ℕ) → q ≡ i + d → d < n → find nat_cmp q (entries_of t i n) ≡ t q
find-within t zero i d q e l = absurd (omega arith)
find-within t (suc n) i zero q e l =
    let same : q ≡ i = omega arith in
    ap (λ x. find nat_cmp q (entry x (t x) (entries_of t (suc i) n))) (sym same)
    ∙ find-here q (t q) (entries_of t (suc i) n) (find-before t (suc i) n q (omega arith))
find-within t (suc n) i (suc d) q e l =
    find-other i q (t i) (entries_of t (suc i) n) (λ z. omega arith) ∙ find-within t n (suc i) d q (omega arith) (omega arith)

-- the map has in each slot its timer
pub get-within : (t : ℕ → Option Timer) (n q : ℕ) → q < n → get (map_of t n) q ≡ t q
get-within t n q l = get-from_entries nat_cmp_total (entries_of t 0 n) q ∙ find-within t n 0 q q (omega arith) l

pub get-past : (t : ℕ → Option Timer) (n q : ℕ) → n ≤ q → get (map_of t n) q ≡ None
get-past t n q l = get-from_entries nat_cmp_total (entries_of t 0 n) q ∙ find-past t 0 n q (omega arith)
