-- The timers of the nodes as a map.
use Rattle.std.proofs.Common.{◌≡◌, ℕ, cond, nat_eq, List, Some, None, length, inl, inr, sym, ap, ◌∙◌, arith}
use Rattle.std.proofs.lemmas.Bool.{cases_lt}
use Rattle.std.proofs.lemmas.Bool.Decides.{nat_tests}
use Rattle.std.proofs.lemmas.Cmp.{nat_cmp_total}
use Rattle.std.specs.Ordering.{nat_cmp}
use Rattle.std.specs.FinMap.{FinMap, get, insert, remove, same_map, nat_cmp-IsAntisymmetric}
use Rattle.moka_links.proofs.FinMaps.{get-put, get-taken}
use Rattle.moka_wheel.specs.TimerWheel.{Timer}
use Rattle.moka_wheel.specs.Nodes.{Node, timer_at, timers_of}
use Rattle.moka_wheel.specs.Buckets.{Keeps, Puts, Takes}
use Rattle.moka_wheel.proofs.Frames.{past-none}
use Rattle.moka_wheel.proofs.SlotMaps.{get-within, get-past}

-- the map has in each slot the timer of its node
pub get-timers : (ns : List Node) (q : ℕ) → get (timers_of ns) q ≡ timer_at ns q
get-timers ns q = elim (cases_lt q (length ns)) as (λ _. get (timers_of ns) q ≡ timer_at ns q) [
  | inl l ↦ get-within (timer_at ns) (length ns) q l
  | inr l ↦ get-past (timer_at ns) (length ns) q l ∙ sym (past-none ns q l)
]

pub same-timers : (ns : List Node) (m : FinMap nat_cmp Timer) → ((q : ℕ) → timer_at ns q ≡ get m q) → timers_of ns ≡ m
same-timers ns m e = same_map nat_cmp_total nat_cmp-IsAntisymmetric (timers_of ns) m (λ q. get-timers ns q ∙ e q)

pub keeps-timers : (ns ms : List Node) → Keeps ns ms → timers_of ms ≡ timers_of ns
keeps-timers ns ms k = same-timers ms (timers_of ns) (λ q. k.timers q ∙ sym (get-timers ns q))

pub puts-timers : (ns ms : List Node) (s : ℕ) (t : Timer) → Puts ns ms s t → timers_of ms ≡ insert (timers_of ns) s t
puts-timers ns ms s t p = same-timers ms (insert (timers_of ns) s t) (λ q. grind (arith, nat_tests, p.here, p.others q, get-timers ns q, get-put (timers_of ns) s t q))

pub takes-timers : (ns ms : List Node) (s next : ℕ) → Takes ns ms s next → timers_of ms ≡ remove (timers_of ns) s
takes-timers ns ms s next p = same-timers ms (remove (timers_of ns) s) (λ q. grind (arith, nat_tests, p.here, p.others q, get-timers ns q, get-taken (timers_of ns) s q))

-- ---- a look-up after each change

pub put-lookup : (ns ms : List Node) (s : ℕ) (t : Timer) → Puts ns ms s t → (q : ℕ) → get (timers_of ms) q ≡ cond (nat_eq q s) (Some t) (get (timers_of ns) q)
put-lookup ns ms s t p q =
    ap (λ m. get m q) (puts-timers ns ms s t p) ∙ get-put (timers_of ns) s t q

pub take-lookup : (ns ms : List Node) (s next : ℕ) → Takes ns ms s next → (q : ℕ) → get (timers_of ms) q ≡ cond (nat_eq q s) None (get (timers_of ns) q)
take-lookup ns ms s next p q =
    ap (λ m. get m q) (takes-timers ns ms s next p) ∙ get-taken (timers_of ns) s q
