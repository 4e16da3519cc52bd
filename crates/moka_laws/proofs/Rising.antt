-- Of a record's upserts that wait, the one under the later ticket has the later generation: kept by what hands out,
-- sends and applies.
use Rattle.std.proofs.Common.{◌≡◌, ℕ, ◌<◌, List, [], ◌∷◌, ◌++◌, Some, sym, subst, ◌⊎◌, inl, inr, arith}
use Rattle.std.specs.FinMap.{get, insert, remove, empty}
use Rattle.moka_laws.proofs.Types.{Operation, Upsert, Removal, Ticketed, Operations}
use Rattle.moka_parts.specs.Settling.{WaitsAt, AreTicketed, AreRising}
use Rattle.moka_records.proofs.Maps.{nothing_at, found_inserted}
use Rattle.moka_laws.proofs.Waiting.{sent_at}

-- what waits does so under a ticket that was given out
pub waits_below : (outstanding : Operations) (writes : List Ticketed) (next_ticket ticket : ℕ) (o : Operation) → AreTicketed outstanding writes next_ticket → WaitsAt outstanding writes ticket o → ticket < next_ticket
waits_below outstanding writes next_ticket ticket o h (inl there) = h.handed ticket o there
waits_below outstanding writes next_ticket ticket o h (inr queued) = h.sent (record { ticket = ticket; operation = o }) queued

-- nothing waits yet
pub rising_at_first : AreRising empty []
rising_at_first = record { rising = λ a b n g k w v x y one other lt. absurd (none a (Upsert n g w x) one) }
  where
    none : (ticket : ℕ) (o : Operation) → WaitsAt empty [] ticket o → ⊥
    none ticket o (inl there) = nothing_at ticket o there
    none ticket o (inr queued) = let below : queued.0 < 0 = queued.1 in absurd (omega arith)

-- an upsert's generation is above those of its record that wait
abbrev pub IsLatest : Operations → List Ticketed → Operation → Type 0
IsLatest outstanding writes (Upsert n g w x) = (t h v y : ℕ) → WaitsAt outstanding writes t (Upsert n h v y) → h < g
IsLatest outstanding writes (Removal n g) = Unit {0}

-- where less waits, each under its ticket
pub rising_less : (outstanding after : Operations) (writes queue : List Ticketed) → ((ticket : ℕ) (o : Operation) → WaitsAt after queue ticket o → WaitsAt outstanding writes ticket o) → AreRising outstanding writes → AreRising after queue
rising_less outstanding after writes queue less h = record { rising = λ a b n g k w v x y one other lt. h.rising a b n g k w v x y (less a (Upsert n g w x) one) (less b (Upsert n k v y) other) lt }

module _ (outstanding : Operations) (writes : List Ticketed) where
  handed : (next : ℕ) (o : Operation) (ticket : ℕ) (p : Operation) → WaitsAt (insert outstanding next o) writes ticket p → ((ticket ≡ next) × (p ≡ o)) ⊎ WaitsAt outstanding writes ticket p
  handed next o ticket p (inr queued) = inr (inr queued)
  handed next o ticket p (inl there) = elim (found_inserted outstanding next o ticket p there) [ inl (same, one) ↦ inl (same, sym one) | inr (apart, before) ↦ inr (inl before) ]

  -- the latest is handed out
  pub rising_handed : (next : ℕ) (o : Operation) → AreTicketed outstanding writes next → IsLatest outstanding writes o → AreRising outstanding writes → AreRising (insert outstanding next o) writes
  rising_handed next o given latest h = record { rising = λ a b n g k w v x y one other lt. both a b n g k w v x y lt (handed next o a (Upsert n g w x) one) (handed next o b (Upsert n k v y) other) }
    where
      both : (a b n g k w v x y : ℕ) → a < b → ((a ≡ next) × (Upsert n g w x ≡ o)) ⊎ WaitsAt outstanding writes a (Upsert n g w x) → ((b ≡ next) × (Upsert n k v y ≡ o)) ⊎ WaitsAt outstanding writes b (Upsert n k v y) → g < k
      both a b n g k w v x y lt (inl p) (inl q) = (let e = p.0 in let f = q.0 in absurd (omega arith))
      both a b n g k w v x y lt (inl p) (inr q) = (let e = p.0 in let f = waits_below outstanding writes next b (Upsert n k v y) given q in absurd (omega arith))
      both a b n g k w v x y lt (inr p) (inl q) = (let l : IsLatest outstanding writes (Upsert n k v y) = subst (IsLatest outstanding writes) (sym q.1) latest in l a g w x p)
      both a b n g k w v x y lt (inr p) (inr q) = h.rising a b n g k w v x y p q lt

  -- one is sent
  pub rising_sent : (ticket : ℕ) (o : Operation) → get outstanding ticket ≡ Some o → AreRising outstanding writes → AreRising (remove outstanding ticket) (writes ++ record { ticket = ticket; operation = o } ∷ [])
  rising_sent ticket o there h = rising_less outstanding (remove outstanding ticket) writes (writes ++ record { ticket = ticket; operation = o } ∷ []) (λ t p. (sent_at outstanding writes ticket o there t p).1) h

  -- the queue is applied
  pub rising_applied : AreRising outstanding writes → AreRising outstanding []
  rising_applied h = rising_less outstanding outstanding writes [] (λ t p waits. elim waits [ inl there ↦ inl there | inr queued ↦ let below : queued.0 < 0 = queued.1 in absurd (omega arith) ]) h
