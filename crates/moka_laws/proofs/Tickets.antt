-- What waits, by ticket: tickets rise, each waits under its own, and later upserts of a record have later generations.
use Rattle.std.proofs.Common.{◌≡◌, ℕ, zero, suc, ◌+◌, ◌<◌, T, List, [], ◌∷◌, ◌++◌, map, length, Some, sym, subst, inl, inr, arith, Contains, slice_index, nat_cmp}
use Rattle.std.specs.List.{AllByRecursion}
use Rattle.std.specs.List.Sorted.{IsStrictlyIncreasing}
use Rattle.std.proofs.lemmas.List.Elements.{All-weaker, All-contains_itself, recursion_from_All}
use Rattle.std.specs.FinMap.{get, entries, entries_sorted, is_sorted}
use Rattle.moka_laws.proofs.Types.{Ticketed, Operation, Upsert, Removal, Operations}
use Rattle.moka_parts.specs.Settling.{WaitsAt, AreRising}
use Rattle.moka_records.proofs.Lookup.{left_part, right_part}
use Rattle.moka_parts.proofs.Entries.{each_entry, all_above}
use Rattle.moka_laws.proofs.InOrder.{IsLater, AreLater}

-- ---- all of a list, in two ways

-- what holds of each holds of all
pub all_of : {A : Type 0} (P : A → Type 0) (xs : List A) → ((x : A) → Contains xs x → P x) → AllByRecursion P xs
all_of P xs h = recursion_from_All P xs (All-weaker (Contains xs) P h xs (All-contains_itself xs))

pub all_map : {A B : Type 0} (P : B → Type 0) (f : A → B) (xs : List A) → AllByRecursion (λ x. P (f x)) xs → AllByRecursion P (map f xs)
all_map P f [] h = tt
all_map P f (x ∷ xs) h = (h.0, all_map P f xs h.1)

pub all_append : {A : Type 0} (P : A → Type 0) (xs ys : List A) → AllByRecursion P xs → AllByRecursion P ys → AllByRecursion P (xs ++ ys)
all_append P [] ys h k = k
all_append P (x ∷ xs) ys h k = (h.0, all_append P xs ys h.1 k)

pub all_both : {A : Type 0} (P Q R : A → Type 0) (xs : List A) → ((x : A) → P x → Q x → R x) → AllByRecursion P xs → AllByRecursion Q xs → AllByRecursion R xs
all_both P Q R [] f h k = tt
all_both P Q R (x ∷ xs) f h k = (f x h.0 k.0, all_both P Q R xs f h.1 k.1)

-- ---- tickets

-- each ticket is below all behind it
abbrev pub TicketsRise : List Ticketed → Type 0
TicketsRise [] = Unit {0}
TicketsRise (h ∷ hs) = AllByRecursion (λ (q : Ticketed). h.ticket < q.ticket) hs × TicketsRise hs

-- two lists of them
pub tickets_joined : (hs qs : List Ticketed) → TicketsRise hs → TicketsRise qs → AllByRecursion (λ (h : Ticketed). AllByRecursion (λ (q : Ticketed). h.ticket < q.ticket) qs) hs → TicketsRise (hs ++ qs)
tickets_joined [] qs a b between = b
tickets_joined (h ∷ hs) qs a b between = (all_append (λ (q : Ticketed). h.ticket < q.ticket) hs qs a.0 between.0, tickets_joined hs qs a.1 b between.1)

above_first : (h : Ticketed) (hs : List Ticketed) → ((k : ℕ) → k + 1 < length (map (λ (q : Ticketed). q.ticket) (h ∷ hs)) → slice_index (map (λ (q : Ticketed). q.ticket) (h ∷ hs)) k < slice_index (map (λ (q : Ticketed). q.ticket) (h ∷ hs)) (k + 1)) → TicketsRise hs → AllByRecursion (λ (q : Ticketed). h.ticket < q.ticket) hs
above_first h [] up rest = tt
above_first h (q ∷ hs) up rest =
    let first : h.ticket < q.ticket = up zero (omega arith) in
    (first, all_both (λ (p : Ticketed). q.ticket < p.ticket) (λ _. Unit {0}) (λ (p : Ticketed). h.ticket < p.ticket) hs (λ p lt _. omega arith) rest.0 (all_of (λ _. Unit {0}) hs (λ _ _. tt)))

-- queued tickets, as the standard library says that they rise
pub tickets_rise : (hs : List Ticketed) → IsStrictlyIncreasing (map (λ h. h.ticket) hs) → TicketsRise hs
tickets_rise [] up = tt
tickets_rise (h ∷ hs) up = let rest = tickets_rise hs (λ k lt. behind k (up (suc k) (omega arith))) in (above_first h hs up rest, rest)
  where
    behind : (k : ℕ) → slice_index (map (λ (q : Ticketed). q.ticket) (h ∷ hs)) (suc k) < slice_index (map (λ (q : Ticketed). q.ticket) (h ∷ hs)) (suc k + 1) → slice_index (map (λ (q : Ticketed). q.ticket) hs) k < slice_index (map (λ (q : Ticketed). q.ticket) hs) (k + 1)
    behind k lt = let same : suc k + 1 ≡ suc (k + 1) = omega arith in subst (λ j. slice_index (map (λ (q : Ticketed). q.ticket) (h ∷ hs)) (suc k) < slice_index (map (λ (q : Ticketed). q.ticket) (h ∷ hs)) j) same lt

-- and back
pub strictly_increasing : (hs : List Ticketed) → TicketsRise hs → IsStrictlyIncreasing (map (λ h. h.ticket) hs)
strictly_increasing [] rise k lt = absurd (omega arith)
strictly_increasing (h ∷ []) rise k lt = absurd (omega arith)
strictly_increasing (h ∷ q ∷ hs) rise zero lt = rise.0.0
strictly_increasing (h ∷ q ∷ hs) rise (suc k) lt =
    let same : suc (k + 1) ≡ suc k + 1 = omega arith in
    subst (λ j. slice_index (map (λ (p : Ticketed). p.ticket) (h ∷ q ∷ hs)) (suc k) < slice_index (map (λ (p : Ticketed). p.ticket) (h ∷ q ∷ hs)) j) same (strictly_increasing (q ∷ hs) rise.1 k (omega arith))

-- the operations handed out, with their tickets
abbrev pub handed_out : Operations → List Ticketed
handed_out outstanding = map (λ (e : ℕ × Operation). record { ticket = e.0; operation = e.1 }) (entries outstanding)

entries_rise : (es : List (ℕ × Operation)) → T (is_sorted nat_cmp es) → TicketsRise (map (λ (e : ℕ × Operation). record { ticket = e.0; operation = e.1 }) es)
entries_rise [] s = tt
entries_rise (e ∷ es) s = (all_map (λ (q : Ticketed). e.0 < q.ticket) (λ (d : ℕ × Operation). record { ticket = d.0; operation = d.1 }) es (all_above e.0 es (left_part _ _ s)), entries_rise es (right_part _ _ s))

-- what holds of each operation handed out, with its ticket
pub each_handed : (P : Ticketed → Type 0) (outstanding : Operations) → ((ticket : ℕ) (o : Operation) → get outstanding ticket ≡ Some o → P (record { ticket = ticket; operation = o })) → AllByRecursion P (handed_out outstanding)
each_handed P outstanding h = all_map P (λ (e : ℕ × Operation). record { ticket = e.0; operation = e.1 }) (entries outstanding) (each_entry (λ (e : ℕ × Operation). P (record { ticket = e.0; operation = e.1 })) outstanding h)

-- ---- what waits

module _ (outstanding : Operations) (writes : List Ticketed) where
  -- each that waits waits under its ticket
  pub each_waits : AllByRecursion (λ (h : Ticketed). WaitsAt outstanding writes h.ticket h.operation) (writes ++ handed_out outstanding)
  each_waits = all_append (λ (h : Ticketed). WaitsAt outstanding writes h.ticket h.operation) writes (handed_out outstanding) (all_of (λ (h : Ticketed). WaitsAt outstanding writes h.ticket h.operation) writes (λ h there. inr there)) (each_handed (λ (h : Ticketed). WaitsAt outstanding writes h.ticket h.operation) outstanding (λ ticket o there. inl there))

  -- their tickets rise
  pub waiting_rise : IsStrictlyIncreasing (map (λ (h : Ticketed). h.ticket) writes) → ((h : Ticketed) (ticket : ℕ) (o : Operation) → Contains writes h → get outstanding ticket ≡ Some o → h.ticket < ticket) → TicketsRise (writes ++ handed_out outstanding)
  waiting_rise up below = tickets_joined writes (handed_out outstanding) (tickets_rise writes up) (entries_rise (entries outstanding) (entries_sorted outstanding))
      (all_of (λ (h : Ticketed). AllByRecursion (λ (q : Ticketed). h.ticket < q.ticket) (handed_out outstanding)) writes (λ h there. each_handed (λ (q : Ticketed). h.ticket < q.ticket) outstanding (λ ticket o at. below h ticket o there at)))

  later_by_tickets : AreRising outstanding writes → (a b : Ticketed) → a.ticket < b.ticket → WaitsAt outstanding writes a.ticket a.operation → WaitsAt outstanding writes b.ticket b.operation → IsLater a.operation b.operation
  later_by_tickets rising a b lt = go a.operation b.operation
    where
      go : (o p : Operation) → WaitsAt outstanding writes a.ticket o → WaitsAt outstanding writes b.ticket p → IsLater o p
      go (Removal n g) p one other = tt
      go (Upsert n g w x) (Removal m k) one other = tt
      go (Upsert n g w x) (Upsert m k v y) one other = λ same. rising.rising a.ticket b.ticket n g k w v x y one (subst (λ i. WaitsAt outstanding writes b.ticket (Upsert i k v y)) (sym same) other) lt

  -- so their generations do
  pub are_later : AreRising outstanding writes → (ws : List Ticketed) → TicketsRise ws → AllByRecursion (λ (h : Ticketed). WaitsAt outstanding writes h.ticket h.operation) ws → AreLater ws
  are_later rising [] rise wait = tt
  are_later rising (h ∷ ws) rise wait = (
    all_both (λ (q : Ticketed). h.ticket < q.ticket) (λ (q : Ticketed). WaitsAt outstanding writes q.ticket q.operation) (λ (q : Ticketed). IsLater h.operation q.operation) ws (λ q lt there. later_by_tickets rising h q lt wait.0 there) rise.0 wait.1,
    are_later rising ws rise.1 wait.1,
  )
