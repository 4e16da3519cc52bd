-- Nodes of a list, each a slot with the place that it leads to, and what they stand for under a map.
use Rattle.std.proofs.Common.{◌≡◌, ◌≢◌, ℕ, zero, suc, ◌+◌, ◌<◌, ◌≤◌, Bool, true, false, cond, not, ◌==◌, filter, List, [], ◌∷◌, ◌++◌, map, Option, Some, None, is_some, length, count_by, inl, inr, refl, sym, ap, ◌∙◌, arith, nat_eq, Contains}
use Rattle.std.proofs.lemmas.Bool.{cases_eq, eq-eqb, ne_eqb, eqb-true, cond-true}
use Rattle.std.proofs.lemmas.Bool.Decides.{nat_tests}
use Rattle.std.proofs.lemmas.List.{get_or-set_other}
use Rattle.std.proofs.lemmas.List.Sums.{sum_by-set}
use Rattle.std.proofs.lemmas.Map.{lookup-remove_entry}
use Rattle.std.proofs.lemmas.Map.Views.{lookup-from_Contains, Contains-from_lookup}
use Rattle.std.specs.Cmp.{nat_eq_equiv}
use Rattle.std.specs.List.{IsDistinct, AllByRecursion, list_any}
use Rattle.std.specs.Map.{lookup, remove_entry, keys_of}
use Rattle.std.specs.Option.{option_map}
use Rattle.std.specs.Prelude.{slice_index_or, slice_set, slice_get}
use Rattle.moka_table.proofs.TableMaps.{row_at-within}
use Rattle.moka_structures.specs.OrderList.{next_after}
use Rattle.moka_store.specs.Store.{behind}
use Rattle.moka_records.specs.declared.records.Member.{Member}
use Rattle.moka_records.specs.Records.{counted_of}

-- ---- slots are distinct

all-push : (P : ℕ → Type 0) (nodes : List (ℕ × ℕ)) (slot place : ℕ) → AllByRecursion P (keys_of nodes) → P slot → AllByRecursion P (keys_of (nodes ++ (slot, place) ∷ []))
all-push P [] slot place a h = (h, tt)
all-push P (m ∷ nodes) slot place a h = (a.0, all-push P nodes slot place a.1 h)

all-remove : (P : ℕ → Type 0) (test : ℕ → Bool) (nodes : List (ℕ × ℕ)) → AllByRecursion P (keys_of nodes) → AllByRecursion P (keys_of (remove_entry test nodes))
all-remove P test [] a = a
all-remove P test (m ∷ nodes) a = elim (test m.0) as (λ b. AllByRecursion P (keys_of (cond b nodes (m ∷ remove_entry test nodes)))) [
  | true ↦ a.1
  | false ↦ (a.0, all-remove P test nodes a.1)
]

pub distinct-none : IsDistinct nat_eq (keys_of {X = ℕ} [])
unfolding IsDistinct
distinct-none = tt

-- a node in a new slot comes to the back
pub distinct-push : (nodes : List (ℕ × ℕ)) (slot place : ℕ) → IsDistinct nat_eq (keys_of nodes) → lookup (nat_eq slot) nodes ≡ None → IsDistinct nat_eq (keys_of (nodes ++ (slot, place) ∷ []))
unfolding IsDistinct
distinct-push [] slot place d free = (tt, tt)
distinct-push (m ∷ nodes) slot place d free =
    let apart : nat_eq m.0 slot ≡ false = grind (arith, nat_tests) in
    let rest : lookup (nat_eq slot) nodes ≡ None = grind (arith, nat_tests) in
    (all-push (λ y. nat_eq m.0 y ≡ false) nodes slot place d.0 apart, distinct-push nodes slot place d.1 rest)

-- a node leaves
pub distinct-remove : (test : ℕ → Bool) (nodes : List (ℕ × ℕ)) → IsDistinct nat_eq (keys_of nodes) → IsDistinct nat_eq (keys_of (remove_entry test nodes))
unfolding IsDistinct
distinct-remove test [] d = d
distinct-remove test (m ∷ nodes) d = elim (test m.0) as (λ b. IsDistinct nat_eq (keys_of (cond b nodes (m ∷ remove_entry test nodes)))) [
  | true ↦ d.1
  | false ↦ (all-remove (λ y. nat_eq m.0 y ≡ false) test nodes d.0, distinct-remove test nodes d.1)
]

-- a node is found by its slot
pub in-nodes : (nodes : List (ℕ × ℕ)) (m : ℕ × ℕ) → IsDistinct nat_eq (keys_of nodes) → Contains nodes m → lookup (nat_eq m.0) nodes ≡ Some m.1
in-nodes nodes m d h = lookup-from_Contains nat_eq_equiv m.0 m.1 nodes d h

-- a node that is found is among them
pub node-in : (nodes : List (ℕ × ℕ)) (slot place : ℕ) → lookup (nat_eq slot) nodes ≡ Some place → Contains nodes (slot, place)
node-in nodes slot place h = Contains-from_lookup (λ x y q. eqb-true x y q) slot place nodes h

pub later : {X : Type 0} (x y : X) (xs : List X) → Contains xs y → Contains (x ∷ xs) y
later x y xs c = (suc c.0, omega (arith, c.1), c.2)

pub here : {X : Type 0} (x : X) (xs : List X) → Contains (x ∷ xs) x
here x xs = (0, omega arith, refl)

pub get-map : {X Y : Type 0} (f : X → Y) (xs : List X) → slice_get (map f xs) 0 ≡ option_map f (slice_get xs 0)
get-map f [] = refl
get-map f (x ∷ xs) = refl

-- two maps that agree on a list
pub map-agree : {X Y : Type 0} (f g : X → Y) (xs : List X) → ((x : X) → Contains xs x → f x ≡ g x) → map f xs ≡ map g xs
map-agree f g [] h = refl
map-agree f g (x ∷ xs) h = let first = h x (here x xs) in let rest = map-agree f g xs (λ y c. h y (later x y xs c)) in cc

-- two maps that agree everywhere
pub map-all : {X Y : Type 0} (f g : X → Y) (xs : List X) → ((x : X) → f x ≡ g x) → map f xs ≡ map g xs
map-all f g xs h = map-agree f g xs (λ x _. h x)

-- no later node has a slot that all others differ from
all-other : (slot : ℕ) (nodes : List (ℕ × ℕ)) (k : ℕ × ℕ) → AllByRecursion (λ y. nat_eq slot y ≡ false) (keys_of nodes) → (i : ℕ) → i < length nodes → slice_index_or nodes i k ≡ k → slot ≡ k.0 → ⊥
all-other slot [] k a i lt is e = absurd (omega arith)
all-other slot (x ∷ nodes) k a zero lt is e = let bad : true ≡ false = sym (eq-eqb slot x.0 (e ∙ ap (λ p. p.0) (sym is))) ∙ a.0 in cc
all-other slot (x ∷ nodes) k a (suc i) lt is e = all-other slot nodes k a.1 i (omega arith) is e

-- ---- members that nodes stand for

module _ (g : ℕ × ℕ → Member) (n : ℕ) where
  -- no node stands for the number
  pub counted-none : (nodes : List (ℕ × ℕ)) → ((m : ℕ × ℕ) → Contains nodes m → ((g m).number == n) ≡ false) → counted_of n (map g nodes) ≡ None
  counted-none [] h = refl
  counted-none (m ∷ nodes) h = rw (h m (here m nodes)) (counted-none nodes (λ k c. h k (later m k nodes c)))

  -- the node in a slot stands for the number
  module _ (slot : ℕ) where
    pub counted-found : (nodes : List (ℕ × ℕ)) (place : ℕ) → ((m : ℕ × ℕ) → Contains nodes m → ((g m).number == n) ≡ nat_eq slot m.0) → lookup (nat_eq slot) nodes ≡ Some place → counted_of n (map g nodes) ≡ Some (g (slot, place)).counted
    counted-found [] place h e = cc
    counted-found (m ∷ nodes) place h e =
        let first = h m (here m nodes) in
        let rest = counted-found nodes place (λ k c. h k (later m k nodes c)) in
        grind (arith, nat_tests)

-- a later node has another slot
not-later : (m : ℕ × ℕ) (nodes : List (ℕ × ℕ)) (k : ℕ × ℕ) → IsDistinct nat_eq (keys_of (m ∷ nodes)) → Contains nodes k → nat_eq m.0 k.0 ≡ false
unfolding IsDistinct
not-later m nodes k d c = ne_eqb m.0 k.0 (λ q. all-other m.0 nodes k d.0 c.0 c.1 c.2 q)

-- ---- what passes a test, where just the node in one slot does

module _ {X : Type 0} (g : ℕ × ℕ → X) (test : X → Bool) where
  pub rest-none : (nodes : List (ℕ × ℕ)) → ((m : ℕ × ℕ) → Contains nodes m → test (g m) ≡ false) → filter (λ x. not (test x)) (map g nodes) ≡ map g nodes
  rest-none [] h = refl
  rest-none (m ∷ nodes) h = rw (h m (here m nodes), rest-none nodes (λ k c. h k (later m k nodes c))) refl

  pub behind-none : (nodes : List (ℕ × ℕ)) → ((m : ℕ × ℕ) → Contains nodes m → test (g m) ≡ false) → behind test (map g nodes) ≡ None
  behind-none [] h = refl
  behind-none (m ∷ nodes) h = rw (h m (here m nodes)) (behind-none nodes (λ k c. h k (later m k nodes c)))

  pub any-none : (nodes : List (ℕ × ℕ)) → ((m : ℕ × ℕ) → Contains nodes m → test (g m) ≡ false) → list_any test (map g nodes) ≡ false
  any-none [] h = refl
  any-none (m ∷ nodes) h = rw (h m (here m nodes)) (any-none nodes (λ k c. h k (later m k nodes c)))

  module _ (slot : ℕ) where
    pub any-found : (nodes : List (ℕ × ℕ)) (place : ℕ) → ((m : ℕ × ℕ) → Contains nodes m → test (g m) ≡ nat_eq slot m.0) → lookup (nat_eq slot) nodes ≡ Some place → list_any test (map g nodes) ≡ true
    any-found [] place h e = cc
    any-found (m ∷ nodes) place h e =
        let first = h m (here m nodes) in
        let rest = any-found nodes place (λ k c. h k (later m k nodes c)) in
        grind (arith, nat_tests)

    -- the one behind it
    pub behind-found : (nodes : List (ℕ × ℕ)) → ((m : ℕ × ℕ) → Contains nodes m → test (g m) ≡ nat_eq slot m.0) → behind test (map g nodes) ≡ option_map g (next_after slot nodes)
    behind-found [] h = refl
    behind-found (m ∷ nodes) h =
        rw (h m (here m nodes)) (elim (nat_eq slot m.0) as (λ b. cond b (slice_get (map g nodes) 0) (behind test (map g nodes)) ≡ option_map g (cond b (slice_get nodes 0) (next_after slot nodes))) [
          | true ↦ get-map g nodes
          | false ↦ behind-found nodes (λ k c. h k (later m k nodes c))
        ])

    -- all but it
    pub rest-found : (nodes : List (ℕ × ℕ)) → IsDistinct nat_eq (keys_of nodes) → ((m : ℕ × ℕ) → Contains nodes m → test (g m) ≡ nat_eq slot m.0) → filter (λ x. not (test x)) (map g nodes) ≡ map g (remove_entry (nat_eq slot) nodes)
    unfolding IsDistinct
    rest-found [] d h = refl
    rest-found (m ∷ nodes) d h = rw (h m (here m nodes)) (elim (cases_eq slot m.0) as (λ _. cond (not (nat_eq slot m.0)) (g m ∷ filter (λ x. not (test x)) (map g nodes)) (filter (λ x. not (test x)) (map g nodes)) ≡ map g (cond (nat_eq slot m.0) nodes (m ∷ remove_entry (nat_eq slot) nodes))) [
      | inl q ↦ rw (eq-eqb slot m.0 q) (rest-none nodes (λ k c. h k (later m k nodes c) ∙ ap (λ s. nat_eq s k.0) q ∙ not-later m nodes k d c))
      | inr ne ↦ rw (ne_eqb slot m.0 ne) (ap (λ l. g m ∷ l) (rest-found nodes d.1 (λ k c. h k (later m k nodes c))))
    ])

-- ---- what is found once a slot left

pub lookup-remove : (slot other : ℕ) (nodes : List (ℕ × ℕ)) → IsDistinct nat_eq (keys_of nodes) → lookup (nat_eq other) (remove_entry (nat_eq slot) nodes) ≡ cond (nat_eq slot other) None (lookup (nat_eq other) nodes)
lookup-remove slot other nodes d = lookup-remove_entry nat_eq_equiv (nat_eq slot) (λ x y e. ap (λ s. nat_eq s y) (eqb-true slot x e)) other nodes d

-- a slot that left is free
pub lookup-removed : (slot : ℕ) (nodes : List (ℕ × ℕ)) → IsDistinct nat_eq (keys_of nodes) → lookup (nat_eq slot) (remove_entry (nat_eq slot) nodes) ≡ None
lookup-removed slot nodes d = lookup-remove slot slot nodes d ∙ cond-true (nat_eq slot slot) None (lookup (nat_eq slot) nodes) (eq-eqb slot slot refl)

-- ---- there are no more nodes than rows

pub count-cleared : {X : Type 0} (rows : List (Option X)) (place : ℕ) (x : X) → slice_index_or rows place None ≡ Some x → count_by is_some (slice_set rows place None) + 1 ≡ count_by is_some rows
count-cleared rows place x e =
    let lt = row_at-within rows place x e in
    let whole = sum_by-set (λ o. cond (is_some o) 1 0) rows place None None lt in
    let one : ◌≡◌ {A = ℕ} (cond (is_some (slice_index_or rows place None)) 1 0) 1 = ap (λ o. cond (is_some o) 1 0) e in
    omega (arith, whole, one)

module _ {X : Type 0} (f : X → Option ℕ) where
  -- the row at a node's place has the node's slot
  abbrev pub LeadsTo : List (Option X) → ℕ × ℕ → Type 0
  LeadsTo rows m = (x : X) × (slice_index_or rows m.1 None ≡ Some x) × (f x ≡ Some m.0)

  pub length-nodes : (nodes : List (ℕ × ℕ)) (rows : List (Option X)) → IsDistinct nat_eq (keys_of nodes) → ((m : ℕ × ℕ) → Contains nodes m → LeadsTo rows m) → length nodes ≤ count_by is_some rows
  unfolding IsDistinct
  length-nodes [] rows d h = omega arith
  length-nodes (m ∷ nodes) rows d h =
      let w = h m (here m nodes) in
      let c = count-cleared rows m.1 w.0 w.1 in
      let rest : length nodes ≤ count_by is_some (slice_set rows m.1 None) = length-nodes nodes (slice_set rows m.1 None) d.1 (λ k kc.
      let v = h k (later m k nodes kc) in
      let apart : k.1 ≢ m.1 = (λ e. let other = not-later m nodes k d kc in let own = eq-eqb m.0 m.0 refl in cc) in
      (v.0, get_or-set_other rows m.1 k.1 None None apart ∙ v.1, v.2)) in
      omega (arith, c, rest)

  -- and fewer, where some row has no slot
  pub length-nodes_below : (nodes : List (ℕ × ℕ)) (rows : List (Option X)) (place : ℕ) (x : X) → IsDistinct nat_eq (keys_of nodes) → ((m : ℕ × ℕ) → Contains nodes m → LeadsTo rows m) → slice_index_or rows place None ≡ Some x → f x ≡ None → length nodes < count_by is_some rows
  length-nodes_below nodes rows place x d h e none =
      let c = count-cleared rows place x e in
      let rest : length nodes ≤ count_by is_some (slice_set rows place None) = length-nodes nodes (slice_set rows place None) d (λ k kc.
      let v = h k kc in
      let apart : k.1 ≢ place = (λ q. cc) in
      (v.0, get_or-set_other rows place k.1 None None apart ∙ v.1, v.2)) in
      omega (arith, c, rest)
