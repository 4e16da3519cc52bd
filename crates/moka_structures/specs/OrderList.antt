-- What a contract sees of an `OrderList`.
use Rattle.std.specs.Prelude.{ℕ, List, [], ◌∷◌, ◌++◌, cond, nat_eq, Option, None, refl, slice_get}
use Rattle.std.specs.Coded.{Coded, code_by, coded×, coded_list, coded_ℕ}
use Rattle.std.specs.Map.{remove_entry}

-- the members from the front to the back, each its slot and its value, and how many more fit with no new memory
pub record Order (T : Type 0) : Type 0 where
  pub members : List (ℕ × T)
  pub room : ℕ

-- it is stored as the pair of its fields
abbrev pub order_code : {T : Type 0} → Coded T → Coded (Order T)
order_code {T} t =
    code_by (List (ℕ × T) × ℕ) (coded× (coded_list (coded× coded_ℕ t)) coded_ℕ) (λ o. (o.members, o.room))
    (λ p. record { members = p.0; room = p.1 }) (λ _. refl)

module _ {T : Type 0} where
  -- the member behind the one in this slot
  abbrev pub next_after : ℕ → List (ℕ × T) → Option (ℕ × T)
  next_after s [] = None
  next_after s (m ∷ ms) = cond (nat_eq s m.0) (slice_get ms 0) (next_after s ms)

  -- the members with this one behind all others
  abbrev pub moved_to_back : ℕ → T → List (ℕ × T) → List (ℕ × T)
  moved_to_back slot value ms = remove_entry (nat_eq slot) ms ++ (slot, value) ∷ []
