-- What a contract sees of an `Outstanding`.
use Rattle.std.specs.Prelude.{ℕ, refl}
use Rattle.std.specs.Coded.{Coded, code_by, coded×, coded_ℕ}
use Rattle.std.specs.FinMap as map
use Rattle.std.specs.FinMap.{FinMap}
use Rattle.std.specs.Ordering.{nat_cmp}

-- the items by their tickets, and how many more fit with no new memory
pub record Pending (T : Type 0) : Type 0 where
  pub items : FinMap nat_cmp T
  pub room : ℕ

-- it is stored as the pair of its fields
abbrev pub pending_code : {T : Type 0} → Coded T → Coded (Pending T)
pending_code {T} t =
    code_by (FinMap nat_cmp T × ℕ) (coded× (map.code coded_ℕ t) coded_ℕ) (λ p. (p.items, p.room))
    (λ p. record { items = p.0; room = p.1 }) (λ _. refl)
