-- How a row keeps its slots. No public clause but those of a row cites this module.
use Rattle.std.specs.Prelude.{◌≡◌, ◌⊎◌, ℕ, ◌<◌, cond, nat_eq, Option, Some, None, IfSome, refl}
use Rattle.std.specs.Coded.{Coded, code_by, coded⊎, coded_ℕ}
use Rattle.std.proofs.Common.{inl, inr}
use Rattle.slab.specs.declared.Entry.{Entry}
use Rattle.slab.specs.declared.Entry.TheVariants.{Vacant, Occupied}
use Rattle.moka_table.specs.declared.table.membership.Membership.{Membership}

-- a slot as a word, in which 0 is none
abbrev pub slot_of : ℕ → Option ℕ
slot_of word = cond (nat_eq word 0) None (Some word)

-- a membership by its words, with no weight: one without a slot in the access list is none
abbrev pub membership_of : (access written : ℕ) → Option Membership
membership_of access written =
    cond (nat_eq access 0) None (Some (record { counted = 0; access = access; written = slot_of written }))

-- a membership with this weight
abbrev pub counted_as : ℕ → Membership → Membership
counted_as counted m = record m { counted = counted }

-- no slot is 0
abbrev pub IsSlot : Option ℕ → Type 0
IsSlot slot = IfSome slot (λ s. 0 < s)

-- no slot of a membership is 0
pub record HasSlots (m : Membership) : Type 0 where
  pub access : 0 < m.access
  pub written : IsSlot m.written

-- an entry is stored as one of two
abbrev entry_cases : {R : Type 0} → Entry R → ℕ ⊎ R
entry_cases (Vacant next) = inl next
entry_cases (Occupied row) = inr row

abbrev entry_from_cases : {R : Type 0} → ℕ ⊎ R → Entry R
entry_from_cases (inl next) = Vacant next
entry_from_cases (inr row) = Occupied row

pub entry_from_cases-entry_cases : {R : Type 0} → (e : Entry R) → entry_from_cases (entry_cases e) ≡ e
entry_from_cases-entry_cases (Vacant next) = refl
entry_from_cases-entry_cases (Occupied row) = refl

abbrev pub entry_code : {R : Type 0} → Coded R → Coded (Entry R)
entry_code {R} code = code_by (ℕ ⊎ R) (coded⊎ coded_ℕ code) entry_cases entry_from_cases entry_from_cases-entry_cases
