-- What the choice between a candidate and its victims makes of the access list.
use Rattle.std.specs.Prelude.{◌≡◌, ℕ, Bool, true, List, take, if◌then◌else◌}
use Rattle.std.specs.List.{list_all}
use Rattle.moka_records.specs.declared.records.Member.{Member}
use Rattle.moka_records.specs.Records.{all_to_back, is_settled}
use Rattle.moka_parts.specs.State.{Contents}
use Rattle.moka_parts.specs.Candidates.{are_unsettled, victims_for}
use Rattle.moka_parts.specs.Writes.{Preferred, Refused, fate_by_frequency}

module _ {K V : Type 0} where
  -- each of the members is settled
  abbrev pub AreSettled : Contents K V → List Member → Type 0
  AreSettled c members = list_all (λ a. is_settled c.records a.number) members ≡ true

  -- a candidate of this weight and hash was compared: some unsettled members went to the back, and then so many victims
  -- stand in front
  pub record Chooses (c : Contents K V) (weight hash : ℕ) (access : List Member) (victims : ℕ)
      (preferred : Bool) : Type 0 where
    pub moved : List ℕ
    pub unsettled : are_unsettled c.records moved ≡ true
    pub order : access ≡ all_to_back moved c.access
    pub settled : AreSettled c (take victims access)
    -- they are those of the definition if the candidate is preferred
    pub fate : fate_by_frequency c hash (victims_for c weight)
        ≡ (if preferred then Preferred (take victims access) else Refused)
