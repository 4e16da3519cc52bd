-- What an admission by TinyLFU shows.
use Rattle.std.proofs.Common.{◌≡◌, refl, ℕ, ◌+◌, ◌-◌, ◌<◌, ◌≤◌, Bool, true, false, nat_lt, ◌==◌, List, [], ◌∷◌, Option, Some, None, option_map, ap, subst, arith, ltb→lt, if◌then◌else◌, append-nil, ◌++◌, ◌∙◌, sym}
use Rattle.std.proofs.lemmas.Bool.{and_parts, eqb-true}
use Rattle.std.proofs.lemmas.List.Sums.{sum_by-cons}
use Rattle.std.specs.Bool.{passes}
use Rattle.moka_laws.proofs.Types.{Member, Contents, Preferred, Refused}
use Rattle.moka_records.specs.Records.{total_weight}
use Rattle.moka_parts.specs.Frequency.{frequency}
use Rattle.moka_parts.specs.Candidates.{prefix, victims_for, is_preferred, frequency_of_all}
use Rattle.moka_parts.specs.Writes.{fate_by_frequency}
use Rattle.moka_parts.specs.Laws.{AdmitsWell}
use Rattle.std.proofs.lemmas.Option.{cond_some, none-some, same_Some}

-- the list begins with that front, which weighs enough
abbrev pub IsHeavyFront : List Member → ℕ → List Member → Type 0
IsHeavyFront members w front = (rest : List Member) × (members ≡ front ++ rest) × (w ≤ total_weight front)

-- a prefix is such a front
pub prefix_is_front : (members : List Member) (w : ℕ) (front : List Member) → prefix members w ≡ Some front → IsHeavyFront members w front
prefix_is_front [] w front e =
    let found = cond_some (w == 0) [] front e in
    let nothing : w ≡ 0 = eqb-true w 0 found.0 in
    ([], found.1 ∙ sym (append-nil front), omega arith)
prefix_is_front (a ∷ members) w front e = go (prefix_is_front members (w - a.counted)) (w == 0) refl (prefix members (w - a.counted)) refl e
  where
    go : ((f : List Member) → prefix members (w - a.counted) ≡ Some f → IsHeavyFront members (w - a.counted) f) → (b : Bool) → (w == 0) ≡ b → (o : Option (List Member)) → prefix members (w - a.counted) ≡ o →
        (if b then Some [] else option_map (λ f. a ∷ f) o) ≡ Some front → IsHeavyFront (a ∷ members) w front
    go more true z o at e = let nothing : w ≡ 0 = eqb-true w 0 z in subst (IsHeavyFront (a ∷ members) w) (same_Some [] front e) (a ∷ members, refl, omega arith)
    go more false z None at e = absurd (none-some front e)
    go more false z (Some f) at e =
        let behind = more f at in
        let low : w - a.counted ≤ total_weight f = behind.2 in
        let weighs : total_weight (a ∷ f) ≡ a.counted + total_weight f = sum_by-cons (λ (x : Member). x.counted) a f in
        subst (IsHeavyFront (a ∷ members) w) (same_Some (a ∷ f) front e) (behind.0, ap (λ xs. a ∷ xs) behind.1, omega arith)

module _ {K V : Type 0} (c : Contents K V) where
  chosen : (w hash : ℕ) (o : Option (List Member)) (victims : List Member) → victims_for c w ≡ o → fate_by_frequency c hash o ≡ Preferred victims → (frequency_of_all c victims < frequency c.sketch hash) × (w ≤ total_weight victims)
  chosen w hash None victims f e = cc
  chosen w hash (Some v) victims f e = go (is_preferred c hash v) refl e
    where
      go : (b : Bool) → is_preferred c hash v ≡ b → (if b then Preferred v else Refused) ≡ Preferred victims → (frequency_of_all c victims < frequency c.sketch hash) × (w ≤ total_weight victims)
      go false p e = cc
      go true p e =
          let same : v ≡ victims = cc in
          subst (λ x. (frequency_of_all c x < frequency c.sketch hash) × (w ≤ total_weight x)) same
          (ltb→lt _ _ (passes _ (and_parts (nat_lt (frequency_of_all c v) (frequency c.sketch hash)) _ p).0), (prefix_is_front _ w v f).2)

  -- what TinyLFU admits
  pub admits_well : (w hash : ℕ) (victims : List Member) → AdmitsWell c w hash victims
  admits_well w hash victims e = chosen w hash (victims_for c w) victims refl e
