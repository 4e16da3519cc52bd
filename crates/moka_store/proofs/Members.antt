-- What is counted for a number after a change of the access list.
use Rattle.std.proofs.Common.{◌≡◌, ℕ, cond, ◌==◌, List, [], ◌∷◌, ◌++◌, Some, None, inl, inr, sym, ap, ◌∙◌}
use Rattle.std.proofs.lemmas.Bool.{eq-eqb, cond-true, cond-false}
use Rattle.std.proofs.lemmas.List.{append-nil}
use Rattle.std.specs.Option.{option_map}
use Rattle.std.specs.Prelude.{option_to_list}
use Rattle.moka_records.specs.declared.records.Member.{Member}
use Rattle.moka_records.proofs.AccessList.{absent_taken_out, counted_taken_out, counted_past_taken_out, counted_pushed, counted_past_pushed}
use Rattle.moka_records.proofs.Maps.{same_or_apart}
use Rattle.moka_records.specs.Records.{member, counted_of, without_member, to_back}

module _ (n q : ℕ) where
  -- a number leaves
  pub counted-without : (members : List Member) → counted_of q (without_member n members) ≡ cond (q == n) None (counted_of q members)
  counted-without members = elim (same_or_apart q n) as (λ _. counted_of q (without_member n members) ≡ cond (q == n) None (counted_of q members)) [
    | inl same ↦ ap (λ k. counted_of k (without_member n members)) same ∙ counted_taken_out n members ∙ sym (cond-true (q == n) None (counted_of q members) (eq-eqb q n same))
    | inr apart ↦ counted_past_taken_out n q members apart ∙ sym (cond-false (q == n) None (counted_of q members) apart.forth)
  ]

  -- a number comes to the back
  pub counted-admitted : (weight : ℕ) (members : List Member) → counted_of n members ≡ None → counted_of q (members ++ member n weight ∷ []) ≡ cond (q == n) (Some weight) (counted_of q members)
  counted-admitted weight members h = elim (same_or_apart q n) as (λ _. counted_of q (members ++ member n weight ∷ []) ≡ cond (q == n) (Some weight) (counted_of q members)) [
    | inl same ↦ ap (λ k. counted_of k (members ++ member n weight ∷ [])) same ∙ counted_pushed n weight members h ∙ sym (cond-true (q == n) (Some weight) (counted_of q members) (eq-eqb q n same))
    | inr apart ↦ counted_past_pushed n weight q members apart ∙ sym (cond-false (q == n) (Some weight) (counted_of q members) apart.forth)
  ]

  -- a number goes to the back with another weight
  pub counted-recounted : (weight : ℕ) (members : List Member) → counted_of q (without_member n members ++ member n weight ∷ []) ≡ cond (q == n) (Some weight) (counted_of q members)
  counted-recounted weight members = elim (same_or_apart q n) as (λ _. counted_of q (without_member n members ++ member n weight ∷ []) ≡ cond (q == n) (Some weight) (counted_of q members)) [
    | inl same ↦ ap (λ k. counted_of k (without_member n members ++ member n weight ∷ [])) same ∙ counted_pushed n weight (without_member n members) (counted_taken_out n members) ∙ sym (cond-true (q == n) (Some weight) (counted_of q members) (eq-eqb q n same))
    | inr apart ↦ counted_past_pushed n weight q (without_member n members) apart ∙ counted_past_taken_out n q members apart ∙ sym (cond-false (q == n) (Some weight) (counted_of q members) apart.forth)
  ]

-- what is in no list stays where it is
pub absent_to_back : (n : ℕ) (xs : List Member) → counted_of n xs ≡ None → to_back n xs ≡ xs
absent_to_back n xs h = ap (λ o. without_member n xs ++ option_to_list (option_map (member n) o)) h ∙ (append-nil (without_member n xs) ∙ absent_taken_out n xs h)
