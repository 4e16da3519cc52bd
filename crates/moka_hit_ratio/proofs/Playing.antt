-- One access more of the optimum.
use Rattle.std.proofs.Common.{◌≡◌, ℕ, suc, ◌+◌, ◌≤◌, Bool, ◌&&◌, List, ap, sym, ◌∙◌, arith, get_or, if◌then◌else◌, true, false}
use Rattle.std.specs.Prelude.{nat_le}
use Rattle.std.specs.BTreeMap.{is_at}
use Rattle.std.specs.List.{list_any}
use Rattle.std.specs.Ordering.{nat_cmp}
use Rattle.std.specs.Set.{remove_key}
use Rattle.moka_hit_ratio.specs.Optimum.{Played, after_access, kept_with, played}

module _ (first capacity : ℕ) (nexts : List ℕ) (place : ℕ) (kept rest left : List ℕ) (hits reads new_hits new_reads : ℕ) (is_hit : Bool) where
  abbrev next : ℕ
  next = get_or nexts place 0

  -- what is left and counted is what the definition says
  pub plays-one : record { kept = kept; hits = hits; reads = reads } ≡ played first capacity nexts place → is_hit ≡ list_any (is_at (nat_cmp place)) kept → rest ≡ remove_key (is_at (nat_cmp place)) kept → left ≡ kept_with capacity next rest →
      new_hits ≡ hits + (if nat_le first place && is_hit then 1 else 0) → new_reads ≡ reads + (if nat_le first place then 1 else 0) → record { kept = left; hits = new_hits; reads = new_reads } ≡ played first capacity nexts (place + 1)
  plays-one before hit taken stays counts counted =
      let one : place + 1 ≡ suc place = omega arith in
      let there : List ℕ = kept_with capacity next (remove_key (is_at (nat_cmp place)) kept) in
      let found : ℕ = hits + (if nat_le first place && list_any (is_at (nat_cmp place)) kept then 1 else 0) in
      ap (λ k. (let p : Played = record { kept = k; hits = new_hits; reads = new_reads } in p)) (stays ∙ ap (kept_with capacity next) taken)
      ∙ ap (λ h. (let p : Played = record { kept = there; hits = h; reads = new_reads } in p)) (counts ∙ ap (λ b. hits + (if nat_le first place && b then 1 else 0)) hit)
      ∙ ap (λ r. (let p : Played = record { kept = there; hits = found; reads = r } in p)) counted
      ∙ ap (after_access first capacity place next) before
      ∙ ap (played first capacity nexts) (sym one)

-- no more are counted than there were
pub counts-few : (reads place more : ℕ) (b : Bool) → reads ≤ place → more ≡ reads + (if b then 1 else 0) → more ≤ place + 1
counts-few reads place more true few is = omega (arith, few, is)
counts-few reads place more false few is = omega (arith, few, is)
