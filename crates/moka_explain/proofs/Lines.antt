-- The line of each key, one after the other.
use Rattle.std.proofs.Common.{◌≡◌, ℕ, ◌+◌, ◌<◌, min, List, [], ◌∷◌, ◌++◌, Option, length, take, get_or, sym, ap, ◌∙◌, arith}
use Rattle.std.specs.List.{zip}
use Rattle.std.proofs.lemmas.List.{flat_map_more, take_all, take_more}
use Rattle.std.proofs.lemmas.Slice.Zip.{length-zip, get_or-zip}
use Rattle.moka_explain.specs.declared.look.Look.{Look}
use Rattle.moka_explain.specs.declared.text.Leaving.{Leaving}
use Rattle.moka_explain.specs.Text.{fate_line, fate_lines}

module _ (leaving : Leaving) (hit : Option ℕ) (before after : List Look) (n : ℕ) where
  -- one more key has one more line
  pub lines_more : (b a : Look) → n < length before → n < length after → ((d : Look) → b ≡ get_or before n d) → ((d : Look) → a ≡ get_or after n d) → fate_lines leaving hit (take n (zip before after)) ++ fate_line leaving hit (b, a) ≡ fate_lines leaving hit (take (n + 1) (zip before after))
  lines_more b a in_before in_after first second =
      let pairs : List (Look × Look) = zip before after in
      let pair : Look × Look = (b, a) in
      let here : get_or pairs n pair ≡ pair = get_or-zip before after n pair in_before in_after ∙ ap (λ x. (x, get_or after n a)) (sym (first b)) ∙ ap (λ y. (b, y)) (sym (second a)) in
      let more : take (n + 1) pairs ≡ take n pairs ++ pair ∷ [] = take_more pairs n pair (omega (arith, length-zip before after)) ∙ ap (λ p. take n pairs ++ p ∷ []) here in
      flat_map_more (fate_line leaving hit) [] (take n pairs) pair ∙ ap (fate_lines leaving hit) (sym more)

  -- at the end each key has one
  pub lines_all : n ≡ min (length before) (length after) → fate_lines leaving hit (take n (zip before after)) ≡ fate_lines leaving hit (zip before after)
  lines_all end = ap (fate_lines leaving hit) (take_all n (zip before after) (omega (arith, length-zip before after)))
