-- The segments of a new cache, one more at a time.
use Rattle.std.proofs.Common.{◌≡◌, ℕ, ◌<◌, ◌≤◌, List, [], ◌∷◌, ◌++◌, length, Option, Some, None, refl, ap, sym, subst, ◌∙◌, inl, inr, length-append, arith}
use Rattle.std.proofs.lemmas.Bool.{cases_lt}
use Rattle.std.proofs.lemmas.List.{get_or_append_left, get_or_at}
use Rattle.moka_engine.specs.Config.{Config}
use Rattle.moka_calls.specs.Synchronous.{Synchronous}
use Rattle.moka_router.specs.Routing.{Routing}
use Rattle.moka_segments.specs.Built.{IsBuilt, AreBuilt, SumsTo, IsNew}
use Rattle.moka_segments.specs.Segmented.{Segmented}
use Rattle.moka_segments.proofs.Shares.{sum_is}

-- a list as long as a loop has come at its end
pub at_end : (long index end count : ℕ) → long ≡ index → end ≤ index → index ≤ end → end ≡ count → long ≡ count
at_end long index end count as_long over within same = omega arith

module _ {K V S X L P W : Type 0} (routing : Routing S) (whole : Option ℕ) (is_clone : S → S → Type 0) (now : ℕ) (Made : ℕ → Config X L W → Type 0) where
  -- the capacities sum to the whole
  pub sums : (xs : List (Synchronous K V S X L P W)) → 0 < routing.count → length xs ≡ routing.count → AreBuilt routing whole is_clone now Made xs → SumsTo whole xs
  sums xs some as_many built = go whole built
    where
      go : (o : Option ℕ) → AreBuilt routing o is_clone now Made xs → SumsTo o xs
      go None built = tt
      go (Some capacity) built = sum_is routing.count capacity xs some as_many (λ k d within. let (config, made, one) = built k d within in ap (λ (s : Synchronous K V S X L P W). s.engine.state.capacity) one.is)

  -- no segment
  pub none_built : (xs : List (Synchronous K V S X L P W)) → xs ≡ [] → AreBuilt routing whole is_clone now Made xs
  none_built xs none = subst (AreBuilt routing whole is_clone now Made) (sym none) (λ k d within. absurd (omega arith))

  -- one more
  pub more_built : (xs ys : List (Synchronous K V S X L P W)) (x : Synchronous K V S X L P W) (index : ℕ) (config : Config X L W) → AreBuilt routing whole is_clone now Made xs → length xs ≡ index → ys ≡ xs ++ x ∷ [] → Made index config → IsBuilt routing whole is_clone now index config x → AreBuilt routing whole is_clone now Made ys
  more_built xs ys x index config built as_many is made one = subst (AreBuilt routing whole is_clone now Made) (sym is) go
    where
      go : AreBuilt routing whole is_clone now Made (xs ++ x ∷ [])
      go k d within = elim (cases_lt k (length xs)) [
        | inl below ↦ subst (λ (s : Synchronous K V S X L P W). (config : Config X L W) × Made k config × IsBuilt routing whole is_clone now k config s) (sym (get_or_append_left xs (x ∷ []) d k below)) (built k d below)
        | inr above ↦
            let last : index ≡ k = omega (arith, length-append xs (x ∷ [])) in
            subst (λ (s : Synchronous K V S X L P W). (config : Config X L W) × Made k config × IsBuilt routing whole is_clone now k config s) (sym (get_or_at xs x [] d k (as_many ∙ last))) (subst (λ i. (config : Config X L W) × Made i config × IsBuilt routing whole is_clone now i config x) last (config, made, one))
      ]

  -- all of them
  pub is_new : (xs : List (Synchronous K V S X L P W)) → 0 < routing.count → length xs ≡ routing.count → AreBuilt routing whole is_clone now Made xs → IsNew routing whole is_clone now Made (record { routing = routing; segments = xs })
  is_new xs some as_many built = record { routing_is = refl; as_many = as_many; built = built; sums = sums xs some as_many built }

  -- a new cache is new by the routing that it has
  pub new_by_its_own : (c : Segmented K V S X L P W) (count : ℕ) → routing.count ≡ count → IsNew routing whole is_clone now Made c → (c.routing.count ≡ count) × IsNew c.routing whole is_clone now Made c
  new_by_its_own c count same new = (ap (λ (r : Routing S). r.count) new.routing_is ∙ same, subst (λ (r : Routing S). IsNew r whole is_clone now Made c) (sym new.routing_is) new)
