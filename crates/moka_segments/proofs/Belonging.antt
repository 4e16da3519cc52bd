-- Keys stay in the segments that they belong to.
use Rattle.std.proofs.Common.{◌≡◌, refl, ℕ, ◌<◌, ◌==◌, Bool, true, false, List, [], ◌∷◌, ap, sym, subst, ◌∙◌}
use Rattle.std.proofs.lemmas.Bool.{eqb-true, eqb-false}
use Rattle.std.proofs.lemmas.List.{get_or-set_other, length-set}
use Rattle.moka_parts.specs.State.{Meaning}
use Rattle.moka_calls.specs.Synchronous.{Synchronous}
use Rattle.moka_segments.specs.Keys.{Belongs, EachKey, KeysBelong}
use Rattle.moka_segments.specs.Laws.{InsertWhereTheyBelong, KeysStay, OneSegmentEach}
use Rattle.moka_router.specs.Routing.{Routing, segment_of}
use Rattle.moka_segments.specs.Segmented.{Segmented, IsAt, StepsAt, Steps}
use Rattle.moka_segments.proofs.Apart.{one_at, there_after}
use Rattle.moka_segments.proofs.Keys.{keys_made}

-- before a step, elsewhere
elsewhere_before : {A : Type 0} (index : ℕ) (Step : A → A → Type 0) (xs ys : List A) (step : StepsAt index Step xs ys) (other : ℕ) (x : A) → (other ≡ index → ⊥) → IsAt ys other x → IsAt xs other x
elsewhere_before index Step xs ys step other x apart at_y =
    let at_x = subst (λ zs. IsAt zs other x) step.others at_y in
    record {
      within = subst (λ n. other < n) (length-set xs index step.after) at_x.within;
      is = λ d. sym (get_or-set_other xs index other step.after d apart) ∙ at_x.is d;
    }

module _ {K V S X L P W : Type 0} (hash_of : S → K → ℕ) where
  -- a step of one segment that leaves only keys that belong to it
  pub belongs_after : (index : ℕ) (Step : Synchronous K V S X L P W → Synchronous K V S X L P W → Type 0) (old new : Segmented K V S X L P W) → Steps index Step old new
      → ((x y : Synchronous K V S X L P W) → Step x y → EachKey (Belongs hash_of old.routing index) x.engine.state.records → EachKey (Belongs hash_of old.routing index) y.engine.state.records)
      → KeysBelong hash_of old → KeysBelong hash_of new
  belongs_after index Step old new steps keeps belong other z at_z =
      subst (λ (r : Routing S). EachKey (Belongs hash_of r other) z.engine.state.records) (sym steps.routing) (go (other == index) refl)
    where
      go : (b : Bool) → (other == index) ≡ b → EachKey (Belongs hash_of old.routing other) z.engine.state.records
      go true same =
          let is : other ≡ index = eqb-true other index same in
          let one = steps.one in
          let z_is : one.after ≡ z = one_at new.segments index one.after z (there_after index Step old.segments new.segments one) (subst (λ i. IsAt new.segments i z) is at_z) in
          subst (λ i. EachKey (Belongs hash_of old.routing i) z.engine.state.records) (sym is)
          (subst (λ (y : Synchronous K V S X L P W). EachKey (Belongs hash_of old.routing index) y.engine.state.records) z_is (keeps one.before one.after one.step (belong index one.before one.there)))
      go false apart = belong other z (elsewhere_before index Step old.segments new.segments steps.one other z (eqb-false other index apart) at_z)

  -- keys that are equal are in one segment
  pub in_one_segment : (eq : K → K → Bool) → ((h : S) (k q : K) → eq k q ≡ true → hash_of h k ≡ hash_of h q) → OneSegmentEach V S X L P W hash_of eq
  in_one_segment eq same_hash c belong i j n m x y r q at_x at_y there_x there_y equal =
      sym (belong i x at_x n r there_x) ∙ ap (segment_of c.routing.count) (same_hash c.routing.hasher r.key q.key equal) ∙ belong j y at_y m q there_y

module _ {K V S X L P W C : Type 0} (hash_of : S → K → ℕ) (m : Meaning K V X L P W C (Unit {0})) where
  pub keys_stay : KeysStay S hash_of m
  keys_stay [] old new clock clock_after moved where_belong belong = subst (λ (c : Segmented K V S X L P W). KeysBelong hash_of c) (sym moved.1) belong
  keys_stay (v ∷ vs) old new clock clock_after (between, meanwhile, move, rest) where_belong belong =
      keys_stay vs between new meanwhile clock_after rest (subst (λ (r : Routing S). InsertWhereTheyBelong hash_of r vs) (sym move.routing) where_belong.1)
      (belongs_after hash_of v.index _ old between move (λ x y step held. keys_made m (Belongs hash_of old.routing v.index) v.calls v.replies x.engine y.engine clock meanwhile step where_belong.0 held) belong)
