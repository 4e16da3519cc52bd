-- One read more, and which read follows each of those before it.
use Rattle.std.proofs.Common.{◌≡◌, refl, ℕ, ◌+◌, ◌-◌, ◌^◌, ◌<◌, ◌==◌, List, [], ◌∷◌, ◌++◌, length, length-append, get_or, set, Option, Some, None, ◌⊎◌, inl, inr, ap, sym, ◌∙◌, subst, arith, cond}
use Rattle.std.proofs.lemmas.Bool.{cases_eq, cases_order, eq-eqb, ne_eqb}
use Rattle.std.proofs.lemmas.List.{get_or_append_left, get_or-set_same, get_or-set_other, length-set}
use Rattle.std.proofs.Math.Seq.{get_or-append_seam}
use Rattle.moka_hit_ratio.specs.Optimum.{NoneBetween, IsNextRead}

-- the place is the last one at which the key is read, of so many
abbrev IsLast : List ℕ → ℕ → ℕ → Option ℕ → Type 0
IsLast keys many key None = (p : ℕ) → p < many → get_or keys p 0 ≡ key → ⊥
IsLast keys many key (Some at) = (at < many) × (get_or keys at 0 ≡ key) × NoneBetween keys at many key

-- what is known of so many reads: which follows each, and where each key was read last
pub record AreRead (keys nexts : List ℕ) (many : ℕ) (last : ℕ → Option ℕ) : Type 0 where
  pub long : length nexts ≡ many
  pub next : (place : ℕ) → place < many → IsNextRead keys many place (get_or nexts place 0)
  pub seen : (key : ℕ) → IsLast keys many key (last key)

pub read-none : (keys : List ℕ) (last : ℕ → Option ℕ) → ((key : ℕ) → last key ≡ None) → AreRead keys [] 0 last
read-none keys last none = record {
  long = refl;
  next = λ place less. absurd (omega arith);
  seen = λ key. subst (IsLast keys 0 key) (sym (none key)) (λ p less is. absurd (omega arith));
}

module _ (keys nexts : List ℕ) (many : ℕ) (last : ℕ → Option ℕ) (h : AreRead keys nexts many last) where
  abbrev key : ℕ
  key = get_or keys many 0

  -- where the key was read last, it was before
  pub last-before : (at : ℕ) → last key ≡ Some at → at < many
  last-before at again = (subst (IsLast keys many key) again (h.seen key)).0

  -- nothing is read between a read and the one after it
  between-one : (k : ℕ) → NoneBetween keys many (many + 1) k
  between-one k p after before is = absurd (omega arith)

  -- what is not read between two places is not read with one place more that has another key
  between-more : (from k : ℕ) → NoneBetween keys from many k → (key ≡ k → ⊥) → NoneBetween keys from (many + 1) k
  between-more from k none other p after before is = elim (cases_eq p many) [
    | inl same ↦ other (sym (ap (λ q. get_or keys q 0) same) ∙ is)
    | inr apart ↦ none p after (omega (arith, apart, before)) is
  ]

  -- where the keys were read last
  seen-more : (after : ℕ → Option ℕ) → ((k : ℕ) → after k ≡ cond (key == k) (Some many) (last k)) → (k : ℕ) → IsLast keys (many + 1) k (after k)
  seen-more after updates k = subst (IsLast keys (many + 1) k) (sym (updates k)) (go (cases_eq key k))
    where
      still : (o : Option ℕ) → (key ≡ k → ⊥) → IsLast keys many k o → IsLast keys (many + 1) k o
      still None other none = λ p less is. elim (cases_eq p many) [
        | inl same ↦ other (sym (ap (λ q. get_or keys q 0) same) ∙ is)
        | inr apart ↦ none p (omega (arith, apart, less)) is
      ]
      still (Some at) other (less, is, none) = (omega (arith, less), is, between-more at k none other)

      go : (key ≡ k) ⊎ (key ≡ k → ⊥) → IsLast keys (many + 1) k (cond (key == k) (Some many) (last k))
      go (inl same) = subst (λ b. IsLast keys (many + 1) k (cond b (Some many) (last k))) (sym (eq-eqb key k same)) (omega arith, same, between-one k)
      go (inr other) = subst (λ b. IsLast keys (many + 1) k (cond b (Some many) (last k))) (sym (ne_eqb key k other)) (still (last k) other (h.seen k))

  -- the read that follows a read stays, unless that was the last one of the new one's key
  next-still : (place next : ℕ) → (NoneBetween keys place many (get_or keys place 0) → key ≡ get_or keys place 0 → ⊥) → IsNextRead keys many place next → IsNextRead keys (many + 1) place next
  next-still place next other (inl (never, none)) = inl (never, between-more place (get_or keys place 0) none (other none))
  next-still place next other (inr (after, before, is, none)) = inr (after, omega (arith, before), is, none)

  abbrev longer : List ℕ
  longer = nexts ++ (2 ^ 64 - 1) ∷ []

  long-more : length longer ≡ many + 1
  long-more = length-append nexts ((2 ^ 64 - 1) ∷ []) ∙ ap (λ n. n + 1) h.long

  kept-more : (p : ℕ) → p < many → get_or longer p 0 ≡ get_or nexts p 0
  kept-more p less = get_or_append_left nexts ((2 ^ 64 - 1) ∷ []) 0 p (omega (arith, less, h.long))

  last-more : get_or longer many 0 ≡ 2 ^ 64 - 1
  last-more = subst (λ n. get_or longer n 0 ≡ 2 ^ 64 - 1) h.long (get_or-append_seam nexts (2 ^ 64 - 1) [] 0)

  module _ (after : ℕ → Option ℕ) (updates : (k : ℕ) → after k ≡ cond (key == k) (Some many) (last k)) where
    -- the key is read for the first time
    pub read-first : last key ≡ None → AreRead keys longer (many + 1) after
    read-first first = record {
      long = long-more;
      next = λ place less. elim (cases_eq place many) [
        | inl same ↦ subst (λ p. IsNextRead keys (many + 1) p (get_or longer p 0)) (sym same) (inl (last-more, between-one (get_or keys many 0)))
        | inr apart ↦
            let before : place < many = omega (arith, apart, less) in
            subst (IsNextRead keys (many + 1) place) (sym (kept-more place before))
            (next-still place (get_or nexts place 0) (λ none is. subst (IsLast keys many key) first (h.seen key) place before (sym is)) (h.next place before))
      ];
      seen = seen-more after updates;
    }

    -- it was read before, for the last time at this place
    pub read-again : (at : ℕ) → last key ≡ Some at → AreRead keys (set longer at many) (many + 1) after
    read-again at again = record {
      long = length-set longer at many ∙ long-more;
      next = λ place less. elim (cases_eq place at) [
        | inl same ↦ subst (λ p. IsNextRead keys (many + 1) p (get_or (set longer at many) p 0)) (sym same) at-place
        | inr other ↦ subst (IsNextRead keys (many + 1) place) (sym (get_or-set_other longer at place many 0 other)) (beside place other less)
      ];
      seen = seen-more after updates;
    }
      where
        was : IsLast keys many key (Some at)
        was = subst (IsLast keys many key) again (h.seen key)

        at-place : IsNextRead keys (many + 1) at (get_or (set longer at many) at 0)
        at-place =
            let inside : at < length longer = omega (arith, was.0, long-more) in
            subst (IsNextRead keys (many + 1) at) (sym (get_or-set_same longer at many 0 inside))
            (inr (was.0, omega arith, sym was.1, λ p behind before is. was.2 p behind before (is ∙ was.1)))

        -- a read of the key before the last one of it is followed by one
        followed : (place : ℕ) → (place ≡ at → ⊥) → place < many → NoneBetween keys place many (get_or keys place 0) → key ≡ get_or keys place 0 → ⊥
        followed place other before none is = elim (cases_order place at) [
          | inl same ↦ other same
          | inr (inl below) ↦ none at below was.0 (was.1 ∙ is)
          | inr (inr above) ↦ was.2 place above before (sym is)
        ]

        beside : (place : ℕ) → (place ≡ at → ⊥) → place < many + 1 → IsNextRead keys (many + 1) place (get_or longer place 0)
        beside place other less = elim (cases_eq place many) [
          | inl same ↦ subst (λ p. IsNextRead keys (many + 1) p (get_or longer p 0)) (sym same) (inl (last-more, between-one (get_or keys many 0)))
          | inr apart ↦
              let before : place < many = omega (arith, apart, less) in
              subst (IsNextRead keys (many + 1) place) (sym (kept-more place before))
              (next-still place (get_or nexts place 0) (followed place other before) (h.next place before))
        ]
