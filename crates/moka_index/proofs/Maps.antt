-- How the map that entries at places make follows a change at one place.
use Rattle.std.proofs.Common.{◌≡◌, ◌≢◌, ℕ, ◌<◌, Option, Some, None, ◌⊎◌, inl, inr, sym, ap, ◌∙◌}
use Rattle.std.proofs.lemmas.Bool.{cases_eq}
use Rattle.std.specs.FinMap.{FinMap, get, insert, remove}
use Rattle.std.specs.Ordering.{nat_cmp}
pub use Rattle.moka_links.proofs.FinMaps.{option-cases, get-inserted, get-past_insert, get-removed, get-past_remove, len-inserted, len-kept, len-removed, len-some}
use Rattle.moka_links.proofs.EntryMaps.{Holds, still-apart, found-upto, has-upto, upto-is}
use Rattle.moka_links.specs.EntryMap.{upto, IsApart}

-- no key is at two places, and the map is this
pub record Becomes {X : Type 0} (at : ℕ → Option (ℕ × X)) (n : ℕ) (m : FinMap nat_cmp X) : Type 0 where
  pub apart : IsApart at
  pub map_is : upto at n ≡ m

module _ {X : Type 0} (old new : ℕ → Option (ℕ × X)) (n : ℕ) (d : IsApart old) where
  -- the same entries, place by place
  pub becomes-same : ((q : ℕ) → new q ≡ old q) → Becomes new n (upto old n)
  becomes-same same =
      let apart : IsApart new = record { same = λ p q a b pe qe s. d.same p q a b (sym (same p) ∙ pe) (sym (same q) ∙ qe) s } in
      record {
        apart = apart;
        map_is = upto-is new apart n (upto old n)
            (λ q k x l e. has-upto old d n k x q l (sym (same q) ∙ e))
            (λ k x g. let w = found-upto old n k x g in record { place = w.place; within = w.within; at_is = same w.place ∙ w.at_is });
      }

  module _ (place key : ℕ) (value : X) (within : place < n) (inside : (q : ℕ) (e : ℕ × X) → old q ≡ Some e → q < n) where
    -- a new key comes to a free place
    pub becomes-inserted : old place ≡ None → new place ≡ Some (key, value) → ((q : ℕ) → q ≢ place → new q ≡ old q) → get (upto old n) key ≡ None → Becomes new n (insert (upto old n) key value)
    becomes-inserted free here others fresh =
        let absent : (q : ℕ) (e : ℕ × X) → old q ≡ Some e → e.0 ≢ key = λ q e oe s.
        let g : get (upto old n) e.0 ≡ Some e.1 = has-upto old d n e.0 e.1 q (inside q e oe) oe in
        let bad : None ≡ Some e.1 = sym fresh ∙ ap (get (upto old n)) (sym s) ∙ g in cc in
        let own : (e : ℕ × X) → new place ≡ Some e → e.0 ≡ key = λ e there. let is : Some e ≡ Some (key, value) = sym there ∙ here in let same : e ≡ (key, value) = cc in ap (λ e. e.0) same in
        let apart : IsApart new = record { same = still-apart (λ e. e.0) old new place key others d.same own (λ q e _ oe. absent q e oe) } in
        record {
          apart = apart;
          map_is = upto-is new apart n (insert (upto old n) key value)
              (λ q k x l e. elim (cases_eq q place) as (λ _. get (insert (upto old n) key value) k ≡ Some x) [
                | inl s ↦
                    let is : Some (k, x) ≡ Some (key, value) = sym e ∙ ap new s ∙ here in
                    let same : ◌≡◌ {A = ℕ × X} (k, x) (key, value) = cc in
                    ap (get (insert (upto old n) key value)) (ap (λ (e : ℕ × X). e.0) same) ∙ get-inserted (upto old n) key value ∙ ap (λ (e : ℕ × X). Some e.1) (sym same)
                | inr ne ↦ let o = sym (others q ne) ∙ e in get-past_insert (upto old n) key value k (absent q (k, x) o) ∙ has-upto old d n k x q l o
              ])
              (λ k x g. elim (cases_eq k key) as (λ _. Holds new n k x) [
                | inl s ↦
                    let is : Some value ≡ Some x = sym (get-inserted (upto old n) key value) ∙ ap (get (insert (upto old n) key value)) (sym s) ∙ g in
                    let same : value ≡ x = cc in
                    record { place = place; within = within; at_is = here ∙ (λ i. Some (sym s i, same i)) }
                | inr ne ↦
                    let w = found-upto old n k x (sym (get-past_insert (upto old n) key value k ne) ∙ g) in
                    let away : w.place ≢ place = (λ s. let bad : None ≡ Some (k, x) = sym free ∙ ap old (sym s) ∙ w.at_is in cc) in
                    record { place = w.place; within = w.within; at_is = others w.place away ∙ w.at_is }
              ]);
        }

    -- the key at a place is removed, and the last one moves to it
    pub becomes-removed : (last : ℕ) → old place ≡ Some (key, value) → new last ≡ None → (place ≢ last → new place ≡ old last) → ((q : ℕ) → q ≢ place → q ≢ last → new q ≡ old q) → Becomes new n (remove (upto old n) key)
    becomes-removed last there gone moved others =
        let not_last : (q : ℕ) (e : ℕ × X) → new q ≡ Some e → q ≢ last = λ q e qe s. let bad : None ≡ Some e = sym gone ∙ ap new (sym s) ∙ qe in cc in
        -- where what stands at a place was before
        let came : (q : ℕ) (e : ℕ × X) → new q ≡ Some e → ((q ≡ place) × (old last ≡ Some e)) ⊎ ((q ≢ place) × (old q ≡ Some e)) = λ q e qe.
        elim (cases_eq q place) as (λ _. ((q ≡ place) × (old last ≡ Some e)) ⊎ ((q ≢ place) × (old q ≡ Some e))) [
          | inl s ↦ inl (s, sym (moved (λ t. not_last q e qe (s ∙ t))) ∙ ap new (sym s) ∙ qe)
          | inr ne ↦ inr (ne, sym (others q ne (not_last q e qe)) ∙ qe)
        ] in
        let apart : IsApart new = record {
          same = λ x y a b xe ye s. elim (came x a xe) as (λ _. x ≡ y) [
            | inl u ↦ elim (came y b ye) as (λ _. x ≡ y) [
              | inl v ↦ u.0 ∙ sym v.0
              | inr v ↦ absurd (not_last y b ye (sym (d.same last y a b u.1 v.1 s)))
            ]
            | inr u ↦ elim (came y b ye) as (λ _. x ≡ y) [
              | inl v ↦ absurd (not_last x a xe (d.same x last a b u.1 v.1 s))
              | inr v ↦ d.same x y a b u.1 v.1 s
            ]
          ];
        } in
        record {
          apart = apart;
          map_is = upto-is new apart n (remove (upto old n) key)
              (λ q k x l e. elim (came q (k, x) e) as (λ _. get (remove (upto old n) key) k ≡ Some x) [
                | inl u ↦ get-past_remove (upto old n) key k (λ s. not_last q (k, x) e (u.0 ∙ sym (d.same last place (k, x) (key, value) u.1 there s))) ∙ has-upto old d n k x last (inside last (k, x) u.1) u.1
                | inr u ↦ get-past_remove (upto old n) key k (λ s. u.0 (d.same q place (k, x) (key, value) u.1 there s)) ∙ has-upto old d n k x q l u.1
              ])
              (λ k x g. elim (cases_eq k key) as (λ _. Holds new n k x) [
                | inl e ↦ let bad : None ≡ Some x = sym (get-removed (upto old n) key) ∙ ap (get (remove (upto old n) key)) (sym e) ∙ g in cc
                | inr ne ↦
                    let w = found-upto old n k x (sym (get-past_remove (upto old n) key k ne) ∙ g) in
                    let away : w.place ≢ place = (λ s. let bad : Some (k, x) ≡ Some (key, value) = sym w.at_is ∙ ap old s ∙ there in let same : ◌≡◌ {A = ℕ × X} (k, x) (key, value) = cc in ne (ap (λ (e : ℕ × X). e.0) same)) in
                    elim (cases_eq w.place last) as (λ _. Holds new n k x) [
                      | inl l ↦ record { place = place; within = within; at_is = moved (λ s. away (l ∙ sym s)) ∙ ap old (sym l) ∙ w.at_is }
                      | inr l ↦ record { place = w.place; within = w.within; at_is = others w.place away l ∙ w.at_is }
                    ]
              ]);
        }
