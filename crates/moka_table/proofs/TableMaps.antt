-- What the maps of a table answer, and how they follow a change of one row.
use Rattle.std.proofs.Common.{◌≡◌, ◌≢◌, ℕ, ◌<◌, List, [], ◌∷◌, ◌++◌, get_or, arith, Option, Some, None, length, inl, inr, refl, sym, ap, ◌∙◌}
use Rattle.std.proofs.lemmas.Grind.{common_steps}
use Rattle.std.proofs.lemmas.List.{get_or_past}
use Rattle.std.proofs.lemmas.Bool.{cases_lt, cases_eq, false≢true}
use Rattle.std.specs.Prelude.{slice_index_or, IsSome}
use Rattle.std.specs.FinMap.{FinMap, get, same_map, nat_cmp-IsAntisymmetric}
use Rattle.std.specs.Option.{option_map, option_and_then}
use Rattle.std.proofs.lemmas.Option.{same_Some}
use Rattle.std.specs.Ordering.{nat_cmp}
use Rattle.std.specs.Cmp.{nat_cmp_total}
use Rattle.moka_links.specs.EntryMap.{IsApart}
use Rattle.moka_links.proofs.EntryMaps.{option-same, still-apart, found-upto, has-upto}
use Rattle.moka_links.proofs.FinMaps.{get-inserted, get-past_insert, get-removed, get-past_remove}
use Rattle.moka_table.specs.RecordTable.{Row, altered, answer_at, map_of, row_at, IsNumbered, ChangesAt}

-- ---- a map that answers anew under one number

module _ {X : Type 0} where
  pub get-altered : (m : FinMap nat_cmp X) (n : ℕ) (o : Option X) → get (altered m n o) n ≡ o
  get-altered m n None = get-removed m n
  get-altered m n (Some x) = get-inserted m n x

  pub get-past_altered : (m : FinMap nat_cmp X) (n : ℕ) (o : Option X) (q : ℕ) → q ≢ n → get (altered m n o) q ≡ get m q
  get-past_altered m n None q ne = get-past_remove m n q ne
  get-past_altered m n (Some x) q ne = get-past_insert m n x q ne

  is-altered : (m new : FinMap nat_cmp X) (n : ℕ) (o : Option X) → get new n ≡ o → ((q : ℕ) → q ≢ n → get new q ≡ get m q) → new ≡ altered m n o
  is-altered m new n o here past = same_map nat_cmp_total nat_cmp-IsAntisymmetric new (altered m n o) (λ q. elim (cases_eq q n) as (λ _. get new q ≡ get (altered m n o) q) [
    | inl e ↦ ap (get new) e ∙ here ∙ sym (get-altered m n o) ∙ ap (get (altered m n o)) (sym e)
    | inr ne ↦ past q ne ∙ sym (get-past_altered m n o q ne)
  ])

  pub altered-same : (m : FinMap nat_cmp X) (n : ℕ) (o : Option X) → get m n ≡ o → altered m n o ≡ m
  altered-same m n o h = sym (is-altered m m n o h (λ q _. refl))

-- ---- what is there

pub some_is : {X : Type 0} (o : Option X) → IsSome o → (x : X) × (o ≡ Some x)
some_is None h = absurd (false≢true h)
some_is (Some x) h = (x, refl)

-- what is read of something was read of what is there
pub read-of : {X Y : Type 0} (f : X → Option Y) (o : Option X) (y : Y) → option_and_then f o ≡ Some y → (x : X) × (o ≡ Some x) × (f x ≡ Some y)
read-of f None y h = cc
read-of f (Some x) y h = (x, refl, h)

-- so is what is made of something
pub made-of : {X Y : Type 0} (f : X → Y) (o : Option X) (y : Y) → option_map f o ≡ Some y → (x : X) × (o ≡ Some x) × (f x ≡ y)
made-of f None y h = cc
made-of f (Some x) y h = (x, refl, same_Some (f x) y h)

pub row_at-within : {X : Type 0} (rows : List (Option X)) (p : ℕ) (x : X) → slice_index_or rows p None ≡ Some x → p < length rows
row_at-within rows p x h = elim (cases_lt p (length rows)) as (λ _. p < length rows) [
  | inl lt ↦ lt
  | inr le ↦ let none = get_or_past rows p None le in cc
]

-- one more element changes no other place
pub get_or_past_push : {X : Type 0} (xs : List X) (x d : X) (i : ℕ) → i ≢ length xs → get_or (xs ++ x ∷ []) i d ≡ get_or xs i d
get_or_past_push xs x d i ne = grind (arith, common_steps)

-- ---- the map of a table's rows

module _ {R X : Type 0} (f : ℕ → Row R → Option X) (rows : List (Option (Row R))) where
  -- some row has this number, and f answers x there
  pub record Answers (n : ℕ) (x : X) : Type 0 where
    pub place : ℕ
    pub row : Row R
    pub at_is : row_at rows place ≡ Some row
    pub number_is : row.number ≡ n
    pub value_is : f place row ≡ Some x

  pub answer-of : (place : ℕ) (row : Row R) (x : X) → row_at rows place ≡ Some row → f place row ≡ Some x → answer_at f rows place ≡ Some (row.number, x)
  answer-of place row x at_is is = ap (option_and_then (λ (row : Row R). option_map (λ (x : X). (row.number, x)) (f place row))) at_is ∙ ap (option_map (λ (x : X). (row.number, x))) is

  row-of : (place n : ℕ) (x : X) → answer_at f rows place ≡ Some (n, x) → (row : Row R) × (row_at rows place ≡ Some row) × (row.number ≡ n) × (f place row ≡ Some x)
  row-of place n x h =
      let r = read-of (λ (row : Row R). option_map (λ (x : X). (row.number, x)) (f place row)) (row_at rows place) (n, x) h in
      let y = made-of (λ (x : X). (r.0.number, x)) (f place r.0) (n, x) r.2 in
      (r.0, r.1, ap (λ (e : ℕ × X). e.0) y.2, y.1 ∙ ap (λ (e : ℕ × X). Some e.1) y.2)

  -- rows with numbers of their own have answers under numbers of their own
  pub answers-apart : IsNumbered (row_at rows) → IsApart (answer_at f rows)
  answers-apart d = record { same = λ p q a b pa qb s. let v = row-of p a.0 a.1 pa in let w = row-of q b.0 b.1 qb in d.same p q v.0 w.0 v.1 w.1 (v.2 ∙ s ∙ sym w.2) }

  -- the row that the map's value is of
  pub map-found : (n : ℕ) (x : X) → get (map_of f rows) n ≡ Some x → Answers n x
  map-found n x h =
      let w = found-upto (answer_at f rows) (length rows) n x h in
      let r = row-of w.place n x w.at_is in
      record { place = w.place; row = r.0; at_is = r.1; number_is = r.2; value_is = r.3 }

  map-has : IsNumbered (row_at rows) → (place : ℕ) (row : Row R) (x : X) → row_at rows place ≡ Some row → f place row ≡ Some x → get (map_of f rows) row.number ≡ Some x
  map-has d place row x at_is is = has-upto (answer_at f rows) (answers-apart d) (length rows) row.number x place (row_at-within rows place row at_is) (answer-of place row x at_is is)

  -- under a number that no other place has, the map has what this place answers
  get-own : IsNumbered (row_at rows) → (place n : ℕ) → ((row : Row R) → row_at rows place ≡ Some row → row.number ≡ n)
      → ((p : ℕ) (row : Row R) → p ≢ place → row_at rows p ≡ Some row → row.number ≢ n) → get (map_of f rows) n ≡ option_and_then (f place) (row_at rows place)
  get-own d place n own apart = option-same (get (map_of f rows) n) (option_and_then (f place) (row_at rows place))
      (λ x h.
      let w = map-found n x h in
      elim (cases_eq w.place place) as (λ _. option_and_then (f place) (row_at rows place) ≡ Some x) [
        | inl s ↦ ap (option_and_then (f place)) (ap (row_at rows) (sym s) ∙ w.at_is) ∙ ap (λ p. f p w.row) (sym s) ∙ w.value_is
        | inr ne ↦ absurd (apart w.place w.row ne w.at_is w.number_is)
      ])
      (λ x h. let r = read-of (f place) (row_at rows place) x h in ap (get (map_of f rows)) (sym (own r.0 r.1)) ∙ map-has d place r.0 x r.1 r.2)

  -- what the map has under a row's number
  pub get-map : IsNumbered (row_at rows) → (p : ℕ) (row : Row R) → row_at rows p ≡ Some row → get (map_of f rows) row.number ≡ f p row
  get-map d p row e =
      get-own d p row.number (λ r h. ap (λ (r : Row R). r.number) (same_Some r row (sym h ∙ e))) (λ q r ne h s. ne (d.same q p r row h e s))
      ∙ ap (option_and_then (f p)) e

-- where all places but one answer the same, so do the maps under all numbers but its own
get-past : {R X : Type 0} (f g : ℕ → Row R → Option X) (rows new : List (Option (Row R))) → IsNumbered (row_at new) → (place n : ℕ) → ((p : ℕ) → p ≢ place → row_at new p ≡ row_at rows p) → ((row : Row R) → row_at rows place ≡ Some row → row.number ≡ n)
    → ((p : ℕ) (row : Row R) → p ≢ place → row_at rows p ≡ Some row → g p row ≡ f p row) → (q : ℕ) → q ≢ n → (x : X) → get (map_of f rows) q ≡ Some x → get (map_of g new) q ≡ Some x
get-past f g rows new d place n others own same q away x h =
    let w = map-found f rows q x h in
    let off : w.place ≢ place = (λ s. away (sym w.number_is ∙ own w.row (ap (row_at rows) (sym s) ∙ w.at_is))) in
    ap (get (map_of g new)) (sym w.number_is) ∙ map-has g new d w.place w.row x (others w.place off ∙ w.at_is) (same w.place w.row off w.at_is ∙ w.value_is)

-- what stands at a place becomes this, with the same number if both are rows, and no other row has that number
pub record Alters {R : Type 0} (rows new : List (Option (Row R))) (place n : ℕ) (now : Option (Row R)) : Type 0 where
  pub numbered : IsNumbered (row_at rows)
  pub changes : ChangesAt (row_at rows) (row_at new) place now
  pub was : (row : Row R) → row_at rows place ≡ Some row → row.number ≡ n
  pub is : (row : Row R) → now ≡ Some row → row.number ≡ n
  pub apart : (p : ℕ) (row : Row R) → p ≢ place → row_at rows p ≡ Some row → row.number ≢ n

module _ {R : Type 0} {rows new : List (Option (Row R))} {place : ℕ} (d : IsNumbered (row_at rows)) where
  -- a row changes and keeps its number, or goes
  pub alters-row : (was : Row R) (now : Option (Row R)) → row_at rows place ≡ Some was → ((row : Row R) → now ≡ Some row → row.number ≡ was.number) → ChangesAt (row_at rows) (row_at new) place now → Alters rows new place was.number now
  alters-row was now at_is number c = record {
    numbered = d;
    changes = c;
    was = λ row e. cc;
    is = number;
    apart = λ p row ne e s. ne (d.same p place row was e at_is s);
  }

  -- a row changes and keeps its number
  pub alters-set : (was row : Row R) → row_at rows place ≡ Some was → row.number ≡ was.number → ChangesAt (row_at rows) (row_at new) place (Some row) → Alters rows new place was.number (Some row)
  alters-set was row at_is number c = alters-row was (Some row) at_is (λ r e. cc) c

  -- a row comes where there was none, with a number that no row has
  pub alters-added : (row : Row R) → row_at rows place ≡ None → get (map_of (λ p _. Some p) rows) row.number ≡ None → ChangesAt (row_at rows) (row_at new) place (Some row) → Alters rows new place row.number (Some row)
  alters-added row vacant fresh c = record {
    numbered = d;
    changes = c;
    was = λ r e. cc;
    is = λ r e. cc;
    apart = λ p r _ e s. let there = get-map (λ p _. Some p) rows d p r e in let t = ap (get (map_of (λ (p : ℕ) (_ : Row R). Some p) rows)) s in cc;
  }

module _ {R : Type 0} {rows new : List (Option (Row R))} {place n : ℕ} {now : Option (Row R)} (a : Alters rows new place n now) where
  pub numbered-after : IsNumbered (row_at new)
  numbered-after = record {
    same = still-apart (λ (row : Row R). row.number) (row_at rows) (row_at new) place n a.changes.others a.numbered.same (λ row e. a.is row (sym a.changes.changed ∙ e)) a.apart;
  }

  -- the map of another function, which answers the same at all other places
  pub map-anew : {X : Type 0} (f g : ℕ → Row R → Option X) → ((p : ℕ) (row : Row R) → p ≢ place → row_at rows p ≡ Some row → g p row ≡ f p row) → map_of g new ≡ altered (map_of f rows) n (option_and_then (g place) now)
  map-anew f g same = is-altered (map_of f rows) (map_of g new) n (option_and_then (g place) now)
      (get-own g new numbered-after place n (λ row e. a.is row (sym a.changes.changed ∙ e)) (λ p row ne e. a.apart p row ne (sym (a.changes.others p ne) ∙ e)) ∙ ap (option_and_then (g place)) a.changes.changed)
      (λ q away. option-same (get (map_of g new) q) (get (map_of f rows) q)
      (get-past g f new rows a.numbered place n (λ p ne. sym (a.changes.others p ne)) (λ row e. a.is row (sym a.changes.changed ∙ e)) (λ p row ne e. sym (same p row ne (sym (a.changes.others p ne) ∙ e))) q away)
      (get-past f g rows new numbered-after place n a.changes.others a.was same q away))

  pub map-after : {X : Type 0} (f : ℕ → Row R → Option X) → map_of f new ≡ altered (map_of f rows) n (option_and_then (f place) now)
  map-after f = map-anew f f (λ _ _ _ _. refl)

  pub map-same : {X : Type 0} (f : ℕ → Row R → Option X) → option_and_then (f place) (row_at rows place) ≡ option_and_then (f place) now → map_of f new ≡ map_of f rows
  map-same f e = map-after f ∙ altered-same (map_of f rows) n (option_and_then (f place) now) (get-own f rows a.numbered place n a.was a.apart ∙ e)
