-- What each write leaves of the nodes.
use Rattle.std.proofs.Common.{◌≡◌, ◌≢◌, ℕ, ◌<◌, List, inl, inr, refl, sym, ap, ◌∙◌, arith, length, slice_index_or, set, get_or-set_same, get_or-set_other, length-set}
use Rattle.std.proofs.lemmas.Bool.{cases_eq}
use Rattle.std.proofs.lemmas.List.{get_or_default}
use Rattle.moka_links.specs.declared.Node.{Node}
use Rattle.moka_links.specs.Links.{blank, at, befores, behinds, values, with_value, detached, attached}

module _ {T : Type 0} where
  -- a link that leads into the table, whatever is read past it
  pub read-before : (ns : List (Node T)) (i size : ℕ) (n : Node T) → i < length ns → ((past : T) → befores past ns i < size) → (slice_index_or ns i n).before < size
  read-before ns i size n l h = omega (arith, h n.value, ap (λ (m : Node T). m.before) (get_or_default ns i n (blank n.value) l))

  pub read-behind : (ns : List (Node T)) (i size : ℕ) (n : Node T) → i < length ns → ((past : T) → behinds past ns i < size) → (slice_index_or ns i n).behind < size
  read-behind ns i size n l h = omega (arith, h n.value, ap (λ (m : Node T). m.behind) (get_or_default ns i n (blank n.value) l))

  module _ (past : T) where
    -- what a write at p keeps of a node
    pub set-keeps : {B : Type 0} (h : Node T → B) (ns : List (Node T)) (p : ℕ) (v : Node T) (i : ℕ) → p < length ns → h v ≡ h (at past ns p) → h (at past (set ns p v) i) ≡ h (at past ns i)
    set-keeps h ns p v i l e = elim (cases_eq i p) as (λ _. h (at past (set ns p v) i) ≡ h (at past ns i)) [
      | inl same ↦ ap (λ k. h (at past (set ns p v) k)) same ∙ ap h (get_or-set_same ns p v (blank past) l) ∙ e ∙ ap (λ k. h (at past ns k)) (sym same)
      | inr other ↦ ap h (get_or-set_other ns p i v (blank past) other)
    ]

    -- a write at p leaves the other nodes
    pub set-other : (ns : List (Node T)) (p : ℕ) (v : Node T) (i : ℕ) → i ≢ p → at past (set ns p v) i ≡ at past ns i
    set-other ns p v i ne = get_or-set_other ns p i v (blank past) ne

    -- a write at p is there
    pub set-same : (ns : List (Node T)) (p : ℕ) (v : Node T) → p < length ns → at past (set ns p v) p ≡ v
    set-same ns p v l = get_or-set_same ns p v (blank past) l

    -- a value that is written again is kept
    pub values-kept : (ns ms : List (Node T)) (s : ℕ) → ((i : ℕ) → i ≢ s → values past ms i ≡ values past ns i) → values past ms s ≡ values past ns s → (i : ℕ) → values past ms i ≡ values past ns i
    values-kept ns ms s others here i = elim (cases_eq i s) as (λ _. values past ms i ≡ values past ns i) [
      | inl same ↦ ap (values past ms) same ∙ here ∙ ap (values past ns) (sym same)
      | inr other ↦ others i other
    ]

    -- the nodes after `detach` of the slot s, which has the value v now, where p stood before the slot and b behind it
    pub record Detached (ns ms : List (Node T)) (s : ℕ) (v : T) (p b : ℕ) : Type 0 where
      pub size : length ms ≡ length ns
      pub behind : (i : ℕ) → i ≢ p → behinds past ms i ≡ behinds past ns i
      pub behind_at : behinds past ms p ≡ b
      pub before : (i : ℕ) → i ≢ b → befores past ms i ≡ befores past ns i
      pub before_at : befores past ms b ≡ p
      pub value : (i : ℕ) → i ≢ s → values past ms i ≡ values past ns i
      pub value_at : values past ms s ≡ v
      pub whole : (i : ℕ) → i ≢ s → i ≢ p → i ≢ b → at past ms i ≡ at past ns i

    pub Detached-detached : (ns : List (Node T)) (s : ℕ) → befores past ns s < length ns → behinds past ns s < length ns
        → Detached ns (detached past ns s) s (values past ns s) (befores past ns s) (behinds past ns s)
    Detached-detached ns s lp lb =
        let f : Node T → ℕ = λ n. n.behind in
        let g : Node T → ℕ = λ n. n.before in
        let h : Node T → T = λ n. n.value in
        let p = befores past ns s in
        let b = behinds past ns s in
        let v : Node T = record (at past ns p) { behind = b } in
        let ms = set ns p v in
        let w : Node T = record (at past ms b) { before = p } in
        let lm : b < length ms = omega (arith, length-set ns p v) in
        record {
          size = length-set ms b w ∙ length-set ns p v;
          behind = λ i ne. set-keeps f ms b w i lm refl ∙ ap f (set-other ns p v i ne);
          behind_at = set-keeps f ms b w p lm refl ∙ ap f (set-same ns p v lp);
          before = λ i ne. ap g (set-other ms b w i ne) ∙ set-keeps g ns p v i lp refl;
          before_at = ap g (set-same ms b w lm);
          value = λ i ne. set-keeps h ms b w i lm refl ∙ set-keeps h ns p v i lp refl;
          value_at = set-keeps h ms b w s lm refl ∙ set-keeps h ns p v s lp refl;
          whole = λ i ne np nb. set-other ms b w i nb ∙ set-other ns p v i np;
        }

    -- another value is written into the slot
    pub Detached-valued : (ns ms : List (Node T)) (s : ℕ) (v : T) (p b : ℕ) (f : T → T) → s < length ms → Detached ns ms s v p b → Detached ns (with_value past ms s (f (values past ms s))) s (f v) p b
    Detached-valued ns ms s v p b f ls d =
        let w : Node T = record (at past ms s) { value = f (values past ms s) } in
        let behind_kept = λ (i : ℕ). set-keeps (λ n. n.behind) ms s w i ls refl in
        let before_kept = λ (i : ℕ). set-keeps (λ n. n.before) ms s w i ls refl in
        record {
          size = length-set ms s w ∙ d.size;
          behind = λ i ne. behind_kept i ∙ d.behind i ne;
          behind_at = behind_kept p ∙ d.behind_at;
          before = λ i ne. before_kept i ∙ d.before i ne;
          before_at = before_kept b ∙ d.before_at;
          value = λ i ne. ap (λ n. n.value) (set-other ms s w i ne) ∙ d.value i ne;
          value_at = ap (λ n. n.value) (set-same ms s w ls) ∙ ap f d.value_at;
          whole = λ i ne np nb. set-other ms s w i ne ∙ d.whole i ne np nb;
        }

    -- the nodes after `attach` of the slot s, which has the value v now, to the head, before which `last` stood
    pub record Attached (ns ms : List (Node T)) (s : ℕ) (v : T) (head last : ℕ) : Type 0 where
      pub size : length ms ≡ length ns
      pub behind : (i : ℕ) → i ≢ last → i ≢ s → behinds past ms i ≡ behinds past ns i
      pub behind_last : behinds past ms last ≡ s
      pub behind_at : s ≢ last → behinds past ms s ≡ head
      pub before : (i : ℕ) → i ≢ head → i ≢ s → befores past ms i ≡ befores past ns i
      pub before_head : befores past ms head ≡ s
      pub before_at : s ≢ head → befores past ms s ≡ last
      pub value : (i : ℕ) → i ≢ s → values past ms i ≡ values past ns i
      pub value_at : values past ms s ≡ v
      pub whole : (i : ℕ) → i ≢ s → i ≢ last → i ≢ head → at past ms i ≡ at past ns i

    pub Attached-attached : (ns : List (Node T)) (s head : ℕ) → s < length ns → head < length ns → befores past ns head < length ns
        → Attached ns (attached past ns s head) s (values past ns s) head (befores past ns head)
    Attached-attached ns s head ls lh ll =
        let f : Node T → ℕ = λ n. n.behind in
        let g : Node T → ℕ = λ n. n.before in
        let h : Node T → T = λ n. n.value in
        let last = befores past ns head in
        let v1 : Node T = record (at past ns s) { before = last } in
        let ms1 = set ns s v1 in
        let e1 : length ms1 ≡ length ns = length-set ns s v1 in
        let v2 : Node T = record (at past ms1 s) { behind = head } in
        let ms2 = set ms1 s v2 in
        let e2 : length ms2 ≡ length ns = length-set ms1 s v2 ∙ e1 in
        let v3 : Node T = record (at past ms2 last) { behind = s } in
        let ms3 = set ms2 last v3 in
        let e3 : length ms3 ≡ length ns = length-set ms2 last v3 ∙ e2 in
        let v4 : Node T = record (at past ms3 head) { before = s } in
        let l1 : s < length ms1 = omega arith in
        let l2 : last < length ms2 = omega arith in
        let l3 : head < length ms3 = omega arith in
        record {
          size = length-set ms3 head v4 ∙ e3;
          behind = λ i nl ne. set-keeps f ms3 head v4 i l3 refl ∙ ap f (set-other ms2 last v3 i nl) ∙ ap f (set-other ms1 s v2 i ne) ∙ set-keeps f ns s v1 i ls refl;
          behind_last = set-keeps f ms3 head v4 last l3 refl ∙ ap f (set-same ms2 last v3 l2);
          behind_at = λ ne. set-keeps f ms3 head v4 s l3 refl ∙ ap f (set-other ms2 last v3 s ne) ∙ ap f (set-same ms1 s v2 l1);
          before = λ i nh ne. ap g (set-other ms3 head v4 i nh) ∙ set-keeps g ms2 last v3 i l2 refl ∙ set-keeps g ms1 s v2 i l1 refl ∙ ap g (set-other ns s v1 i ne);
          before_head = ap g (set-same ms3 head v4 l3);
          before_at = λ ne. ap g (set-other ms3 head v4 s ne) ∙ set-keeps g ms2 last v3 s l2 refl ∙ set-keeps g ms1 s v2 s l1 refl ∙ ap g (set-same ns s v1 ls);
          value = λ i ne. set-keeps h ms3 head v4 i l3 refl ∙ set-keeps h ms2 last v3 i l2 refl ∙ set-keeps h ms1 s v2 i l1 refl ∙ set-keeps h ns s v1 i ls refl;
          value_at = set-keeps h ms3 head v4 s l3 refl ∙ set-keeps h ms2 last v3 s l2 refl ∙ set-keeps h ms1 s v2 s l1 refl ∙ set-keeps h ns s v1 s ls refl;
          whole = λ i ne nl nh. set-other ms3 head v4 i nh ∙ set-other ms2 last v3 i nl ∙ set-other ms1 s v2 i ne ∙ set-other ns s v1 i ne;
        }

    -- another value is written into the slot
    pub Attached-valued : (ns ms : List (Node T)) (s : ℕ) (v : T) (head last : ℕ) (f : T → T) → s < length ms → Attached ns ms s v head last → Attached ns (with_value past ms s (f (values past ms s))) s (f v) head last
    Attached-valued ns ms s v head last f ls a =
        let w : Node T = record (at past ms s) { value = f (values past ms s) } in
        let behind_kept = λ (i : ℕ). set-keeps (λ n. n.behind) ms s w i ls refl in
        let before_kept = λ (i : ℕ). set-keeps (λ n. n.before) ms s w i ls refl in
        record {
          size = length-set ms s w ∙ a.size;
          behind = λ i nl ne. behind_kept i ∙ a.behind i nl ne;
          behind_last = behind_kept last ∙ a.behind_last;
          behind_at = λ ne. behind_kept s ∙ a.behind_at ne;
          before = λ i nh ne. before_kept i ∙ a.before i nh ne;
          before_head = before_kept head ∙ a.before_head;
          before_at = λ ne. before_kept s ∙ a.before_at ne;
          value = λ i ne. ap (λ n. n.value) (set-other ms s w i ne) ∙ a.value i ne;
          value_at = ap (λ n. n.value) (set-same ms s w ls) ∙ ap f a.value_at;
          whole = λ i ne nl nh. set-other ms s w i ne ∙ a.whole i ne nl nh;
        }
