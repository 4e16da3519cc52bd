-- The lists as rings, over plain functions.
use Rattle.std.proofs.Common.{◌≡◌, ◌≢◌, ℕ, zero, suc, ◌+◌, ◌<◌, ◌≤◌, inl, inr, refl, sym, ap, ◌∙◌, subst, arith}
use Rattle.std.proofs.lemmas.Bool.{cases_eq, cases_lt}
use Rattle.moka_wheel.specs.Nodes.{Hop, Links}

-- a timer is not its own neighbour
pub before-other : (size : ℕ) (f g k rank : ℕ → ℕ) → Links size f g k rank → (s : ℕ) → 2049 ≤ s → s < size → k s < 2049 → g s ≢ s
before-other size f g k rank links s past inside held e = omega (arith, links.rising s past inside held, ap rank e)

pub behind-other : (size : ℕ) (f g k rank : ℕ → ℕ) → Links size f g k rank → (s : ℕ) → 2049 ≤ s → s < size → k s < 2049 → f s ≢ s
behind-other size f g k rank links s past inside held e =
    before-other size f g k rank links s past inside held (ap g (sym e) ∙ (links.on s inside held).back)

-- ---- the links one way, where g are those the other way

abbrev Steps : (size : ℕ) (f g k : ℕ → ℕ) → Type 0
Steps size f g k = (i : ℕ) → i < size → k i < 2049 → Hop size k g i (f i)

-- the slot s leaves its list
steps-detach : (size s : ℕ) (f g k f' g' k' : ℕ → ℕ) → Steps size f g k → Steps size g f k → s < size → k s < 2049 → f s ≢ s → g s ≢ s
    → ((i : ℕ) → i ≢ g s → f' i ≡ f i) → f' (g s) ≡ f s
    → ((i : ℕ) → i ≢ f s → g' i ≡ g i) → g' (f s) ≡ g s
    → ((i : ℕ) → i ≢ s → k' i ≡ k i) → k' s ≡ 2049
    → Steps size f' g' k'
steps-detach size s f g k f' g' k' on back inside held f_ne g_ne fo fs go gs ko ks i q l =
    let b = on s inside held in
    let p = back s inside held in
    let other : i ≢ s = λ e. omega (arith, ap k' e, ks, l) in
    elim (cases_eq i (g s)) as (λ _. Hop size k' g' i (f' i)) [
      | inl e ↦ subst (λ x. Hop size k' g' x (f' x)) (sym e) (subst (λ y. Hop size k' g' (g s) y) (sym fs) (record {
        within = b.within;
        same = ko (f s) f_ne ∙ b.same ∙ sym p.same ∙ sym (ko (g s) g_ne);
        back = gs;
      }))
      | inr ne ↦
          let t = on i q (omega (arith, ko i other, l)) in
          let not_s : f i ≢ s = λ e. ne (sym t.back ∙ ap g e) in
          let not_b : f i ≢ f s = λ e. other (sym t.back ∙ ap g e ∙ b.back) in
          subst (λ y. Hop size k' g' i y) (sym (fo i ne)) (record {
            within = t.within;
            same = ko (f i) not_s ∙ t.same ∙ sym (ko i other);
            back = go (f i) not_b ∙ t.back;
          })
    ]

-- the free slot s comes between p and b, which are neighbours in the list of head h
steps-attach : (size s p b h : ℕ) (f g k f' g' k' : ℕ → ℕ) → Steps size f g k → s < size → 2049 ≤ k s → h < 2049 → k p ≡ h → b < size → k b ≡ h → f p ≡ b → p ≢ s → b ≢ s
    → ((i : ℕ) → i ≢ p → i ≢ s → f' i ≡ f i) → f' p ≡ s → f' s ≡ b
    → ((i : ℕ) → i ≢ b → i ≢ s → g' i ≡ g i) → g' b ≡ s → g' s ≡ p → g b ≡ p
    → ((i : ℕ) → i ≢ s → k' i ≡ k i) → k' s ≡ h
    → Steps size f' g' k'
steps-attach size s p b h f g k f' g' k' on inside free low kp b_in kb fp p_ne b_ne fo fl fs go gb gs gbp ko ks i q l = elim (cases_eq i s) as (λ _. Hop size k' g' i (f' i)) [
  | inl e ↦ subst (λ x. Hop size k' g' x (f' x)) (sym e) (subst (λ y. Hop size k' g' s y) (sym fs) (record {
    within = b_in;
    same = ko b b_ne ∙ kb ∙ sym ks;
    back = gb;
  }))
  | inr ne ↦ elim (cases_eq i p) as (λ _. Hop size k' g' i (f' i)) [
    | inl e ↦ subst (λ x. Hop size k' g' x (f' x)) (sym e) (subst (λ y. Hop size k' g' p y) (sym fl) (record {
      within = inside;
      same = ks ∙ sym kp ∙ sym (ko p p_ne);
      back = gs;
    }))
    | inr np ↦
        let was : k i < 2049 = omega (arith, ko i ne, l) in
        let t = on i q was in
        let not_s : f i ≢ s = λ z. omega (arith, ap k z, free, t.same, was) in
        let not_b : f i ≢ b = λ z. np (sym t.back ∙ ap g z ∙ gbp) in
        subst (λ y. Hop size k' g' i y) (sym (fo i np ne)) (record {
          within = t.within;
          same = ko (f i) not_s ∙ t.same ∙ sym (ko i ne);
          back = go (f i) not_b not_s ∙ t.back;
        })
  ]
]

-- a write of the free slot s, or a new slot s, changes no list
steps-same : (size size' s : ℕ) (f g k f' g' k' : ℕ → ℕ) → Steps size f g k → 2049 ≤ k s → 2049 ≤ k' s → size ≤ size' → ((i : ℕ) → i ≢ s → i < size' → i < size)
    → ((i : ℕ) → i ≢ s → f' i ≡ f i) → ((i : ℕ) → i ≢ s → g' i ≡ g i) → ((i : ℕ) → i ≢ s → k' i ≡ k i)
    → Steps size' f' g' k'
steps-same size size' s f g k f' g' k' on free free' grown inside fo go ko i q l =
    let ne : i ≢ s = λ e. omega (arith, ap k' e, free', l) in
    let was : k i < 2049 = omega (arith, ko i ne, l) in
    let t = on i (inside i ne q) was in
    let not_s : f i ≢ s = λ z. omega (arith, ap k z, free, t.same, was) in
    subst (λ y. Hop size' k' g' i y) (sym (fo i ne)) (record {
      within = omega (arith, t.within);
      same = ko (f i) not_s ∙ t.same ∙ sym (ko i ne);
      back = go (f i) not_s ∙ t.back;
    })

-- ---- both ways

-- the timer in slot s leaves its list
pub Links-detach : (size s : ℕ) (f g k rank f' g' k' : ℕ → ℕ) → Links size f g k rank → 2049 ≤ s → s < size → k s < 2049
    → ((i : ℕ) → i ≢ g s → f' i ≡ f i) → f' (g s) ≡ f s
    → ((i : ℕ) → i ≢ f s → g' i ≡ g i) → g' (f s) ≡ g s
    → ((i : ℕ) → i ≢ s → k' i ≡ k i) → k' s ≡ 2049
    → Links size f' g' k' rank
Links-detach size s f g k rank f' g' k' links past inside held fo fs go gs ko ks =
    let p_ne = before-other size f g k rank links s past inside held in
    let b_ne = behind-other size f g k rank links s past inside held in
    record {
      sized = links.sized;
      head = λ i l. ko i (λ e. omega arith) ∙ links.head i l;
      on = steps-detach size s f g k f' g' k' links.on links.back inside held b_ne p_ne fo fs go gs ko ks;
      back = steps-detach size s g f k g' f' k' links.back links.on inside held p_ne b_ne go gs fo fs ko ks;
      rising = λ i far q l.
          let other : i ≢ s = λ e. omega (arith, ap k' e, ks, l) in
          let up = links.rising i far q (omega (arith, ko i other, l)) in
          elim (cases_eq i (f s)) as (λ _. rank (g' i) < rank i) [
            | inl e ↦
                let here : g i ≡ s = ap g e ∙ (links.on s inside held).back in
                let to : g' i ≡ g s = ap g' e ∙ gs in
                omega (arith, up, links.rising s past inside held, ap rank here, ap rank to)
            | inr ne ↦ omega (arith, up, ap rank (go i ne))
          ];
    }

-- the free slot s comes behind all others of the list of head h
pub Links-attach : (size s h : ℕ) (f g k rank f' g' k' rank' : ℕ → ℕ) → Links size f g k rank → 2049 ≤ s → s < size → 2049 ≤ k s → h < 2049
    → ((i : ℕ) → i ≢ g h → i ≢ s → f' i ≡ f i) → f' (g h) ≡ s → f' s ≡ h
    → ((i : ℕ) → i ≢ h → i ≢ s → g' i ≡ g i) → g' h ≡ s → g' s ≡ g h
    → ((i : ℕ) → i ≢ s → k' i ≡ k i) → k' s ≡ h
    → ((i : ℕ) → i ≢ s → rank' i ≡ rank i) → rank' s ≡ rank (g h) + 1
    → Links size f' g' k' rank'
Links-attach size s h f g k rank f' g' k' rank' links past inside free low fo fl fs go gh gs ko ks ro rs =
    let kh = links.head h low in
    let h_in : h < size = omega (arith, links.sized) in
    let p = links.back h h_in (omega (arith, kh)) in
    let kp = p.same ∙ kh in
    let last_ne : g h ≢ s = λ e. omega (arith, ap k e, free, kp) in
    let h_ne : h ≢ s = λ e. omega arith in
    record {
      sized = links.sized;
      head = λ i l. ko i (λ e. omega arith) ∙ links.head i l;
      on = steps-attach size s (g h) h h f g k f' g' k' links.on inside free low kp h_in kh p.back last_ne h_ne fo fl fs go gh gs refl ko ks;
      back = steps-attach size s h (g h) h g f k g' f' k' links.back inside free low kh p.within kp refl h_ne last_ne go gh gs fo fl fs p.back ko ks;
      rising = λ i far q l. elim (cases_eq i s) as (λ _. rank' (g' i) < rank' i) [
        | inl e ↦
            let a : rank' (g' i) ≡ rank (g h) = ap (λ x. rank' (g' x)) e ∙ ap rank' gs ∙ ro (g h) last_ne in
            let b : rank' i ≡ rank (g h) + 1 = ap rank' e ∙ rs in
            omega (arith, a, b)
        | inr ne ↦
            let was : k i < 2049 = omega (arith, ko i ne, l) in
            let t = links.back i q was in
            let not_s : g i ≢ s = λ z. omega (arith, ap k z, free, t.same, was) in
            let a : rank' (g' i) ≡ rank (g i) = ap rank' (go i (λ e. omega arith) ne) ∙ ro (g i) not_s in
            omega (arith, a, ro i ne, links.rising i far q was)
      ];
    }

-- a write of a free node, or a new free node behind all others, changes no list
pub Links-same : (size size' s : ℕ) (f g k rank f' g' k' : ℕ → ℕ) → Links size f g k rank → 2049 ≤ s → 2049 ≤ k s → 2049 ≤ k' s
    → size ≤ size' → ((i : ℕ) → i ≢ s → i < size' → i < size)
    → ((i : ℕ) → i ≢ s → f' i ≡ f i) → ((i : ℕ) → i ≢ s → g' i ≡ g i) → ((i : ℕ) → i ≢ s → k' i ≡ k i)
    → Links size' f' g' k' rank
Links-same size size' s f g k rank f' g' k' links past free free' grown inside fo go ko =
    record {
      sized = omega (arith, links.sized);
      head = λ i l. ko i (λ e. omega arith) ∙ links.head i l;
      on = steps-same size size' s f g k f' g' k' links.on free free' grown inside fo go ko;
      back = steps-same size size' s g f k g' f' k' links.back free free' grown inside go fo ko;
      rising = λ i far q l.
          let ne : i ≢ s = λ e. omega (arith, ap k' e, free', l) in
          omega (arith, links.rising i far (inside i ne q) (omega (arith, ko i ne, l)), ap rank (go i ne));
    }

-- a list whose head leads to itself has no timer
pub no-timer : (size h : ℕ) (f g k rank : ℕ → ℕ) → Links size f g k rank → h < 2049 → f h ≡ h
    → (n i : ℕ) → rank i < n → 2049 ≤ i → i < size → k i ≡ h → ⊥
no-timer size h f g k rank links low own zero i r far q e = omega arith
no-timer size h f g k rank links low own (suc n) i r far q e =
    let held : k i < 2049 = omega (arith, e) in
    let t = links.back i q held in
    let up = links.rising i far q held in
    elim (cases_lt (g i) 2049) as (λ _. ⊥) [
      | inl head ↦
          let here : g i ≡ h = sym (links.head (g i) head) ∙ t.same ∙ e in
          omega (arith, sym t.back ∙ ap f here ∙ own)
      | inr past ↦ no-timer size h f g k rank links low own n (g i) (omega arith) past t.within (t.same ∙ e)
    ]

-- what stands behind a head, where that is not the head, is a timer of its list
pub record FirstTimer (size h : ℕ) (k : ℕ → ℕ) (i : ℕ) : Type 0 where
  pub past : 2049 ≤ i
  pub within : i < size
  pub bucket : k i ≡ h

pub first-timer : (size h : ℕ) (f g k rank : ℕ → ℕ) → Links size f g k rank → h < 2049 → f h ≢ h → FirstTimer size h k (f h)
first-timer size h f g k rank links low ne =
    let kh = links.head h low in
    let t = links.on h (omega (arith, links.sized)) (omega (arith, kh)) in
    record {
      past = elim (cases_lt (f h) 2049) as (λ _. 2049 ≤ f h) [
        | inl head ↦ absurd (ne (sym (links.head (f h) head) ∙ t.same ∙ kh))
        | inr past ↦ past
      ];
      within = t.within;
      bucket = t.same ∙ kh;
    }
