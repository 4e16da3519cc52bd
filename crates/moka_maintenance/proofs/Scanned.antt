-- A scan, from a walk round and the drop of predicates behind it.
use Rattle.std.proofs.Common.{◌≡◌, refl, ℕ, zero, suc, ◌<◌, nat_lt, ◌≤◌, ◌⊎◌, Bool, true, false, true≢false, not, ◌&&◌, ◌==◌, List, [], ◌∷◌, ◌++◌, length, Option, Some, remove, Contains, MatchBool, inl, inr, ap, sym, subst, ◌∙◌, arith, append-nil}
use Rattle.std.proofs.lemmas.List.Elements.{Contains-append_right}
use Rattle.std.specs.FinMap.{get}
use Rattle.std.specs.List.{IsDistinct}
use Rattle.moka_parts.specs.declared.notification.RemovalCause.{RemovalCause}
use Rattle.moka_records.specs.declared.records.Record.{Record}
use Rattle.moka_parts.specs.declared.records.Registered.{Registered}
use Rattle.moka_parts.specs.Maintenance.{Choice, Removes, MovesToBack, Drops, Tests, after_choice, after_choices, kept_by_choice, kept_by_choices, AreJustified}
use Rattle.moka_parts.specs.Visibility.{Covers, NoneCovers, SomeCovers}
use Rattle.moka_records.specs.Records.{IsListOf}
use Rattle.moka_parts.specs.State.{Contents}
use Rattle.moka_parts.specs.Grounds.{AreDrops}
use Rattle.moka_records.proofs.Maps.{itself_tested, same_by_test}
use Rattle.moka_laws.proofs.Scanned.{not_one_covers, uncovered-none}
use Rattle.moka_store.specs.Store.{Kept}
use Rattle.moka_maintenance.proofs.Upkeep.{untimed-none}
use Rattle.moka_maintenance.specs.Scan.{round_from, MayScan, GoesRound, IsRound, AreDropped, AllDropped, IsScanned}
use Rattle.moka_maintenance.specs.Steps.{Stock, AreAllMembers, HasNoSettled, after_steps, contents_in, stock_in}
use Rattle.moka_maintenance.proofs.Dropping.{drops_stay, kept-append, both_drop, by_drops}
use Rattle.moka_maintenance.proofs.Popped.{first_or_rest}
use Rattle.moka_maintenance.proofs.Stepped.{stepped-none, still_there}
use Rattle.std.proofs.lemmas.List.{nil_from_length}
use Rattle.std.proofs.lemmas.Bool.{and_from, and_parts}
use Rattle.moka_maintenance.proofs.ScanEnds.{ends-none, ends-round}

-- ---- predicates that are left were there before

from_remove : {A : Type 0} (xs : List A) (i : ℕ) (x : A) → Contains (remove xs i) x → Contains xs x
from_remove [] zero x there = there
from_remove [] (suc i) x there = there
from_remove (y ∷ xs) zero x there = Contains-append_right (y ∷ []) xs x there
from_remove (y ∷ xs) (suc i) x there = elim (first_or_rest y x (remove xs i) there) [
  | inl same ↦ (0, omega arith, same)
  | inr rest ↦ Contains-append_right (y ∷ []) xs x (from_remove xs i x rest)
]

pub kept_there : {P : Type 0} (ps : List (Registered P)) (xs : List Choice) (p : Registered P) → Contains (kept_by_choices ps xs) p → Contains ps p
kept_there ps [] p there = there
kept_there ps (Removes n cause ∷ xs) p there = kept_there ps xs p there
kept_there ps (MovesToBack n ∷ xs) p there = kept_there ps xs p there
kept_there ps (Drops i ∷ xs) p there = from_remove ps i p (kept_there (remove ps i) xs p there)

nothing_left : {A : Type 0} (xs : List A) → ((x : A) → Contains xs x → ⊥) → xs ≡ []
nothing_left [] never = refl
nothing_left (x ∷ xs) never = absurd (never x (0, omega arith, refl))

-- none is left where there was none
pub nothing_kept : {P : Type 0} (ps qs : List (Registered P)) (xs : List Choice) → ps ≡ [] → AreDrops xs → qs ≡ kept_by_choices ps xs → qs ≡ []
nothing_kept ps qs xs none drops kept = nothing_left qs (λ p there. (let old = kept_there ps xs p (subst (λ ys. Contains ys p) kept there) in let here = subst (λ ys. Contains ys p) none old in let lt = here.1 in absurd (omega arith)))

-- one that covers is one of them
covers_by : {K V P : Type 0} (says : P → K → V → Bool → Type 0) (ps : List (Registered P)) (p : Registered P) (r : Record K V) → Contains ps p → Covers says p r → SomeCovers says ps r
covers_by says [] p r there covers = (let lt = there.1 in absurd (omega arith))
covers_by says (x ∷ ps) p r there covers = elim (first_or_rest x p ps there) [
  | inl same ↦ inl (subst (λ z. Covers says z r) (sym same) covers)
  | inr rest ↦ inr (covers_by says ps p r rest covers)
]

pub justified-append : {K V P : Type 0} (says : P → K → V → Bool → Type 0) (q : Tests) (c : Contents K V) (ps : List (Registered P)) (xs ys : List Choice) → AreJustified says q c ps xs → AreJustified says q (after_choices c xs) (kept_by_choices ps xs) ys → AreJustified says q c ps (xs ++ ys)
justified-append says q c ps [] ys first then = then
justified-append says q c ps (x ∷ xs) ys first then = (first.0, justified-append says q (after_choice c x) (kept_by_choice ps x) xs ys first.1 then)

-- none leaves
pub dropped-none : {K V P : Type 0} (says : P → K → V → Bool → Type 0) (c : Contents K V) (ps qs : List (Registered P)) → qs ≡ ps → AreDropped says c ps qs
dropped-none says c ps qs same = record { steps = []; drops = tt; justified = λ q. tt; kept = same }

module _ {K V P : Type 0} (says : P → K → V → Bool → Type 0) (c d : Contents K V) (fewer : (n : ℕ) (r : Record K V) → get d.records n ≡ Some r → get c.records n ≡ Some r) where
  pub drops_later : (ps : List (Registered P)) (xs : List Choice) → AreDrops xs → (q : Tests) → AreJustified says q c ps xs → AreJustified says q d ps xs
  drops_later ps xs drops q are =
      by_drops (λ xs. (ps : List (Registered P)) → AreJustified says q c ps xs → AreJustified says q d ps xs) (λ ps are. tt)
      (λ i xs later ps are. ((are.0.0, are.0.1, λ n r at. are.0.2 n r (fewer n r at)), later (remove ps i) are.1)) xs drops ps are

  -- where records have left since, they cover none either
  pub dropped-later : (ps qs : List (Registered P)) → AreDropped says c ps qs → AreDropped says d ps qs
  dropped-later ps qs h = record { steps = h.steps; drops = h.drops; justified = λ q. drops_later ps h.steps h.drops q (h.justified q); kept = h.kept }

-- some leave, and then others
pub dropped-on : {K V P : Type 0} (says : P → K → V → Bool → Type 0) (c : Contents K V) (ps qs rs : List (Registered P)) → AreDropped says c ps qs → AreDropped says c qs rs → AreDropped says c ps rs
dropped-on says c ps qs rs h j = record {
  steps = h.steps ++ j.steps;
  drops = both_drop h.steps j.steps h.drops j.drops;
  justified = λ q. justified-append says q c ps h.steps j.steps (h.justified q) (subst (λ e. AreJustified says q e (kept_by_choices ps h.steps) j.steps) (sym (drops_stay c h.steps h.drops)) (subst (λ xs. AreJustified says q c xs j.steps) h.kept (j.justified q)));
  kept = j.kept ∙ ap (λ xs. kept_by_choices xs j.steps) h.kept ∙ sym (kept-append ps h.steps j.steps);
}

-- those that are left cover no more than all
pub covers_fewer : {K V P : Type 0} (says : P → K → V → Bool → Type 0) (ps qs : List (Registered P)) → ((p : Registered P) → Contains qs p → Contains ps p) → (r : Record K V) → SomeCovers says qs r → SomeCovers says ps r
covers_fewer says ps [] less r covered = absurd covered
covers_fewer {K} {V} {P} says ps (q ∷ qs) less r covered = elim covered [
  | inl here ↦ covers_by says ps q r (less q (0, omega arith, refl)) here
  | inr later ↦ covers_fewer says ps qs (λ p there. less p (Contains-append_right (q ∷ []) qs p there)) r later
]

-- where none of them covers it, none of those does that are left
pub covers_none : {K V P : Type 0} (says : P → K → V → Bool → Type 0) (ps qs : List (Registered P)) → ((p : Registered P) → Contains qs p → Contains ps p) → (r : Record K V) → NoneCovers says ps r → NoneCovers says qs r
covers_none says ps [] less r none = tt
covers_none says ps (q ∷ qs) less r none = (not_one_covers says ps q r none (less q (0, omega arith, refl)), covers_none says ps qs (λ p there. less p (Contains-append_right (q ∷ []) qs p there)) r none)

-- ---- the scan

pub both_more : (m n : ℕ) → (nat_lt 0 m && nat_lt 0 n) ≡ true → (1 ≤ m) × (0 < n)
both_more m n e = (let both = and_parts (nat_lt 0 m) (nat_lt 0 n) e in let first = both.0 in let second = both.1 in (grind (arith, first), grind (arith, second)))

more_both : (m n : ℕ) → 1 ≤ m → 0 < n → (nat_lt 0 m && nat_lt 0 n) ≡ true
more_both m n some more = and_from (nat_lt 0 m) (nat_lt 0 n) (grind arith) (grind arith)

module _ {K V L P S : Type 0} (tells : L → K → V → RemovalCause → L → Type 0) (says : P → K → V → Bool → Type 0) (batch : ℕ) (old : Kept K V S) (ps : List (Registered P)) (l : Option L) where
  -- nothing is passed
  goes-none : length ps ≡ 0 → GoesRound says ps batch old old 0
  unfolding IsDistinct
  goes-none none = record {
    walked = [];
    ahead = round_from old.cursor old.written;
    round = refl;
    once = tt;
    looks = refl;
    uncovered = uncovered-none says ps old.records;
    most = omega arith;
    used = λ some. absurd (omega arith);
    kept = [];
    stay = refl;
    next = sym (append-nil (round_from old.cursor old.written));
  }

  pub scanned-none : length ps ≡ 0 → (old.ordered ≡ true → IsListOf old.access old.written) → IsScanned tells says ps batch old old ps l l false
  unfolding stepped-none
  scanned-none none known = record {
    by = stepped-none tells (MayScan says ps) (stock_in old) l;
    dropped = dropped-none says (contents_in old) ps ps refl;
    looked = 0;
    goes = goes-none none;
    drops = either {A = AllDropped says (contents_in old) ps ps} _ (record { dropped = dropped-none says (contents_in old) ps ps refl; used = λ p there. (let lt = there.1 in absurd (omega arith)) }) refl;
    few = omega arith;
    unregistered = λ e. (refl, refl);
    ends = λ ordered. ends-none tells says ps batch old none (known ordered);
    leaves = refl;
    unfinished = λ ordered some more. absurd (omega arith);
    whole = λ ordered large all. nil_from_length ps none;
    upkeep = untimed-none old;
  }
    where
      either : {A B : Type 0} (b : Bool) → A → B → MatchBool b A B
      either true a b = a
      either false a b = b

  module _ (new : Kept K V S) (k : Option L) (looked : ℕ) (end : Bool) (h : IsRound tells says ps batch old new l k looked end) (known : old.ordered ≡ true → IsListOf old.access old.written) (some : 1 ≤ length ps)
      (qs : List (Registered P)) (left : Bool) (leaves : left ≡ (nat_lt 0 looked && nat_lt 0 (length qs))) where
    settled_none : looked ≡ 0 → HasNoSettled (stock_in old) → HasNoSettled (stock_in new)
    settled_none none = subst HasNoSettled (sym (h.by.led ∙ ap (after_steps (stock_in old)) (nil_from_length h.by.steps (let f = h.few in omega arith))))

    decide : old.ordered ≡ true → 1 ≤ batch → 0 < length qs → (left ≡ true) ⊎ HasNoSettled (stock_in new)
    decide ordered batched there = go looked refl
      where
        go : (n : ℕ) → looked ≡ n → (left ≡ true) ⊎ HasNoSettled (stock_in new)
        go zero none = inr (settled_none none (h.unlooked ordered batched none))
        go (suc n) is = inl (leaves ∙ more_both looked (length qs) (omega arith) there)

    joined : AreDropped says (contents_in new) ps qs → (old.ordered ≡ true → length old.access ≤ batch → AreAllMembers (stock_in old) → qs ≡ []) → MatchBool end (AllDropped says (contents_in new) ps qs) (qs ≡ ps) → IsScanned tells says ps batch old new qs l k left
    joined dropped whole over = record {
      by = h.by;
      dropped = dropped;
      looked = looked;
      goes = h.goes;
      drops = subst (λ b. MatchBool b (AllDropped says (contents_in new) ps qs) (qs ≡ ps)) h.ended over;
      few = h.few;
      unregistered = λ none. (let empty = ap length none in absurd (omega arith));
      ends = λ ordered. ends-round tells says ps batch old new l k looked h.by h.goes some (known ordered);
      leaves = leaves;
      unfinished = decide;
      whole = whole;
      upkeep = h.upkeep;
    }

    -- the end was reached, and what covers nothing has left, or it was not
    pub scanned : MatchBool end (AllDropped says (contents_in new) ps qs) (qs ≡ ps) → IsScanned tells says ps batch old new qs l k left
    scanned over = go end refl over
      where
        go : (b : Bool) → end ≡ b → MatchBool b (AllDropped says (contents_in new) ps qs) (qs ≡ ps) → IsScanned tells says ps batch old new qs l k left
        go false part same = joined (dropped-none says (contents_in new) ps qs same) (λ ordered large all. absurd (true≢false (sym (h.whole ordered large).1 ∙ part))) over
        go true is d =
            joined d.dropped
            (λ ordered large all. nothing_left qs (λ p there.
            (let used = d.used p there in
            let is = all used.0 used.1 (still_there (stock_in old) h.by.steps used.0 used.1 (sym (ap (λ (c : Stock K V). get c.contents.records used.0) h.by.led) ∙ used.2)) in
            let none = (h.whole ordered large).0.settled used.0 used.1 ((known ordered).1 used.0 ∙ is.1) used.2 is.0 in
            not_one_covers says ps p used.1 none (kept_there ps d.dropped.steps p (subst (λ rs. Contains rs p) d.dropped.kept there)) used.3)))
            over

-- whether a list is empty, and how long it is
pub none_there : (n : ℕ) → true ≡ (n == 0) → n ≡ 0
none_there n e = same_by_test n 0 (sym e)

pub some_there : (n : ℕ) → false ≡ (n == 0) → 1 ≤ n
some_there zero e = absurd (true≢false (sym (itself_tested 0) ∙ sym e))
some_there (suc n) e = omega arith

-- more is left where some were looked at and the list is not empty
pub left_more : (b : Bool) (m n : ℕ) → b ≡ (n == 0) → (nat_lt 0 m && not b) ≡ (nat_lt 0 m && nat_lt 0 n)
left_more true m n e = sym (ap (λ k. nat_lt 0 m && nat_lt 0 k) (none_there n e))
left_more false m n e = ap (λ b. nat_lt 0 m && b) (sym (more_both 1 n (omega arith) (some_there n e)))
