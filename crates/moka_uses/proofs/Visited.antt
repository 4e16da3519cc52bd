-- Visits of a page: what a count comes to, and what is taken out.
use Rattle.std.proofs.Common.{◌≡◌, ◌==◌, ◌≤◌, refl, ℕ, Bool, true, false, true≢false, List, [], ◌∷◌, Option, Some, None, Result, Ok, Err, option_map, unwrap_or, ap, sym, subst, ◌∙◌, inl, inr, arith, nat_le, if◌then◌else◌}
use Rattle.std.specs.Prelude.{IfOk, IfErr, IfSome, IsErr, IsErrAnd, ⊤}
use Rattle.std.proofs.lemmas.Option.{none-some, same_Some}
use Rattle.moka_engine.specs.parts.InsertRefused.{InsertRefused}
use Rattle.moka_engine.specs.parts.Instant.{Instant}
use Rattle.moka_engine.specs.parts.OutOfMemory.{OutOfMemory}
use Rattle.moka_engine.specs.parts.Record.{Record}
use Rattle.moka_engine.specs.parts.Registered.{Registered}
use Rattle.moka_engine.specs.Copies.{IsCopiedAnswer}
use Rattle.moka_engine.specs.Records.{record_of_key}
use Rattle.moka_engine.specs.Runs.{Engine}
use Rattle.moka_engine.specs.State.{State, Meaning}
use Rattle.moka_engine.specs.Visibility.{IsShown, SomeCovers}
use Rattle.moka_engine.proofs.Copies.{answer-same}
use Rattle.moka_cache.specs.parts.CompResult.{CompResult}
use Rattle.moka_cache.specs.parts.CompResult.TheVariants.{Removed, StillNone, Unchanged as Kept}
use Rattle.moka_cache.specs.parts.ComputeRefused.{ComputeRefused}
use Rattle.moka_cache.specs.parts.ComputeRefused.TheVariants.{NotTold}
use Rattle.moka_cache.specs.parts.ComputeRefused.TheVariants as compute_refused
use Rattle.moka_cache.specs.parts.Op.{Op}
use Rattle.moka_cache.specs.parts.Op.TheVariants.{Nop, Put, Remove}
use Rattle.moka_cache.specs.parts.CacheEntry.{CacheEntry}
use Rattle.moka_cache.specs.parts.GetWithRefused.{GetWithRefused}
use Rattle.moka_cache.specs.parts.GetWithRefused.TheVariants.{Lookup, Insert}
use Rattle.moka_cache.specs.Compute.{Computed, InTurn, Left, LeftNone, Puts, Takes, Computes, HandsOutComputed, HandsOutLeft, HandsOutTaken, HandsOutUpserted, IsComputedBy, IsUpsertOf, Upserts}
use Rattle.moka_cache.specs.Counters.{one_more}
use Rattle.moka_cache.specs.Given.{ComesBack, Sees}
use Rattle.moka_cache.specs.Synchronous.{Makes, GetsValue, InsertsMade, RemovesEntry}
use Rattle.moka_uses.specs.Made.{LooksUp}
use Rattle.moka_uses.specs.Visits.{HasLeft, IsFull, PutsCount, RefusesCount, RemovesCount, count_at, meaning, next_count, op_for, value_at}

-- predicates that say no to all cover nothing
none_covers : {P : Type 0} (r : Record ℕ ℕ) (ps : List (Registered P)) → SomeCovers (λ _ _ _ answer. answer ≡ false) ps r → ⊥
none_covers r [] some = some
none_covers r (p ∷ ps) (inl covers) = true≢false covers.1
none_covers r (p ∷ ps) (inr some) = none_covers r ps some

-- what is seen of a page is its count
abbrev SeesCount : {X P W : Type 0} → State ℕ ℕ X P W → ℕ → ℕ → Option ℕ → Type 0
SeesCount s page now = Sees (λ a b. a == b) (λ _ _ _ answer. answer ≡ false) (λ a b. b ≡ a) s page now

sees_count : {X P W : Type 0} (s : State ℕ ℕ X P W) (page now : ℕ) (seen : Option ℕ) → SeesCount s page now seen → seen ≡ count_at s page now
sees_count s page now (Some count) (r, here, visible, same) = rw (here, visible.0) (ap Some same)
sees_count s page now None none = at (record_of_key (λ a b. a == b) s.records page) none
  where
    at : (o : Option (Record ℕ ℕ)) → IsShown (λ _ _ _ answer. answer ≡ false) s o now false → None ≡ value_at s now o
    at None shown = refl
    at (Some r) (inl lapsed) = rw lapsed refl
    at (Some r) (inr some) = absurd (none_covers r s.predicates some)

-- the count that is handed out
abbrev pub taken_of : CompResult ℕ ℕ → Option ℕ
taken_of (Removed e) = Some e.value
taken_of answer = None

pub not_removed : (answer : CompResult ℕ ℕ) → ((e : CacheEntry ℕ ℕ) → answer ≡ Removed e → ⊥) → taken_of answer ≡ None
not_removed (Removed e) not = absurd (not e refl)
not_removed answer not = refl

module _ {S X L P W C : Type 0} (m : Meaning ℕ ℕ X L P W C (Unit {0})) (page : ℕ) (now : Instant) (old : Engine ℕ ℕ S X L P W) (clock : C) (new : Engine ℕ ℕ S X L P W) (clock_after : C) where
  -- what is promised of a count that is handed out, or refused
  abbrev pub IsCounted : Result (CacheEntry ℕ ℕ) (GetWithRefused ℕ ℕ) → Type 0
  IsCounted (Ok e) = (e.value ≡ next_count old.state page now.0) × PutsCount m page now old clock new clock_after e.value
  IsCounted (Err refused) = ComesBack old.state new.state page (λ count. count ≡ next_count old.state page now.0) refused × RefusesCount m page now old clock new clock_after refused

  -- what is promised if this count is taken out, or none
  pub record IsTaken (limit : ℕ) (taken : Option ℕ) : Type 0 where
    pub full : IfSome taken (IsFull old.state page now.0 limit)
    pub left : (count : ℕ) → IsFull old.state page now.0 limit count → HasLeft new.state page
    pub removed : (count : ℕ) → IsFull old.state page now.0 limit count → RemovesCount m page now old clock new clock_after count taken
    pub looked_up : ((count : ℕ) → IsFull old.state page now.0 limit count → ⊥) → LooksUp m page now old clock new clock_after (Ok (count_at old.state page now.0))

  -- and what is promised if a call that takes it out is not refused
  abbrev pub IsTakenOut : ℕ → Result (CompResult ℕ ℕ) (ComputeRefused ℕ ℕ) → Type 0
  IsTakenOut limit (Ok answer) = IsTaken limit (taken_of answer)
  IsTakenOut limit (Err refused) = ⊤

-- what is to be done tells whether the count has reached the limit
abbrev Tells : ℕ → Option ℕ → Op ℕ → Type 0
Tells limit seen Nop = (count : ℕ) → seen ≡ Some count → limit ≤ count → ⊥
Tells limit seen Remove = (count : ℕ) × (seen ≡ Some count) × (limit ≤ count)
Tells limit seen (Put value) = ⊥

tells : (limit : ℕ) (seen : Option ℕ) → Tells limit seen (op_for limit seen)
tells limit None = λ count is. absurd (none-some count is)
tells limit (Some seen) = at (nat_le limit seen) refl
  where
    at : (b : Bool) → nat_le limit seen ≡ b → Tells limit (Some seen) (if b then Remove else Nop)
    at true reached = (seen, refl, grind (arith, reached))
    at false below = λ count is reached. (let same = same_Some seen count is in grind (arith, below, same, reached))

-- a refusal that goes on
pub goes_on : {A E : Type 0} (IsRight : E → Type 0) (refused : E) (result : Result A E) → IsErr result × IsErrAnd result (λ e. e ≡ refused) → IsRight refused → IfErr result IsRight
goes_on IsRight refused (Err e) is right = subst IsRight (sym is.1) right
goes_on IsRight refused (Ok x) is right = tt

-- what holds of the cache afterwards, under its other name
pub renamed : {A B : Type 0} (last new : A) → last ≡ new → (Holds : A → B → Type 0) (b : B) → Holds new b → Holds last b
renamed last new same Holds b holds = subst (λ a. Holds a b) (sym same) holds

module _ {S X L P W C : Type 0} (reads : C → Instant → C → Type 0) (page hash : ℕ) (now : Instant) (old : Engine ℕ ℕ S X L P W) (clock : C) (new : Engine ℕ ℕ S X L P W) (clock_after : C) where
  abbrev m : Meaning ℕ ℕ X L P W C (Unit {0})
  m = meaning reads

  module _ (is_key_clone : ℕ → ℕ → Type 0) (own got : Result (Option ℕ) OutOfMemory) (copied : IsCopiedAnswer (λ a b. b ≡ a) own got) (sees : IfOk got (SeesCount old.state page now.0)) where
    -- clones of numbers equal them, so what was got is what is handed on
    itself : own ≡ got
    itself = sym (answer-same (λ a b. b ≡ a) (λ x y same. same) own got copied)

    -- a look-up that was answered found the count
    found : (seen : Option ℕ) → got ≡ Ok seen → seen ≡ count_at old.state page now.0
    found seen is = sees_count old.state page now.0 seen (subst (λ g. IfOk g (SeesCount old.state page now.0)) is sees)

    module _ (Answers : Option ℕ → ℕ → Type 0) (adds : (seen : Option ℕ) (value : ℕ) → Answers seen value → value ≡ one_more (unwrap_or seen 0)) where
      next : (seen : Option ℕ) (value : ℕ) → got ≡ Ok seen → Answers seen value → value ≡ next_count old.state page now.0
      next seen value is answers = adds seen value answers ∙ ap (λ (o : Option ℕ). one_more (unwrap_or o 0)) (found seen is)

      -- a count that is answered, or refused
      pub counted : (put : Option (ℕ × Result ℕ (InsertRefused ℕ ℕ))) → IsUpsertOf Answers got put → (result : Result (CacheEntry ℕ ℕ) (GetWithRefused ℕ ℕ)) → HandsOutUpserted is_key_clone (λ a b. b ≡ a) page got put result → Makes m (Upserts page hash now own put) old clock new clock_after
          → IfErr result (ComesBack old.state new.state page (λ value. (seen : Option ℕ) × (got ≡ Ok seen) × Answers seen value)) → IsCounted m page now old clock new clock_after result
      counted put answers result handed makes comes = go got refl put answers result handed (subst (λ o. Makes m (Upserts page hash now o put) old clock new clock_after) itself makes) comes
        where
          go : (g : Result (Option ℕ) OutOfMemory) → got ≡ g → (put : Option (ℕ × Result ℕ (InsertRefused ℕ ℕ))) → IsUpsertOf Answers g put → (result : Result (CacheEntry ℕ ℕ) (GetWithRefused ℕ ℕ)) → HandsOutUpserted is_key_clone (λ a b. b ≡ a) page g put result → Makes m (Upserts page hash now g put) old clock new clock_after
              → IfErr result (ComesBack old.state new.state page (λ value. (seen : Option ℕ) × (got ≡ Ok seen) × Answers seen value)) → IsCounted m page now old clock new clock_after result
          go (Ok seen) is (Some (value, Ok put)) answers (Ok e) handed makes comes =
              let same : value ≡ e.value = sym (handed.0 ∙ makes.2.5.0) in
              let one = subst (λ p. Makes m (InTurn (GetsValue page hash now (Ok seen)) (InsertsMade page hash now value (Ok p))) old clock new clock_after) makes.2.5.0 makes in
              let counts = subst (λ o. Makes m (InTurn (GetsValue page hash now (Ok o)) (InsertsMade page hash now value (Ok value))) old clock new clock_after) (found seen is) one in
              (sym same ∙ next seen value is answers, (hash, subst (λ v. Makes m (InTurn (GetsValue page hash now (Ok (count_at old.state page now.0))) (InsertsMade page hash now v (Ok v))) old clock new clock_after) same counts))
          go (Ok seen) is (Some (value, Err r)) answers (Err (Insert refused)) handed makes (key, (before, was, answered)) =
              let counts = subst (λ o. Makes m (InTurn (GetsValue page hash now (Ok o)) (InsertsMade page hash now value (Err r))) old clock new clock_after) (found seen is) makes in
              let next_is = subst (λ v. Makes m (InTurn (GetsValue page hash now (Ok (count_at old.state page now.0))) (InsertsMade page hash now v (Err r))) old clock new clock_after) (next seen value is answers) counts in
              ((key, next before refused.value was answered), (hash, subst (λ r. Makes m (InTurn (GetsValue page hash now (Ok (count_at old.state page now.0))) (InsertsMade page hash now (next_count old.state page now.0) (Err r))) old clock new clock_after) (sym handed) next_is))
          go (Ok seen) is (Some (value, put)) answers result handed makes comes = absurd handed
          go (Ok seen) is None answers result handed makes comes = absurd answers
          go (Err e) is None answers (Err (Lookup k)) handed makes comes = (comes, (e, (hash, makes)))
          go (Err e) is None answers result handed makes comes = absurd handed
          go (Err e) is (Some (value, put)) answers result handed makes comes = absurd answers

    module _ (limit : ℕ) (Answers : Option ℕ → Op ℕ → Type 0) (as_told : (seen : Option ℕ) (op : Op ℕ) → Answers seen op → op ≡ op_for limit seen) where
      abbrev Taken : Option ℕ → Type 0
      Taken taken = IsTaken m page now old clock new clock_after limit taken

      abbrev TakenOut : Result (CompResult ℕ ℕ) (ComputeRefused ℕ ℕ) → Type 0
      TakenOut result = IsTakenOut m page now old clock new clock_after limit result

      told : (seen : Option ℕ) (op : Op ℕ) → Answers seen op → Tells limit seen op
      told seen op answered = subst (Tells limit seen) (sym (as_told seen op answered)) (tells limit seen)

      -- what is answered where nothing was done, or nothing was left to be removed
      nothing_done : (seen : Option ℕ) (result : Result (CompResult ℕ ℕ) (ComputeRefused ℕ ℕ)) → HandsOutLeft is_key_clone (λ a b. b ≡ a) page seen result → Taken None → TakenOut result
      nothing_done (Some count) (Ok (Kept e)) handed none = none
      nothing_done None (Ok (StillNone k)) handed none = none
      nothing_done seen result handed none = absurd handed

      nothing_left : (result : Result (CompResult ℕ ℕ) (ComputeRefused ℕ ℕ)) → HandsOutTaken is_key_clone (λ a b. b ≡ a) page None result → Taken None → TakenOut result
      nothing_left (Ok (StillNone k)) handed none = none
      nothing_left result handed none = absurd handed

      -- a page that was only looked up
      only_seen : (seen : Option ℕ) → got ≡ Ok seen → Makes m (GetsValue page hash now (Ok seen)) old clock new clock_after → ((count : ℕ) → seen ≡ Some count → limit ≤ count → ⊥) → Taken None
      only_seen seen is makes below =
          let never : (n : ℕ) → IsFull old.state page now.0 limit n → ⊥ = λ n full. below n (found seen is ∙ full.0) full.1 in
          record { full = tt; left = λ n full. absurd (never n full); removed = λ n full. absurd (never n full); looked_up = λ not. (hash, subst (λ o. Makes m (GetsValue page hash now (Ok o)) old clock new clock_after) (found seen is) makes) }

      -- a page that was removed after it was seen to be full
      removed : (seen : Option ℕ) → got ≡ Ok seen → Answers seen Remove → (taken : Option (ℕ × Result (Unit {0}) OutOfMemory)) → Makes m (Computes page hash now (Ok seen) (Some (Takes taken))) old clock new clock_after
          → HasLeft new.state page × IfSome taken (λ t. IfOk got (λ seen. IfSome seen (λ b. b ≡ t.0))) → Taken (option_map (λ t. t.0) taken)
      removed seen is answered taken makes out =
          let (count, seen_is, reached) = told seen Remove answered in
          let full : IsFull old.state page now.0 limit count = (sym (found seen is) ∙ seen_is, reached) in
          record {
            full = full_of taken count (subst (λ g. IfSome taken (λ t. IfOk g (λ seen. IfSome seen (λ b. b ≡ t.0)))) (is ∙ ap Ok seen_is) out.1) full;
            left = λ n full. out.0;
            removed = λ n full. (hash, taken, refl, subst (λ o. Makes m (InTurn (GetsValue page hash now (Ok o)) (RemovesEntry page hash now taken)) old clock new clock_after) (found seen is ∙ full.0) makes);
            looked_up = λ not. absurd (not count full);
          }
        where
          full_of : (taken : Option (ℕ × Result (Unit {0}) OutOfMemory)) (count : ℕ) → IfSome taken (λ t. count ≡ t.0) → IsFull old.state page now.0 limit count → IfSome (option_map (λ t. t.0) taken) (IsFull old.state page now.0 limit)
          full_of None count same full = tt
          full_of (Some t) count same full = subst (IsFull old.state page now.0 limit) same full

      -- what a removal answers
      takes : (seen : Option ℕ) → got ≡ Ok seen → Answers seen Remove → (taken : Option (ℕ × Result (Unit {0}) OutOfMemory)) (result : Result (CompResult ℕ ℕ) (ComputeRefused ℕ ℕ)) → HandsOutTaken is_key_clone (λ a b. b ≡ a) page taken result
          → Makes m (Computes page hash now (Ok seen) (Some (Takes taken))) old clock new clock_after → HasLeft new.state page × IfSome taken (λ t. IfOk got (λ seen. IfSome seen (λ b. b ≡ t.0))) → TakenOut result
      takes seen is answered None result handed makes out = nothing_left result handed (removed seen is answered None makes out)
      takes seen is answered (Some (value, Ok done)) (Ok (Removed e)) handed makes out = subst (λ v. Taken (Some v)) (sym handed.0) (removed seen is answered (Some (value, Ok done)) makes out)
      takes seen is answered (Some (value, Err error)) (Err (NotTold k r)) handed makes out = tt
      takes seen is answered taken result handed makes out = absurd handed

      -- a page that is taken out, or not, or a call that is refused
      pub taken_out : (did : Option (Computed ℕ ℕ)) → IsComputedBy Answers got did → (result : Result (CompResult ℕ ℕ) (ComputeRefused ℕ ℕ)) → HandsOutComputed is_key_clone (λ a b. b ≡ a) page got did result → Makes m (Computes page hash now own did) old clock new clock_after
          → ((taken : Option (ℕ × Result (Unit {0}) OutOfMemory)) → did ≡ Some (Takes taken) → HasLeft new.state page × IfSome taken (λ t. IfOk got (λ seen. IfSome seen (λ b. b ≡ t.0)))) → IsTakenOut m page now old clock new clock_after limit result
      taken_out did answers result handed makes out = go got refl did answers result handed (subst (λ o. Makes m (Computes page hash now o did) old clock new clock_after) itself makes) out
        where
          go : (g : Result (Option ℕ) OutOfMemory) → got ≡ g → (did : Option (Computed ℕ ℕ)) → IsComputedBy Answers g did → (result : Result (CompResult ℕ ℕ) (ComputeRefused ℕ ℕ)) → HandsOutComputed is_key_clone (λ a b. b ≡ a) page g did result → Makes m (Computes page hash now g did) old clock new clock_after
              → ((taken : Option (ℕ × Result (Unit {0}) OutOfMemory)) → did ≡ Some (Takes taken) → HasLeft new.state page × IfSome taken (λ t. IfOk got (λ seen. IfSome seen (λ b. b ≡ t.0)))) → TakenOut result
          go (Ok seen) is (Some Left) answers result handed makes out = nothing_done seen result handed (only_seen seen is makes (told seen Nop answers))
          go (Ok seen) is (Some LeftNone) answers result handed makes out = nothing_left result handed.1 (only_seen seen is makes (λ n has reached. absurd (none-some n (sym handed.0 ∙ has))))
          go (Ok seen) is (Some (Puts value put)) answers result handed makes out = absurd (told seen (Put value) answers)
          go (Ok seen) is (Some (Takes taken)) answers result handed makes out = takes seen is answers taken result handed.1 makes (out taken refl)
          go (Ok seen) is None answers result handed makes out = absurd answers
          go (Err e) is None answers (Err (compute_refused.Lookup k)) handed makes out = tt
          go (Err e) is None answers result handed makes out = absurd handed
          go (Err e) is (Some done) answers result handed makes out = absurd answers
