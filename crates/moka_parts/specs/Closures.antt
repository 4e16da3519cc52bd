-- What is asked of closures that weigh or test entries, and what becomes of a caller's own test.
use Rattle.std.proofs.Common.{inl, inr}
use Rattle.std.specs.Prelude.{◌≡◌, ◌⊎◌, Option, Some, None, option_map, ⊤}
use Rattle.std.specs.Borrow.{MutBor}

-- every question may be put
abbrev pub CanAlwaysAsk : {K V : Type 0} → (K → V → Type 0) → Type 0
CanAlwaysAsk {K} {V} can_ask = (k : K) (v : V) → can_ask k v

-- the same arguments have at most one answer
abbrev pub HasOneAnswer : {K V R : Type 0} → (K → V → R → Type 0) → Type 0
HasOneAnswer {K} {V} {R} answers = (k : K) (v : V) (a b : R) → answers k v a → answers k v b → a ≡ b

-- a caller's own test, if one is given, may be asked of every value
abbrev pub CanAskIfGiven : {V I : Type 0} → (I → V → Type 0) → Option I → Type 0
CanAskIfGiven can_ask None = ⊤
CanAskIfGiven {V} can_ask (Some test) = (v : V) → can_ask test v

-- what an `Option<&mut I>` points to as it comes in
abbrev pub test_given : {I : Type 0} → Option (MutBor I) → Option I
test_given test = option_map (λ t. t.now) test

-- and as it is left
abbrev pub test_left : {I : Type 0} → Unit {0} ⊎ ((MutBor I × Unit {0}) ⊎ ⊥) → Option I
test_left (inl none) = None
test_left (inr (inl left)) = Some left.0.now
test_left (inr (inr none)) = None
