-- Notices, one list after the other.
use Rattle.std.proofs.Common.{◌≡◌, refl, Bool, true, false, List, [], ◌++◌, Option, Some, None, is_some, sym, subst}
use Rattle.moka_parts.specs.declared.notification.RemovalCause.{RemovalCause}
use Rattle.moka_parts.specs.Notices.{Notice, when_listening}
use Rattle.moka_parts.specs.Surroundings.{Heard}
use Rattle.moka_parts.proofs.RunsGoOn.{Heard-append}
use Rattle.moka_maintenance.specs.Steps.{Told}

listening_on : {N : Type 0} (b : Bool) (xs ys : List N) → when_listening b (xs ++ ys) ≡ when_listening b xs ++ when_listening b ys
listening_on true xs ys = refl
listening_on false xs ys = refl

module _ {K V L : Type 0} (tells : L → K → V → RemovalCause → L → Type 0) where
  -- a listener stays set
  pub told_same : (l m : Option L) (ns : List (Notice K V)) → Told tells l ns m → is_some m ≡ is_some l
  told_same None None ns h = refl
  told_same (Some a) (Some b) ns h = refl
  told_same None (Some b) ns h = absurd h
  told_same (Some a) None ns h = absurd h

  pub told-none : (l : Option L) → Told {K = K} {V = V} tells l [] l
  told-none None = refl
  told-none (Some a) = refl

  pub told-on : (l m k : Option L) (xs ys : List (Notice K V)) → Told tells l xs m → Told tells m ys k → Told tells l (xs ++ ys) k
  told-on l m k xs ys h j =
      subst (λ ns. Heard tells l ns k) (sym (listening_on (is_some l) xs ys))
      (Heard-append tells l m k (when_listening (is_some l) xs) (when_listening (is_some l) ys) h (subst (λ b. Heard tells m (when_listening b ys) k) (told_same l m xs h) j))
