-- What a log-out leaves: what its predicate covers is hidden and stays so, and what it does not cover is as it was.
use Rattle.std.proofs.Common.{◌≡◌, ◌==◌, ℕ, true, true≢false, List, Result, Ok, Err, ◌∙◌, arith}
use Rattle.std.specs.Prelude.{IfOk}
use Rattle.moka_engine.specs.parts.Instant.{Instant}
use Rattle.moka_engine.specs.parts.PredicateRefused.{PredicateRefused}
use Rattle.moka_engine.specs.parts.Uuid.{Uuid}
use Rattle.moka_engine.specs.Calls.{InvalidateStep}
use Rattle.moka_engine.specs.Laws.{StaysHidden}
use Rattle.moka_engine.specs.Runs.{Engine}
use Rattle.moka_engine.specs.Settling.{IsValid}
use Rattle.moka_timed_uses.specs.declared.logins.OfUser.{OfUser}
use Rattle.moka_timed_uses.specs.declared.logins.Session.{Session}
use Rattle.moka_timed_uses.specs.Logins.{LogsOut, is_of, meaning}
use Rattle.moka_uses.proofs.Covered.{hidden, never_shown, shown_as_before}

says_yes : (whose user : ℕ) → whose ≡ user → true ≡ (whose == user)
says_yes whose user e = grind (arith, e)

pub logs_out : {S X L W C I : Type 0} (reads : C → Instant → C → Type 0) (gives : I → Uuid → I → Type 0) (old new : Engine ℕ Session S X L OfUser W) (user : ℕ) (now : Instant) (ids : List Uuid) → StaysHidden (meaning {X = X} {L = L} {W = W} reads gives) → IsValid (λ a b. a == b) new.state
    → (a : Result Uuid (PredicateRefused OfUser)) → InvalidateStep old.state (record { 0 = user }) now a ids new.state → IfOk a (λ _. LogsOut (meaning reads gives) old new user now.0)
logs_out reads gives old new user now ids law valid (Ok id) step = record {
  ended = λ number of. never_shown is_of (λ a b. a == b) old.state new.state (record { 0 = user }) now ids id step number of.0 of.1 (of.3, says_yes of.0.value.user user of.2);
  stays = λ number of steps later shown are forward never last look. law new.state steps number now.0 later shown valid are forward never last
      (hidden is_of (λ a b. a == b) old.state new.state (record { 0 = user }) now ids id step number of.0 of.1 (of.3, says_yes of.0.value.user user of.2) now.0) look;
  others = λ number of. shown_as_before is_of (λ a b. a == b) old.state new.state (record { 0 = user }) now ids id step number of.0 of.1 (λ covered. true≢false (covered.1 ∙ of.2));
}
logs_out reads gives old new user now ids law valid (Err refused) step = tt
