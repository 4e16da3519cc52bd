use Rattle.std.proofs.Common.{◌≡◌, ℕ, true, false, List, Option, Result, Ok, sym, true≢false}
use Rattle.std.specs.Prelude.{String, is_some}
use Rattle.std.specs.Cmp.Lexicographic.{bytes_decides}
use Rattle.std.specs.String.{string_bytes, string_eq}
use Rattle.moka_engine.specs.parts.Instant.{Instant}
use Rattle.moka_engine.specs.parts.OutOfMemory.{OutOfMemory}
use Rattle.moka_engine.specs.Copies.{IsCopiedAnswer}
use Rattle.moka_engine.specs.Runs.{Engine}
use Rattle.moka_engine.specs.State.{Meaning}
use Rattle.moka_cache.specs.Synchronous.{GetsValue, Makes}
use Rattle.moka_uses.specs.Made.{LooksUp, plain_meaning}
use Rattle.moka_timed_uses.proofs.Named.{has_text, named, found_at}
use Rattle.moka_timed_uses.proofs.LookedUp.{looked_up}
use Rattle.moka_timed_uses.proofs.borrowed.price.Goals as goal

module _ {Z S X L P W C : Type 0} (m : Meaning (String Z) ℕ X L P W C (Unit {0})) (name : List ℕ) (hash : ℕ) (now : Instant) (old : Engine (String Z) ℕ S X L P W) (clock : C) (new : Engine (String Z) ℕ S X L P W) (clock_after : C) where
  -- each name with this text was looked up
  looked_up_by : (result : Result (Option ℕ) OutOfMemory) → ((key : String Z) → has_text name key ≡ true → (own : Result (Option ℕ) OutOfMemory) × IsCopiedAnswer (λ a b. b ≡ a) own result × Makes m (GetsValue key hash now own) old clock new clock_after)
      → (key : String Z) → string_bytes key ≡ name → LooksUp m key now old clock new clock_after result
  looked_up_by result makes key same =
      let made = makes key ((bytes_decides name (string_bytes key)).1 (sym same)) in
      looked_up m key hash now old clock new clock_after made.0 result made.1 made.2

pub returns-clause-value : goal.returns-clause-value
returns-clause-value g c = named c.args.prices.now.cache.engine.state c.args.name.now c.in-Ok.found c.in-Ok.ensures.value

pub returns-clause-found : goal.returns-clause-found
returns-clause-found g c =
    let (now, read, told, got) = c.in-Ok.ensures.made in
    let s = c.args.prices.now.cache.engine.state in (
      now,
      read,
      told,
      found_at s c.args.name.now (λ _ _ _ answer. answer ≡ false) now.0 (is_some c.in-Ok.found) got.shown,
      looked_up_by (plain_meaning string_eq g.C.Clock.reads) c.args.name.now _ now c.args.prices.now.cache.engine read c.get_by.new.self.cache.engine c.get_by.new.self.clock (Ok c.in-Ok.found) got.made,
    )

pub unreachable-requires : goal.unreachable-requires
unreachable-requires g c = true≢false (sym (c.in-Err.ensures.succeeds (λ r there. tt)))
