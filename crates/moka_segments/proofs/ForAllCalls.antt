-- What was made was made where listeners may hear of clones and any identifier may be given.
use Rattle.std.proofs.Common.{List, inl}
use Rattle.moka_types.specs.declared.calls.Call.{Call}
use Rattle.moka_types.specs.declared.calls.Reply.{Reply}
use Rattle.moka_parts.specs.Runs.{Engine}
use Rattle.moka_parts.specs.State.{Meaning}
use Rattle.moka_calls.specs.Synchronous.{Made, hears_clones}
use Rattle.moka_calls.proofs.Anytime.{made_by, tells_any}
use Rattle.moka_calls.proofs.Made.{made_more}
use Rattle.moka_segments.specs.Moves.{for_all_calls}

module _ {K V S X L P W C : Type 0} (m : Meaning K V X L P W C (Unit {0})) (is_key_clone : K → K → Type 0) (is_clone : V → V → Type 0) (calls : List (Call K V P)) (replies : List (Reply K V P)) (old new : Engine K V S X L P W) (clock clock_after : C) where
  -- with identifiers, whoever gives them
  pub made_with_ids : Made (record m { tells = hears_clones is_key_clone is_clone m.tells }) calls replies old clock new clock_after → Made (for_all_calls is_key_clone is_clone m) calls replies old clock new clock_after
  made_with_ids made = made_by (record m { tells = hears_clones is_key_clone is_clone m.tells }) m.observes (λ _ _ _. Unit {0}) calls replies old new clock clock_after clock clock_after (λ moments read. read) (λ ids _. tells_any ids) made

  -- and clones
  pub made_for_all : Made m calls replies old clock new clock_after → Made (for_all_calls is_key_clone is_clone m) calls replies old clock new clock_after
  made_for_all made = made_with_ids (made_more m (hears_clones is_key_clone is_clone m.tells) (λ l k v cause after step. inl step) calls replies old new clock clock_after made)
