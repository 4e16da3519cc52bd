-- A stream by its first phase.
use Rattle.std.proofs.Common.{◌≡◌, ℕ, zero, suc, ◌-◌, ◌<◌, ◌≤◌, true, false, ◌&&◌, List, length, drop, nat_eq, nat_lt, nat_le, refl, ap, ◌∙◌}
use Rattle.std.proofs.lemmas.Bool.{cond-true, cond-false, lt-ltb, le-ltb, le-leb, lt-leb}
use Rattle.moka_bench.specs.Phases.{is_known, is_stream, number_at}

-- a phase whose header is cut short is none
pub short : (k : ℕ) (ws : List (List ℕ)) → length ws < 4 → is_stream k ws ≡ nat_eq (length ws) 0
short zero ws h = refl
short (suc k) ws h =
    cond-true (nat_lt (length ws) 4) (nat_eq (length ws) 0) (nat_le (number_at ws 1) (length ws - 4) && (is_known (number_at ws 0) && is_stream k (drop (number_at ws 1) (drop 4 ws)))) (lt-ltb (length ws) 4 h)

module _ (k : ℕ) (ws : List (List ℕ)) (header : 4 ≤ length ws) where
  -- what follows a whole header
  headed : is_stream (suc k) ws ≡ (nat_le (number_at ws 1) (length ws - 4) && (is_known (number_at ws 0) && is_stream k (drop (number_at ws 1) (drop 4 ws))))
  headed =
      cond-false (nat_lt (length ws) 4) (nat_eq (length ws) 0) (nat_le (number_at ws 1) (length ws - 4) && (is_known (number_at ws 0) && is_stream k (drop (number_at ws 1) (drop 4 ws)))) (le-ltb (length ws) 4 header)

  -- its words are cut short
  pub no-words : length ws - 4 < number_at ws 1 → is_stream (suc k) ws ≡ false
  no-words h = headed ∙ ap (λ e. e && (is_known (number_at ws 0) && is_stream k (drop (number_at ws 1) (drop 4 ws)))) (lt-leb (number_at ws 1) (length ws - 4) h)

  module _ (words : number_at ws 1 ≤ length ws - 4) where
    -- what follows whole words
    whole : is_stream (suc k) ws ≡ (is_known (number_at ws 0) && is_stream k (drop (number_at ws 1) (drop 4 ws)))
    whole = headed ∙ ap (λ e. e && (is_known (number_at ws 0) && is_stream k (drop (number_at ws 1) (drop 4 ws)))) (le-leb (number_at ws 1) (length ws - 4) words)

    -- its operation is none
    pub not-known : is_known (number_at ws 0) ≡ false → is_stream (suc k) ws ≡ false
    not-known h = whole ∙ ap (λ e. e && is_stream k (drop (number_at ws 1) (drop 4 ws))) h

    -- it is a phase, and the others follow
    pub goes-on : is_known (number_at ws 0) ≡ true → is_stream (suc k) ws ≡ is_stream k (drop (number_at ws 1) (drop 4 ws))
    goes-on h = whole ∙ ap (λ e. e && is_stream k (drop (number_at ws 1) (drop 4 ws))) h
