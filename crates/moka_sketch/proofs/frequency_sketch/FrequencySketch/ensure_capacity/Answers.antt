use Rattle.std.proofs.Common.{◌∙◌, ℕ, List, Some, ap, arith}
use Rattle.std.proofs.lemmas.Result.{on_ok_weaker, on_err_weaker}
use Rattle.moka_parts.specs.Frequency.{no_counts}
use Rattle.moka_sketch.specs.Words.{table_of}
use Rattle.moka_sketch.proofs.Counters.{table_of-zeros}
use Rattle.moka_sketch.proofs.frequency_sketch.FrequencySketch.ensure_capacity.Goals as goal

pub returns-clause-ok : goal.returns-clause-ok
returns-clause-ok c =
    on_ok_weaker c.zeroed.result (λ e. ap (λ (x : List ℕ). table_of x 0) e ∙ table_of-zeros c.table_len_for.result (omega arith) ∙ ap (λ n. Some (no_counts n)) c.table_len_for.ensures.value) c.zeroed.ensures.ok

pub returns-clause-err : goal.returns-clause-err
returns-clause-err c =
    on_err_weaker c.zeroed.result (λ e. ap (λ (x : List ℕ). table_of x 0) e ∙ table_of-zeros 128 (omega arith)) c.zeroed.ensures.err
