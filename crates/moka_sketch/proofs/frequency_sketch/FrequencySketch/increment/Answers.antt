use Rattle.std.proofs.Common.{◌≡◌, ◌∙◌, ℕ, List, length, Some, ap, sym, arith, rules}
use Rattle.std.proofs.lemmas.List.{with_items_is}
use Rattle.std.proofs.lemmas.List.Sums.{fold_push}
use Rattle.moka_parts.specs.Frequency.{counted_once, incremented, no_counts}
use Rattle.moka_sketch.specs.Words.{table_of}
use Rattle.moka_sketch.proofs.frequency_sketch.FrequencySketch.increment.Goals as goal

pub invariant_of-self : goal.invariant_of-self
invariant_of-self c =
    let new = c.count_once-self-inside.new.words in
    let same : length new ≡ c.self.inside.words.len = search rules in
    let size : length new ≡ length c.self.inside.words.items = search rules in
    let i = c.self.invariant in
    rw (with_items_is c.self.inside.words new same) (record {
      room_for_128 = i.room_for_128;
      power = λ some. rw size (i.power (omega arith));
      within = omega (arith, i.within);
      size_below = λ _. c.count_once-self-inside.ensures.size_below;
    })

pub returns-then-not-is_empty-clause-counted : goal.returns-then-not-is_empty-clause-counted
returns-then-not-is_empty-clause-counted c =
    let same : length c.count_once-self-inside.new.words ≡ c.self.inside.words.len = search rules in
    ap (λ (x : List ℕ). table_of x c.count_once-self-inside.result) (with_items_is c.self.inside.words c.count_once-self-inside.new.words same)
    ∙ c.count_once-self-inside.ensures.table
    ∙ ap (λ (x : List ℕ). counted_once (table_of x c.self.inside.size) c.args.hash) c.as_mut_slice.ensures.value
    ∙ ap (λ t. counted_once t c.args.hash) c.self.view_is

pub returns-then-not-is_empty-clause-history : goal.returns-then-not-is_empty-clause-history
returns-then-not-is_empty-clause-history c n hashes e =
    returns-then-not-is_empty-clause-counted c ∙ ap (λ t. counted_once t c.args.hash) e ∙ ap Some (sym (fold_push incremented (no_counts n) hashes c.args.hash))
