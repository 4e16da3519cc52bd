use Rattle.std.proofs.Common.{false, Some, ap, sym, ◌∙◌, ◌≡◌, ℕ, Bool, true, length, Option, Result, Ok, Err, OnOk, OnErr, if◌then◌else◌}
use Rattle.moka_parts.specs.Frequency.{size_asked, table_length_for, SketchTable, no_counts}
use Rattle.moka_parts.specs.Maintenance.{is_sketch_due, with_sketch, length_of_new_table}
use Rattle.moka_types.specs.declared.policy.EvictionPolicy.{EvictionPolicy}
use Rattle.moka_records.specs.Records.{total_weight}
use Rattle.moka_parts.specs.State.{Contents}
use Rattle.moka_maintenance.specs.Steps.{contents_with}
use Rattle.moka_maintenance.proofs.sketch.enable_frequency_sketch.Goals as goal

module _ {K V : Type 0} (c : Contents K V) (policy : EvictionPolicy) (has_weigher : Bool) (capacity : ℕ) (o : Option ℕ) (is : o ≡ Some capacity) where
  enabled_by : (is_short b : Bool) → is_sketch_due (Some capacity) policy c.sketch (total_weight c.access) ≡ b → (record c { sketch = if b then Some (no_counts (length_of_new_table is_short (Some capacity) has_weigher c.access)) else c.sketch }) ≡ with_sketch o policy has_weigher is_short c
  enabled_by is_short b due =
      sym (ap (λ o. with_sketch o policy has_weigher is_short c) is ∙ ap (λ b. record c { sketch = if b then Some (no_counts (length_of_new_table is_short (Some capacity) has_weigher c.access)) else c.sketch }) due)

  -- it is not due
  not-enabled : is_sketch_due (Some capacity) policy c.sketch (total_weight c.access) ≡ false → (is_short : Bool) × (c ≡ with_sketch o policy has_weigher is_short c)
  not-enabled due = (false, enabled_by false false due)

  -- it comes on, with the length asked for unless that was refused
  enabled : {A E : Type 0} (made : Result A E) (sketch : Option SketchTable) (size : ℕ) → is_sketch_due (Some capacity) policy c.sketch (total_weight c.access) ≡ true → table_length_for size ≡ table_length_for (size_asked has_weigher capacity (length c.access) (total_weight c.access))
      → OnOk made (sketch ≡ Some (no_counts (table_length_for size))) → OnErr made (sketch ≡ Some (no_counts 128)) → (is_short : Bool) × ((record c { sketch = sketch }) ≡ with_sketch o policy has_weigher is_short c)
  enabled (Ok a) sketch size due same ok err = (false, ap (λ (t : Option SketchTable). record c { sketch = t }) (ok ∙ ap (λ n. Some (no_counts n)) same) ∙ enabled_by false true due)
  enabled (Err e) sketch size due same ok err = (true, ap (λ (t : Option SketchTable). record c { sketch = t }) err ∙ enabled_by true true due)

pub returns-in_default : goal.returns-in_default
returns-in_default g c = (false, sym (ap (λ o. with_sketch o c.args.bounds.policy c.args.bounds.has_weigher false (contents_with c.args.sketch.now c.args.store.now)) c.in_default.is))

pub returns-then-not-is_due : goal.returns-then-not-is_due
returns-then-not-is_due g c =
    not-enabled (contents_with c.args.sketch.now c.args.store.now) c.args.bounds.policy c.args.bounds.has_weigher c.in-Some.capacity c.args.bounds.capacity c.in-Some.is
    (ap (is_sketch_due (Some c.in-Some.capacity) c.args.bounds.policy c.args.sketch.now) (sym c.total_weight-weight.ensures) ∙ sym c.is_due.ensures ∙ c.if-not-is_due.true)

pub returns : goal.returns
returns g c =
    let weight = c.total_weight-weight.ensures in
    enabled (contents_with c.args.sketch.now c.args.store.now) c.args.bounds.policy c.args.bounds.has_weigher c.in-Some.capacity c.args.bounds.capacity c.in-Some.is c.ensure_capacity-refused.result c.ensure_capacity-refused.new.self c.from.result
    (ap (is_sketch_due (Some c.in-Some.capacity) c.args.bounds.policy c.args.sketch.now) (sym weight) ∙ sym c.is_due.ensures ∙ c.if-not-is_due.false)
    (ap table_length_for c.from.ensures ∙ c.sketch_capacity.ensures.same_table
    ∙ ap table_length_for (c.size_asked-size.ensures ∙ ap (λ n. size_asked c.args.bounds.has_weigher c.in-Some.capacity n c.total_weight-weight.result) c.member_count.ensures.value ∙ ap (size_asked c.args.bounds.has_weigher c.in-Some.capacity _) weight))
    c.ensure_capacity-refused.ensures.ok c.ensure_capacity-refused.ensures.err
