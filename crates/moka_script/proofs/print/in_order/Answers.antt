use mathlib.Core.Logic.{⊎_elim}
use Rattle.std.proofs.Common.{◌∙◌, sym, subst, get_or, set, arith}
use Rattle.std.proofs.lemmas.Bool.{cases_eq}
use Rattle.std.proofs.lemmas.List.{get_or_default, get_or-set_same, get_or-set_other}
use Rattle.moka_script.specs.Text.{IsInOrder}
use Rattle.moka_script.proofs.print.in_order.Goals as goal

pub loop-reply-preserved : goal.loop-reply-preserved
loop-reply-preserved c =
    let before = c.deref_mut-reply-items.result.now in
    let items = c.loop-reply.reply-items in
    let at = c.loop-reply.reply-index in
    let new = c.sort_keys_of.new.reply in
    record {
      sorted = λ k d below. ⊎_elim
          (λ e. subst (λ n. IsInOrder (get_or before n d) (get_or (set items at new) n d)) (sym e)
          (subst (λ r. IsInOrder (get_or before at d) r) (sym (get_or-set_same items at new d (omega arith)))
          (subst (λ r. IsInOrder r new) (get_or_default items at c.reply-item.result d (omega arith) ∙ c.loop-reply.invariant.left at d (omega arith)) c.sort_keys_of.ensures)))
          (λ n. subst (λ r. IsInOrder (get_or before k d) r) (sym (get_or-set_other items at k new d n)) (c.loop-reply.invariant.sorted k d (omega arith)))
          (cases_eq k at);
      left = λ k d from. get_or-set_other items at k new d (λ e. omega arith) ∙ c.loop-reply.invariant.left k d (omega arith);
    }
