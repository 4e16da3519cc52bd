use Rattle.std.proofs.Common.{◌≡◌, ◌==◌, ◌∙◌, ◌∷◌, ◌++◌, [], ap, if◌then◌else◌, subst, sym, true}
use Rattle.std.specs.HashSet.{contains}
use Rattle.moka_hit_ratio.specs.Fifo.{is_kept, are_distinct}
use Rattle.moka_hit_ratio.proofs.Arrivals.{distinct-less, distinct-more, tied-less, tied-more}
use Rattle.moka_hit_ratio.proofs.fifo.Fifo.read.Goals as goal

pub invariant_of-self-in-Some : goal.invariant_of-self-in-Some
invariant_of-self-in-Some c =
    let old = c.args.self.now in
    let all = c.push_back.ensures.items ∙ ap (λ b. if b then old.queue.items ++ c.args.key ∷ [] else old.queue.items) c.if-is_err.ensures.negation in
    let fresh = sym (old.tied c.args.key) ∙ sym c.contains.ensures ∙ c.if-contains.false in
    let came = sym all ∙ c.in-Some.ensures.items in
    let distinct = subst (λ keys. are_distinct keys ≡ true) came (distinct-more c.args.key old.queue.items fresh old.once) in
    record {
      tied =
          tied-less c.in-Some.oldest c.pop_front.new.self.items (contains (λ a b. a == b) c.insert.new.self) (contains (λ a b. a == b) c.remove-in-Some.new.self) distinct
          (λ q. tied-more c.args.key old.queue.items (contains (λ a b. a == b) old.kept) (contains (λ a b. a == b) c.insert.new.self) old.tied c.in_ok-insert.ensures.updates.0 q ∙ ap (is_kept q) came) c.remove-in-Some.ensures.updates.0;
      once = distinct-less c.in-Some.oldest c.pop_front.new.self.items distinct;
    }

pub invariant_of-self-else-len-self : goal.invariant_of-self-else-len-self
invariant_of-self-else-len-self c =
    let old = c.args.self.now in
    let all = c.push_back.ensures.items ∙ ap (λ b. if b then old.queue.items ++ c.args.key ∷ [] else old.queue.items) c.if-is_err.ensures.negation in
    let fresh = sym (old.tied c.args.key) ∙ sym c.contains.ensures ∙ c.if-contains.false in
    record {
      tied = λ q. tied-more c.args.key old.queue.items (contains (λ a b. a == b) old.kept) (contains (λ a b. a == b) c.insert.new.self) old.tied c.in_ok-insert.ensures.updates.0 q ∙ ap (is_kept q) (sym all);
      once = subst (λ keys. are_distinct keys ≡ true) (sym all) (distinct-more c.args.key old.queue.items fresh old.once);
    }
