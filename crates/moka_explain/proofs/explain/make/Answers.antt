use Rattle.std.proofs.Common.{◌≡◌, List, [], ◌∷◌, ◌++◌, length, slice_index_or, ap, sym, ◌∙◌, arith}
use Rattle.std.proofs.lemmas.List.{length-map}
use Rattle.moka_explain.proofs.explain.make.Goals as goal

-- the only element of a list
only : {A : Type 0} (xs : List A) (x : A) → length xs ≡ 1 → x ≡ slice_index_or xs 0 x → xs ≡ x ∷ []
only [] x one is = absurd (omega (arith, one))
only (y ∷ []) x one is = ap (λ z. z ∷ []) (sym is)
only (y ∷ z ∷ ys) x one is = absurd (omega (arith, one))

pub returns-in-Ok-drive : goal.returns-in-Ok-drive
returns-in-Ok-drive c =
    let run = c.in-Ok-drive.ensures.run in
    let called : c.push_reserved.new.self.items ≡ c.args.call ∷ [] = c.push_reserved.ensures.items ∙ ap (λ xs. xs ++ c.args.call ∷ []) c.in-Ok.ensures.items in
    let one : length c.in-Ok-drive.replies.items ≡ 1 = ap length (sym run.is_run.replies_given) ∙ length-map run.steps (λ x. x.reply) ∙ sym (length-map run.steps (λ x. x.call)) ∙ ap length run.is_run.calls_made ∙ ap length called in
    let answered = only c.in-Ok-drive.replies.items c.swap_remove-reply.result one c.swap_remove-reply.ensures.value in
    (c.swap_remove-reply.result, c.sort_keys_of.ensures, rw (called, answered) at run)
