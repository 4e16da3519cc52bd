use Rattle.std.proofs.Common.{◌≡◌, Ok, Some}
use Rattle.std.proofs.lemmas.List.Sorted.{IsNonDecreasingBy-from_sort}
use Rattle.moka_types.specs.declared.calls.Reply.TheVariants.{Keys}
use Rattle.moka_script.proofs.print.sort_keys_of.Goals as goal

pub returns-in-Keys-Ok-Some : goal.returns-in-Keys-Ok-Some
returns-in-Keys-Ok-Some c =
    let h : c.args.reply.now ≡ Keys (Ok (Some c.in-Keys-Ok-Some.keys)) = cc in
    rw h (c.sort_unstable.ensures.permutation, IsNonDecreasingBy-from_sort (λ x. x) _ c.sort_unstable.ensures.sorted)
