use Rattle.std.proofs.Common.{ap, map, sym, option_map}
use Rattle.std.specs.FinMap.{values}
use Rattle.std.proofs.lemmas.List.Sorted.{IsNonDecreasingBy-from_sort, IsPermutation-trans}
use Rattle.moka_explain.proofs.Looked.{keys_permuted}
use Rattle.moka_explain.proofs.explain.keys_of.Goals as goal

pub returns-clause-keys : goal.returns-clause-keys
returns-clause-keys c =
    IsPermutation-trans (map (λ r. r.key) (values c.args.cache.now.state.records)) c.in-Some.keys.items c.sort_unstable.new.self.items
    (keys_permuted c.args.cache.now.state c.in-Some.keys.items (rw (sym (ap (option_map (λ v. v.items)) c.in-Some.is)) c.in_ok-keys.ensures.ok)) c.sort_unstable.ensures.permutation

pub returns-clause-order : goal.returns-clause-order
returns-clause-order c = IsNonDecreasingBy-from_sort (λ x. x) _ c.sort_unstable.ensures.sorted
