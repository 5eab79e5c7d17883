use Rattle.std.proofs.Common.{◌-◌, slice_index, rules}
use Rattle.std.proofs.lemmas.List.Sorted.{IsNonDecreasingBy-from_sort_by_key}
use Rattle.order_coding.proofs.decoded.sort_by_rank.Goals as goal

pub returns-clause-sorted : goal.returns-clause-sorted
returns-clause-sorted c =
    IsNonDecreasingBy-from_sort_by_key (λ e. slice_index c.args.ranks.now (e - 1)) _ c.sort_unstable_by_key.ensures.sorted
    (λ a r q k. search rules)
