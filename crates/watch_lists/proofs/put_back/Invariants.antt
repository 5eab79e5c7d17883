use Rattle.std.proofs.Common.{◌≡◌, length, [], List, slice_index_or}
use Rattle.watch_lists.specs.Watching.{Watch}
use Rattle.watch_lists.specs.Going.{code, IsChained}
use Rattle.watch_lists.proofs.put_back.Given as goal

abbrev pub invariant-back : goal.invariant-back
invariant-back l = record {
  chained : (list : List Watch) → IsChained (code l.l) l.initial.chains.lists list → IsChained (code l.l) l.chains.lists list;
  lits : l.chains.lits ≡ l.initial.chains.lits;
  len : length l.chains.lists ≡ length l.initial.chains.lists;
}

abbrev pub decreases-back : goal.decreases-back
decreases-back l = length (slice_index_or l.chains.lists 0 [])
