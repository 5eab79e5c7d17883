use Rattle.std.proofs.Common.{[]}
use Rattle.ferrite_run.specs.Sites.{repaired_by}
use Rattle.ferrite_run.proofs.laws.repaired_tests_are_read.Goals as goal

pub returns : goal.returns
returns c = record {
  read = λ litmus sites within syncs outside short.
      c.reads_back.ensures.read (repaired_by litmus sites) (c.inserted_within_limits.ensures litmus sites syncs outside within) short;
  same_events = λ litmus sites m t same has.
      c.same_tests_alike.ensures (repaired_by litmus sites) m [] t same ((c.inserted_first.ensures.same_events litmus sites t).1 has);
}
