use Rattle.std.proofs.Common.{length, ap, arith}
use Rattle.predicate_coding.proofs.Steps.{candidates-few}
use Rattle.predicate_coding.proofs.slots.code_file_node.Goals as goal

pub code_with_files-requires-clause-few : goal.code_with_files-requires-clause-few
code_with_files-requires-clause-few c =
    omega (
      arith,
      ap length c.as_slice.ensures.value,
      ap length c.in_ok-files.ensures,
      candidates-few c.args.events.now c.args.slot,
      c.keeps_rules.ensures.few_files,
    )
