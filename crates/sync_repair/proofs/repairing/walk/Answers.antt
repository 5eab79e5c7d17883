use Rattle.std.proofs.Common.{◌∙◌}
use Rattle.std.specs.Prelude.{option_map}
use Rattle.sync_repair.proofs.Walks.{walk-left, walk-spent, walk-bad}
use Rattle.sync_repair.proofs.repairing.walk.Goals as goal

pub keep-requires-clause-left : goal.keep-requires-clause-left
keep-requires-clause-left c = λ d.
    walk-left d.args.syncs.now.case d.shrink.new.oracle.case d.shrink.ensures.stays.setting d.in-Ok-Kept.field-0 d.in-Ok-Kept.needs d.as_slice.result.now
    d.in-Ok-Kept.ensures.shrunk d.in-Ok-Kept.field-0-is d.as_slice.ensures

pub spent-requires-clause-asked : goal.spent-requires-clause-asked
spent-requires-clause-asked c = λ d.
    walk-spent d.args.syncs.now.case d.shrink.new.oracle.case d.shrink.ensures.stays.setting _ (d.in-Err-Spent.ensures.spent d.in-Err-Spent.field-0-is)

pub returns-in-Ok-NoneSuffice-clause-repaired : goal.returns-in-Ok-NoneSuffice-clause-repaired
returns-in-Ok-NoneSuffice-clause-repaired c = λ d.
    walk-bad d.args.syncs.now.case d.in-Ok-NoneSuffice.field-0 d.in-Ok-NoneSuffice.crash d.in-Ok-NoneSuffice.ensures.shrunk d.in-Ok-NoneSuffice.field-0-is
