use Rattle.std.proofs.Common.{length}
use Rattle.sync_repair.specs.Oracles.{IsBadIn}
use Rattle.sync_repair.proofs.Walks.{none-spent, question-within, question-repaired}
use Rattle.sync_repair.proofs.repairing.spent.Goals as goal

pub unreachable-requires : goal.unreachable-requires
unreachable-requires c = λ d. none-spent (IsBadIn d.args.syncs.now.case) (length d.args.syncs.now.case.sites) d.args.syncs.now.spent d.in-None.is d.requires.asked

pub findings_of-requires-clause-about : goal.findings_of-requires-clause-about
findings_of-requires-clause-about c = λ d. d.requires.ready.about

pub findings_of-requires-clause-within : goal.findings_of-requires-clause-within
findings_of-requires-clause-within c = λ d.
    let syncs = d.args.syncs.now in
    question-within syncs.case syncs.series syncs.limit syncs.spent d.requires.ready d.in-Some.question d.in-Some.is

pub returns : goal.returns
returns c = λ d.
    let syncs = d.args.syncs.now in
    question-repaired syncs.case syncs.series syncs.limit syncs.spent d.requires.ready d.in-Some.question d.in-Some.is d.requires.asked
    d.as_slice.result.now d.in_ok-findings-in-Some.findings d.as_slice.ensures d.in_ok-findings-in-Some.ensures
