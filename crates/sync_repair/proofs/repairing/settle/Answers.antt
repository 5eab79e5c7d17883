use Rattle.std.proofs.Common.{ℕ, ◌≤◌, length, sym, subst}
use Rattle.sync_repair.proofs.Walks.{left-unreached, left-repaired, left-spent}
use Rattle.sync_repair.proofs.repairing.settle.Goals as goal

pub unreachable-requires : goal.unreachable-requires
unreachable-requires c = λ d.
    left-unreached d.args.syncs.now.case d.requires.ready.setting d.args.set.now d.requires.left d.args.syncs.now.limit d.args.syncs.now.series d.ask_set.new.series
    d.in_ok-ask_set.field-0 d.in-Allowed.field-0 d.in_ok-ask_set.ensures.answered d.in-Allowed.is

pub findings_of-requires-clause-within : goal.findings_of-requires-clause-within
findings_of-requires-clause-within c = λ d.
    subst (λ (n : ℕ). n ≤ length d.ask_set.new.series.learned) (sym d.learned-before.ensures) d.in_ok-ask_set.ensures.grown

pub returns-in_ok-findings-in-Forbidden-clause-repaired : goal.returns-in_ok-findings-in-Forbidden-clause-repaired
returns-in_ok-findings-in-Forbidden-clause-repaired c = λ d.
    left-repaired d.args.syncs.now.case d.requires.ready.setting d.args.set.now d.requires.left d.args.syncs.now.limit d.learned-before.result d.args.syncs.now.series d.ask_set.new.series
    d.in_ok-ask_set.field-0 d.args.needs d.in_ok-findings-in-Forbidden.findings d.in_ok-ask_set.ensures.answered d.in-Forbidden.is d.requires.needs d.in_ok-findings-in-Forbidden.ensures

pub returns-in_ok-findings-in-Spent-clause-repaired : goal.returns-in_ok-findings-in-Spent-clause-repaired
returns-in_ok-findings-in-Spent-clause-repaired c = λ d.
    left-spent d.args.syncs.now.case d.requires.ready.setting d.args.set.now d.requires.left d.args.syncs.now.limit d.learned-before.result d.args.syncs.now.series d.ask_set.new.series
    d.in_ok-ask_set.field-0 d.in_ok-findings-in-Spent.findings d.in_ok-ask_set.ensures.answered d.in-Spent.is d.learned-before.ensures d.in_ok-findings-in-Spent.ensures
