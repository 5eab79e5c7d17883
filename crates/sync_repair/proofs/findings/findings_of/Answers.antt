use Rattle.sync_repair.proofs.Asked.{asks-about, pairs-size, pairs-forward}
use Rattle.sync_repair.proofs.Finding.{found-part}
use Rattle.sync_repair.proofs.findings.findings_of.Goals as goal

pub part-requires-clause-about : goal.part-requires-clause-about
part-requires-clause-about c = asks-about c.args.case.now c.events.result.now c.args.series.now c.events.ensures c.requires.about

pub part-requires-clause-size : goal.part-requires-clause-size
part-requires-clause-size c = pairs-size c.args.case.now c.keeps_rules.ensures c.args.set.now c.in_ok-pairs.pairs c.in_ok-pairs.ensures c.events.result.now c.events.ensures

pub part-requires-clause-forward : goal.part-requires-clause-forward
part-requires-clause-forward c = pairs-forward c.args.case.now c.keeps_rules.ensures c.args.set.now c.in_ok-pairs.pairs c.in_ok-pairs.ensures c.events.result.now c.events.ensures

pub returns : goal.returns
returns c =
    found-part c.args.case.now c.keeps_rules.ensures c.args.set.now c.in_ok-pairs.pairs c.in_ok-pairs.ensures c.events.result.now c.events.ensures
    c.args.before c.args.closed c.args.series.now c.requires.about c.keeps_rules-2.ensures c.requires.within c.in_ok-part.part c.in_ok-part.ensures c.in_ok-set.set c.in_ok-set.ensures
