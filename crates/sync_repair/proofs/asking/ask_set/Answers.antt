use Rattle.sync_repair.proofs.Asked.{asks-about, pairs-size, pairs-forward, allowed-reaches, forbidden-settles, spent-leaves}
use Rattle.sync_repair.proofs.asking.ask_set.Goals as goal

pub ask-requires-clause-about : goal.ask-requires-clause-about
ask-requires-clause-about c = λ d. asks-about d.args.case.now d.events.result.now d.args.series.now d.events.ensures d.requires.about

pub ask-requires-clause-size : goal.ask-requires-clause-size
ask-requires-clause-size c = λ d. pairs-size d.args.case.now d.keeps_rules.ensures d.args.set.now d.in_ok-pairs.pairs d.in_ok-pairs.ensures d.events.result.now d.events.ensures

pub ask-requires-clause-forward : goal.ask-requires-clause-forward
ask-requires-clause-forward c = λ d. pairs-forward d.args.case.now d.keeps_rules.ensures d.args.set.now d.in_ok-pairs.pairs d.in_ok-pairs.ensures d.events.result.now d.events.ensures

pub returns-in_ok-leave_out-in-Allowed-clause-answered : goal.returns-in_ok-leave_out-in-Allowed-clause-answered
returns-in_ok-leave_out-in-Allowed-clause-answered c = λ d.
    allowed-reaches d.args.case.now d.keeps_rules.ensures d.args.set.now d.in_ok-pairs.pairs d.in_ok-pairs.ensures d.events.result.now d.events.ensures
    d.args.limit d.args.series.now d.ask.new.self d.in_ok-crash.field-0 d.requires.about d.in_ok-crash.ensures.answer
    d.in-Allowed.crash d.leave_out.new.crash d.in-Allowed.is d.in_ok-leave_out-in-Allowed.ensures

pub returns-in-Forbidden-clause-answered : goal.returns-in-Forbidden-clause-answered
returns-in-Forbidden-clause-answered c = λ d.
    forbidden-settles d.args.case.now d.keeps_rules.ensures d.args.set.now d.in_ok-pairs.pairs d.in_ok-pairs.ensures d.events.result.now d.events.ensures
    d.args.limit d.args.series.now d.ask.new.self d.in_ok-crash.field-0 d.requires.about d.in_ok-crash.ensures.answer d.in-Forbidden.is

pub returns-in-Spent-clause-answered : goal.returns-in-Spent-clause-answered
returns-in-Spent-clause-answered c = λ d.
    spent-leaves d.args.case.now d.keeps_rules.ensures d.args.set.now d.in_ok-pairs.pairs d.in_ok-pairs.ensures d.events.result.now d.events.ensures
    d.args.limit d.args.series.now d.ask.new.self d.in_ok-crash.field-0 d.requires.about d.in_ok-crash.ensures.answer d.in-Spent.is
