use Rattle.std.proofs.Common.{length}
use Rattle.sync_repair.proofs.Notings.{left-undecided, noted-ready, noted-stays, noted-counted, noted-set}
use Rattle.sync_repair.proofs.asking.SyncsOracle.ask.Goals as goal

pub returns-in-Ok-Spent-clause-ready : goal.returns-in-Ok-Spent-clause-ready
returns-in-Ok-Spent-clause-ready c = λ d.
    noted-ready d.args.self.now.case d.note.new.self.case d.ask_set.new.series d.note.new.self.series d.args.self.now.limit d.note.new.self.limit d.args.present.now
    d.learned-before.result d.args.self.now.count d.note.new.self.count d.note.new.self.spent d.note.result d.note.ensures.case d.note.ensures.series d.note.ensures.limit
    d.requires.ready.setting d.in-Ok-Spent.ensures.about
    (left-undecided d.args.self.now.case d.args.present.now d.args.self.now.limit d.learned-before.result d.args.self.now.series d.ask_set.new.series d.in-Ok-Spent.field-0
    d.in-Ok-Spent.ensures.answered d.in-Ok-Spent.field-0-is d.learned-before.ensures) d.note.ensures.noted

pub returns-in-Ok-Spent-clause-stays : goal.returns-in-Ok-Spent-clause-stays
returns-in-Ok-Spent-clause-stays c = λ d.
    noted-stays d.args.self.now.case d.note.new.self.case d.args.self.now.limit d.note.new.self.limit d.args.present.now
    d.learned-before.result d.args.self.now.count d.note.new.self.count d.note.new.self.spent d.note.result d.note.ensures.case d.note.ensures.limit
    (λ h. d.in-Ok-Spent.ensures.endless h d.in-Ok-Spent.field-0-is) d.note.ensures.noted

pub returns-in-Ok-Spent-clause-counted : goal.returns-in-Ok-Spent-clause-counted
returns-in-Ok-Spent-clause-counted c = λ d. noted-counted d.args.present.now d.learned-before.result d.args.self.now.count d.note.new.self.count d.note.new.self.spent d.note.result d.note.ensures.noted

pub returns-in-Ok-Spent-clause-spent : goal.returns-in-Ok-Spent-clause-spent
returns-in-Ok-Spent-clause-spent c = λ d. noted-set d.args.present.now d.learned-before.result d.args.self.now.count d.note.new.self.count d.note.new.self.spent d.note.result d.note.ensures.noted
