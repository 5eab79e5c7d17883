use Rattle.std.proofs.Common.{◌∙◌}
use Rattle.question_series.proofs.Told.{about-stays}
use Rattle.question_series.proofs.tests.note_all.Goals as goal

pub note_answer-requires-2-clause-about : goal.note_answer-requires-2-clause-about
note_answer-requires-2-clause-about c =
    let (pred, want, about) = c.requires.about in
    let first = c.in_ok-note_answer.ensures in
    (pred, want, about-stays c.args.series.now c.note_answer.new.series c.args.events.now pred want first.vars first.clauses about)

pub note_answer-requires-3-clause-about : goal.note_answer-requires-3-clause-about
note_answer-requires-3-clause-about c =
    let (pred, want, about) = c.requires.about in
    let first = c.in_ok-note_answer.ensures in
    let second = c.in_ok-note_answer-2.ensures in
    (pred, want, about-stays c.args.series.now c.note_answer-2.new.series c.args.events.now pred want (second.vars ∙ first.vars) (second.clauses ∙ first.clauses) about)

pub note_part-requires-clause-about : goal.note_part-requires-clause-about
note_part-requires-clause-about c =
    let (pred, want, about) = c.requires.about in
    let first = c.in_ok-note_answer.ensures in
    let second = c.in_ok-note_answer-2.ensures in
    let third = c.in_ok-note_answer-3.ensures in
    (pred, want, about-stays c.args.series.now c.note_answer-3.new.series c.args.events.now pred want (third.vars ∙ second.vars ∙ first.vars) (third.clauses ∙ second.clauses ∙ first.clauses) about)
