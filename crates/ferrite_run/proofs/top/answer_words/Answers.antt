use Rattle.std.proofs.Common.{ℕ, List, subst}
use Rattle.std.proofs.lemmas.Result.{IfOk-weaker}
use Rattle.fer_outside.specs.Causes.{Rose}
use Rattle.ferrite_run.specs.Answers.{IsAnswer}
use Rattle.ferrite_run.specs.Choices.{choice_words}
use Rattle.ferrite_run.specs.Saying.{SaysOne}
use Rattle.ferrite_run.specs.Found.{IsFound, IsFoundReply}
use Rattle.ferrite_run.proofs.Ready.{says_more}
use Rattle.ferrite_run.proofs.Finding.{answered_found, unasked_found, found_in_range}
use Rattle.ferrite_run.proofs.top.answer_words.Goals as goal

pub returns-in-Ok-clause-answered : goal.returns-in-Ok-clause-answered
returns-in-Ok-clause-answered g c =
    let told = g.L.Library.held c.args.library.now in
    let rose : List ℕ → Type 0 = λ name. Rose (g.L.Library.faults c.args.library.now name) (g.L.Library.faults c.answer_found.new.library name) in
    let words = c.args.words.now in
    let choices = choice_words c.args.branchers.items in
    let found : IsFound words choices c.in-Ok.found = subst (λ cs. IsFound words (choice_words cs) c.in-Ok.found) c.as_slice.ensures.value c.in-Ok.ensures.read in
    IfOk-weaker c.answer_found.result (SaysOne (IsFoundReply told rose c.in-Ok.found)) (SaysOne (IsAnswer told rose words choices))
    (λ said. says_more (IsFoundReply told rose c.in-Ok.found) (IsAnswer told rose words choices) said
    (answered_found told rose words choices c.in-Ok.found found (c.one_command.ensures.one words choices)))
    c.answer_found.ensures.answered

pub returns-in-Ok-clause-untouched : goal.returns-in-Ok-clause-untouched
returns-in-Ok-clause-untouched g c = λ none.
    let words = c.args.words.now in
    let choices = choice_words c.args.branchers.items in
    let found : IsFound words choices c.in-Ok.found = subst (λ cs. IsFound words (choice_words cs) c.in-Ok.found) c.as_slice.ensures.value c.in-Ok.ensures.read in
    c.answer_found.ensures.untouched (unasked_found words choices c.in-Ok.found found none)

pub answer_found-requires : goal.answer_found-requires
answer_found-requires g c =
    let words = c.args.words.now in
    let choices = choice_words c.args.branchers.items in
    record { in_range = found_in_range words choices c.in-Ok.found (subst (λ cs. IsFound words (choice_words cs) c.in-Ok.found) c.as_slice.ensures.value c.in-Ok.ensures.read) }
