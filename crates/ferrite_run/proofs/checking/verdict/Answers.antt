use Rattle.std.proofs.Common.{ℕ, Bool, Option, unwrap_or, subst, ◌∙◌, ap}
use Rattle.litmus_syntax.specs.declared.pred.Pred.{Pred}
use Rattle.crash_question.specs.Answers.{IsAnswerTo}
use Rattle.ferrite_run.specs.Check.{IsChecked}
use Rattle.ferrite_run.specs.Check.IsChecked.{allowed, forbidden, unknown}
use Rattle.ferrite_run.proofs.Ready.{replies_more}
use Rattle.ferrite_run.proofs.checking.verdict.Goals as goal

pub returns-in-Allowed : goal.returns-in-Allowed
returns-in-Allowed g c =
    let q = c.args.question.now in
    let crash = c.in-Allowed.crash in
    let P : Pred → Bool → Type 0 = λ pred want. IsAnswerTo q.events q.pairs.pairs pred want c.most_learned.result c.in_ok-crash.field-0 in
    let answered = subst (P q.litmus.pred) c.want.ensures (subst (λ pred. P pred c.want.result) c.pred.ensures c.in_ok-crash.ensures.answer) in
    let told = subst (IsAnswerTo q.events q.pairs.pairs q.litmus.pred q.litmus.want c.most_learned.result) c.in-Allowed.is answered in
    record {
      checked = replies_more _ (IsChecked q c.args.search.now) c.replied.result (λ a e. allowed crash told.0 told.1 e) c.replied.ensures.replied;
    }

pub returns-in-Forbidden : goal.returns-in-Forbidden
returns-in-Forbidden g c =
    let q = c.args.question.now in
    let P : Pred → Bool → Type 0 = λ pred want. IsAnswerTo q.events q.pairs.pairs pred want c.most_learned.result c.in_ok-crash.field-0 in
    let answered = subst (P q.litmus.pred) c.want.ensures (subst (λ pred. P pred c.want.result) c.pred.ensures c.in_ok-crash.ensures.answer) in
    let told = subst (IsAnswerTo q.events q.pairs.pairs q.litmus.pred q.litmus.want c.most_learned.result) c.in-Forbidden.is answered in
    record {
      checked = replies_more _ (IsChecked q c.args.search.now) c.replied_plainly.result
          (λ a e. forbidden (λ (crash, is). told.0 crash is) c.in-Forbidden.part c.keeps_rules.ensures told.1 e) c.replied_plainly.ensures.replied;
    }

pub returns-in-Some : goal.returns-in-Some
returns-in-Some g c =
    let q = c.args.question.now in
    let P : Pred → Bool → Type 0 = λ pred want. IsAnswerTo q.events q.pairs.pairs pred want c.most_learned.result c.in_ok-crash.field-0 in
    let answered = subst (P q.litmus.pred) c.want.ensures (subst (λ pred. P pred c.want.result) c.pred.ensures c.in_ok-crash.ensures.answer) in
    let told = subst (IsAnswerTo q.events q.pairs.pairs q.litmus.pred q.litmus.want c.most_learned.result) c.in-Spent.is answered in
    let full = told.1 ∙ c.most_learned.ensures ∙ ap (λ (o : Option ℕ). unwrap_or o 18446744073709551615) c.in-Some.is in
    record {
      checked = replies_more _ (IsChecked q c.args.search.now) c.replied_plainly-in-Some.result
          (λ a e. unknown c.in-Some.limit c.in-Some.is c.in-Spent.part c.keeps_rules-in-Spent.ensures told.0 full e) c.replied_plainly-in-Some.ensures.replied;
    }
