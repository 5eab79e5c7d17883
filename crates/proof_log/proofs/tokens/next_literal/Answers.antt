use Rattle.std.proofs.Common.{List, ℕ, sym, subst}
use Rattle.proof_log.specs.LogFiles.{IsNumber}
use Rattle.proof_log.proofs.TokenSpans.{literal_span}
use Rattle.proof_log.proofs.tokens.next_literal.Goals as goal

pub returns-then-not-is_number-clause-found : goal.returns-then-not-is_number-clause-found
returns-then-not-is_number-clause-found c = λ l d r begins.
    let spans = literal_span c.args.line.now c.split_sign-positive.result.1.now c.split_digits.result.0.now c.split_digits.result.1.now c.split_sign-positive.result.0 l d r
    c.split_sign-positive.ensures.spelled c.split_sign-positive.ensures.first c.split_digits.ensures begins in
    c.if-not-is_number.ensures l.var (subst (λ (x : List ℕ). IsNumber x l.var) (sym spans.0) begins.number)

pub returns-in_default-clause-found : goal.returns-in_default-clause-found
returns-in_default-clause-found c = λ l d r begins.
    let spans = literal_span c.args.line.now c.split_sign-positive.result.1.now c.split_digits.result.0.now c.split_digits.result.1.now c.split_sign-positive.result.0 l d r
    c.split_sign-positive.ensures.spelled c.split_sign-positive.ensures.first c.split_digits.ensures begins in
    c.in_default.ensures r spans.1
