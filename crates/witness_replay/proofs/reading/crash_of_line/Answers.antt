use Rattle.std.proofs.Common.{ℕ, List, ◌++◌, length, sym, ◌∙◌, ap, arith}
use Rattle.std.proofs.lemmas.Bool.{eqb-true}
use Rattle.numerals.proofs.Digits.{not_zero}
use Rattle.witness_replay.proofs.CrashReading.{no_bar, no_end, line_is, few_read}
use Rattle.witness_replay.proofs.reading.crash_of_line.Goals as goal

pub overflow_cast-cut : goal.overflow_cast-cut
overflow_cast-cut c =
    let few = few_read c.args.line.now c.in-Some.bytes.now c.in_ok-rest.ensures.0 c.in_ok-rest.rest.now c.in-Some.ensures c.in_ok-rest.ensures.1.0 in
    let count = ap (λ (l : List ℕ). length l) (c.in_ok-rest.ensures.2 ∙ ap (λ (l : List ℕ). l ++ c.in_ok-rest.ensures.0) c.new-order.ensures.items) in
    omega (arith, few, count, c.requires, c.len-cut.ensures)

pub returns-in_default-behind_bar : goal.returns-in_default-behind_bar
returns-in_default-behind_bar c = λ crash is.
    no_bar c.args.line.now c.in-Some.bytes.now c.in_ok-rest.ensures.0 c.in_ok-rest.rest.now crash c.in-Some.ensures c.in_ok-rest.ensures.1 c.in_default-behind_bar.ensures is

pub returns-then-not-is_empty : goal.returns-then-not-is_empty
returns-then-not-is_empty c = λ crash is.
    no_end c.args.line.now c.in-Some.bytes.now c.in_ok-rest.ensures.0 c.in_ok-rest.rest.now c.in-Some-behind_bar.behind.now c.in_ok-rest-2.ensures.0 c.in_ok-rest-2.rest.now crash
    c.in-Some.ensures c.in_ok-rest.ensures.1 c.in-Some-behind_bar.ensures c.in_ok-rest-2.ensures.1
    (λ e. omega (arith, not_zero (length c.in_ok-rest-2.rest.now) (sym c.is_empty.ensures ∙ c.if-not-is_empty.true), ap (λ (l : List ℕ). length l) e)) is

pub returns : goal.returns
returns c =
    let first = c.in_ok-rest.ensures.2 ∙ ap (λ (l : List ℕ). l ++ c.in_ok-rest.ensures.0) c.new-order.ensures.items in
    line_is c.args.line.now c.in-Some.bytes.now c.in_ok-rest.ensures.0 c.in_ok-rest.rest.now c.in-Some-behind_bar.behind.now c.in_ok-rest-2.ensures.0 c.in_ok-rest-2.rest.now
    c.from_vec.result c.len-cut.result c.in-Some.ensures c.in_ok-rest.ensures.1.0 c.in-Some-behind_bar.ensures c.in_ok-rest-2.ensures.1.0
    (eqb-true (length c.in_ok-rest-2.rest.now) 0 (sym c.is_empty.ensures ∙ c.if-not-is_empty.false))
    (c.from_vec.ensures ∙ c.in_ok-rest-2.ensures.2 ∙ ap (λ (l : List ℕ). l ++ c.in_ok-rest-2.ensures.0) first)
    (omega (arith, c.len-cut.ensures, ap (λ (l : List ℕ). length l) first))
