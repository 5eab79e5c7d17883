use Rattle.std.proofs.Common.{◌≡◌, ◌≤◌, ◌∙◌, ℕ, Ok, Bool, true, false, decimal, bytes_eq, sym, ap, arith}
use Rattle.std.proofs.lemmas.Fmt.{parse-decimal}
use Rattle.std.proofs.lemmas.Slice.Eq.{bytes_eq-Decides}
use Rattle.command_line.proofs.values.number_of.Goals as goal

pub returns-in_default : goal.returns-in_default
returns-in_default c = λ n within same. c.in_default.not-Ok n (parse-decimal 32 n _ _ (omega arith) (omega arith) same c.parse.ensures.value.0)

pub returns : goal.returns
returns c = λ n within same.
    let read : c.parse.result ≡ Ok n = parse-decimal 32 n _ _ (omega arith) (omega arith) same c.parse.ensures.value.0 in
    let number : c.in-Ok.number ≡ n = cc (c.in-Ok.is, read) in
    let printed : c.format.result.now ≡ c.args.word.now = c.format.ensures.text ∙ ap decimal number ∙ sym same in
    let equal : bytes_eq c.format.result.now c.args.word.now ≡ true = (bytes_eq-Decides _ _).1 printed in
    cc (equal, c.if-eq.ensures)
