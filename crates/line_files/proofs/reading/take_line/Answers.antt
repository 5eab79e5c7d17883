use Rattle.std.proofs.Common.{◌≡◌, ◌<◌, List, length, ◌∙◌, ap, subst, inr, rules, arith}
use Rattle.std.proofs.lemmas.Bool.Decides.{nat_tests}
use Rattle.lexeme_reader.specs.declared.reading.Lexeme.{Lexeme}
use Rattle.lexeme_reader.specs.Lexemes.{AreLexemes}
use Rattle.line_files.proofs.reading.take_line.Goals as goal

pub returns-clause-fault : goal.returns-clause-fault
returns-clause-fault g c = λ kind e stated h.
    let same : c.in-Ok.said.items ≡ c.as_slice.result.now = search rules in
    let are = subst (λ (ls : List Lexeme). AreLexemes c.args.line.now ls) same c.in-Ok.ensures.said in
    let some : 0 < length c.in-Ok.said.items = grind (arith, nat_tests, c.if-is_empty.ensures) in
    inr (inr (c.as_slice.result.now, are, (λ none. let empty : length c.in-Ok.said.items ≡ 0 = ap length same ∙ ap length none in omega arith), c.take.ensures.fault kind e stated h))
