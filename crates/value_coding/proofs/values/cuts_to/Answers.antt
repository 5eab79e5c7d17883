use Rattle.std.proofs.Common.{◌≡◌, leb, true, sym, ◌∙◌, arith}
use Rattle.std.proofs.lemmas.Bool.Decides.{nat_tests}
use Rattle.value_coding.proofs.StartValues.{zeros}
use Rattle.value_coding.proofs.values.cuts_to.Goals as goal

pub returns : goal.returns
returns c =
    let below : leb c.args.size c.args.at ≡ true = grind (arith, nat_tests, c.if-size-at.false) in
    rw below (c.is_zero.ensures ∙ sym (zeros c.args.text.now))
