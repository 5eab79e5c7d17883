use Rattle.std.proofs.Common.{rules, ◌≡◌, ◌≤◌, ℕ, decimal, arith}
use Rattle.command_line.proofs.Numbers.{not_below, not_above}
use Rattle.command_line.proofs.values.number_within.Goals as goal

pub returns-then-number-least : goal.returns-then-number-least
returns-then-number-least c = λ n from to same.
    not_below c.args.word.now c.in_ok-number.number c.args.least n (search rules) (search rules) (search rules) c.if-number-least.true from same

pub returns-then-most-number : goal.returns-then-most-number
returns-then-most-number c = λ n from to same.
    not_above c.args.word.now c.in_ok-number.number c.args.most n (search rules) (search rules) (search rules) c.if-most-number.true to same
