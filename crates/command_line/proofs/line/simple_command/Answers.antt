use Rattle.std.proofs.Common.{rules, ap, ap₂, refl, codes, true, Some, ◌≡◌, ◌∙◌}
use Rattle.clap.specs.Words.{App, Rule, app_of, new_app, new_rule, rule_of, with_rule}
use Rattle.command_line.specs.SimpleCommand.{option_rule, operands_app, line_app}
use Rattle.command_line.proofs.line.simple_command.Goals as goal

pub returns : goal.returns
unfolding line_app
returns c =
    let r1 : rule_of c.long.result ≡ option_rule (codes "log") = search rules in
    let r2 : rule_of c.long-2.result ≡ option_rule (codes "conflicts") = search rules in
    let r3 : rule_of c.long-3.result ≡ option_rule (codes "with") = search rules in
    let r4 : rule_of c.long-4.result ≡ option_rule (codes "branch") = search rules in
    c.in_ok-command-5.ensures.shape (search rules)
    ∙ ap₂ with_rule (c.in_ok-command-4.ensures.shape (search rules)
    ∙ ap₂ with_rule (c.in_ok-command-3.ensures.shape (search rules)
    ∙ ap₂ with_rule (c.in_ok-command-2.ensures.shape (search rules)
    ∙ ap₂ with_rule c.in_ok-command.ensures r1) r2) r3) r4
