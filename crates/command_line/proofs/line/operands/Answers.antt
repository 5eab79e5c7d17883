use Rattle.std.proofs.Common.{rules, ap, ap₂, refl, codes, true, Some, ◌≡◌, ◌∙◌}
use Rattle.clap.specs.Words.{App, Rule, app_of, new_app, new_rule, rule_of, with_rule}
use Rattle.command_line.specs.SimpleCommand.{bare_app, operands_app}
use Rattle.command_line.proofs.line.operands.Goals as goal

needed : Rule
needed = record (new_rule (codes "command")) { required = true }

pub returns : goal.returns
returns c =
    let bare : app_of c.disable_version_flag-command.result ≡ bare_app = search rules in
    let r0 : rule_of c.required.result ≡ record (new_rule (codes "command")) { required = true } = search rules in
    let r1 : rule_of c.new-3.result ≡ new_rule (codes "first") = search rules in
    let r2 : rule_of c.new-4.result ≡ new_rule (codes "second") = search rules in
    let r3 : rule_of c.new-5.result ≡ new_rule (codes "third") = search rules in
    let r4 : rule_of c.new-6.result ≡ new_rule (codes "fourth") = search rules in
    c.in_ok-command-5.ensures.shape (search rules)
    ∙ ap₂ with_rule (c.in_ok-command-4.ensures.shape (search rules)
    ∙ ap₂ with_rule (c.in_ok-command-3.ensures.shape (search rules)
    ∙ ap₂ with_rule (c.in_ok-command-2.ensures.shape (search rules)
    ∙ ap₂ with_rule (c.in_ok-command.ensures.shape (search rules)
    ∙ ap₂ with_rule bare r0) r1) r2) r3) r4
