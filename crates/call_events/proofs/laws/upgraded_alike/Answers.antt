use Rattle.std.proofs.Common.{sym, ◌∙◌}
use Rattle.call_events.proofs.Alike.{upgraded}
use Rattle.call_events.proofs.laws.upgraded_alike.Goals as goal

pub returns-clause-same_events : goal.returns-clause-same_events
returns-clause-same_events c = λ litmus sites t. (λ has. sym (upgraded litmus sites) ∙ has, λ has. upgraded litmus sites ∙ has)

pub returns-clause-same_refusal : goal.returns-clause-same_refusal
returns-clause-same_refusal c = λ litmus sites i k. (λ has. sym (upgraded litmus sites) ∙ has, λ has. upgraded litmus sites ∙ has)
