use Rattle.std.proofs.Common.{sym, ◌∙◌}
use Rattle.call_events.proofs.Outcomes.{inserted_first}
use Rattle.call_events.proofs.laws.inserted_first.Goals as goal

pub returns-clause-same_events : goal.returns-clause-same_events
returns-clause-same_events c = λ litmus sites t. (λ has. sym (inserted_first litmus sites) ∙ has, λ has. inserted_first litmus sites ∙ has)

pub returns-clause-same_refusal : goal.returns-clause-same_refusal
returns-clause-same_refusal c = λ litmus sites i k. (λ has. sym (inserted_first litmus sites) ∙ has, λ has. inserted_first litmus sites ∙ has)
