use Rattle.std.proofs.Common.{length, sym, ap, ◌∙◌}
use Rattle.clause_store.specs.Clauses.{Formula}
use Rattle.cdcl_core.proofs.Numbering.{length-numbers}
use Rattle.cdcl_core.proofs.Learned.len.Goals as goal

pub returns : goal.returns
returns c = sym (length-numbers c.self.inside.numbers.now c.self.inside.store.now.clauses) ∙ ap (λ (f : Formula). length f.clauses) c.self.view_is
