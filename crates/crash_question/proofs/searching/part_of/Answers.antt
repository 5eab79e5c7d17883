use Rattle.std.proofs.Common.{List, [], ◌∙◌, ap, subst}
use Rattle.std.specs.List.{Contains}
use Rattle.clause_store.specs.declared.Lit.{Lit}
use Rattle.clause_store.specs.Clauses.{Formula}
use Rattle.crash_question.proofs.Copying.{each_has_lits}
use Rattle.crash_question.proofs.searching.part_of.Goals as goal

pub new-requires : goal.new-requires
new-requires c =
    let same = ap (λ (f : Formula). f.clauses) c.in_ok-learned.ensures ∙ ap (λ (f : Formula). f.clauses) c.learned.ensures in
    record {
      filled = each_has_lits c.in_ok-learned.learned.clauses (λ has. c.requires.filled (subst (λ (cs : List (List Lit)). Contains cs []) same has));
    }
