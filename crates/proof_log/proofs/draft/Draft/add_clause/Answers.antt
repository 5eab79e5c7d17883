use Rattle.std.proofs.Common.{rules, ◌≤◌, List, ◌∙◌, ap}
use Rattle.clause_store.specs.declared.Lit.{Lit}
use Rattle.proof_log.specs.Stages.{with_clause}
use Rattle.proof_log.specs.Reading.{IsGoodClause}
use Rattle.proof_log.proofs.DraftSteps.{added_step}
use Rattle.proof_log.proofs.draft.Draft.add_clause.Goals as goal

pub returns-clause-taken : goal.returns-clause-taken
returns-clause-taken c =
    let d = c.args.self.now in
    let small : d.log.part.vars ≤ 4294967295 = c.keeps_rules.ensures.part.few_vars in
    let good : IsGoodClause d.log.part.vars c.args.line.now c.read_clause.new.lits.items = search rules in
    added_step d c.args.line.now c.read_clause.new.lits.items c.add.new.self c.requires.open c.requires.unclosed small c.requires.filled good
    (c.in_ok-add.ensures.ok ∙ ap (λ (x : List Lit). with_clause d.log x) c.as_slice.ensures.value)
