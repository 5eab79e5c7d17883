use Rattle.std.proofs.Common.{rules, ◌≡◌, ℕ, Err, List, ◌∙◌, subst}
use Rattle.model_reader.specs.Faults.{names_for}
use Rattle.model_reader.specs.Drafts.{IsValueFault}
use Rattle.line_files.specs.declared.fault.LineFault.TheVariants.{Bad}
use Rattle.model_reader.proofs.draft.Draft.defined.Goals as goal

pub returns-then-recursive-clause-fault : goal.returns-then-recursive-clause-fault
returns-then-recursive-clause-fault c = λ kind e.
    let same : c.as_slice-then-recursive.result.now ≡ names_for c.args.self.now.names c.args.recursive c.args.name.now = search rules in
    subst (λ (names : List (List ℕ)). IsValueFault names c.args.value.now kind) same (c.value_of.ensures.fault kind e)

pub returns-in-Err-clause-fault : goal.returns-in-Err-clause-fault
returns-in-Err-clause-fault c = λ kind e.
    let same : c.as_slice-2.result.now ≡ names_for c.args.self.now.names c.args.recursive c.args.name.now = search rules in
    let bad : c.value_of-2.result ≡ Err (Bad kind) = c.in-Err.is ∙ e in
    subst (λ (names : List (List ℕ)). IsValueFault names c.args.value.now kind) same (c.value_of-2.ensures.fault kind bad)
