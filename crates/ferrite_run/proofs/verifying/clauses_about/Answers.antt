use Rattle.std.proofs.Common.{refl, sym, ◌∙◌}
use Rattle.ferrite_run.specs.Verify.IsAbout.{lifted}
use Rattle.ferrite_run.proofs.verifying.clauses_about.Goals as goal

pub returns-in_ok-store-in-Some-clause-about : goal.returns-in_ok-store-in-Some-clause-about
returns-in_ok-store-in-Some-clause-about c = λ kind named.
    let is = c.in_ok-store-in-Some.ensures.clauses in
    lifted kind c.args.sites.now c.args.set.now named c.in-Some.field-0 (sym c.question.ensures ∙ c.in-Some.is) refl is.all is.resolved is.kept is.are is.is
