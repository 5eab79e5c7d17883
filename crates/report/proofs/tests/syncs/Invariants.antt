use Rattle.std.proofs.Common.{◌≡◌, All}
use Rattle.litmus_syntax.specs.declared.call.Call.TheVariants.{Sync}
use Rattle.report.proofs.tests.syncs.Given as goal

abbrev pub invariant-loop : goal.invariant-loop
invariant-loop l = All (λ site. site ≡ record { after = 1; call = Sync }) l.sites.items
