use Rattle.std.proofs.Common.{◌≡◌, true, replicate, rules, sym, subst}
use Rattle.litmus_syntax.specs.declared.pred.Pred.TheVariants.{True}
use Rattle.litmus_syntax.specs.Limits.{IsWithinLimits}
use Rattle.litmus_syntax.specs.Test.{Test}
use Rattle.call_rows.proofs.RowLimits.{row_test, row_limits}
use Rattle.call_rows.proofs.tests.litmus.Goals as goal

pub new-requires : goal.new-requires
new-requires c =
    let made : Test = record { name = c.push.new.self; block = c.args.block; setup = c.in_ok-setup.setup; body = c.in_ok-body.body; want = true; pred = True; pred_line = 13; version = 2; sector = c.args.sector } in
    let same : made ≡ row_test c.args.block c.args.sector c.args.len = search rules in
    subst IsWithinLimits (sym same) (row_limits c.args.block c.args.sector c.args.len c.requires.some c.requires.within c.requires.block)
