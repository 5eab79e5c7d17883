use Rattle.std.proofs.Common.{rules, ◌≡◌, subst, sym}
use Rattle.litmus_syntax.specs.Test.{Test}
use Rattle.litmus_syntax.specs.Limits.{IsWithinLimits}
use Rattle.litmus_syntax.specs.Sites.{with_sites}
use Rattle.litmus_syntax.proofs.Inserting.{still_within}
use Rattle.litmus_syntax.proofs.site.insert.Goals as goal

pub new-requires : goal.new-requires
new-requires c =
    let made : Test = record { name = c.in_ok-name.name; block = c.block-block.result; setup = c.in_ok-setup.setup; body = c.in_ok-body.body; want = c.want-want.result; pred = c.in_ok-pred.pred; pred_line = c.pred_line.result; version = c.version-version.result; sector = c.sector-sector.result } in
    let same : made ≡ record c.args.litmus.now { body = with_sites 1 c.args.litmus.now.body c.args.sites.now } = search rules in
    subst IsWithinLimits (sym same) (still_within c.args.litmus.now c.args.sites.now c.requires.syncs c.requires.outside c.keeps_limits.ensures)
