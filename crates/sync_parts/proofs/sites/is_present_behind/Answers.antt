use Rattle.std.proofs.Common.{◌∙◌}
use Rattle.sync_parts.proofs.Steps.{pass-behind, pass-other}
use Rattle.sync_parts.proofs.sites.is_present_behind.Goals as goal
use Rattle.sync_parts.proofs.sites.is_present_behind.Goals.{then-site-number+else-left-eq0, else-site-number}

pub loop-k-preserved : goal.loop-k-preserved
loop-k-preserved c =
    let k = c.loop-k.k in
    let left = c.loop-k.left in
    let site = c.index-sites-k.result in
    let number = c.args.number in
    let sites = c.args.sites.now in
    let present = c.args.present.now in
    elim c.if-site-number.branch [
      | then-site-number+else-left-eq0 w ↦
          rw w.left-is (pass-behind number sites present k left site c.loop-k-test.true c.index-sites-k.is w.if-site-number.true w.if-left-eq0.false ∙ c.loop-k.invariant)
      | else-site-number w ↦
          rw w.left-is (pass-other number sites present k left site c.loop-k-test.true c.index-sites-k.is w.if-site-number.false ∙ c.loop-k.invariant)
    ]
