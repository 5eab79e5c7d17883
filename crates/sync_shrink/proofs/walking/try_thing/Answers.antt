use Rattle.std.proofs.Common.{subst}
use Rattle.sync_shrink.specs.Sets.{without}
use Rattle.sync_shrink.specs.Walk.{IsReply}
use Rattle.sync_shrink.proofs.SetLaws.{set-back}
use Rattle.sync_shrink.proofs.walking.try_thing.Goals as goal

pub returns-in-Bad-clause-tried : goal.returns-in-Bad-clause-tried
returns-in-Bad-clause-tried g c = (
  set-back c.args.present.now c.args.thing c.requires.has,
  subst (IsReply (g.O.Oracle.bad c.args.oracle.now) (g.O.Oracle.shows c.args.oracle.now) (without c.args.thing c.args.present.now)) c.in-Bad.is c.in_ok-crash.ensures.answered,
)
