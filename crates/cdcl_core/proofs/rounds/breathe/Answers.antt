use Rattle.std.proofs.Common.{refl}
use Rattle.cdcl_core.proofs.Deciding.{footing-start}
use Rattle.cdcl_core.proofs.rounds.breathe.Goals as goal

pub returns-then-tick-clause-footing : goal.returns-then-tick-clause-footing
returns-then-tick-clause-footing c = footing-start c.args._assumptions.now c.restart.new.engine.trail _ c.restart.ensures.sound.search.course c.restart.ensures.level refl refl
