use Rattle.std.proofs.Common.{subst, sym}
use Rattle.sync_shrink.specs.Sets.{IsPart, without}
use Rattle.sync_shrink.proofs.SetLaws.{set-back, part-trial}
use Rattle.sync_shrink.proofs.walking.carry_need.Goals as goal

pub carry-requires-clause-part : goal.carry-requires-clause-part
carry-requires-clause-part g c =
    subst (λ t. IsPart (without c.args.need.now.thing c.args.kept.now) t) (sym c.fill_trial.ensures) (part-trial c.args.kept.now c.args.need.now.thing)

pub returns-clause-kept : goal.returns-clause-kept
returns-clause-kept g c = set-back c.args.kept.now c.args.need.now.thing c.requires.early.has
