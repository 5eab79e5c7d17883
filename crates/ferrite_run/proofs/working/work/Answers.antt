use Rattle.model_library.specs.declared.texts.ShippedModel.TheVariants.{Ext4like}
use Rattle.ferrite_run.specs.Done.{Tells}
use Rattle.ferrite_run.specs.Work.{IsWorked}
use Rattle.ferrite_run.specs.Working.{WorkSteps}
use Rattle.ferrite_run.proofs.Ready.{replies_more}
use Rattle.ferrite_run.proofs.Worked.{WorkLaws, steps_worked}
use Rattle.ferrite_run.proofs.working.work.Goals as goal

pub returns : goal.returns
returns g c =
    let seed = c.args.seed in
    let calls = c.args.calls in
    let read = c.shipped_models_are_read.ensures in
    let around = c.shipped_models_keep_syncs.ensures in
    let made = c.generated_tests_are_accepted.ensures in
    let laws : WorkLaws = record {
      one_outcome = c.one_outcome.ensures.events_or_refused;
      never_refused = read.never_refused Ext4like;
      nothing_else = read.nothing_else Ext4like;
      before = around.before Ext4like;
      behind = around.behind Ext4like;
      accepted = made.accepted;
      never_too_many = made.never_too_many;
      repaired = c.syncs_repair_generated_tests.ensures;
    } in
    record { answered = replies_more (WorkSteps seed calls) (Tells (IsWorked seed calls)) c.work_generated.result (steps_worked laws seed calls c.requires.few) c.work_generated.ensures.answered }
