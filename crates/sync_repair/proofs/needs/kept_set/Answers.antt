use Rattle.std.proofs.Common.{false, ◌∙◌}
use Rattle.std.specs.Prelude.{replicate, true}
use Rattle.std.proofs.lemmas.List.{length-set}
use Rattle.sync_repair.proofs.Marking.{marked-next}
use Rattle.sync_repair.proofs.needs.kept_set.Goals as goal

pub loop-place-preserved : goal.loop-place-preserved
loop-place-preserved c =
    let l = c.loop-place in
    let need = c.index-needs-place.result in
    record {
      full = length-set l.set.items _ true ∙ l.invariant.full;
      marked = marked-next c.args.needs.now (replicate c.args.count false) l.set.items l.place need c.loop-place-test.true l.invariant.marked;
    }
