use Rattle.std.proofs.Common.{refl, subst}
use Rattle.ferrite_run.specs.Delivering.{IsProperFront}
use Rattle.ferrite_run.specs.Delivered.IsDelivered.{unwritten}
use Rattle.ferrite_run.proofs.delivering.deliver.Goals as goal

pub returns-else-write_whole-clause-delivered : goal.returns-else-write_whole-clause-delivered
returns-else-write_whole-clause-delivered g c =
    let (front, proper, grew) = c.if-write_whole.ensures.whole in
    unwritten refl front (subst (IsProperFront front) c.as_slice.ensures.value proper) grew c.if-write_whole.ensures.failed c.in-Ok.ensures.kept
