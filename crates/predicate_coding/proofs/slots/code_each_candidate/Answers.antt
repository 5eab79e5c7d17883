use Rattle.std.proofs.Common.{arith}
use Rattle.predicate_coding.proofs.CodeSlots.{candidates_there}
use Rattle.predicate_coding.proofs.slots.code_each_candidate.Goals as goal

pub fits_of-fits-requires-clause-there : goal.fits_of-fits-requires-clause-there
fits_of-fits-requires-clause-there c =
    (candidates_there c.args.events.now c.args.slot c.args.files.now c.loop-file.file-index 0 c.requires.files (omega arith)).0
