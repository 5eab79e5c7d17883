use Rattle.ferrite_run.proofs.Sequential.{sequential_keeps}
use Rattle.ferrite_run.proofs.laws.sequential_keeps_all.Goals as goal

pub returns : goal.returns
returns c = record { all = sequential_keeps c.one_reading.ensures.one_model }
