use Rattle.order_coding.proofs.CrashLaw.{crash-values}
use Rattle.order_coding.proofs.laws.crashes_have_values.Goals as goal

pub returns : goal.returns
returns c = λ events kept crash forward h. crash-values events kept crash forward h
