use Rattle.order_coding.proofs.Decoding.{crashes}
use Rattle.order_coding.proofs.Meaning.{meant}
use Rattle.order_coding.proofs.laws.decoded_crashes_are_crashes.Goals as goal

pub returns : goal.returns
returns c = λ events kept values crash rise forward true_all d. crashes values events crash d kept rise forward (meant values events kept true_all)
