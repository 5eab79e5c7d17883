use Rattle.order_coding.proofs.Meaning.{meant}
use Rattle.order_coding.proofs.Decoding.{inside-of, of-inside, permutes, ascends, described-before, before-described}
use Rattle.order_coding.proofs.laws.decoded_crashes_are_described.Goals as goal

pub returns-clause-order : goal.returns-clause-order
returns-clause-order c = λ events values crash d. permutes values events crash d

pub returns-clause-inside : goal.returns-clause-inside
returns-clause-inside c = λ events values crash d e is. (of-inside values events crash d e is, λ h. (inside-of values events crash d e h).1)

pub returns-clause-before : goal.returns-clause-before
returns-clause-before c = λ events kept values crash true_all d a b ca cb. (
  described-before values events kept crash (meant values events kept true_all) d a b ca cb,
  before-described values events kept crash (meant values events kept true_all) d a b ca cb,
)

pub returns-clause-ascends : goal.returns-clause-ascends
returns-clause-ascends c = λ events values crash d. ascends values events crash d
