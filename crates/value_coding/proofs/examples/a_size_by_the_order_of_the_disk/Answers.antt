use Rattle.value_coding.proofs.GeneralExamples.{extends-last, extends-size, extends-after, extends-forward}
use Rattle.value_coding.proofs.examples.a_size_by_the_order_of_the_disk.Goals as goal

pub returns-clause-last : goal.returns-clause-last
returns-clause-last c = extends-last

pub returns-clause-size : goal.returns-clause-size
returns-clause-size c = extends-size

pub returns-clause-after : goal.returns-clause-after
returns-clause-after c = extends-after

pub returns-clause-forward : goal.returns-clause-forward
returns-clause-forward c = extends-forward
