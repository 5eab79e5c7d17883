use Rattle.order_coding.proofs.Longer.{describes-kept}
use Rattle.order_coding.proofs.laws.longer_values_describe_the_same.Goals as goal

pub returns : goal.returns
returns c = λ n values more crash long. describes-kept n values more long crash
