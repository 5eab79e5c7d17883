use Rattle.order_coding.specs.Families.{order_clauses}
use Rattle.value_coding.proofs.LastValues.{value-values}
use Rattle.value_coding.proofs.laws.crashes_have_last_writers.Goals as goal

pub returns : goal.returns
returns c = λ events kept cells crash forward h.
    value-values events kept cells crash h (c.crashes_have_values.ensures events kept crash forward h)
    (λ v more long d. c.longer_values_describe_the_same.ensures _ v more crash long d)
    (λ v more over. c.longer_values_change_nothing.ensures.clauses v more (order_clauses events kept) over)
    (c.clauses_are_over_their_variables.ensures events kept forward)
