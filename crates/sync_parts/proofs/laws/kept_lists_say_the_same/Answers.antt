use Rattle.sync_parts.proofs.Reached.{kept-reaches, reaches-kept}
use Rattle.sync_parts.proofs.laws.kept_lists_say_the_same.Goals as goal

pub returns : goal.returns
returns c = λ litmus model sites t kept crash h exact.
    (λ w. kept-reaches litmus model sites t kept.pairs crash h exact w, λ r. reaches-kept litmus model sites t kept.pairs crash h exact r)
