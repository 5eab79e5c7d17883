use Rattle.sync_parts.proofs.Reached.{list-forth, list-back, list-forward}
use Rattle.sync_parts.proofs.laws.one_list_answers_for_all_sites.Goals as goal

pub returns-clause-forth : goal.returns-clause-forth
returns-clause-forth c = λ litmus model sites present t u kept large crash syncs outside all some exact is w.
    list-forth litmus model sites present t u kept large syncs outside all some exact is crash w

pub returns-clause-back : goal.returns-clause-back
returns-clause-back c = λ litmus model sites present t u kept large less syncs outside all some exact is r.
    list-back litmus model sites present t u kept large syncs outside all some exact is less r

pub returns-clause-forward : goal.returns-clause-forward
returns-clause-forward c = λ litmus model sites present t u kept large syncs outside all some exact is forward.
    list-forward litmus model sites present t u kept large syncs outside all some exact is forward
