use Rattle.std.proofs.Common.{◌≡◌, ◌≢◌, List, refl, sym, subst, ◌∙◌}
use Rattle.std.specs.List.{Contains}
use Rattle.std.proofs.lemmas.Option.{same_Some}
use Rattle.clause_store.specs.declared.Lit.{Lit}
use Rattle.watch_lists.proofs.Choosing.{another}
use Rattle.watch_lists.proofs.Watches.attach.Goals as goal

pub second_watch-second-requires-clause-two : goal.second_watch-second-requires-clause-two
second_watch-second-requires-clause-two c =
    let k = c.requires.can in
    let same : k.0 ≡ c.clause-clause.result.now = same_Some k.0 c.clause-clause.result.now (sym k.1 ∙ c.clause-clause.ensures.clause) in
    let P : List Lit → Type 0 = λ cl. (m : Lit) × Contains cl m × (m ≢ c.first_watch-first.result) in
    subst P same (another k.0 c.first_watch-first.result k.3)

pub returns-clause-attached : goal.returns-clause-attached
returns-clause-attached c = (
  (record { clause = c.args.id; first = c.first_watch-first.result; second = c.second_watch-second.result }),
  c.in_ok-watch.ensures.attached,
  refl,
  (c.clause-clause.result.now, c.clause-clause.ensures.clause, c.first_watch-first.ensures.has, c.second_watch-second.ensures.has, c.second_watch-second.ensures.other, c.first_watch-first.ensures.not_false, c.second_watch-second.ensures.good),
)
