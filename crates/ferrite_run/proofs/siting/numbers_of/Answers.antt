use Rattle.std.proofs.Common.{◌≡◌, ℕ, Bool, false, ◌+◌, List, [], ◌∷◌, ◌++◌, length, map, ◌∙◌, ap, sym, subst, arith}
use Rattle.ferrite_run.specs.Repair.{site_numbers}
use Rattle.ferrite_run.proofs.Numbers.{numbers_next, numbers_same}
use Rattle.ferrite_run.proofs.siting.numbers_of.Goals as goal
use Rattle.ferrite_run.proofs.siting.numbers_of.Goals.{then-set-place+in_ok-push, else-set-place}

pub loop-place-preserved : goal.loop-place-preserved
loop-place-preserved c = elim c.if-set-place.branch [
  | then-set-place+in_ok-push w ↦
      w.numbers-is ∙ w.in_ok-push.ensures.ok ∙ ap (λ (l : List ℕ). l ++ (c.loop-place.place + 1) ∷ []) c.loop-place.invariant
      ∙ sym (numbers_next c.args.set.now c.loop-place.place false c.loop-place-test.true w.if-set-place.true)
  | else-set-place w ↦
      w.numbers-is ∙ c.loop-place.invariant ∙ sym (numbers_same c.args.set.now c.loop-place.place false c.loop-place-test.true w.if-set-place.false)
]
