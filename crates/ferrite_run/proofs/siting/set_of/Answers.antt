use Rattle.std.proofs.Common.{◌≡◌, ℕ, Bool, List, [], ◌∷◌, ◌++◌, length, map, ◌∙◌, ap, subst, arith}
use Rattle.std.specs.List.{range_with_len}
use Rattle.ferrite_run.specs.Usable.{is_named}
use Rattle.ferrite_run.proofs.Numbers.{named_numbers, named_size, named_next}
use Rattle.ferrite_run.proofs.siting.set_of.Goals as goal

pub loop-place-preserved : goal.loop-place-preserved
loop-place-preserved c =
    c.in_ok-push.ensures.items ∙ ap (λ (b : Bool). c.loop-place.set.items ++ b ∷ []) c.is_among.ensures
    ∙ named_next c.args.numbers.now c.loop-place.place c.loop-place.set.items c.loop-place.invariant

pub returns-clause-numbers : goal.returns-clause-numbers
returns-clause-numbers c =
    let over = c.loop-place-test.false in
    let within = c.loop-place.auto.place-end in
    let same : c.loop-place.place ≡ c.args.count = omega (arith, over, within) in
    named_numbers c.args.count c.args.numbers.now c.loop-place.set.items c.requires.ascending c.requires.numbered c.requires.within
    (c.loop-place.invariant ∙ ap (λ (n : ℕ). map (is_named c.args.numbers.now) (range_with_len 1 n)) same)

pub returns-clause-full : goal.returns-clause-full
returns-clause-full c =
    let over = c.loop-place-test.false in
    let within = c.loop-place.auto.place-end in
    let same : c.loop-place.place ≡ c.args.count = omega (arith, over, within) in
    named_size c.loop-place.place c.args.numbers.now c.loop-place.set.items c.loop-place.invariant ∙ same
