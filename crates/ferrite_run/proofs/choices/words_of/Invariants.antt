use Rattle.std.proofs.Common.{◌≡◌, map, take}
use Rattle.ferrite_run.specs.Choices.{choice_words}
use Rattle.ferrite_run.proofs.choices.words_of.Given as goal

abbrev pub invariant-loop-choice : goal.invariant-loop-choice
invariant-loop-choice g l = map (λ word. word.now) l.words.items ≡ choice_words (take l.choice-index l.choices)
