use Rattle.std.proofs.Common.{◌≡◌}
use Rattle.model_library.specs.Generated.{begun, words_of}
use Rattle.model_library.specs.Drawing.{after}
use Rattle.model_library.proofs.generating.draw.Given as goal

abbrev pub invariant-loop : goal.invariant-loop
invariant-loop l = (l.source ≡ after (begun l.seed) l.counter) × (l.words.items ≡ words_of (begun l.seed) l.counter)
