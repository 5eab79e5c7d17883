use Rattle.std.proofs.Common.{◌≡◌, length, map, take}
use Rattle.crash_state.proofs.state.starting.set_sizes.Given as goal

-- the sizes so far are those of the contents so far
abbrev pub invariant-loop-file : goal.invariant-loop-file
invariant-loop-file l = take l.file l.sizes ≡ map (λ content. length content) (take l.file l.contents)
