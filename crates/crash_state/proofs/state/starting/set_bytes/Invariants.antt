use Rattle.std.proofs.Common.{◌≡◌, map, take}
use Rattle.fer_events.specs.States.{padded}
use Rattle.crash_state.proofs.state.starting.set_bytes.Given as goal

-- the files so far have the bytes of the contents so far
abbrev pub invariant-loop-file : goal.invariant-loop-file
invariant-loop-file l = take l.file l.files ≡ map padded (take l.file l.contents)
