use Rattle.std.proofs.Common.{◌≡◌, length, map, take}
use Rattle.std.specs.List.{range_with_len}
use Rattle.fer_events.specs.States.{value_set}
use Rattle.crash_state.proofs.state.starting.set_values_of.Given as goal

-- the files so far have the values that the setup gave
abbrev pub invariant-loop-file : goal.invariant-loop-file
invariant-loop-file l = record {
  places : length l.values ≡ l.file-end;
  done : take l.file l.values ≡ map (λ file. value_set l.attrs file l.key) (range_with_len 0 l.file);
}
