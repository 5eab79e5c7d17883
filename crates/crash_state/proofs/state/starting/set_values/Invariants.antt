use Rattle.std.proofs.Common.{◌≡◌, All, length, map, take}
use Rattle.std.specs.List.{range_with_len}
use Rattle.fer_events.specs.States.{value_set}
use Rattle.crash_state.proofs.state.starting.set_values.Given as goal

-- the keys so far have the values that the setup gave, and every key has a place for each file
abbrev pub invariant-loop-key : goal.invariant-loop-key
invariant-loop-key l = record {
  places : All (λ values. length values ≡ l.files) l.keys;
  done : take l.key l.keys ≡ map (λ key. map (λ file. value_set l.attrs file key) (range_with_len 0 l.files)) (range_with_len 0 l.key);
}
