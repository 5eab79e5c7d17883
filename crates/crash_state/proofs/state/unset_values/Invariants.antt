use Rattle.std.proofs.Common.{◌≡◌, All, length, vec_len}
use Rattle.crash_state.proofs.state.unset_values.Given as goal

abbrev pub invariant-loop : goal.invariant-loop
invariant-loop l = record {
  len : vec_len l.all ≡ l.counter;
  places : All (λ values. length values ≡ l.files) l.all.items;
}
