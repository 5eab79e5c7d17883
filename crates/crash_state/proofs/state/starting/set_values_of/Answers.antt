use Rattle.std.proofs.Common.{List, ℕ, Option, ◌<◌, ◌∷◌, ◌++◌, [], length, map, take, ◌+◌, sym, ◌∙◌, ap, arith, length-set, zero-add}
use Rattle.std.specs.List.{range_with_len}
use Rattle.std.proofs.lemmas.List.{take_more_set}
use Rattle.std.proofs.lemmas.List.FromFn.{map-range_with_len_more}
use Rattle.fer_events.specs.States.{value_set}
use Rattle.crash_state.proofs.state.starting.set_values_of.Goals as goal

pub loop-file-preserved : goal.loop-file-preserved
loop-file-preserved c =
    let value : ℕ → Option ℕ = λ f. value_set c.args.attrs.now f c.args.key in
    let here : c.loop-file.file < length c.loop-file.values = omega arith in
    record {
      places = ap length c.set.ensures ∙ length-set c.loop-file.values c.loop-file.file c.starting_value.result ∙ c.loop-file.invariant.places;
      done =
          ap (take (c.loop-file.file + 1)) c.set.ensures
          ∙ take_more_set c.loop-file.values c.loop-file.file c.starting_value.result here
          ∙ ap (λ (vs : List (Option ℕ)). vs ++ c.starting_value.result ∷ []) c.loop-file.invariant.done
          ∙ ap (λ (v : Option ℕ). map value (range_with_len 0 c.loop-file.file) ++ v ∷ []) c.starting_value.ensures
          ∙ sym (map-range_with_len_more value 0 c.loop-file.file c.loop-file.file (zero-add c.loop-file.file));
    }
