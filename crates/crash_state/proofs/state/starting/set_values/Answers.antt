use Rattle.std.proofs.Common.{◌≡◌, List, ℕ, Option, ◌<◌, ◌∷◌, ◌++◌, [], length, map, sym, ◌∙◌, ap, arith, zero-add}
use Rattle.std.specs.List.{range_with_len}
use Rattle.std.proofs.lemmas.List.{take_more_set}
use Rattle.std.proofs.lemmas.List.Elements.{All-set, All-get_or}
use Rattle.std.proofs.lemmas.List.FromFn.{map-range_with_len_more, length-map-range_with_len}
use Rattle.fer_events.specs.States.{value_set}
use Rattle.crash_state.proofs.state.starting.set_values.Goals as goal

pub loop-key-preserved : goal.loop-key-preserved
loop-key-preserved c =
    let attrs = c.args.attrs.now in
    let key = c.loop-key.key in
    let values : ℕ → List (Option ℕ) = λ k. map (λ file. value_set attrs file k) (range_with_len 0 c.args.files) in
    let here : key < length c.loop-key.keys = omega arith in
    let len = All-get_or (λ (vs : List (Option ℕ)). length vs ≡ c.args.files) c.loop-key.keys key c.index-keys-key.result here c.loop-key.invariant.places in
    let made = c.set_values_of.ensures ∙ ap (λ (n : ℕ). map (λ file. value_set attrs file key) (range_with_len 0 n)) len in
    record {
      places = All-set (λ vs. length vs ≡ c.args.files) c.loop-key.keys key c.set_values_of.new.values (ap length made ∙ length-map-range_with_len (λ file. value_set attrs file key) 0 c.args.files) c.loop-key.invariant.places;
      done =
          take_more_set c.loop-key.keys key c.set_values_of.new.values here
          ∙ ap (λ (vs : List (List (Option ℕ))). vs ++ c.set_values_of.new.values ∷ []) c.loop-key.invariant.done
          ∙ ap (λ (vs : List (Option ℕ)). map values (range_with_len 0 key) ++ vs ∷ []) made
          ∙ sym (map-range_with_len_more values 0 key key (zero-add key));
    }
