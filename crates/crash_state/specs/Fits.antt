-- When a state and the events of a file program speak of the same things.
use Rattle.std.specs.Prelude.{◌≡◌, length, All}
use Rattle.fer_events.specs.Tables.{Trace, file_count}
use Rattle.fer_events.specs.States.{State}

-- the state has as many slots, files, keys and words as the trace, and a place for each file's value of each key
pub record Fits (s : State) (t : Trace) : Type 0 where
  pub slots : length s.slots ≡ length t.slots
  pub sizes : length s.sizes ≡ file_count t
  pub bytes : length s.bytes ≡ file_count t
  pub keys : length s.attrs ≡ length t.keys
  pub values : All (λ values. length values ≡ file_count t) s.attrs
  pub words : length s.seen ≡ length t.words
