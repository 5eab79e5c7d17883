-- A library and a sink in memory: what they hold, and which of their calls fail.
use Rattle.std.specs.Prelude.{ℕ, ◌-◌, List, ◌++◌, length, take, min, refl}
use Rattle.std.specs.Coded.{Coded, code_by, coded×}
use Rattle.fer_outside.specs.Held.{Held, held_code}
use Rattle.fer_outside.specs.Calls.{Calls, after_success, calls_code}

-- a library: the bytes under its names, and its calls of `fetch`
pub record HeldAndCalls : Type 0 where
  pub held : Held
  pub calls : Calls

-- such a library is stored as the pair of its fields
abbrev pub library_code : Coded HeldAndCalls
library_code =
    code_by (Held × Calls) (coded× held_code calls_code)
    (λ l. (l.held, l.calls)) (λ t. record { held = t.0; calls = t.1 }) (λ _. refl)

-- a sink: what was written, for how many bytes there still is room, how many it takes in one call at most,
-- and its calls of `write`
pub record Tape : Type 0 where
  pub written : List ℕ
  pub room : ℕ
  pub piece : ℕ
  pub calls : Calls

-- how many of these bytes a write that doesn't fail takes
abbrev pub taken : Tape → List ℕ → ℕ
taken tape bytes = min (min (length bytes) tape.piece) tape.room

-- the sink after a write that took the first `count` of these bytes
abbrev pub after_write : Tape → List ℕ → ℕ → Tape
after_write tape bytes count =
    record tape {
      written = tape.written ++ take count bytes;
      room = tape.room - count;
      calls = after_success tape.calls;
    }
