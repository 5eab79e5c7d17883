-- What a run comes to.
use Rattle.std.specs.Prelude.{◌≡◌, ℕ, List, Option, Some, None, option_map}
use Rattle.fer_outside.specs.Held.{Held, with_held}
use Rattle.report.specs.Answers.{Answer}

-- what is answered, and the bytes that are kept under a name, if any are
pub record Done : Type 0 where
  pub answer : Answer
  pub kept : Option (List ℕ × List ℕ)

-- this is answered, and nothing is kept
abbrev pub only : Answer → Done
only answer = record { answer = answer; kept = None }

-- an answer is given of which this holds, and nothing is kept
abbrev pub Tells : (Answer → Type 0) → Done → Type 0
Tells Holds done = Holds done.answer × (done.kept ≡ None)

-- what is held once this is kept: the name holds exactly these bytes, and all other names hold what they held
abbrev pub held_after : Option Held → Option (List ℕ × List ℕ) → Option Held
held_after told None = told
held_after told (Some (name, bytes)) = option_map (λ held. with_held held name bytes) told
