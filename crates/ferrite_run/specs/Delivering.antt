-- How a run ends that has its answer ready: what is to be kept is kept, and then the text is written.
use Rattle.std.specs.Prelude.{◌≡◌, ℕ, ◌++◌, ◌<◌, List, length, Option, Some}
use Rattle.fer_outside.specs.Held.{Held}
use Rattle.fer_outside.specs.Causes.{Grew, IsOpenAt}
use Rattle.report.specs.Answers.{answer_text}
use Rattle.ferrite_run.specs.Done.{Done, held_after}
use Rattle.ferrite_run.specs.Statuses.{status_of}

-- the status is that of the answer, its text was written whole, and what is to be kept with it was kept
pub record IsWhole (told after : Option Held) (before now : Option (List ℕ)) (done : Done) (status : ℕ) : Type 0 where
  pub stated : status ≡ status_of done.answer
  pub written : Grew before now (answer_text done.answer)
  pub kept : after ≡ held_after told done.kept

-- a part of the text from its beginning on that isn't the whole of it
abbrev pub IsProperFront : List ℕ → List ℕ → Type 0
IsProperFront front text = (rest : List ℕ) × (text ≡ front ++ rest) × (0 < length rest)

-- bytes were to be kept under a name whose count of faults rose; all other names hold what they held
pub record IsUnkept (told after : Option Held) (rose : List ℕ → Type 0) (kept : Option (List ℕ × List ℕ)) : Type 0 where
  pub name : List ℕ
  pub bytes : List ℕ
  pub wanted : kept ≡ Some (name, bytes)
  pub cause : rose name
  pub others : IsOpenAt told after name

-- the text wasn't written whole. Either what is to be kept was kept, a write failed, and a proper part of the text was
-- written from its beginning on; or what is to be kept wasn't, and nothing was written
pub data IsCutShort (told after : Option Held) (rose : List ℕ → Type 0) (before now : Option (List ℕ)) (write_fault : Type 0) (done : Done) : Type 0 where
  unwritten :
      (front : List ℕ) → IsProperFront front (answer_text done.answer) → Grew before now front → write_fault
      → after ≡ held_after told done.kept → IsCutShort told after rose before now write_fault done
  unkept : IsUnkept told after rose done.kept → now ≡ before → IsCutShort told after rose before now write_fault done
