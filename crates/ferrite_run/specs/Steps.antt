-- The work of a run is a row of steps. The first step that ends the work says the answer.
use Rattle.report.specs.Answers.{Answer}
use Rattle.ferrite_run.specs.Done.{Done, Tells}

-- a step ends the work with an answer, and nothing is kept, or it yields something, with which the work goes on
pub data Step (X : Type 0) (Ends : Answer → Type 0) (Yields : X → Type 0) (Next : X → Done → Type 0) (done : Done) : Type 0 where
  ends : Tells Ends done → Step X Ends Yields Next done
  goes_on : (x : X) → Yields x → Next x done → Step X Ends Yields Next done
