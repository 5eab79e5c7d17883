-- Private: what a search among clauses ends with. Only the contracts of private functions cite it.
use Rattle.std.specs.Prelude.{◌≡◌, ℕ, ◌≤◌, ◌<◌, length}
use Rattle.clause_store.specs.Clauses.{Formula}
use Rattle.clause_store.specs.Truth.{MakesAllTrue}
use Rattle.crash_question.specs.declared.searching.Found.{Found}
use Rattle.crash_question.specs.declared.searching.Found.TheVariants.{Values, Refuted, Spent}
use Rattle.crash_question.specs.Answers.{IsRefutation, IsOpenPart}

-- values for all variables that make the clauses true; a part that refutes them; or one of as many clauses as allowed, which
-- leaves them open, and they are fewer than memory could ever hold
abbrev pub IsOutcome : Formula → ℕ → Found → Type 0
IsOutcome f limit (Values values) = (length values ≡ f.vars) × MakesAllTrue values f.clauses
IsOutcome f limit (Refuted part) = IsRefutation f part × (length part.learned ≤ limit)
IsOutcome f limit (Spent part) = IsOpenPart f part × (length part.learned ≡ limit) × (limit < 18446744073709551615)
