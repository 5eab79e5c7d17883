-- Private: the calls of the test that the tests run.
use Rattle.std.specs.Prelude.{ℕ, List, [], ◌∷◌, replicate}
use Rattle.litmus_syntax.specs.declared.call.Call.{Call}
use Rattle.litmus_syntax.specs.declared.call.Call.TheVariants.{Create, Write, Begin, Commit}
use Rattle.litmus_syntax.specs.declared.call.Step.{Step}

-- a name of one byte in the root
abbrev pub name_path : ℕ → List (List ℕ)
name_path name = (name ∷ []) ∷ []

abbrev pub row_step : ℕ → Call → Step
row_step line call = record { line = line; call = call }

-- the file `/f` with eight bytes
abbrev pub setup_steps : List Step
setup_steps = row_step 5 (Create (name_path 102)) ∷ row_step 6 (Write (name_path 102) 0 (replicate 8 97)) ∷ []

-- a write over it, and a transaction that creates `/a` and `/b`
abbrev pub body_steps : List ℕ → List Step
body_steps text =
    row_step 8 (Write (name_path 102) 0 text) ∷ row_step 9 Begin ∷ row_step 10 (Create (name_path 97)) ∷ row_step 11 (Create (name_path 98))
    ∷ row_step 12 Commit ∷ []
