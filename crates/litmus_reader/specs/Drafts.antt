-- Private: what is kept of the lines of a litmus file while it is read.
use Rattle.std.specs.Prelude.{◌≡◌, ℕ, ◌≤◌, true, false, List, [], ◌∷◌, ◌++◌, Option, Some, None, length, map, All, IsTrue}
use Rattle.litmus_syntax.specs.declared.call.Call.{Call}
use Rattle.litmus_syntax.specs.declared.call.Step.{Step}
use Rattle.litmus_syntax.specs.CallKinds.{is_setup_call, is_body_call, sync_free}
use Rattle.litmus_syntax.specs.Transactions.{calls_of, is_open, all_suit}
use Rattle.lexeme_reader.specs.declared.reading.Lexeme.{Lexeme}
use Rattle.lexeme_reader.specs.Lexemes.{is_formed}
use Rattle.predicate_reader.specs.Counts.{IsShort}
use Rattle.predicate_reader.specs.Predicates.{IsPredicate, AreInRange}
use Rattle.litmus_reader.specs.declared.stages.Stage.{Stage}
use Rattle.litmus_reader.specs.declared.stages.Stage.TheVariants.{Start, BehindHead, BehindBlock, BehindSector, InSetup, InBody, End}
use Rattle.litmus_reader.specs.declared.draft.Draft.{Draft}
use Rattle.litmus_reader.specs.declared.draft.Asked.{Asked}
use Rattle.litmus_reader.specs.Statements.{Statement, Head, Block, Setup, Body, Question, statement_lexemes, form_of}
use Rattle.litmus_reader.specs.Versions.{version_named, version_of, version_has}
use Rattle.litmus_reader.specs.Calls.{block_of}
use Rattle.line_files.specs.StatedLines.{stated_in, statements}
use Rattle.litmus_reader.specs.StatedLines.{Stated}
use Rattle.litmus_reader.specs.WholeFiles.{stated_step, IsFront, IsSetup}
use Rattle.litmus_reader.specs.Faults.{HasWide, pairs}
use Rattle.litmus_reader.specs.Stages.{stage_behind, run}

-- a call in its line
abbrev pub step_in : ℕ → Call → Step
step_in line c = record { line = line; call = c }

-- no call is kept, and no question
abbrev pub IsCallless : Draft → Type 0
IsCallless d = (d.setup ≡ []) × (d.body ≡ []) × (d.question ≡ None)

-- the statements up to this stage, and what is kept of them
abbrev pub StandsAt : Stage → List Stated → Draft → Type 0
StandsAt Start stated d = (stated ≡ []) × (d.block ≡ 4096) × (d.sector ≡ d.block) × IsCallless d
StandsAt BehindHead stated d =
    (line : ℕ) × (number : Option ℕ) × (stated ≡ stated_in line (Head d.name number) ∷ [])
    × (d.version ≡ version_named number) × (d.block ≡ 4096) × (d.sector ≡ d.block) × IsCallless d
StandsAt BehindBlock stated d =
    (head line : ℕ) × (number : Option ℕ) × (stated ≡ stated_in head (Head d.name number) ∷ stated_in line (Block d.block) ∷ [])
    × (d.version ≡ version_named number) × (d.sector ≡ d.block) × IsCallless d
StandsAt BehindSector stated d = IsFront stated d.name d.version d.block d.sector × IsCallless d
StandsAt InSetup stated d =
    (front : List Stated) × (line : ℕ) × IsFront front d.name d.version d.block d.sector
    × (stated ≡ front ++ stated_in line Setup ∷ map stated_step d.setup) × (d.body ≡ []) × (d.question ≡ None)
StandsAt InBody stated d =
    (front setup : List Stated) × (line : ℕ) × IsFront front d.name d.version d.block d.sector × IsSetup setup d.setup
    × (stated ≡ front ++ setup ++ stated_in line Body ∷ map stated_step d.body) × (d.question ≡ None)
StandsAt End stated d =
    (front setup : List Stated) × (line : ℕ) × IsFront front d.name d.version d.block d.sector × IsSetup setup d.setup
    × (asked : List Lexeme) × (q : Asked)
    × (stated ≡ front ++ setup ++ stated_in line Body ∷ map stated_step d.body ++ stated_in q.line (Question q.want asked) ∷ [])
    × (d.question ≡ Some q) × IsShort asked × IsPredicate asked q.pred × (is_open (calls_of d.body) ≡ false)

-- what is known of a statement when it is taken: a file of this version has it, it leads to this stage, transactions allow
-- it, and its tokens have their forms, with numbers in range
pub record IsExpected (d : Draft) (next : Stage) (s : Statement) : Type 0 where
  pub of_version : version_has d.version s ≡ true
  pub leads : stage_behind d.stage (form_of s) ≡ Some next
  pub paired : d.stage ≡ InBody → pairs d.in_transaction s ≡ true
  pub formed : All (λ l. IsTrue (is_formed l)) (statement_lexemes s)
  pub in_range : AreInRange (statement_lexemes s)

-- each token of the statement has its form
abbrev pub IsOfFormed : Stated → Type 0
IsOfFormed s = All (λ l. IsTrue (is_formed l)) (statement_lexemes s.statement)

-- the draft keeps these statements, all of which are sound
pub record IsDraft (stated : List Stated) (d : Draft) : Type 0 where
  pub stands : StandsAt d.stage stated d
  pub reached : run Start (map form_of (statements stated)) ≡ Some d.stage
  pub version : d.version ≡ version_of (statements stated)
  pub block : d.block ≡ block_of (statements stated)
  pub of_version : All (λ s. version_has d.version s.statement ≡ true) stated
  pub narrow : All (λ s. HasWide s.statement → ⊥) stated
  pub formed : All IsOfFormed stated
  pub some_sector : 1 ≤ d.sector
  pub small_sector : d.sector ≤ d.block
  pub small_block : d.block ≤ 65536
  pub setup : All (λ step. is_setup_call step.call ≡ true) d.setup
  pub few_setup : length d.setup ≤ 256
  pub body : All (λ step. is_body_call step.call ≡ true) d.body
  pub changes : d.changes ≡ length (sync_free (calls_of d.body))
  pub few_body : d.changes ≤ 128
  pub opened : d.in_transaction ≡ is_open (calls_of d.body)
  pub placed : IsTrue (all_suit false (calls_of d.body))
