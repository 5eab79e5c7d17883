-- The statements of a whole litmus file, in their order, and the litmus test that they make.
use Rattle.std.specs.Prelude.{◌≡◌, ◌⊎◌, ℕ, ◌≤◌, true, false, List, [], ◌∷◌, ◌++◌, Option, length, map, All, IsTrue}
use Rattle.litmus_syntax.specs.declared.call.Step.{Step}
use Rattle.litmus_syntax.specs.Test.{Test}
use Rattle.lexeme_reader.specs.declared.reading.Lexeme.{Lexeme}
use Rattle.litmus_syntax.specs.CallKinds.{is_setup_call, is_body_call, sync_free}
use Rattle.litmus_syntax.specs.Transactions.{calls_of, is_open, all_suit}
use Rattle.predicate_reader.specs.Counts.{IsShort}
use Rattle.predicate_reader.specs.Predicates.{IsPredicate}
use Rattle.litmus_reader.specs.Statements.{Head, Block, Sector, Setup, Body, Called, Question}
use Rattle.litmus_reader.specs.Versions.{version_named, version_has}
use Rattle.line_files.specs.StatedLines.{stated_in}
use Rattle.litmus_reader.specs.StatedLines.{Stated}
use Rattle.litmus_reader.specs.Faults.{HasWide}

-- a call in its line
abbrev pub stated_step : Step → Stated
stated_step step = stated_in step.line (Called step.call)

-- a block line, or none, and then the block is 4,096
abbrev pub IsBlock : List Stated → ℕ → Type 0
IsBlock part size = ((part ≡ []) × (size ≡ 4096)) ⊎ ((line : ℕ) × (part ≡ stated_in line (Block size) ∷ []))

-- a sector line, or none, and then the sector is the block
abbrev pub IsSector : List Stated → ℕ → ℕ → Type 0
IsSector part block size = ((part ≡ []) × (size ≡ block)) ⊎ ((line : ℕ) × (part ≡ stated_in line (Sector size) ∷ []))

-- the lines before the setup and the body: the head, and perhaps the sizes
pub record IsFront (part : List Stated) (name : List ℕ) (version block sector : ℕ) : Type 0 where
  pub head_line : ℕ
  pub number : Option ℕ
  pub block_part : List Stated
  pub sector_part : List Stated
  pub order : part ≡ stated_in head_line (Head name number) ∷ block_part ++ sector_part
  pub has_version : version ≡ version_named number
  pub has_block : IsBlock block_part block
  pub has_sector : IsSector sector_part block sector

-- a setup line with its calls, or neither
abbrev pub IsSetup : List Stated → List Step → Type 0
IsSetup part steps = ((part ≡ []) × (steps ≡ [])) ⊎ ((line : ℕ) × (part ≡ stated_in line Setup ∷ map stated_step steps))

-- the statements of a whole file, in their order, and the litmus test that they make
pub record IsTest (stated : List Stated) (litmus : Test) : Type 0 where
  pub front_part : List Stated
  pub setup_part : List Stated
  pub body_line : ℕ
  pub asked : List Lexeme
  pub order : stated ≡ front_part ++ setup_part
      ++ stated_in body_line Body ∷ map stated_step litmus.body
      ++ stated_in litmus.pred_line (Question litmus.want asked) ∷ []
  pub front : IsFront front_part litmus.name litmus.version litmus.block litmus.sector
  pub setup : IsSetup setup_part litmus.setup
  pub pred : IsPredicate asked litmus.pred
  pub of_version : All (λ s. version_has litmus.version s.statement ≡ true) stated
  pub narrow : All (λ s. HasWide s.statement → ⊥) stated
  pub some_sector : 1 ≤ litmus.sector
  pub small_sector : litmus.sector ≤ litmus.block
  pub small_block : litmus.block ≤ 65536
  pub setup_calls : All (λ step. is_setup_call step.call ≡ true) litmus.setup
  pub body_calls : All (λ step. is_body_call step.call ≡ true) litmus.body
  pub placed : IsTrue (all_suit false (calls_of litmus.body))
  pub closed : is_open (calls_of litmus.body) ≡ false
  pub few_setup : length litmus.setup ≤ 256
  pub few_body : length (sync_free (calls_of litmus.body)) ≤ 128
  pub short : IsShort asked
