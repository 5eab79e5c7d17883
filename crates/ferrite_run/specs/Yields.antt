-- What the steps before a question yield together, and those in which a crash or a log is read.
use Rattle.std.specs.Prelude.{◌≡◌, List, ℕ, [], Option}
use Rattle.fer_outside.specs.Held.{Held}
use Rattle.litmus_syntax.specs.Test.{Test}
use Rattle.litmus_reader.specs.LitmusText.{IsLitmusText}
use Rattle.fer_events.specs.declared.event.Crash.{Crash}
use Rattle.call_events.specs.Resolved.{HasEvents}
use Rattle.model_reader.specs.declared.model.Model.{Model}
use Rattle.model_reader.specs.ModelText.{IsModelText}
use Rattle.model_library.specs.ShippedModels.{shipped_text}
use Rattle.witness_replay.specs.CrashFiles.{IsCrashText}
use Rattle.proof_log.specs.Logs.{Logged}
use Rattle.proof_log.specs.LogFiles.{IsLogText}
use Rattle.command_line.specs.declared.commands.ModelName.{ModelName}
use Rattle.command_line.specs.declared.commands.ModelName.TheVariants.{Shipped, File}
use Rattle.report.specs.declared.outcome.Role.TheVariants.{LitmusFile, ModelFile, LogFile, CrashFile}
use Rattle.ferrite_run.specs.declared.question.Question.{Question}
use Rattle.ferrite_run.specs.Fetching.{IsFetched}
use Rattle.sync_repair.specs.Sets.{AreKept}

-- the test that the litmus file of this name is
abbrev pub IsLitmusOf : Option Held → List ℕ → Test → Type 0
IsLitmusOf told name litmus = (bytes : List ℕ) × IsFetched told LitmusFile name bytes × IsLitmusText bytes litmus

-- the model of this name
abbrev pub IsModelOf : Option Held → ModelName → Model → Type 0
IsModelOf told (Shipped shipped) model = IsModelText (shipped_text shipped) model
IsModelOf told (File name) model = (bytes : List ℕ) × IsFetched told ModelFile name bytes × IsModelText bytes model

-- the question that is asked of a test and a model
pub record IsAskedOf (test : Test) (model : Model) (q : Question) : Type 0 where
  pub resolved : HasEvents test [] q.events
  pub kept : AreKept model q.events.events q.pairs
  pub litmus : q.litmus ≡ test
  pub model_of : q.model ≡ model

-- the question that is asked of a litmus file and a model
pub record IsQuestionOf (told : Option Held) (litmus : List ℕ) (name : ModelName) (q : Question) : Type 0 where
  pub test : Test
  pub model : Model
  pub litmus_read : IsLitmusOf told litmus test
  pub model_read : IsModelOf told name model
  pub asked : IsAskedOf test model q

-- the crash that the crash file of this name is
abbrev pub IsCrashOf : Option Held → List ℕ → Crash → Type 0
IsCrashOf told name crash = (bytes : List ℕ) × IsFetched told CrashFile name bytes × IsCrashText bytes crash

-- the log that the file of this name is
abbrev pub IsLogOf : Option Held → List ℕ → Logged → Type 0
IsLogOf told name log = (bytes : List ℕ) × IsFetched told LogFile name bytes × IsLogText bytes log
