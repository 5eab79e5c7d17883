-- The steps in which the litmus file, the model, the crash file and the log are fetched and read.
use Rattle.std.specs.Prelude.{◌≡◌, ℕ, List, Option}
use Rattle.fer_outside.specs.Held.{Held}
use Rattle.litmus_syntax.specs.Test.{Test}
use Rattle.litmus_reader.specs.declared.fault.LitmusKind.{LitmusKind}
use Rattle.litmus_reader.specs.Kinds as litmus_kind
use Rattle.litmus_reader.specs.LitmusText.{IsLitmusText, IsLitmusRefused}
use Rattle.fer_events.specs.declared.event.Crash.{Crash}
use Rattle.model_reader.specs.declared.model.Model.{Model}
use Rattle.model_reader.specs.declared.fault.ModelKind.{ModelKind}
use Rattle.model_reader.specs.Kinds as model_kind
use Rattle.model_reader.specs.ModelText.{IsModelText, IsModelRefused}
use Rattle.model_library.specs.ShippedModels.{shipped_text}
use Rattle.witness_replay.specs.CrashFiles.{IsCrashText}
use Rattle.proof_log.specs.declared.fault.LogKind.{LogKind}
use Rattle.proof_log.specs.Kinds as log_kind
use Rattle.proof_log.specs.Logs.{Logged}
use Rattle.proof_log.specs.LogFiles.{IsLogText, IsLogRefused}
use Rattle.command_line.specs.declared.commands.ModelName.{ModelName}
use Rattle.command_line.specs.declared.commands.ModelName.TheVariants.{Shipped, File}
use Rattle.report.specs.declared.outcome.Role.TheVariants.{LitmusFile, ModelFile, LogFile, CrashFile}
use Rattle.report.specs.Answers.{Answer, LitmusRefused, ModelRefused, LogRefused, CrashUnread}
use Rattle.ferrite_run.specs.Done.{Done}
use Rattle.ferrite_run.specs.Steps.{Step}
use Rattle.ferrite_run.specs.Fetching.{Fetch}

-- the answer to bytes that are no litmus file
abbrev pub IsNoLitmus : List ℕ → Answer → Type 0
IsNoLitmus bytes answer = (line : ℕ) × (kind : LitmusKind) × IsLitmusRefused bytes line kind × (answer ≡ LitmusRefused line (litmus_kind.kind_number kind))

-- bytes are read as a litmus file
abbrev pub ReadLitmus : List ℕ → (Test → Done → Type 0) → Done → Type 0
ReadLitmus bytes Next done = Step Test (IsNoLitmus bytes) (IsLitmusText bytes) Next done

-- the answer to bytes that are no model
abbrev pub IsNoModel : List ℕ → Answer → Type 0
IsNoModel bytes answer = (line : ℕ) × (kind : ModelKind) × IsModelRefused bytes line kind × (answer ≡ ModelRefused line (model_kind.kind_number kind))

-- bytes are read as a model
abbrev pub ReadModel : List ℕ → (Model → Done → Type 0) → Done → Type 0
ReadModel bytes Next done = Step Model (IsNoModel bytes) (IsModelText bytes) Next done

-- the litmus file of this name is fetched, then read
abbrev pub OnLitmus : Option Held → (List ℕ → Type 0) → List ℕ → (Test → Done → Type 0) → Done → Type 0
OnLitmus told rose name Next done = Fetch told rose LitmusFile name (λ bytes. ReadLitmus bytes Next) done

-- the model is read; one that doesn't come with Ferrite is fetched before
abbrev pub OnModel : Option Held → (List ℕ → Type 0) → ModelName → (Model → Done → Type 0) → Done → Type 0
OnModel told rose (Shipped shipped) Next done = ReadModel (shipped_text shipped) Next done
OnModel told rose (File name) Next done = Fetch told rose ModelFile name (λ bytes. ReadModel bytes Next) done

-- the answer to bytes that are no crash file
abbrev pub IsNoCrash : List ℕ → Answer → Type 0
IsNoCrash bytes answer = ((crash : Crash) → IsCrashText bytes crash → ⊥) × (answer ≡ CrashUnread)

-- bytes are read as a crash
abbrev pub ReadCrash : List ℕ → (Crash → Done → Type 0) → Done → Type 0
ReadCrash bytes Next done = Step Crash (IsNoCrash bytes) (IsCrashText bytes) Next done

-- the crash file of this name is fetched, then read
abbrev pub OnCrash : Option Held → (List ℕ → Type 0) → List ℕ → (Crash → Done → Type 0) → Done → Type 0
OnCrash told rose name Next done = Fetch told rose CrashFile name (λ bytes. ReadCrash bytes Next) done

-- the answer to bytes that are no log
abbrev pub IsNoLog : List ℕ → Answer → Type 0
IsNoLog bytes answer = (line : ℕ) × (kind : LogKind) × IsLogRefused bytes line kind × (answer ≡ LogRefused line (log_kind.kind_number kind))

-- bytes are read as a log
abbrev pub ReadLog : List ℕ → (Logged → Done → Type 0) → Done → Type 0
ReadLog bytes Next done = Step Logged (IsNoLog bytes) (IsLogText bytes) Next done

-- the log of this name is fetched, then read
abbrev pub OnLog : Option Held → (List ℕ → Type 0) → List ℕ → (Logged → Done → Type 0) → Done → Type 0
OnLog told rose name Next done = Fetch told rose LogFile name (λ bytes. ReadLog bytes Next) done
