-- The step in which a file that a command names is fetched.
use Rattle.std.specs.Prelude.{◌≡◌, ℕ, ◌≤◌, List, length, Option}
use Rattle.fer_outside.specs.Held.{Held}
use Rattle.fer_outside.specs.Causes.{IsHeld, IsMissing, IsTooLong}
use Rattle.litmus_reader.specs.declared.fault.LitmusKind.TheVariants as litmus
use Rattle.litmus_reader.specs.Kinds as litmus_kind
use Rattle.model_reader.specs.declared.fault.ModelKind.TheVariants as model
use Rattle.model_reader.specs.Kinds as model_kind
use Rattle.report.specs.declared.outcome.Role.{Role}
use Rattle.report.specs.declared.outcome.Role.TheVariants.{LitmusFile, ModelFile, LogFile, CrashFile}
use Rattle.report.specs.Answers.{Answer, LitmusRefused, ModelRefused, LogRefused, CrashUnread, Missing, ReadFault}
use Rattle.ferrite_run.specs.Done.{Done}
use Rattle.ferrite_run.specs.Steps.{Step}

-- the most bytes that a file may have which plays this part
abbrev pub most_bytes : Role → ℕ
most_bytes LitmusFile = 65536
most_bytes ModelFile = 65536
most_bytes LogFile = 67108864
most_bytes CrashFile = 4096

-- the answer to a file with more bytes
abbrev pub too_long : Role → Answer
too_long LitmusFile = LitmusRefused 0 (litmus_kind.kind_number litmus.TooLong)
too_long ModelFile = ModelRefused 0 (model_kind.kind_number model.TooLong)
too_long LogFile = LogRefused 0 4
too_long CrashFile = CrashUnread

-- the answer where nothing is fetched, over a library of which this is told and whose count of faults for the name rose
-- where `rose` holds
pub data IsUnfetched (told : Option Held) (rose : Type 0) (role : Role) (name : List ℕ) (answer : Answer) : Type 0 where
  missing : IsMissing told name rose → answer ≡ Missing role → IsUnfetched told rose role name answer
  unreadable : rose → answer ≡ ReadFault role → IsUnfetched told rose role name answer
  long : IsTooLong told name (most_bytes role) → answer ≡ too_long role → IsUnfetched told rose role name answer

-- these bytes are held under the name, and they aren't too many
pub record IsFetched (told : Option Held) (role : Role) (name bytes : List ℕ) : Type 0 where
  pub held : IsHeld told name bytes
  pub within : length bytes ≤ most_bytes role

-- the file that plays this part is fetched, by its name
abbrev pub Fetch : Option Held → (List ℕ → Type 0) → Role → List ℕ → (List ℕ → Done → Type 0) → Done → Type 0
Fetch told rose role name Next done = Step (List ℕ) (IsUnfetched told (rose name) role name) (IsFetched told role name) Next done
