-- The command lines of Ferrite: which words are which command.
use Rattle.std.specs.Prelude.{◌≡◌, ◌⊎◌, ⊤, ◌≤◌, ℕ, List, [], ◌∷◌, Option, Some, None, IfSome, is_some, true, position, bytes_eq, slice_get, decimal, codes}
use Rattle.litmus_syntax.specs.declared.site.SiteKind.{SiteKind}
use Rattle.litmus_syntax.specs.declared.site.SiteKind.TheVariants as sites
use Rattle.model_library.specs.ShippedModels.{shipped_word}
use Rattle.command_line.specs.declared.commands.ModelName.{ModelName}
use Rattle.command_line.specs.declared.commands.ModelName.TheVariants as model
use Rattle.command_line.specs.declared.commands.SearchOptions.{SearchOptions}
use Rattle.command_line.specs.declared.commands.Command.{Command}
use Rattle.command_line.specs.declared.commands.Command.TheVariants.{Check, Repair, Verify, Replay, Events, Show, Models, Work, Explain, Hint, Trim, Flush}
use Rattle.command_line.specs.declared.verbs.Verb.{Verb}
use Rattle.command_line.specs.declared.verbs.Verb.TheVariants as verb
use Rattle.command_line.specs.Verbs.{verb_text}
use Rattle.command_line.specs.SimpleCommand.{IsTaken, Options, value_of, operands_of, options_of}

-- the word that names the model: behind `@` a shipped one, and without it a file
abbrev pub model_word : ModelName → List ℕ
model_word (model.Shipped shipped) = 64 ∷ shipped_word shipped
model_word (model.File name) = name

abbrev pub IsModelName : ModelName → Type 0
IsModelName (model.Shipped shipped) = ⊤
IsModelName (model.File name) = slice_get name 0 ≡ Some 64 → ⊥

-- which command it is
abbrev pub verb_of : Command → Verb
verb_of (Check litmus model search) = verb.Check
verb_of (Repair litmus model with search) = verb.Repair
verb_of (Verify litmus model log) = verb.Verify
verb_of (Replay litmus model crash) = verb.Replay
verb_of (Events litmus model) = verb.Events
verb_of (Show litmus) = verb.Show
verb_of Models = verb.Models
verb_of (Work seed calls branch) = verb.Work
verb_of (Explain litmus model branch) = verb.Explain
verb_of (Hint litmus model log hinted) = verb.Hint
verb_of (Trim litmus model log trimmed) = verb.Trim
verb_of (Flush litmus model seed width) = verb.Flush

-- the operands are a litmus file, a model and these words
abbrev pub AreOnModel : List ℕ → ModelName → List (List ℕ) → List (List ℕ) → Type 0
AreOnModel litmus model more operands = IsModelName model × (operands ≡ litmus ∷ model_word model ∷ more)

-- the operands of a command; numbers are decimal, with no sign and no leading zero
abbrev pub AreOperands : Command → List (List ℕ) → Type 0
AreOperands (Check litmus model search) operands = AreOnModel litmus model [] operands
AreOperands (Repair litmus model with search) operands = AreOnModel litmus model [] operands
AreOperands (Verify litmus model log) operands = AreOnModel litmus model (log ∷ []) operands
AreOperands (Replay litmus model crash) operands = AreOnModel litmus model (crash ∷ []) operands
AreOperands (Events litmus model) operands = AreOnModel litmus model [] operands
AreOperands (Show litmus) operands = operands ≡ litmus ∷ []
AreOperands Models operands = operands ≡ []
AreOperands (Work seed calls branch) operands = (operands ≡ decimal seed ∷ decimal calls ∷ []) × (seed ≤ 4294967295) × (1 ≤ calls) × (calls ≤ 32)
AreOperands (Explain litmus model branch) operands = AreOnModel litmus model [] operands
AreOperands (Hint litmus model log hinted) operands = AreOnModel litmus model (log ∷ hinted ∷ []) operands
AreOperands (Trim litmus model log trimmed) operands = AreOnModel litmus model (log ∷ trimmed ∷ []) operands
AreOperands (Flush litmus model seed width) operands =
    AreOnModel litmus model (decimal seed ∷ decimal width ∷ []) operands × (seed ≤ 4294967295) × (1 ≤ width) × (width ≤ 128)

-- `--branch` isn't given, or it gives the word of the choice at this place, the first one of that word
abbrev pub IsBranch : List (List ℕ) → Option (List ℕ) → Option ℕ → Type 0
IsBranch choices None place = place ≡ None
IsBranch choices (Some word) place = (n : ℕ) × (position (bytes_eq word) choices ≡ Some n) × (place ≡ Some n)

-- `--conflicts` isn't given, or it gives this number, from 1 on
abbrev pub IsConflicts : Option (List ℕ) → Option ℕ → Type 0
IsConflicts None limit = limit ≡ None
IsConflicts (Some word) limit = (n : ℕ) × (word ≡ decimal n) × (1 ≤ n) × (n ≤ 4294967295) × (limit ≡ Some n)

-- the word of `--with` for the sites
abbrev pub with_word : SiteKind → List ℕ
with_word sites.Fsync = codes "fsync"
with_word sites.Sync = codes "sync"
with_word sites.All = codes "all"

-- `--with` isn't given, which stands for `fsync`, or it gives the word of these sites
abbrev pub IsWith : Option (List ℕ) → SiteKind → Type 0
IsWith None kind = kind ≡ sites.Fsync
IsWith (Some word) kind = word ≡ with_word kind

-- the options say how a question is searched; `--conflicts` stands only beside `--log`
pub record IsSearch (choices : List (List ℕ)) (options : Options) (search : SearchOptions) : Type 0 where
  pub log : options.log ≡ search.log
  pub conflicts : IsConflicts options.conflicts search.conflicts
  pub beside : IfSome search.conflicts (λ n. is_some search.log ≡ true)
  pub branch : IsBranch choices options.branch search.branch

-- `--branch` is this, and no other option is given
pub record HasBranchAlone (choices : List (List ℕ)) (options : Options) (place : Option ℕ) : Type 0 where
  pub log : options.log ≡ None
  pub conflicts : options.conflicts ≡ None
  pub with : options.with ≡ None
  pub branch : IsBranch choices options.branch place

-- no option is given
abbrev pub HasNoOption : Options → Type 0
HasNoOption options = options ≡ record { log = None; conflicts = None; with = None; branch = None }

-- the options of a command
abbrev pub AreOptions : List (List ℕ) → Command → Options → Type 0
AreOptions choices (Check litmus model search) options = IsSearch choices options search × (options.with ≡ None)
AreOptions choices (Repair litmus model with search) options = IsSearch choices options search × IsWith options.with with
AreOptions choices (Verify litmus model log) options = HasNoOption options
AreOptions choices (Replay litmus model crash) options = HasNoOption options
AreOptions choices (Events litmus model) options = HasNoOption options
AreOptions choices (Show litmus) options = HasNoOption options
AreOptions choices Models options = HasNoOption options
AreOptions choices (Work seed calls branch) options = HasBranchAlone choices options branch
AreOptions choices (Explain litmus model branch) options = HasBranchAlone choices options branch
AreOptions choices (Hint litmus model log hinted) options = HasNoOption options
AreOptions choices (Trim litmus model log trimmed) options = HasNoOption options
AreOptions choices (Flush litmus model seed width) options = HasNoOption options

-- the words are this command, where these are the words of the choices for `--branch`
pub record IsCommandLine (words choices : List (List ℕ)) (command : Command) : Type 0 where
  pub taken : IsTaken words
  pub verb : value_of words (codes "command") ≡ Some (verb_text (verb_of command))
  pub operands : AreOperands command (operands_of words)
  pub options : AreOptions choices command (options_of words)
