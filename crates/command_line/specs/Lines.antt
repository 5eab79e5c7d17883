-- What is read from words on the way to a command.
use Rattle.std.specs.Prelude.{◌≡◌, ℕ, List, Option, Some, MatchOption, map, option_map, codes}
use Rattle.litmus_syntax.specs.declared.site.SiteKind.{SiteKind}
use Rattle.command_line.specs.declared.line.Line.{Line}
use Rattle.command_line.specs.declared.line.OptionWords.{OptionWords}
use Rattle.command_line.specs.declared.verbs.Verb.{Verb}
use Rattle.command_line.specs.declared.verbs.Verb.TheVariants as verb
use Rattle.command_line.specs.declared.commands.ModelName.{ModelName}
use Rattle.command_line.specs.declared.commands.SearchOptions.{SearchOptions}
use Rattle.command_line.specs.declared.commands.Command.{Command}
use Rattle.command_line.specs.declared.commands.Command.TheVariants.{Check, Repair, Verify, Replay, Events, Show, Models, Work, Explain, Hint, Trim, Flush}
use Rattle.command_line.specs.SimpleCommand.{Options, value_of, operands_of, options_of}
use Rattle.command_line.specs.Verbs.{verb_text}
use Rattle.command_line.specs.Commands.{AreOperands, AreOptions, verb_of}

-- the values that the options are given
abbrev pub values_given : OptionWords → Options
values_given words = record {
  log = option_map (λ w. w.now) words.log;
  conflicts = option_map (λ w. w.now) words.conflicts;
  with = option_map (λ w. w.now) words.with;
  branch = option_map (λ w. w.now) words.branch;
}

-- the operands that are given
abbrev pub operands_given : Line → List (List ℕ)
operands_given line = map (λ w. w.now) line.operands.items

-- the line is what the simple command finds in the words
pub record IsLine (words : List (List ℕ)) (line : Line) : Type 0 where
  pub said : option_map (λ w. w.now) line.verb ≡ value_of words (codes "command")
  pub operands : operands_given line ≡ operands_of words
  pub options : values_given line.options ≡ options_of words

-- operands and options are those of the command
abbrev pub Fits : List (List ℕ) → Line → Command → Type 0
Fits choices line command = AreOperands command (operands_given line) × AreOptions choices command (values_given line.options)

-- each command of this verb is so
abbrev pub EachOf : (Command → Type 0) → Verb → Type 0
EachOf P verb.Check = (litmus : List ℕ) (model : ModelName) (search : SearchOptions) → P (Check litmus model search)
EachOf P verb.Repair = (litmus : List ℕ) (model : ModelName) (with : SiteKind) (search : SearchOptions) → P (Repair litmus model with search)
EachOf P verb.Verify = (litmus : List ℕ) (model : ModelName) (log : List ℕ) → P (Verify litmus model log)
EachOf P verb.Replay = (litmus : List ℕ) (model : ModelName) (crash : List ℕ) → P (Replay litmus model crash)
EachOf P verb.Events = (litmus : List ℕ) (model : ModelName) → P (Events litmus model)
EachOf P verb.Show = (litmus : List ℕ) → P (Show litmus)
EachOf P verb.Models = P Models
EachOf P verb.Work = (seed calls : ℕ) (branch : Option ℕ) → P (Work seed calls branch)
EachOf P verb.Explain = (litmus : List ℕ) (model : ModelName) (branch : Option ℕ) → P (Explain litmus model branch)
EachOf P verb.Hint = (litmus : List ℕ) (model : ModelName) (log hinted : List ℕ) → P (Hint litmus model log hinted)
EachOf P verb.Trim = (litmus : List ℕ) (model : ModelName) (log trimmed : List ℕ) → P (Trim litmus model log trimmed)
EachOf P verb.Flush = (litmus : List ℕ) (model : ModelName) (seed width : ℕ) → P (Flush litmus model seed width)

-- the command of this verb that the line is, if it is one
abbrev pub IsCommandIn : List (List ℕ) → Line → Verb → Option Command → Type 0
IsCommandIn choices line verb found = MatchOption found
    (EachOf (λ command. Fits choices line command → ⊥) verb)
    (λ command. (verb_of command ≡ verb) × Fits choices line command)

-- the line is this command: its first word is the command's, and the rest fits
pub record IsCommandOfLine (choices : List (List ℕ)) (line : Line) (command : Command) : Type 0 where
  pub first : option_map (λ w. w.now) line.verb ≡ Some (verb_text (verb_of command))
  pub rest : Fits choices line command
