-- The simple command of all command lines, and what it finds in words: operands, and the values of options.
use Rattle.std.specs.Prelude.{◌≡◌, ℕ, List, [], ◌++◌, Option, Some, true, codes, option_to_list}
use Rattle.clap.specs.Words.{App, Rule, new_app, new_rule, with_rule, first_of, matches_of, fault_of}

-- an option of this name, which takes one value
abbrev pub option_rule : List ℕ → Rule
option_rule name = record (new_rule name) { long = Some name }

-- no help, no version, no name of the program before the words
abbrev pub bare_app : App
bare_app =
    let app = new_app (codes "ferrite") in
    record app { top = record app.top { no_binary_name = true; disable_help_flag = true; disable_version_flag = true } }

-- the word of the command, and up to four operands
abbrev pub operands_app : App
operands_app =
    with_rule (with_rule (with_rule (with_rule (with_rule bare_app
    (record (new_rule (codes "command")) { required = true }))
    (new_rule (codes "first"))) (new_rule (codes "second"))) (new_rule (codes "third"))) (new_rule (codes "fourth"))

-- and the four options
unfoldable pub line_app : App
line_app =
    with_rule (with_rule (with_rule (with_rule operands_app (option_rule (codes "log"))) (option_rule (codes "conflicts")))
    (option_rule (codes "with"))) (option_rule (codes "branch"))

-- the simple command takes the words
abbrev pub IsTaken : List (List ℕ) → Type 0
IsTaken words = fault_of line_app words ≡ []

-- what stands in the words for this name of the simple command
abbrev pub value_of : List (List ℕ) → List ℕ → Option (List ℕ)
value_of words name = first_of name (matches_of line_app words)

-- the operands behind the word of the command
abbrev pub operands_of : List (List ℕ) → List (List ℕ)
operands_of words =
    option_to_list (value_of words (codes "first")) ++ option_to_list (value_of words (codes "second"))
    ++ option_to_list (value_of words (codes "third")) ++ option_to_list (value_of words (codes "fourth"))

-- the values of the options that are given
pub record Options : Type 0 where
  pub log : Option (List ℕ)
  pub conflicts : Option (List ℕ)
  pub with : Option (List ℕ)
  pub branch : Option (List ℕ)

abbrev pub options_of : List (List ℕ) → Options
options_of words = record {
  log = value_of words (codes "log");
  conflicts = value_of words (codes "conflicts");
  with = value_of words (codes "with");
  branch = value_of words (codes "branch");
}
