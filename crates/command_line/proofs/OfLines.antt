-- From the line that stands in words to the command that they are.
use Rattle.std.proofs.Common.{◌≡◌, ◌∙◌, ℕ, List, Bor, Option, Some, None, MatchOption, option_map, codes, sym, ap, subst}
use Rattle.command_line.specs.declared.line.Line.{Line}
use Rattle.command_line.specs.declared.verbs.Verb.{Verb}
use Rattle.command_line.specs.declared.commands.Command.{Command}
use Rattle.command_line.specs.SimpleCommand.{IsTaken, operands_of, options_of}
use Rattle.command_line.specs.Verbs.{verb_text}
use Rattle.command_line.specs.Commands.{AreOperands, AreOptions, verb_of, IsCommandLine}
use Rattle.command_line.specs.Lines.{IsLine, Fits, EachOf, IsCommandIn, IsCommandOfLine}
use Rattle.command_line.proofs.OneCommand.{by_verb, one_verb}

-- a command has a first word
pub no_word : (choices : List (List ℕ)) (line : Line) → line.verb ≡ None → (command : Command) → IsCommandOfLine choices line command → ⊥
no_word choices line none command is =
    let both : None ≡ Some (verb_text (verb_of command)) = sym (ap (option_map (λ (w : Bor (List ℕ)). w.now)) none) ∙ is.first in
    cc both

-- and it is a verb
pub no_verb : (choices : List (List ℕ)) (line : Line) (word : Bor (List ℕ)) → line.verb ≡ Some word → ((v : Verb) → word.now ≡ verb_text v → ⊥)
    → (command : Command) → IsCommandOfLine choices line command → ⊥
no_verb choices line word said none command is =
    let both : Some word.now ≡ Some (verb_text (verb_of command)) = sym (ap (option_map (λ (w : Bor (List ℕ)). w.now)) said) ∙ is.first in
    none (verb_of command) (cc both)

-- which is the command's
pub of_line : (choices : List (List ℕ)) (line : Line) (word : Bor (List ℕ)) (v : Verb) (found : Option Command) → line.verb ≡ Some word → word.now ≡ verb_text v
    → IsCommandIn choices line v found
    → MatchOption found ((command : Command) → IsCommandOfLine choices line command → ⊥) (λ command. IsCommandOfLine choices line command)
of_line choices line word v None said named none = λ command is.
    let both : Some word.now ≡ Some (verb_text (verb_of command)) = sym (ap (option_map (λ (w : Bor (List ℕ)). w.now)) said) ∙ is.first in
    let same : word.now ≡ verb_text (verb_of command) = cc both in
    by_verb (λ c. Fits choices line c → ⊥) v none command (one_verb (verb_of command) v (sym same ∙ named)) is.rest
of_line choices line word v (Some command) said named fits = record {
  first = ap (option_map (λ (w : Bor (List ℕ)). w.now)) said ∙ ap (λ t. Some t) (named ∙ sym (ap verb_text fits.0));
  rest = fits.1;
}

-- words that are a command are those of a line
pub no_line : (words choices : List (List ℕ)) → (IsTaken words → ⊥) → (command : Command) → IsCommandLine words choices command → ⊥
no_line words choices none command is = none is.taken

pub of_words : (words choices : List (List ℕ)) (line : Line) (found : Option Command) → IsTaken words → IsLine words line
    → MatchOption found ((command : Command) → IsCommandOfLine choices line command → ⊥) (λ command. IsCommandOfLine choices line command)
    → MatchOption found ((command : Command) → IsCommandLine words choices command → ⊥) (λ command. IsCommandLine words choices command)
of_words words choices line None taken reads none = λ command is. none command (record {
  first = reads.said ∙ is.verb;
  rest = (subst (AreOperands command) (sym reads.operands) is.operands, subst (AreOptions choices command) (sym reads.options) is.options);
})
of_words words choices line (Some command) taken reads is = record {
  taken = taken;
  verb = sym reads.said ∙ is.first;
  operands = subst (AreOperands command) reads.operands is.rest.0;
  options = subst (AreOptions choices command) reads.options is.rest.1;
}
