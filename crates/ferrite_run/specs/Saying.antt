-- An answer, made ready to be written, and what is to be kept.
use Rattle.std.specs.Prelude.{◌≡◌, ⊤, ℕ, List, Option, option_map, Result, Ok, Err}
use Rattle.report.specs.Answers.{answer_text}
use Rattle.ferrite_run.specs.declared.saying.Kept.{Kept}
use Rattle.ferrite_run.specs.declared.saying.Said.{Said}
use Rattle.ferrite_run.specs.declared.saying.Stop.{Stop}
use Rattle.ferrite_run.specs.declared.saying.Stop.TheVariants.{Answered, OutOfMemory}
use Rattle.ferrite_run.specs.Done.{Done}
use Rattle.ferrite_run.specs.Statuses.{status_of}

-- the name and the bytes that are to be kept
abbrev pub kept_in : Option Kept → Option (List ℕ × List ℕ)
kept_in kept = option_map (λ k. (k.name, k.bytes.items)) kept

-- the status and the text are those of the answer, and what is to be kept is what is kept
pub record Says (said : Said) (done : Done) : Type 0 where
  pub stated : said.status ≡ status_of done.answer
  pub written : said.text.items ≡ answer_text done.answer
  pub keeps : kept_in said.kept ≡ done.kept

-- they are those of something of which this holds
abbrev pub SaysOne : (Done → Type 0) → Said → Type 0
SaysOne Holds said = (done : Done) × Holds done × Says said done

-- the work stopped with something of which this holds, or for want of memory
abbrev pub StopsWith : (Done → Type 0) → Stop → Type 0
StopsWith Holds (Answered said) = SaysOne Holds said
StopsWith Holds OutOfMemory = ⊤

-- the work ended with something of which this holds, or for want of memory
abbrev pub Replies : (Done → Type 0) → Result Said Stop → Type 0
Replies Holds (Ok said) = SaysOne Holds said
Replies Holds (Err stop) = StopsWith Holds stop
