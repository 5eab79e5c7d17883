-- The words with which commands begin.
use Rattle.std.specs.Prelude.{ℕ, List, codes}
use Rattle.command_line.specs.declared.verbs.Verb.{Verb}
use Rattle.command_line.specs.declared.verbs.Verb.TheVariants.{Check, Repair, Verify, Replay, Events, Show, Models, Work, Explain, Hint, Trim, Flush}

-- the first word of the command
abbrev pub verb_text : Verb → List ℕ
verb_text Check = codes "check"
verb_text Repair = codes "repair"
verb_text Verify = codes "verify"
verb_text Replay = codes "replay"
verb_text Events = codes "events"
verb_text Show = codes "show"
verb_text Models = codes "models"
verb_text Work = codes "work"
verb_text Explain = codes "explain"
verb_text Hint = codes "hint"
verb_text Trim = codes "trim"
verb_text Flush = codes "flush"
