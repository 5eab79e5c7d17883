-- A command keeps something only under the name that it keeps a log under.
use Rattle.std.proofs.Common.{◌≡◌, ℕ, List, Option, Some, None, refl, sym, ◌∙◌, ap}
use Rattle.fer_outside.specs.Held.{Held}
use Rattle.litmus_syntax.specs.Test.{Test}
use Rattle.fer_events.specs.declared.event.Crash.{Crash}
use Rattle.model_reader.specs.declared.model.Model.{Model}
use Rattle.command_line.specs.declared.commands.ModelName.{ModelName}
use Rattle.command_line.specs.declared.commands.ModelName.TheVariants.{Shipped, File}
use Rattle.command_line.specs.declared.commands.SearchOptions.{SearchOptions}
use Rattle.command_line.specs.declared.commands.Command.{Command}
use Rattle.command_line.specs.declared.commands.Command.TheVariants.{Check, Repair, Verify, Replay, Events, Show, Models, Work, Explain, Hint, Trim, Flush}
use Rattle.report.specs.Answers.{Answer}
use Rattle.ferrite_run.specs.declared.question.Question.{Question}
use Rattle.proof_log.specs.Logs.{Derivation, Logged}
use Rattle.ferrite_run.specs.declared.saying.Kept.{Kept}
use Rattle.ferrite_run.specs.Saying.{kept_in}
use Rattle.ferrite_run.specs.Done.{Done, Tells}
use Rattle.litmus_syntax.specs.declared.site.Site.{Site}
use Rattle.litmus_syntax.specs.declared.site.SiteKind.{SiteKind}
use Rattle.model_library.specs.Generated.{generated}
use Rattle.ferrite_run.specs.Sites.{ListSites}
use Rattle.ferrite_run.specs.Repair.{IsRepaired, sited_log}
use Rattle.ferrite_run.specs.Repair.IsRepaired.{none_suffice, repaired, unknown as undecided}
use Rattle.ferrite_run.specs.Work.{IsWorked}
use Rattle.ferrite_run.specs.Check.{IsChecked, plain_log, kept_log}
use Rattle.ferrite_run.specs.Check.IsChecked.{allowed, forbidden, unknown}
use Rattle.ferrite_run.specs.Verify.{IsVerified}
use Rattle.ferrite_run.specs.Replay.{IsReplayed}
use Rattle.ferrite_run.specs.Events.{IsTable}
use Rattle.ferrite_run.specs.Show.{IsShown}
use Rattle.ferrite_run.specs.Steps.{Step}
use Rattle.ferrite_run.specs.Steps.Step.{ends, goes_on}
use Rattle.ferrite_run.specs.Reading.{OnLitmus, OnModel, OnCrash, OnLog}
use Rattle.ferrite_run.specs.Asking.{OnQuestion}
use Rattle.ferrite_run.specs.Answers.{IsReply, IsAnswer, Asks, KeepsUnder}

-- what is kept is kept under a name of which this holds
abbrev pub Keeps : (List ℕ → Type 0) → Done → Type 0
Keeps Is done = (name bytes : List ℕ) → done.kept ≡ Some (name, bytes) → Is name

none_is_none : (kept : List ℕ × List ℕ) → None ≡ Some kept → ⊥
none_is_none kept e = cc

pub nothing_kept : (Is : List ℕ → Type 0) (done : Done) → done.kept ≡ None → Keeps Is done
nothing_kept Is done e name bytes f = absurd (none_is_none (name, bytes) (sym e ∙ f))

step_keeps :
    {X : Type 0} {Ends : Answer → Type 0} {Yields : X → Type 0} {Next : X → Done → Type 0} (Is : List ℕ → Type 0) (done : Done)
    → ((x : X) → Next x done → Keeps Is done) → Step X Ends Yields Next done → Keeps Is done
step_keeps Is done next (ends (h, none)) = nothing_kept Is done none
step_keeps Is done next (goes_on x yields rest) = next x rest

litmus_keeps :
    (told : Option Held) (rose : List ℕ → Type 0) (name : List ℕ) (Next : Test → Done → Type 0) (Is : List ℕ → Type 0) (done : Done)
    → ((t : Test) → Next t done → Keeps Is done) → OnLitmus told rose name Next done → Keeps Is done
litmus_keeps told rose name Next Is done next = step_keeps Is done (λ bytes. step_keeps Is done next)

model_keeps :
    (told : Option Held) (rose : List ℕ → Type 0) (name : ModelName) (Next : Model → Done → Type 0) (Is : List ℕ → Type 0) (done : Done)
    → ((m : Model) → Next m done → Keeps Is done) → OnModel told rose name Next done → Keeps Is done
model_keeps told rose (Shipped shipped) Next Is done next = step_keeps Is done next
model_keeps told rose (File name) Next Is done next = step_keeps Is done (λ bytes. step_keeps Is done next)

crash_keeps :
    (told : Option Held) (rose : List ℕ → Type 0) (name : List ℕ) (Next : Crash → Done → Type 0) (Is : List ℕ → Type 0) (done : Done)
    → ((crash : Crash) → Next crash done → Keeps Is done) → OnCrash told rose name Next done → Keeps Is done
crash_keeps told rose name Next Is done next = step_keeps Is done (λ bytes. step_keeps Is done next)

question_keeps :
    (told : Option Held) (rose : List ℕ → Type 0) (litmus : List ℕ) (model : ModelName) (Next : Question → Done → Type 0) (Is : List ℕ → Type 0) (done : Done)
    → ((q : Question) → Next q done → Keeps Is done) → OnQuestion told rose litmus model Next done → Keeps Is done
question_keeps told rose litmus model Next Is done next =
    litmus_keeps told rose litmus _ Is done
    (λ test. model_keeps told rose model _ Is done
    (λ read. step_keeps Is done
    (λ trace. step_keeps Is done
    (λ pairs. next (record { litmus = test; model = read; events = trace; pairs = pairs })))))

log_keeps :
    (told : Option Held) (rose : List ℕ → Type 0) (name : List ℕ) (Next : Logged → Done → Type 0) (Is : List ℕ → Type 0) (done : Done)
    → ((log : Logged) → Next log done → Keeps Is done) → OnLog told rose name Next done → Keeps Is done
log_keeps told rose name Next Is done next = step_keeps Is done (λ bytes. step_keeps Is done next)

told_keeps : (Holds : Answer → Type 0) (Is : List ℕ → Type 0) (done : Done) → Tells Holds done → Keeps Is done
told_keeps Holds Is done h = nothing_kept Is done h.1

-- the name of a log is the one that was given for it
abbrev name_of : Option (List ℕ × List ℕ) → Option (List ℕ)
name_of None = None
name_of (Some kept) = Some kept.0

named : (log : Option (List ℕ)) (logged : Logged) (name bytes : List ℕ) → kept_log log logged ≡ Some (name, bytes) → log ≡ Some name
named None logged name bytes e = absurd (none_is_none (name, bytes) e)
named (Some other) logged name bytes e = ap name_of e

check_keeps : (q : Question) (search : SearchOptions) (done : Done) → IsChecked q search done → Keeps (λ name. search.log ≡ Some name) done
check_keeps q search done (allowed crash shows rest e) = nothing_kept (λ name. search.log ≡ Some name) done (ap (λ (d : Done). d.kept) e)
check_keeps q search done (forbidden never part rules refutes e) = λ name bytes f. named search.log (plain_log part) name bytes (sym (ap (λ (d : Done). d.kept) e) ∙ f)
check_keeps q search done (unknown limit is part rules leaves full e) = λ name bytes f. named search.log (plain_log part) name bytes (sym (ap (λ (d : Done). d.kept) e) ∙ f)

repair_keeps :
    (q : Question) (kind : SiteKind) (sites : List Site) (search : SearchOptions) (done : Done) → IsRepaired q kind sites search done
    → Keeps (λ name. search.log ≡ Some name) done
repair_keeps q kind sites search done (none_suffice crash reaches e) = nothing_kept (λ name. search.log ≡ Some name) done (ap (λ (d : Done). d.kept) e)
repair_keeps q kind sites search done (repaired never needs f left needed rules closed e) =
    λ name bytes is. named search.log (sited_log kind f) name bytes (sym (ap (λ (d : Done). d.kept) e) ∙ is)
repair_keeps q kind sites search done (undecided limit limited f asked rules leaves e) =
    λ name bytes is. named search.log (sited_log kind f) name bytes (sym (ap (λ (d : Done). d.kept) e) ∙ is)

reply_keeps : (told : Option Held) (rose : List ℕ → Type 0) (command : Command) (done : Done) → IsReply told rose command done → Keeps (KeepsUnder command) done
reply_keeps told rose (Check litmus model search) done h =
    question_keeps told rose litmus model (λ q. IsChecked q search) (λ name. search.log ≡ Some name) done (λ q. check_keeps q search done) h
reply_keeps told rose (Verify litmus model log) done h =
    question_keeps told rose litmus model (λ q. OnLog told rose log (λ read. Tells (IsVerified q read))) (λ _. ⊥) done
    (λ q. log_keeps told rose log (λ read. Tells (IsVerified q read)) (λ _. ⊥) done (λ read. told_keeps (IsVerified q read) (λ _. ⊥) done)) h
reply_keeps told rose (Replay litmus model crash) done h =
    question_keeps told rose litmus model (λ q. OnCrash told rose crash (λ read. Tells (IsReplayed q read))) (λ _. ⊥) done
    (λ q. crash_keeps told rose crash (λ read. Tells (IsReplayed q read)) (λ _. ⊥) done (λ read. told_keeps (IsReplayed q read) (λ _. ⊥) done)) h
reply_keeps told rose (Events litmus model) done h = question_keeps told rose litmus model (λ q. Tells (IsTable q)) (λ _. ⊥) done (λ q. told_keeps (IsTable q) (λ _. ⊥) done) h
reply_keeps told rose (Show litmus) done h = litmus_keeps told rose litmus (λ t. Tells (IsShown t)) (λ _. ⊥) done (λ t. told_keeps (IsShown t) (λ _. ⊥) done) h
reply_keeps told rose Models done h = nothing_kept (λ _. ⊥) done (ap (λ (d : Done). d.kept) h)
reply_keeps told rose (Repair litmus model with search) done h =
    question_keeps told rose litmus model (λ q. ListSites q with (λ sites. IsRepaired q with sites search)) (λ name. search.log ≡ Some name) done
    (λ q. step_keeps (λ name. search.log ≡ Some name) done (λ sites. repair_keeps q with sites search done)) h
reply_keeps told rose (Work seed calls branch) done h = told_keeps (IsWorked seed calls) (λ _. ⊥) done h
reply_keeps told rose (Explain litmus model branch) done h = absurd h
reply_keeps told rose (Hint litmus model log hinted) done h = absurd h
reply_keeps told rose (Trim litmus model log trimmed) done h = absurd h
reply_keeps told rose (Flush litmus model seed width) done h = absurd h

-- so a run keeps nothing under a name that isn't the log's
pub answer_keeps :
    (told : Option Held) (rose : List ℕ → Type 0) (words choices : List (List ℕ)) (done : Done) → IsAnswer told rose words choices done
    → (name bytes : List ℕ) → done.kept ≡ Some (name, bytes) → (command : Command) × Asks words choices command × KeepsUnder command name
answer_keeps told rose words choices done (ends (h, none)) name bytes e = absurd (nothing_kept (λ _. ⊥) done none name bytes e)
answer_keeps told rose words choices done (goes_on command asks h) name bytes e = (command, asks, reply_keeps told rose command done h name bytes e)

-- and nothing at all where the words are no command
pub unasked_keeps :
    (told : Option Held) (rose : List ℕ → Type 0) (words choices : List (List ℕ)) (done : Done) → ((command : Command) → Asks words choices command → ⊥)
    → IsAnswer told rose words choices done → done.kept ≡ None
unasked_keeps told rose words choices done none (ends (h, nothing)) = nothing
unasked_keeps told rose words choices done none (goes_on command asks h) = absurd (none command asks)

pub none_said : (kept : Option Kept) → kept_in kept ≡ None → kept ≡ None
none_said None e = refl
none_said (Some kept) e = absurd (none_is_none (kept.name, kept.bytes.items) (sym e))
