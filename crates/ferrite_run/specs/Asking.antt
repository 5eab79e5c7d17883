-- The steps that all commands on a litmus file and a model begin with.
use Rattle.std.specs.Prelude.{◌≡◌, ℕ, List, [], Option}
use Rattle.fer_outside.specs.Held.{Held}
use Rattle.litmus_syntax.specs.Test.{Test}
use Rattle.litmus_syntax.specs.declared.site.Site.{Site}
use Rattle.fer_events.specs.declared.event.Event.{Event}
use Rattle.fer_events.specs.Pairs.{PairList}
use Rattle.fer_events.specs.Tables.{Trace}
use Rattle.call_events.specs.declared.call_kind.CallKind.{CallKind}
use Rattle.call_events.specs.Refusals.{kind_number}
use Rattle.call_events.specs.Resolved.{HasEvents, IsCallRefused}
use Rattle.model_reader.specs.declared.model.Model.{Model}
use Rattle.sync_repair.specs.Sets.{AreKept}
use Rattle.command_line.specs.declared.commands.ModelName.{ModelName}
use Rattle.report.specs.Answers.{Answer, LitmusRefused}
use Rattle.ferrite_run.specs.declared.question.Question.{Question}
use Rattle.ferrite_run.specs.Done.{Done}
use Rattle.ferrite_run.specs.Steps.{Step}
use Rattle.ferrite_run.specs.Reading.{OnLitmus, OnModel}

-- the answer to a test of which a call or the question is refused
abbrev pub IsUnresolved : Test → List Site → Answer → Type 0
IsUnresolved litmus sites answer = (line : ℕ) × (kind : CallKind) × IsCallRefused litmus sites line kind × (answer ≡ LitmusRefused line (kind_number kind))

-- the calls of a test with these sites become events
abbrev pub Resolve : Test → List Site → (Trace → Done → Type 0) → Done → Type 0
Resolve litmus sites Next done = Step Trace (IsUnresolved litmus sites) (HasEvents litmus sites) Next done

-- the model says which pairs of the events are kept
abbrev pub Keep : Model → List Event → (PairList → Done → Type 0) → Done → Type 0
Keep model events Next done = Step PairList (λ _. ⊥) (AreKept model events) Next done

-- the events of a test, and those pairs of them that the model keeps
abbrev pub OnRead : Test → Model → (Question → Done → Type 0) → Done → Type 0
OnRead test model Next done =
    Resolve test []
    (λ trace. Keep model trace.events
    (λ pairs. Next (record { litmus = test; model = model; events = trace; pairs = pairs }))) done

-- the model, and then the test under it
abbrev pub OnTest : Option Held → (List ℕ → Type 0) → Test → ModelName → (Question → Done → Type 0) → Done → Type 0
OnTest told rose test model Next done = OnModel told rose model (λ read. OnRead test read Next) done

-- the litmus file, and then its test
abbrev pub OnQuestion : Option Held → (List ℕ → Type 0) → List ℕ → ModelName → (Question → Done → Type 0) → Done → Type 0
OnQuestion told rose litmus model Next done = OnLitmus told rose litmus (λ test. OnTest told rose test model Next) done
