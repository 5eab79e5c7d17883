-- What the steps up to a question yield, and how the work goes on from there.
use Rattle.std.proofs.Common.{ℕ, ◌≤◌, List, [], Option, subst, arith}
use Rattle.fer_outside.specs.Held.{Held}
use Rattle.fer_outside.specs.Causes.{Rose}
use Rattle.litmus_syntax.specs.Test.{Test}
use Rattle.fer_events.specs.declared.event.Crash.{Crash}
use Rattle.model_reader.specs.declared.model.Model.{Model}
use Rattle.command_line.specs.declared.commands.ModelName.{ModelName}
use Rattle.command_line.specs.declared.commands.ModelName.TheVariants.{Shipped, File}
use Rattle.report.specs.declared.outcome.Role.TheVariants.{LitmusFile, ModelFile, LogFile, CrashFile}
use Rattle.proof_log.specs.Logs.{Logged}
use Rattle.ferrite_run.specs.Done.{Done, Tells}
use Rattle.ferrite_run.specs.declared.question.Question.{Question}
use Rattle.ferrite_run.specs.Steps.Step.{ends, goes_on}
use Rattle.ferrite_run.specs.Fetching.{IsUnfetched, IsFetched}
use Rattle.ferrite_run.specs.Reading.{IsNoLitmus, IsNoModel, IsNoCrash, IsNoLog, OnLitmus, OnModel, OnCrash, OnLog}
use Rattle.ferrite_run.specs.Asking.{IsUnresolved, OnRead, OnQuestion}
use Rattle.ferrite_run.specs.Yields.{IsLitmusOf, IsModelOf, IsCrashOf, IsLogOf, IsAskedOf, IsQuestionOf}
use Rattle.ferrite_run.proofs.Calm.{litmus_more, model_more, question_more}

-- a count that rose from some time on rose from an earlier time on
pub rose_before : (before mid now : ℕ) → before ≤ mid → Rose mid now → Rose before now
rose_before before mid now later rose = omega (arith, rose)

-- the litmus file isn't fetched, or isn't read
pub litmus_unfetched :
    (told : Option Held) (rose : List ℕ → Type 0) (name : List ℕ) (Next : Test → Done → Type 0) (a : Done) → Tells (IsUnfetched told (rose name) LitmusFile name) a → OnLitmus told rose name Next a
litmus_unfetched told rose name Next a h = ends h

pub litmus_unread :
    (told : Option Held) (rose : List ℕ → Type 0) (name bytes : List ℕ) (Next : Test → Done → Type 0) (a : Done) → IsFetched told LitmusFile name bytes → Tells (IsNoLitmus bytes) a
    → OnLitmus told rose name Next a
litmus_unread told rose name bytes Next a fetched h = goes_on bytes fetched (ends h)

-- the model isn't fetched, or isn't read
pub model_unfetched :
    (told : Option Held) (rose : List ℕ → Type 0) (name : List ℕ) (Next : Model → Done → Type 0) (a : Done) → Tells (IsUnfetched told (rose name) ModelFile name) a
    → OnModel told rose (File name) Next a
model_unfetched told rose name Next a h = ends h

pub model_unread :
    (told : Option Held) (rose : List ℕ → Type 0) (name bytes : List ℕ) (Next : Model → Done → Type 0) (a : Done) → IsFetched told ModelFile name bytes → Tells (IsNoModel bytes) a
    → OnModel told rose (File name) Next a
model_unread told rose name bytes Next a fetched h = goes_on bytes fetched (ends h)

-- the crash file isn't read
pub crash_unread :
    (told : Option Held) (rose : List ℕ → Type 0) (name bytes : List ℕ) (Next : Crash → Done → Type 0) (a : Done) → IsFetched told CrashFile name bytes → Tells (IsNoCrash bytes) a
    → OnCrash told rose name Next a
crash_unread told rose name bytes Next a fetched h = goes_on bytes fetched (ends h)

-- the log isn't read
pub log_unread :
    (told : Option Held) (rose : List ℕ → Type 0) (name bytes : List ℕ) (Next : Logged → Done → Type 0) (a : Done) → IsFetched told LogFile name bytes → Tells (IsNoLog bytes) a
    → OnLog told rose name Next a
log_unread told rose name bytes Next a fetched h = goes_on bytes fetched (ends h)

-- the work goes on from a test
pub on_litmus :
    (told : Option Held) (rose : List ℕ → Type 0) (name : List ℕ) (Next : Test → Done → Type 0) (t : Test) (a : Done) → IsLitmusOf told name t → Next t a → OnLitmus told rose name Next a
on_litmus told rose name Next t a (bytes, fetched, read) next = goes_on bytes fetched (goes_on t read next)

-- and from a model
pub on_model :
    (told : Option Held) (rose : List ℕ → Type 0) (name : ModelName) (Next : Model → Done → Type 0) (m : Model) (a : Done) → IsModelOf told name m → Next m a → OnModel told rose name Next a
on_model told rose (Shipped shipped) Next m a read next = goes_on m read next
on_model told rose (File name) Next m a (bytes, fetched, read) next = goes_on bytes fetched (goes_on m read next)

-- and from a crash
pub on_crash :
    (told : Option Held) (rose : List ℕ → Type 0) (name : List ℕ) (Next : Crash → Done → Type 0) (crash : Crash) (a : Done) → IsCrashOf told name crash → Next crash a
    → OnCrash told rose name Next a
on_crash told rose name Next crash a (bytes, fetched, read) next = goes_on bytes fetched (goes_on crash read next)

-- and from a log
pub on_log :
    (told : Option Held) (rose : List ℕ → Type 0) (name : List ℕ) (Next : Logged → Done → Type 0) (log : Logged) (a : Done) → IsLogOf told name log → Next log a
    → OnLog told rose name Next a
on_log told rose name Next log a (bytes, fetched, read) next = goes_on bytes fetched (goes_on log read next)

-- the work ends before the question is asked
pub no_litmus :
    (told : Option Held) (rose : List ℕ → Type 0) (litmus : List ℕ) (model : ModelName) (Next : Question → Done → Type 0) (a : Done) → OnLitmus told rose litmus (λ _ _. ⊥) a
    → OnQuestion told rose litmus model Next a
no_litmus told rose litmus model Next a h = litmus_more told rose rose litmus (λ _ _. ⊥) _ a (λ r. r) (λ t none. absurd none) h

pub no_model :
    (told : Option Held) (rose more : List ℕ → Type 0) (litmus : List ℕ) (model : ModelName) (Next : Question → Done → Type 0) (t : Test) (a : Done) → ((name : List ℕ) → rose name → more name)
    → IsLitmusOf told litmus t → OnModel told rose model (λ _ _. ⊥) a → OnQuestion told more litmus model Next a
no_model told rose more litmus model Next t a from read h =
    on_litmus told more litmus _ t a read (model_more told rose more model (λ _ _. ⊥) _ a (λ name is. from name) (λ m none. absurd none) h)

pub no_events :
    (told : Option Held) (rose : List ℕ → Type 0) (litmus : List ℕ) (model : ModelName) (Next : Question → Done → Type 0) (t : Test) (m : Model) (a : Done)
    → IsLitmusOf told litmus t → IsModelOf told model m → Tells (IsUnresolved t []) a → OnQuestion told rose litmus model Next a
no_events told rose litmus model Next t m a read read_model h = on_litmus told rose litmus _ t a read (on_model told rose model _ m a read_model (ends h))

-- a question about a test that was read
pub on_read : (test : Test) (model : Model) (Next : Question → Done → Type 0) (q : Question) (a : Done) → IsAskedOf test model q → Next q a → OnRead test model Next a
on_read test model Next q a is next =
    let make : Test → Model → Question = λ t m. record { litmus = t; model = m; events = q.events; pairs = q.pairs } in
    let asked : Next (make test model) a =
    subst (λ (m : Model). Next (make test m) a) is.model_of (subst (λ (t : Test). Next (make t q.model) a) is.litmus next) in
    goes_on q.events is.resolved (goes_on q.pairs is.kept asked)

-- the question is asked, and the work goes on from it
pub on_question :
    (told : Option Held) (rose : List ℕ → Type 0) (litmus : List ℕ) (model : ModelName) (Next : Question → Done → Type 0) (q : Question) (a : Done)
    → IsQuestionOf told litmus model q → Next q a → OnQuestion told rose litmus model Next a
on_question told rose litmus model Next q a is next =
    on_litmus told rose litmus _ is.test a is.litmus_read (on_model told rose model _ is.model a is.model_read (on_read is.test is.model Next q a is.asked next))

-- what ended the work before the question ends it whatever follows
pub unasked :
    (told : Option Held) (rose : List ℕ → Type 0) (litmus : List ℕ) (model : ModelName) (Next : Question → Done → Type 0) (a : Done)
    → OnQuestion told rose litmus model (λ _ _. ⊥) a → OnQuestion told rose litmus model Next a
unasked told rose litmus model Next a h = question_more told rose rose litmus model (λ _ _. ⊥) Next a (λ r. r) (λ name is r. r) (λ q none. absurd none) h
