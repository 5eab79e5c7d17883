-- Where no count of faults rose for a file that the command names, its answer is one without faults; and where more counts
-- rose, what was an answer still is one.
use Rattle.std.proofs.Common.{ℕ, List, [], Option, Some, None, inl, inr, refl}
use Rattle.fer_outside.specs.Held.{Held}
use Rattle.fer_outside.specs.Causes.{IsMissing}
use Rattle.litmus_syntax.specs.Test.{Test}
use Rattle.litmus_reader.specs.LitmusText.{IsLitmusText}
use Rattle.fer_events.specs.declared.event.Crash.{Crash}
use Rattle.fer_events.specs.Pairs.{PairList}
use Rattle.fer_events.specs.Tables.{Trace}
use Rattle.call_events.specs.Resolved.{HasEvents}
use Rattle.model_reader.specs.declared.model.Model.{Model}
use Rattle.model_reader.specs.ModelText.{IsModelText}
use Rattle.model_library.specs.ShippedModels.{shipped_text}
use Rattle.witness_replay.specs.CrashFiles.{IsCrashText}
use Rattle.proof_log.specs.Logs.{Logged}
use Rattle.proof_log.specs.LogFiles.{IsLogText}
use Rattle.command_line.specs.declared.commands.ModelName.{ModelName}
use Rattle.command_line.specs.declared.commands.ModelName.TheVariants.{Shipped, File}
use Rattle.command_line.specs.declared.commands.Command.{Command}
use Rattle.command_line.specs.declared.commands.Command.TheVariants.{Check, Repair, Verify, Replay, Events, Show, Models, Work, Explain, Hint, Trim, Flush}
use Rattle.report.specs.declared.outcome.Role.{Role}
use Rattle.report.specs.declared.outcome.Role.TheVariants.{LitmusFile, ModelFile, LogFile, CrashFile}
use Rattle.report.specs.Answers.{Answer}
use Rattle.ferrite_run.specs.declared.question.Question.{Question}
use Rattle.ferrite_run.specs.Steps.Step.{ends, goes_on}
use Rattle.ferrite_run.specs.Fetching.{Fetch, IsUnfetched, IsFetched}
use Rattle.ferrite_run.specs.Fetching.IsUnfetched.{missing, unreadable, long}
use Rattle.ferrite_run.specs.Reading.{IsNoLitmus, IsNoModel, IsNoCrash, IsNoLog, ReadLitmus, ReadModel, ReadCrash, ReadLog, OnLitmus, OnModel, OnCrash, OnLog}
use Rattle.sync_repair.specs.Sets.{AreKept}
use Rattle.ferrite_run.specs.Asking.{IsUnresolved, Resolve, Keep, OnQuestion}
use Rattle.ferrite_run.specs.Sites.{ListSites}
use Rattle.ferrite_run.specs.Repair.{IsRepaired}
use Rattle.ferrite_run.specs.Answers.{IsReply, IsAnswer, Asks, IsFileOf, IsModelFile}
use Rattle.ferrite_run.specs.Done.{Done, Tells}
use Rattle.ferrite_run.specs.Check.{IsChecked}
use Rattle.ferrite_run.specs.Events.{IsTable}
use Rattle.ferrite_run.specs.Show.{IsShown}
use Rattle.ferrite_run.specs.Replay.{IsReplayed}
use Rattle.ferrite_run.specs.Verify.{IsVerified}
use Rattle.ferrite_run.proofs.Rows.{step_more}

missing_more : (told : Option Held) (name : List ℕ) (rose more : Type 0) → (rose → more) → IsMissing told name rose → IsMissing told name more
missing_more None name rose more from h = from h
missing_more (Some all) name rose more from h = h

unfetched_more : (told : Option Held) (rose more : Type 0) (role : Role) (name : List ℕ) (a : Answer) → (rose → more) → IsUnfetched told rose role name a → IsUnfetched told more role name a
unfetched_more told rose more role name a from (missing h e) = missing (missing_more told name rose more from h) e
unfetched_more told rose more role name a from (unreadable h e) = unreadable (from h) e
unfetched_more told rose more role name a from (long h e) = long h e

fetch_more :
    (told : Option Held) (rose more : List ℕ → Type 0) (role : Role) (name : List ℕ) (Next Then : List ℕ → Done → Type 0) (a : Done) → (rose name → more name)
    → ((bytes : List ℕ) → Next bytes a → Then bytes a) → Fetch told rose role name Next a → Fetch told more role name Then a
fetch_more told rose more role name Next Then a from next =
    step_more (List ℕ) (IsUnfetched told (rose name) role name) (IsUnfetched told (more name) role name) (IsFetched told role name) (IsFetched told role name) Next Then a
    (unfetched_more told (rose name) (more name) role name a.answer from) (λ x f. f) next

read_litmus_more : (bytes : List ℕ) (Next Then : Test → Done → Type 0) (a : Done) → ((t : Test) → Next t a → Then t a) → ReadLitmus bytes Next a → ReadLitmus bytes Then a
read_litmus_more bytes Next Then a next =
    step_more Test (IsNoLitmus bytes) (IsNoLitmus bytes) (IsLitmusText bytes) (IsLitmusText bytes) Next Then a (λ h. h) (λ x h. h) next

read_model_more : (bytes : List ℕ) (Next Then : Model → Done → Type 0) (a : Done) → ((m : Model) → Next m a → Then m a) → ReadModel bytes Next a → ReadModel bytes Then a
read_model_more bytes Next Then a next =
    step_more Model (IsNoModel bytes) (IsNoModel bytes) (IsModelText bytes) (IsModelText bytes) Next Then a (λ h. h) (λ x h. h) next

read_crash_more : (bytes : List ℕ) (Next Then : Crash → Done → Type 0) (a : Done) → ((crash : Crash) → Next crash a → Then crash a) → ReadCrash bytes Next a → ReadCrash bytes Then a
read_crash_more bytes Next Then a next =
    step_more Crash (IsNoCrash bytes) (IsNoCrash bytes) (IsCrashText bytes) (IsCrashText bytes) Next Then a (λ h. h) (λ x h. h) next

pub litmus_more :
    (told : Option Held) (rose more : List ℕ → Type 0) (name : List ℕ) (Next Then : Test → Done → Type 0) (a : Done) → (rose name → more name)
    → ((t : Test) → Next t a → Then t a) → OnLitmus told rose name Next a → OnLitmus told more name Then a
litmus_more told rose more name Next Then a from next =
    fetch_more told rose more LitmusFile name (λ bytes. ReadLitmus bytes Next) (λ bytes. ReadLitmus bytes Then) a from (λ bytes. read_litmus_more bytes Next Then a next)

pub model_more :
    (told : Option Held) (rose more : List ℕ → Type 0) (model : ModelName) (Next Then : Model → Done → Type 0) (a : Done)
    → ((name : List ℕ) → IsModelFile model name → rose name → more name) → ((m : Model) → Next m a → Then m a) → OnModel told rose model Next a → OnModel told more model Then a
model_more told rose more (Shipped shipped) Next Then a from next = read_model_more (shipped_text shipped) Next Then a next
model_more told rose more (File name) Next Then a from next =
    fetch_more told rose more ModelFile name (λ bytes. ReadModel bytes Next) (λ bytes. ReadModel bytes Then) a (from name refl) (λ bytes. read_model_more bytes Next Then a next)

pub crash_more :
    (told : Option Held) (rose more : List ℕ → Type 0) (name : List ℕ) (Next Then : Crash → Done → Type 0) (a : Done) → (rose name → more name)
    → ((crash : Crash) → Next crash a → Then crash a) → OnCrash told rose name Next a → OnCrash told more name Then a
crash_more told rose more name Next Then a from next =
    fetch_more told rose more CrashFile name (λ bytes. ReadCrash bytes Next) (λ bytes. ReadCrash bytes Then) a from (λ bytes. read_crash_more bytes Next Then a next)

read_log_more : (bytes : List ℕ) (Next Then : Logged → Done → Type 0) (a : Done) → ((log : Logged) → Next log a → Then log a) → ReadLog bytes Next a → ReadLog bytes Then a
read_log_more bytes Next Then a next =
    step_more Logged (IsNoLog bytes) (IsNoLog bytes) (IsLogText bytes) (IsLogText bytes) Next Then a (λ h. h) (λ x h. h) next

pub log_more :
    (told : Option Held) (rose more : List ℕ → Type 0) (name : List ℕ) (Next Then : Logged → Done → Type 0) (a : Done) → (rose name → more name)
    → ((log : Logged) → Next log a → Then log a) → OnLog told rose name Next a → OnLog told more name Then a
log_more told rose more name Next Then a from next =
    fetch_more told rose more LogFile name (λ bytes. ReadLog bytes Next) (λ bytes. ReadLog bytes Then) a from (λ bytes. read_log_more bytes Next Then a next)

pub resolve_more : (litmus : Test) (Next Then : Trace → Done → Type 0) (a : Done) → ((t : Trace) → Next t a → Then t a) → Resolve litmus [] Next a → Resolve litmus [] Then a
resolve_more litmus Next Then a next =
    step_more Trace (IsUnresolved litmus []) (IsUnresolved litmus []) (HasEvents litmus []) (HasEvents litmus []) Next Then a (λ h. h) (λ x h. h) next

pub question_more :
    (told : Option Held) (rose more : List ℕ → Type 0) (litmus : List ℕ) (model : ModelName) (Next Then : Question → Done → Type 0) (a : Done) → (rose litmus → more litmus)
    → ((name : List ℕ) → IsModelFile model name → rose name → more name) → ((q : Question) → Next q a → Then q a)
    → OnQuestion told rose litmus model Next a → OnQuestion told more litmus model Then a
question_more told rose more litmus model Next Then a from also next =
    let ask : Test → Model → Trace → PairList → Question = λ t m e p. record { litmus = t; model = m; events = e; pairs = p } in
    litmus_more told rose more litmus _ _ a from
    (λ test. model_more told rose more model _ _ a also
    (λ read. resolve_more test (λ trace. Keep read trace.events (λ pairs. Next (ask test read trace pairs))) (λ trace. Keep read trace.events (λ pairs. Then (ask test read trace pairs))) a
    (λ trace. step_more PairList (λ _. ⊥) (λ _. ⊥) (AreKept read trace.events) (AreKept read trace.events) (λ pairs. Next (ask test read trace pairs)) (λ pairs. Then (ask test read trace pairs)) a
    (λ h. h) (λ x h. h) (λ pairs. next (ask test read trace pairs)))))

pub reply_more :
    (told : Option Held) (rose more : List ℕ → Type 0) (command : Command) (a : Done) → ((name : List ℕ) → IsFileOf command name → rose name → more name)
    → IsReply told rose command a → IsReply told more command a
reply_more told rose more (Check litmus model search) a from h =
    question_more told rose more litmus model (λ q. IsChecked q search) (λ q. IsChecked q search) a (from litmus (inl refl)) (λ name is. from name (inr is)) (λ q h. h) h
reply_more told rose more (Verify litmus model log) a from h =
    question_more told rose more litmus model (λ q. OnLog told rose log (λ l. Tells (IsVerified q l))) (λ q. OnLog told more log (λ l. Tells (IsVerified q l))) a (from litmus (inl refl)) (λ name is. from name (inr (inl is)))
    (λ q. log_more told rose more log (λ l. Tells (IsVerified q l)) (λ l. Tells (IsVerified q l)) a (from log (inr (inr refl))) (λ l h. h)) h
reply_more told rose more (Replay litmus model crash) a from h =
    question_more told rose more litmus model (λ q. OnCrash told rose crash (λ c. Tells (IsReplayed q c))) (λ q. OnCrash told more crash (λ c. Tells (IsReplayed q c))) a (from litmus (inl refl)) (λ name is. from name (inr (inl is)))
    (λ q. crash_more told rose more crash (λ c. Tells (IsReplayed q c)) (λ c. Tells (IsReplayed q c)) a (from crash (inr (inr refl))) (λ c h. h)) h
reply_more told rose more (Events litmus model) a from h =
    question_more told rose more litmus model (λ q. Tells (IsTable q)) (λ q. Tells (IsTable q)) a (from litmus (inl refl)) (λ name is. from name (inr is)) (λ q h. h) h
reply_more told rose more (Show litmus) a from h = litmus_more told rose more litmus (λ t. Tells (IsShown t)) (λ t. Tells (IsShown t)) a (from litmus refl) (λ t h. h) h
reply_more told rose more Models a from h = h
reply_more told rose more (Repair litmus model with search) a from h =
    question_more told rose more litmus model (λ q. ListSites q with (λ sites. IsRepaired q with sites search)) (λ q. ListSites q with (λ sites. IsRepaired q with sites search)) a
    (from litmus (inl refl)) (λ name is. from name (inr is)) (λ q h. h) h
reply_more told rose more (Work seed calls branch) a from h = h
reply_more told rose more (Explain litmus model branch) a from h = absurd h
reply_more told rose more (Hint litmus model log hinted) a from h = absurd h
reply_more told rose more (Trim litmus model log trimmed) a from h = absurd h
reply_more told rose more (Flush litmus model seed width) a from h = absurd h

pub answer_more :
    (told : Option Held) (rose more : List ℕ → Type 0) (words choices : List (List ℕ)) (a : Done)
    → ((command : Command) (name : List ℕ) → Asks words choices command → IsFileOf command name → rose name → more name)
    → IsAnswer told rose words choices a → IsAnswer told more words choices a
answer_more told rose more words choices a from (ends h) = ends h
answer_more told rose more words choices a from (goes_on command asks h) = goes_on command asks (reply_more told rose more command a (λ name is. from command name asks is) h)
