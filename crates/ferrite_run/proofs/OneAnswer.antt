-- Over a library that tells what it holds, and without faults, a command line has one answer.
use Rattle.std.proofs.Common.{◌≡◌, ℕ, List, [], Some, None, inl, inr, sym, ◌∙◌, ap}
use Rattle.fer_outside.specs.Held.{Held}
use Rattle.litmus_syntax.specs.Test.{Test}
use Rattle.fer_events.specs.declared.event.Crash.{Crash}
use Rattle.litmus_syntax.specs.declared.site.Site.{Site}
use Rattle.litmus_syntax.specs.declared.site.SiteKind.{SiteKind}
use Rattle.litmus_syntax.specs.declared.site.SiteKind.TheVariants.{Sync}
use Rattle.model_library.specs.declared.texts.ShippedModel.TheVariants.{Ext4like}
use Rattle.model_library.specs.Generated.{generated}
use Rattle.sync_repair.specs.Sets.{AreKept}
use Rattle.fer_events.specs.Pairs.{PairList}
use Rattle.fer_events.specs.Tables.{Trace}
use Rattle.call_events.specs.Resolved.{HasEvents}
use Rattle.model_reader.specs.declared.model.Model.{Model}
use Rattle.model_reader.specs.ModelText.{IsModelText}
use Rattle.litmus_reader.specs.LitmusText.{IsLitmusText}
use Rattle.model_library.specs.ShippedModels.{shipped_text}
use Rattle.witness_replay.specs.CrashFiles.{IsCrashText}
use Rattle.proof_log.specs.Logs.{Logged}
use Rattle.proof_log.specs.LogFiles.{IsLogText}
use Rattle.command_line.specs.declared.commands.ModelName.{ModelName}
use Rattle.command_line.specs.declared.commands.ModelName.TheVariants.{Shipped, File}
use Rattle.command_line.specs.declared.commands.SearchOptions.{SearchOptions}
use Rattle.command_line.specs.declared.commands.Command.{Command}
use Rattle.command_line.specs.declared.commands.Command.TheVariants.{Check, Repair, Verify, Replay, Events, Show, Models, Work, Explain, Hint, Trim, Flush}
use Rattle.command_line.specs.Commands.{IsCommandLine}
use Rattle.report.specs.declared.outcome.Role.TheVariants.{LitmusFile, ModelFile, LogFile, CrashFile}
use Rattle.report.specs.Answers.{Answer, EventTable, Shown as ShownTest}
use Rattle.ferrite_run.specs.declared.question.Question.{Question}
use Rattle.ferrite_run.specs.Agreeing.{Agree}
use Rattle.ferrite_run.specs.Agreeing.Agree.{same, allowed as both_allowed, forbidden as both_forbidden, left_open}
use Rattle.ferrite_run.specs.Done.{Done, Tells}
use Rattle.ferrite_run.specs.Fetching.{IsUnfetched, IsFetched}
use Rattle.ferrite_run.specs.Reading.{IsNoLitmus, IsNoModel, IsNoCrash, IsNoLog, ReadLitmus, ReadModel, ReadCrash, ReadLog, OnLitmus, OnModel, OnCrash, OnLog}
use Rattle.ferrite_run.specs.Asking.{IsUnresolved, Keep, OnRead, OnTest, OnQuestion}
use Rattle.ferrite_run.specs.Sites.{HasTooMany, AreSitesOf, ListSites}
use Rattle.ferrite_run.specs.Repair.{IsRepaired}
use Rattle.ferrite_run.specs.Working.{IsWorkedBy}
use Rattle.ferrite_run.proofs.Worked.{worked_steps}
use Rattle.ferrite_run.specs.Check.{IsChecked}
use Rattle.ferrite_run.specs.Check.IsChecked.{allowed, forbidden, unknown}
use Rattle.ferrite_run.specs.Events.{IsTable}
use Rattle.ferrite_run.specs.Show.{IsShown}
use Rattle.ferrite_run.specs.Verify.{IsVerified}
use Rattle.ferrite_run.specs.Replay.{answer_to, IsReplayed}
use Rattle.ferrite_run.specs.Answers.{IsReply, IsAnswer, IsUsage, Asks}
use Rattle.ferrite_run.proofs.Rows.{IsOneStep, one_step, one_told}
use Rattle.ferrite_run.proofs.Single.{Laws, one_fetch, one_litmus_step, one_model_step, one_crash_step, one_log_step, one_resolving, one_keeping}
use Rattle.ferrite_run.proofs.OneRepair.{one_listing, one_repair, one_work}
use Rattle.ferrite_run.proofs.OneVerdict.{one_verdict}

one_on_litmus :
    Laws → (all : Held) (name : List ℕ) (Next : Test → Done → Type 0) → ((litmus : Test) (a b : Done) → Next litmus a → Next litmus b → Agree a b)
    → (a b : Done) → OnLitmus (Some all) (λ _. ⊥) name Next a → OnLitmus (Some all) (λ _. ⊥) name Next b → Agree a b
one_on_litmus laws all name Next next =
    one_step (List ℕ) (IsUnfetched (Some all) ⊥ LitmusFile name) (IsFetched (Some all) LitmusFile name) (λ bytes. ReadLitmus bytes Next) (one_fetch all LitmusFile name)
    (λ bytes. one_step Test (IsNoLitmus bytes) (IsLitmusText bytes) Next (one_litmus_step laws bytes) next)

one_on_model :
    Laws → (all : Held) (name : ModelName) (Next : Model → Done → Type 0) → ((model : Model) (a b : Done) → Next model a → Next model b → Agree a b)
    → (a b : Done) → OnModel (Some all) (λ _. ⊥) name Next a → OnModel (Some all) (λ _. ⊥) name Next b → Agree a b
one_on_model laws all (Shipped shipped) Next next =
    one_step Model (IsNoModel (shipped_text shipped)) (IsModelText (shipped_text shipped)) Next (one_model_step laws (shipped_text shipped)) next
one_on_model laws all (File name) Next next =
    one_step (List ℕ) (IsUnfetched (Some all) ⊥ ModelFile name) (IsFetched (Some all) ModelFile name) (λ bytes. ReadModel bytes Next) (one_fetch all ModelFile name)
    (λ bytes. one_step Model (IsNoModel bytes) (IsModelText bytes) Next (one_model_step laws bytes) next)

one_on_read :
    Laws → (test : Test) (model : Model) (Next : Question → Done → Type 0) → ((q : Question) (a b : Done) → Next q a → Next q b → Agree a b)
    → (a b : Done) → OnRead test model Next a → OnRead test model Next b → Agree a b
one_on_read laws test model Next next =
    let ask : Trace → PairList → Question = λ t p. record { litmus = test; model = model; events = t; pairs = p } in
    one_step Trace (IsUnresolved test []) (HasEvents test []) (λ trace. Keep model trace.events (λ pairs. Next (ask trace pairs))) (one_resolving laws test [])
    (λ trace. one_step PairList (λ _. ⊥) (AreKept model trace.events) (λ pairs. Next (ask trace pairs)) (one_keeping model trace.events)
    (λ pairs. next (ask trace pairs)))

one_on_test :
    Laws → (all : Held) (test : Test) (model : ModelName) (Next : Question → Done → Type 0) → ((q : Question) (a b : Done) → Next q a → Next q b → Agree a b)
    → (a b : Done) → OnTest (Some all) (λ _. ⊥) test model Next a → OnTest (Some all) (λ _. ⊥) test model Next b → Agree a b
one_on_test laws all test model Next next = one_on_model laws all model (λ read. OnRead test read Next) (λ read. one_on_read laws test read Next next)

one_on_question :
    Laws → (all : Held) (litmus : List ℕ) (model : ModelName) (Next : Question → Done → Type 0) → ((q : Question) (a b : Done) → Next q a → Next q b → Agree a b)
    → (a b : Done) → OnQuestion (Some all) (λ _. ⊥) litmus model Next a → OnQuestion (Some all) (λ _. ⊥) litmus model Next b → Agree a b
one_on_question laws all litmus model Next next =
    one_on_litmus laws all litmus (λ test. OnTest (Some all) (λ _. ⊥) test model Next) (λ test. one_on_test laws all test model Next next)

one_on_sites :
    Laws → (q : Question) (kind : SiteKind) (Next : List Site → Done → Type 0) → ((sites : List Site) (a b : Done) → Next sites a → Next sites b → Agree a b)
    → (a b : Done) → ListSites q kind Next a → ListSites q kind Next b → Agree a b
one_on_sites laws q kind Next next = one_step (List Site) (HasTooMany q kind) (AreSitesOf q kind) Next (one_listing laws q kind) next

one_on_crash :
    Laws → (all : Held) (name : List ℕ) (Next : Crash → Done → Type 0) → ((crash : Crash) (a b : Done) → Next crash a → Next crash b → Agree a b)
    → (a b : Done) → OnCrash (Some all) (λ _. ⊥) name Next a → OnCrash (Some all) (λ _. ⊥) name Next b → Agree a b
one_on_crash laws all name Next next =
    one_step (List ℕ) (IsUnfetched (Some all) ⊥ CrashFile name) (IsFetched (Some all) CrashFile name) (λ bytes. ReadCrash bytes Next) (one_fetch all CrashFile name)
    (λ bytes. one_step Crash (IsNoCrash bytes) (IsCrashText bytes) Next (one_crash_step laws bytes) next)

one_on_log :
    Laws → (all : Held) (name : List ℕ) (Next : Logged → Done → Type 0) → ((log : Logged) (a b : Done) → Next log a → Next log b → Agree a b)
    → (a b : Done) → OnLog (Some all) (λ _. ⊥) name Next a → OnLog (Some all) (λ _. ⊥) name Next b → Agree a b
one_on_log laws all name Next next =
    one_step (List ℕ) (IsUnfetched (Some all) ⊥ LogFile name) (IsFetched (Some all) LogFile name) (λ bytes. ReadLog bytes Next) (one_fetch all LogFile name)
    (λ bytes. one_step Logged (IsNoLog bytes) (IsLogText bytes) Next (one_log_step laws bytes) next)

one_replay : Laws → (q : Question) (crash : Crash) (a b : Done) → Tells (IsReplayed q crash) a → Tells (IsReplayed q crash) b → Agree a b
one_replay laws q crash a b ((judgement, judged, e), none) ((other, also, f), nothing) =
    same (one_told a b (e ∙ ap answer_to (laws.one_judgement q.events q.pairs.pairs q.litmus.pred q.litmus.want crash judgement other judged also) ∙ sym f) none nothing)

one_verify : Laws → (q : Question) (log : Logged) (a b : Done) → Tells (IsVerified q log) a → Tells (IsVerified q log) b → Agree a b
one_verify laws q log a b (h, none) (g, nothing) = same (one_told a b (one_verdict laws q log a.answer b.answer h g) none nothing)

one_check : (q : Question) (search : SearchOptions) (a b : Done) → IsChecked q search a → IsChecked q search b → Agree a b
one_check q search a b (allowed crash shows rest e) (allowed other shown behind f) = both_allowed crash other e f
one_check q search a b (allowed crash shows rest e) (forbidden never part rules refutes f) = absurd (never (crash, shows))
one_check q search a b (forbidden never part rules refutes e) (allowed crash shows rest f) = absurd (never (crash, shows))
one_check q search a b (forbidden never part rules refutes e) (forbidden none other keeps shown f) = both_forbidden (ap (λ (d : Done). d.answer) e) (ap (λ (d : Done). d.answer) f)
one_check q search a b (unknown limit is part rules leaves full e) _ = left_open limit (inl (ap (λ (d : Done). d.answer) e))
one_check q search a b (allowed crash shows rest e) (unknown limit is part rules leaves full f) = left_open limit (inr (ap (λ (d : Done). d.answer) f))
one_check q search a b (forbidden never part rules refutes e) (unknown limit is other keeps leaves full f) = left_open limit (inr (ap (λ (d : Done). d.answer) f))

one_tell : (a b : Done) (answer : Answer) → a.answer ≡ answer → a.kept ≡ None → b.answer ≡ answer → b.kept ≡ None → Agree a b
one_tell a b answer e none f nothing = same (one_told a b (e ∙ sym f) none nothing)

one_reply : Laws → (all : Held) (command : Command) (a b : Done) → IsReply (Some all) (λ _. ⊥) command a → IsReply (Some all) (λ _. ⊥) command b → Agree a b
one_reply laws all (Check litmus model search) a b h g = one_on_question laws all litmus model (λ q. IsChecked q search) (λ q. one_check q search) a b h g
one_reply laws all (Verify litmus model log) a b h g =
    one_on_question laws all litmus model (λ q. OnLog (Some all) (λ _. ⊥) log (λ l. Tells (IsVerified q l))) (λ q. one_on_log laws all log (λ l. Tells (IsVerified q l)) (one_verify laws q)) a b h g
one_reply laws all (Replay litmus model crash) a b h g =
    one_on_question laws all litmus model (λ q. OnCrash (Some all) (λ _. ⊥) crash (λ c. Tells (IsReplayed q c))) (λ q. one_on_crash laws all crash (λ c. Tells (IsReplayed q c)) (one_replay laws q)) a b h g
one_reply laws all (Events litmus model) a b h g = one_on_question laws all litmus model (λ q. Tells (IsTable q)) (λ q x y (e, none) (f, nothing). one_tell x y (EventTable q.events q.pairs) e none f nothing) a b h g
one_reply laws all (Show litmus) a b h g = one_on_litmus laws all litmus (λ t. Tells (IsShown t)) (λ t x y (e, none) (f, nothing). one_tell x y (ShownTest (record t { version = 2 })) e none f nothing) a b h g
one_reply laws all Models a b h g = same (h ∙ sym g)
one_reply laws all (Repair litmus model with search) a b h g =
    one_on_question laws all litmus model (λ q. ListSites q with (λ sites. IsRepaired q with sites search))
    (λ q. one_on_sites laws q with (λ sites. IsRepaired q with sites search) (λ sites. one_repair q with sites search)) a b h g
one_reply laws all (Work seed calls branch) a b h g =
    one_on_test laws all (generated seed calls) (Shipped Ext4like) (λ q. ListSites q Sync (λ sites. Tells (IsWorkedBy seed calls q sites)))
    (λ q. one_on_sites laws q Sync (λ sites. Tells (IsWorkedBy seed calls q sites)) (λ sites. one_work seed calls q sites)) a b
    (worked_steps seed calls a h) (worked_steps seed calls b g)
one_reply laws all (Explain litmus model branch) a b h g = absurd h
one_reply laws all (Hint litmus model log hinted) a b h g = absurd h
one_reply laws all (Trim litmus model log trimmed) a b h g = absurd h
one_reply laws all (Flush litmus model seed width) a b h g = absurd h

pub one_answer :
    Laws → ((words choices : List (List ℕ)) (c d : Command) → IsCommandLine words choices c → IsCommandLine words choices d → c ≡ d)
    → (all : Held) (words choices : List (List ℕ)) (a b : Done) → IsAnswer (Some all) (λ _. ⊥) words choices a → IsAnswer (Some all) (λ _. ⊥) words choices b → Agree a b
one_answer laws one all words choices =
    let step : IsOneStep Command (IsUsage words choices) (Asks words choices) = record {
      one_end = λ a b (none, e) (neither, f). e ∙ sym f;
      one_yield = λ c d h g. one words choices c d h.0 g.0;
      apart = λ a command (none, e) asks. none command asks;
    } in
    one_step Command (IsUsage words choices) (Asks words choices) (IsReply (Some all) (λ _. ⊥)) step (one_reply laws all)
