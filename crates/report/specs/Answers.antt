-- What Ferrite answers, as a value, and the lines in which each answer is printed.
use Rattle.std.specs.Prelude.{◌≡◌, ◌≢◌, ⊤, ℕ, List, [], ◌∷◌, ◌++◌, length, decimal, codes}
use Rattle.std.specs.List.{flat_map}
use Rattle.litmus_syntax.specs.Test.{Test}
use Rattle.litmus_syntax.specs.LitmusText.{litmus_text}
use Rattle.model_library.specs.declared.texts.ShippedModel.TheVariants.{Sequential, Ext4like, Loose}
use Rattle.model_library.specs.ShippedModels.{shipped_text}
use Rattle.fer_events.specs.declared.event.Crash.{Crash}
use Rattle.fer_events.specs.Pairs.{PairList}
use Rattle.fer_events.specs.Tables.{Trace}
use Rattle.witness_replay.specs.declared.judgement.CrashJudgement.{CrashJudgement}
use Rattle.witness_replay.specs.declared.judgement.CrashJudgement.TheVariants.{Good, NotAnOrder, PairBroken, TransactionSplit, PredicateFalse}
use Rattle.witness_replay.specs.CrashLines.{crash_line}
use Rattle.report.specs.declared.outcome.NeedLine.{NeedLine}
use Rattle.report.specs.declared.outcome.Summary.{Summary}
use Rattle.report.specs.declared.outcome.Role.{Role}
use Rattle.report.specs.declared.outcome.Role.TheVariants.{LitmusFile, ModelFile, LogFile, CrashFile}
use Rattle.report.specs.EventTable.{table_text}

-- what is answered: a crash that answers the question, that none does, or that it is open after so many learned clauses;
-- whether a log or a crash is accepted, a refused log with its line and its kind, a refused crash with the reason; the
-- events of a test with the kept pairs; a test; the syncs that a repair needs and the repaired test, or a crash that
-- answers the question with all sites and the test with these; what there is of a generated test; the shipped models; that the words are no command line; the line and the kind for which a file is refused, line 0 being the
-- whole of it; the file that can't be read, or that isn't there, by the part that it plays
pub data Answer : Type 0 where
  Allowed : Crash → Answer
  Forbidden : Answer
  Unknown : ℕ → Answer
  LogAccepted : ℕ → Answer
  LogRefused : ℕ → ℕ → Answer
  CrashAccepted : Answer
  CrashRefused : CrashJudgement → Answer
  CrashUnread : Answer
  EventTable : Trace → PairList → Answer
  Shown : Test → Answer
  Repaired : List NeedLine → Test → Answer
  NoneSuffice : Crash → Test → Answer
  Work : Summary → Answer
  Models : Answer
  Usage : Answer
  LitmusRefused : ℕ → ℕ → Answer
  ModelRefused : ℕ → ℕ → Answer
  ReadFault : Role → Answer
  Missing : Role → Answer

-- the word for a file by the part that it plays
abbrev pub role_word : Role → List ℕ
role_word LitmusFile = codes "litmus"
role_word ModelFile = codes "model"
role_word LogFile = codes "log"
role_word CrashFile = codes "crash"

-- a file is refused at a line, with the number of the fault's kind
abbrev pub refused_text : Role → ℕ → ℕ → List ℕ
refused_text role line kind = role_word role ++ codes " refused: line " ++ decimal line ++ codes " kind " ++ decimal kind ++ codes "\n"

-- what went wrong with the file that plays this part
abbrev pub fault_text : List ℕ → Role → List ℕ
fault_text what role = what ++ role_word role ++ codes "\n"

-- why a crash is refused
abbrev pub reason_text : CrashJudgement → List ℕ
reason_text Good = []
reason_text NotAnOrder = codes "1"
reason_text (PairBroken a b) = codes "2 pair " ++ decimal a ++ codes " " ++ decimal b
reason_text (TransactionSplit txn) = codes "3 transaction " ++ decimal txn
reason_text PredicateFalse = codes "4"

-- a word and a number
abbrev pub count_line : List ℕ → ℕ → List ℕ
count_line word count = word ++ 32 ∷ decimal count ++ codes "\n"

-- a sync that is needed, by the number of its event, and the crash that shows it
abbrev pub need_line : NeedLine → List ℕ
need_line need = codes "needed" ++ 32 ∷ decimal need.event ++ 32 ∷ crash_line need.crash

-- what there is of a generated test
abbrev pub work_text : Summary → List ℕ
work_text summary =
    codes "work" ++ 32 ∷ decimal summary.seed ++ 32 ∷ decimal summary.calls ++ codes "\n"
    ++ count_line (codes "events") summary.events
    ++ count_line (codes "sites") summary.sites
    ++ count_line (codes "pairs") summary.pairs
    ++ count_line (codes "kept") summary.kept

-- the words are no command line
abbrev pub usage_text : List ℕ
usage_text = codes "usage: ferrite check L M | repair L M | verify L M F | replay L M C | events L M | show L | models | work SEED CALLS | explain L M | hint L M F G | trim L M F G | flush L M SEED W\n"

-- the three models, in this order
abbrev pub models_text : List ℕ
models_text = flat_map shipped_text (Sequential ∷ Ext4like ∷ Loose ∷ [])

-- the lines of an answer
abbrev pub answer_text : Answer → List ℕ
answer_text (Allowed crash) = codes "allowed\n" ++ crash_line crash
answer_text Forbidden = codes "forbidden\n"
answer_text (Unknown limit) = codes "unknown " ++ decimal limit ++ codes "\n"
answer_text (LogAccepted sites) = codes "log accepted: " ++ decimal sites ++ codes " sites\n"
answer_text (LogRefused line kind) = refused_text LogFile line kind
answer_text CrashAccepted = codes "crash accepted\n"
answer_text (CrashRefused judgement) = codes "crash refused: kind " ++ reason_text judgement ++ codes "\n"
answer_text CrashUnread = codes "crash refused: kind 5\n"
answer_text (EventTable trace pairs) = table_text trace pairs.pairs
answer_text (Shown litmus) = litmus_text litmus
answer_text (Repaired needs litmus) = count_line (codes "repaired") (length needs) ++ flat_map need_line needs ++ litmus_text litmus
answer_text (NoneSuffice crash litmus) = codes "no syncs suffice\n" ++ crash_line crash ++ litmus_text litmus
answer_text (Work summary) = work_text summary
answer_text Models = models_text
answer_text Usage = usage_text
answer_text (LitmusRefused line kind) = refused_text LitmusFile line kind
answer_text (ModelRefused line kind) = refused_text ModelFile line kind
answer_text (ReadFault role) = fault_text (codes "read fault: ") role
answer_text (Missing role) = fault_text (codes "not found: ") role

-- the pairs of a table are over the number of its events, and a refused crash has a reason
abbrev pub IsPrintable : Answer → Type 0
IsPrintable (EventTable trace pairs) = pairs.n ≡ length trace.events
IsPrintable (CrashRefused judgement) = judgement ≢ Good
IsPrintable answer = ⊤
