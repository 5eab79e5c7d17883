-- The answer that an outcome is: what it lends is what it is about.
use Rattle.report.specs.declared.outcome.Outcome.{Outcome}
use Rattle.report.specs.declared.outcome.Outcome.TheVariants as outcome
use Rattle.report.specs.Answers.{Answer, Allowed, Forbidden, Unknown, LogAccepted, LogRefused, CrashAccepted, CrashRefused, CrashUnread, EventTable, Shown, Repaired, NoneSuffice, Work, Models, Usage, LitmusRefused, ModelRefused, ReadFault, Missing}

abbrev pub answer_of : Outcome → Answer
answer_of (outcome.Allowed crash) = Allowed crash.now
answer_of outcome.Forbidden = Forbidden
answer_of (outcome.Unknown limit) = Unknown limit
answer_of (outcome.LogAccepted sites) = LogAccepted sites
answer_of (outcome.LogRefused line kind) = LogRefused line kind
answer_of outcome.CrashAccepted = CrashAccepted
answer_of (outcome.CrashRefused judgement) = CrashRefused judgement
answer_of outcome.CrashUnread = CrashUnread
answer_of (outcome.EventTable events pairs) = EventTable events.now pairs.now
answer_of (outcome.Shown litmus) = Shown litmus.now
answer_of (outcome.Repaired needs litmus) = Repaired needs.now litmus.now
answer_of (outcome.NoneSuffice crash litmus) = NoneSuffice crash.now litmus.now
answer_of (outcome.Work summary) = Work summary
answer_of outcome.Models = Models
answer_of outcome.Usage = Usage
answer_of (outcome.LitmusRefused line kind) = LitmusRefused line kind
answer_of (outcome.ModelRefused line kind) = ModelRefused line kind
answer_of (outcome.ReadFault role) = ReadFault role
answer_of (outcome.Missing role) = Missing role
