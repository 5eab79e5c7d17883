-- The status with which a run ends that writes an answer.
use Rattle.std.specs.Prelude.{ℕ}
use Rattle.report.specs.Answers.{Answer, Unknown, LogRefused, CrashRefused, CrashUnread, Usage, LitmusRefused, ModelRefused, Missing, ReadFault}

-- 1 where a log or a crash is refused, 2 where a search met its limit, 3 where the words are no command line, 4 and 5 where the litmus file and the model
-- are refused, 6 where a file isn't there, 7 where it can't be read, and 0 where the command's answer is written
abbrev pub status_of : Answer → ℕ
status_of (LogRefused line kind) = 1
status_of (CrashRefused judgement) = 1
status_of CrashUnread = 1
status_of (Unknown limit) = 2
status_of Usage = 3
status_of (LitmusRefused line kind) = 4
status_of (ModelRefused line kind) = 5
status_of (Missing role) = 6
status_of (ReadFault role) = 7
status_of answer = 0
