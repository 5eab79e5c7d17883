-- Answers that are ready to be written.
use Rattle.std.proofs.Common.{◌≡◌, ◌<◌, Result, Ok, Err, IfErr, IsErrAnd, refl, sym, subst, arith}
use Rattle.report.specs.Answers.{Answer, Allowed, Forbidden, Unknown, Repaired, NoneSuffice, Work, LogAccepted, LogRefused, CrashAccepted, CrashRefused, CrashUnread, EventTable, Shown, Models, Usage, LitmusRefused, ModelRefused, ReadFault, Missing}
use Rattle.ferrite_run.specs.declared.saying.Said.{Said}
use Rattle.ferrite_run.specs.declared.saying.Stop.{Stop}
use Rattle.ferrite_run.specs.declared.saying.Stop.TheVariants.{Answered, OutOfMemory}
use Rattle.ferrite_run.specs.Done.{Done, only, Tells}
use Rattle.ferrite_run.specs.Saying.{SaysOne, StopsWith, Replies}
use Rattle.ferrite_run.specs.Statuses.{status_of}

-- no answer has status 8 or 9
pub status_below : (a : Answer) → status_of a < 8
status_below (Allowed crash) = omega arith
status_below Forbidden = omega arith
status_below (Unknown limit) = omega arith
status_below (Repaired needs litmus) = omega arith
status_below (NoneSuffice crash litmus) = omega arith
status_below (Work summary) = omega arith
status_below (LogAccepted sites) = omega arith
status_below (LogRefused line kind) = omega arith
status_below CrashAccepted = omega arith
status_below (CrashRefused judgement) = omega arith
status_below CrashUnread = omega arith
status_below (EventTable trace pairs) = omega arith
status_below (Shown litmus) = omega arith
status_below Models = omega arith
status_below Usage = omega arith
status_below (LitmusRefused line kind) = omega arith
status_below (ModelRefused line kind) = omega arith
status_below (ReadFault role) = omega arith
status_below (Missing role) = omega arith

-- what holds of an answer may be weakened
pub says_more : (Holds Then : Done → Type 0) (said : Said) → ((a : Done) → Holds a → Then a) → SaysOne Holds said → SaysOne Then said
says_more Holds Then said from (a, h, says) = (a, from a h, says)

pub stops_more : (Holds Then : Done → Type 0) (stop : Stop) → ((a : Done) → Holds a → Then a) → StopsWith Holds stop → StopsWith Then stop
stops_more Holds Then (Answered said) from h = says_more Holds Then said from h
stops_more Holds Then OutOfMemory from h = tt

pub replies_more : (Holds Then : Done → Type 0) (r : Result Said Stop) → ((a : Done) → Holds a → Then a) → Replies Holds r → Replies Then r
replies_more Holds Then (Ok said) from h = says_more Holds Then said from h
replies_more Holds Then (Err stop) from h = stops_more Holds Then stop from h

-- a `?` that hands on why the work stopped
pub passed_on :
    {X : Type 0} (r : Result X Stop) (stop : Stop) (Holds : Done → Type 0) → IsErrAnd r (λ e. e ≡ stop) → StopsWith Holds stop → IfErr r (StopsWith Holds)
passed_on (Err e) stop Holds is h = subst (StopsWith Holds) (sym is) h
passed_on (Ok x) stop Holds is h = absurd is

pub reply_passed_on : (r : Result Said Stop) (stop : Stop) (Holds : Done → Type 0) → IsErrAnd r (λ e. e ≡ stop) → StopsWith Holds stop → Replies Holds r
reply_passed_on (Err e) stop Holds is h = subst (StopsWith Holds) (sym is) h
reply_passed_on (Ok x) stop Holds is h = absurd is

-- an answer of which this holds is told
pub told_only : (Holds : Answer → Type 0) (answer : Answer) (done : Done) → Holds answer → done ≡ only answer → Tells Holds done
told_only Holds answer done h e = subst (Tells Holds) (sym e) (h, refl)

-- what is told may be weakened
pub tells_more : (Holds Then : Answer → Type 0) (done : Done) → (Holds done.answer → Then done.answer) → Tells Holds done → Tells Then done
tells_more Holds Then done from (h, nothing) = (from h, nothing)
