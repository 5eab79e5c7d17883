use Rattle.std.proofs.Common.{sym}
use Rattle.sync_parts.proofs.Tests.{left-present}
use Rattle.sync_parts.proofs.Reached.{present-without}
use Rattle.sync_parts.proofs.laws.places_are_those_of_events.Goals as goal

pub returns-clause-count : goal.returns-clause-count
returns-clause-count c = λ litmus sites present t u syncs outside all some. sym (present-without litmus sites present t u syncs outside all some).1.each

pub returns-clause-within : goal.returns-clause-within
returns-clause-within c = λ litmus sites present t syncs outside all. (left-present litmus sites present t syncs outside all).2.0.within

pub returns-clause-ascending : goal.returns-clause-ascending
returns-clause-ascending c = λ litmus sites present t syncs outside all. (left-present litmus sites present t syncs outside all).2.0.ascending
