use Rattle.sync_parts.proofs.Tests.{left-present}
use Rattle.sync_parts.proofs.laws.fewer_sites_leave_syncs_out.Goals as goal

pub returns : goal.returns
returns c = λ litmus sites present t syncs outside h.
    let left = left-present litmus sites present t syncs outside h in
    (record t { events = left.0 }, left.1, left.2.0.each)
