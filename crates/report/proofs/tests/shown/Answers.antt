use Rattle.std.proofs.Common.{sym, subst}
use Rattle.litmus_syntax.specs.Sites.{AreSyncs, StandOutside}
use Rattle.report.proofs.InsertedSyncs.{are_syncs, stand_outside}
use Rattle.report.proofs.tests.shown.Goals as goal

pub insert-requires : goal.insert-requires
insert-requires c =
    let litmus = c.in_ok-litmus.litmus in
    let sites = c.in_ok-sites.sites.items in
    let same = sym c.as_slice.ensures.value in
    record {
      syncs = subst AreSyncs same (are_syncs sites c.in_ok-sites.ensures);
      outside = subst (StandOutside litmus.body) same (stand_outside litmus.body c.in_ok-litmus.ensures.0 c.in_ok-litmus.ensures.1 sites c.in_ok-sites.ensures);
    }
