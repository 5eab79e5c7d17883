use Rattle.std.proofs.Common.{Bool, List, sym, ◌∙◌, subst}
use Rattle.sync_parts.specs.Sites.{sites_present}
use Rattle.sync_repair.specs.Sets.{IsLeft}
use Rattle.sync_repair.specs.Repairs.{AreNeeds}
use Rattle.sync_repair.specs.Marks.{AreNeedsOf}
use Rattle.sync_repair.proofs.Walks.{left-needs, left-marks, left-below}
use Rattle.sync_repair.proofs.repairing.keep.Goals as goal

pub kept_set-requires : goal.kept_set-requires
kept_set-requires c = λ d. record { within = left-below d.args.syncs.now.case d.args.needs.now d.requires.left d.sites.result.now d.sites.ensures }

pub need_lines-requires : goal.need_lines-requires
need_lines-requires c = λ d.
    let same = d.as_slice.ensures ∙ left-marks d.args.syncs.now.case d.args.needs.now d.requires.left d.sites.result.now d.in_ok-set.set d.sites.ensures d.in_ok-set.ensures in
    subst (λ (l : List Bool). AreNeedsOf d.args.syncs.now.case l d.args.needs.now) (sym same) (left-needs d.args.syncs.now.case d.args.needs.now d.requires.left)

pub settle-requires-clause-left : goal.settle-requires-clause-left
settle-requires-clause-left c = λ d.
    let s = d.args.syncs.now.case in
    let same = d.as_slice-2.ensures ∙ left-marks s d.args.needs.now d.requires.left d.sites.result.now d.in_ok-set.set d.sites.ensures d.in_ok-set.ensures in
    subst (λ (l : List Bool). IsLeft s.litmus s.model s.sites l) (sym same) d.requires.left.walk

pub settle-requires-clause-needs : goal.settle-requires-clause-needs
settle-requires-clause-needs c = λ d.
    let s = d.args.syncs.now.case in
    let again = d.as_slice.ensures ∙ sym d.as_slice-2.ensures in
    subst (λ (l : List Bool). AreNeeds s.litmus s.model (sites_present s.sites l) d.in_ok-lines.lines) again d.in_ok-lines.ensures
