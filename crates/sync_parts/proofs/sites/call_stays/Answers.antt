use Rattle.std.proofs.Common.{◌<◌, ℕ, false, drop, sym, ◌∙◌, ap, arith, ◌-◌, ◌+◌, ◌≤◌, ◌==◌}
use Rattle.std.specs.Prelude.{slice_index_or, count_by}
use Rattle.sync_parts.specs.Sites.{calls_present}
use Rattle.sync_parts.proofs.Steps.{own-call, site-call, later-call}
use Rattle.sync_parts.proofs.sites.call_stays.Goals as goal

pub returns-then-left-eq0 : goal.returns-then-left-eq0
returns-then-left-eq0 c =
    let body = c.args.body.now in
    let sites = c.args.sites.now in
    let present = c.args.present.now in
    let k = c.loop-place.place in
    sym (own-call body sites present k c.loop-place-test.true)
    ∙ ap (λ (n : ℕ). slice_index_or (calls_present (k + 1) (drop k body) sites present) n false) (sym c.if-left-eq0.true)
    ∙ c.loop-place.invariant

pub returns-then-left-behind : goal.returns-then-left-behind
returns-then-left-behind c =
    let body = c.args.body.now in
    let sites = c.args.sites.now in
    let present = c.args.present.now in
    let k = c.loop-place.place in
    let left = c.loop-place.left in
    let some : 0 < left = grind (arith, c.if-left-eq0.false) in
    let few : left - 1 < count_by (λ site. site.after == k + 1) sites = rw c.count_behind-behind.ensures at c.if-left-behind.true in
    c.is_present_behind.ensures ∙ sym (site-call body sites present k c.loop-place-test.true left some few) ∙ c.loop-place.invariant

pub loop-place-preserved : goal.loop-place-preserved
loop-place-preserved c =
    let body = c.args.body.now in
    let sites = c.args.sites.now in
    let present = c.args.present.now in
    let k = c.loop-place.place in
    let left = c.loop-place.left in
    let some : 0 < left = grind (arith, c.if-left-eq0.false) in
    let many : count_by (λ site. site.after == k + 1) sites ≤ left - 1 = rw c.count_behind-behind.ensures at c.if-left-behind.false in
    rw c.count_behind-behind.ensures (sym (later-call body sites present k c.loop-place-test.true left some many) ∙ c.loop-place.invariant)
