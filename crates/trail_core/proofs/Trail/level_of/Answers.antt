use Rattle.std.proofs.Common.{◌≡◌, take, subst}
use Rattle.std.specs.List.{Contains}
use Rattle.trail_core.specs.Course.{Course, Entry}
use Rattle.trail_core.proofs.Push.{origin-read}
use Rattle.trail_core.proofs.Trail.level_of.Goals as goal

pub returns : goal.returns
returns c =
    let P : Course → Type 0 = λ t. (e : Entry) → Contains t.entries e → e.lit.var ≡ c.args.var → c.index.result.now.level ≡ e.level in
    let s = c.self.inside in
    subst P c.self.view_is
    (λ e has is. (origin-read s.origins.items (take s.count s.lits.items) _ c.self.invariant.named c.self.invariant.origins_len c.args.var c.index.result.now c.index.ensures e has is).0)
