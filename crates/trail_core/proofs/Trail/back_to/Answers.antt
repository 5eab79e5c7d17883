use Rattle.std.proofs.Common.{◌≤◌, List, Option, Bool, length, drop, sym, subst, ◌∙◌, arith}
use Rattle.trail_core.specs.Course.{Course}
use Rattle.trail_core.specs.Kept.{IsKept}
use Rattle.trail_core.proofs.Pop.{kept-back, same-kept, take-whole}
use Rattle.trail_core.proofs.Trail.back_to.Goals as goal

pub invariant_of-self : goal.invariant_of-self
invariant_of-self c =
    let s = c.self.inside in
    let P : List (Option Bool) → Type 0 = λ vs. IsKept vs s.origins.items s.lits.items c.take_back-count.result c.args.level c.min-self-inside.result in
    let whole = take-whole s.values.len c.take_back-count.new.values (drop (length c.take_back-count.new.values) s.values.items) (sym (c.take_back-count.auto.values ∙ c.as_mut_slice.ensures.len)) in
    let k = c.take_back-count.ensures.front in
    let same = same-kept c.as_slice-2.result.now s.origins.items c.as_slice.result.now s.lits.items c.take_back-count.new.values c.take_back-count.result s.count k.0 c.args.level c.as_slice-2.ensures.value c.as_slice.ensures.value k.1 c.take_back-count.ensures.left in
    let below : c.args.level ≤ s.level = (let Q : Course → Type 0 = λ t. c.args.level ≤ t.level in subst Q (sym c.self.view_is) c.requires) in
    subst P (sym whole)
    (kept-back s.values.items c.take_back-count.new.values s.origins.items s.lits.items s.count s.level s.seen c.take_back-count.result k.0 c.args.level c.min-self-inside.result c.self.invariant same.0 same.1 below (omega (arith, c.min-self-inside.ensures)))
