use Rattle.std.proofs.Common.{◌≡◌, ℕ, min, List, length, ap, ◌∙◌, arith}
use Rattle.trail_core.specs.Course.{Entry, up_to}
use Rattle.trail_core.proofs.GeneralTrails.{rises-up_to, HaveOnce-up_to, up_to-front, from-up_to, to-up_to, up_to-all, level-at-most, named-up_to}
use Rattle.trail_core.proofs.laws.a_back_jump_leaves_a_front.Goals as goal

pub returns-clause-course : goal.returns-clause-course
returns-clause-course c t level k le = record {
  named = named-up_to t.vars level t.entries k.named;
  once = HaveOnce-up_to level t.entries k.once;
  rises = rises-up_to 0 t.entries t.level level k.rises (omega arith) le;
  seen_in = omega arith;
}

pub returns-clause-front : goal.returns-clause-front
returns-clause-front c t level k = up_to-front level 0 t.entries t.level k.rises

pub returns-clause-left : goal.returns-clause-left
returns-clause-left c entries level e = (from-up_to level entries e, λ h. to-up_to level entries e h.0 h.1)

pub returns-clause-nothing : goal.returns-clause-nothing
returns-clause-nothing c t k =
    let same : up_to t.level t.entries ≡ t.entries = up_to-all t.level t.entries (λ e has. level-at-most 0 t.entries t.level e k.rises has) in
    let seen : min t.seen (length t.entries) ≡ t.seen = omega (arith, k.seen_in) in
    ap (λ (es : List Entry). record t { seen = min t.seen (length es); entries = es }) same
    ∙ ap (λ (n : ℕ). record t { seen = n }) seen
