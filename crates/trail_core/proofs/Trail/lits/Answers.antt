use Rattle.std.proofs.Common.{◌≡◌, ◌≤◌, List, length, take, ap, subst, sym, ◌∙◌}
use Rattle.clause_store.specs.declared.Lit.{Lit}
use Rattle.trail_core.specs.Course.{Course, lits_of}
use Rattle.trail_core.proofs.Push.{lits-entries, entries-short}
use Rattle.trail_core.proofs.Trail.lits.Goals as goal

pub returns-clause-lits : goal.returns-clause-lits
returns-clause-lits c =
    let P : Course → Type 0 = λ t. c.split_at.result.0.now ≡ lits_of t.entries in
    let s = c.self.inside in
    subst P c.self.view_is
    (c.split_at.ensures.front
    ∙ ap (λ (ls : List Lit). take s.count ls) c.as_slice.ensures.value
    ∙ sym (lits-entries s.origins.items (take s.count s.lits.items)))

pub returns-clause-short : goal.returns-clause-short
returns-clause-short c =
    let P : Course → Type 0 = λ t. length t.entries ≤ t.vars in
    let s = c.self.inside in
    subst P c.self.view_is (entries-short s.values.items s.origins.items s.lits.items s.count s.level s.seen c.self.invariant)
