use Rattle.std.proofs.Common.{◌≡◌, ◌-◌, false, set, ap, sym, subst, ◌∙◌, arith}
use Rattle.clause_store.specs.declared.Lit.{Lit}
use Rattle.clause_store.specs.Clauses.{InVars}
use Rattle.conflict_cut.specs.Draft.{Drafting, IsMarked, IsWalking}
use Rattle.trail_core.proofs.GeneralPlaces.{contains-get}
use Rattle.conflict_cut.proofs.Walking.{entry-in, implied-here, reason-there, fails-or-marked, some-left, stepped}
use Rattle.conflict_cut.proofs.go_through.Goals as goal

pub reason_of-requires : goal.reason_of-requires
reason_of-requires c =
    let h = c.requires.here in
    (h.0, contains-get c.args.trail.now.entries c.args.at h.0 h.1, ap (λ (l : Lit). l.var) h.2)

pub unreachable-requires : goal.unreachable-requires
unreachable-requires c =
    let h = c.requires.here in
    let on : IsMarked c.args.draft.now.marks h.0.lit.var = subst (λ (l : Lit). IsMarked c.args.draft.now.marks l.var) (sym h.2) c.requires.marked in
    let has = contains-get c.args.trail.now.entries c.args.at h.0 h.1 in
    implied-here c.args.store.now.clauses c.args.trail.now c.args.at c.args.count c.args.draft.now c.requires.walking c.requires.reasons h.0 h.1 on c.requires.more
    (sym (c.reason_of.ensures h.0 has (ap (λ (l : Lit). l.var) h.2)) ∙ c.in-None.is)

pub clause-requires : goal.clause-requires
clause-requires c =
    let h = c.requires.here in
    let on : IsMarked c.args.draft.now.marks h.0.lit.var = subst (λ (l : Lit). IsMarked c.args.draft.now.marks l.var) (sym h.2) c.requires.marked in
    let has = contains-get c.args.trail.now.entries c.args.at h.0 h.1 in
    reason-there c.args.store.now.clauses c.args.trail.now c.args.at c.args.count c.args.draft.now c.requires.walking c.requires.reasons h.0 h.1 on c.requires.more c.in-Some.id
    (sym (c.reason_of.ensures h.0 has (ap (λ (l : Lit). l.var) h.2)) ∙ c.in-Some.is)

pub take_all-count-requires-clause-fails : goal.take_all-count-requires-clause-fails
take_all-count-requires-clause-fails c =
    let h = c.requires.here in
    let on : IsMarked c.args.draft.now.marks h.0.lit.var = subst (λ (l : Lit). IsMarked c.args.draft.now.marks l.var) (sym h.2) c.requires.marked in
    let has = contains-get c.args.trail.now.entries c.args.at h.0 h.1 in
    fails-or-marked c.args.store.now.clauses c.args.trail.now c.args.at c.args.count c.args.draft.now c.requires.walking c.requires.reasons h.0 h.1 on c.requires.more c.in-Some.id
    (sym (c.reason_of.ensures h.0 has (ap (λ (l : Lit). l.var) h.2)) ∙ c.in-Some.is)
    c.clause.result.now c.clause.ensures.clause

pub unmark-requires-clause-lo : goal.unmark-requires-clause-lo
unmark-requires-clause-lo c =
    let h = c.requires.here in
    let in-vars : InVars c.args.trail.now.vars c.args.lit =
    subst (λ (l : Lit). InVars c.args.trail.now.vars l) h.2 (entry-in c.args.trail.now c.args.count c.args.draft.now c.requires.walking.underway h.0 (contains-get c.args.trail.now.entries c.args.at h.0 h.1)) in
    in-vars.0

pub overflow_sub-result : goal.overflow_sub-result
overflow_sub-result c =
    let h = c.requires.here in
    let on : IsMarked c.args.draft.now.marks h.0.lit.var = subst (λ (l : Lit). IsMarked c.args.draft.now.marks l.var) (sym h.2) c.requires.marked in
    let has = contains-get c.args.trail.now.entries c.args.at h.0 h.1 in
    let left = some-left c.args.store.now.clauses c.args.trail.now c.args.at c.args.count c.args.draft.now c.requires.walking c.requires.reasons h.0 h.1 on c.requires.more c.in-Some.id
    (sym (c.reason_of.ensures h.0 has (ap (λ (l : Lit). l.var) h.2)) ∙ c.in-Some.is)
    c.clause.result.now c.clause.ensures.clause c.take_all-count.result c.take_all-count.new.draft
    c.take_all-count.ensures.underway c.take_all-count.ensures.taken c.take_all-count.ensures.stay c.take_all-count.ensures.only in
    omega (arith, left)

pub returns-in-Some : goal.returns-in-Some
returns-in-Some c =
    let h = c.requires.here in
    let on : IsMarked c.args.draft.now.marks h.0.lit.var = subst (λ (l : Lit). IsMarked c.args.draft.now.marks l.var) (sym h.2) c.requires.marked in
    let has = contains-get c.args.trail.now.entries c.args.at h.0 h.1 in
    let d = c.take_all-count.new.draft in
    let now : record d { marks = set d.marks (h.0.lit.var - 1) false } ≡ c.unmark.new.self =
    ap (λ (l : Lit). record c.take_all-count.new.draft { marks = set c.take_all-count.new.draft.marks (l.var - 1) false }) h.2 ∙ sym c.unmark.ensures in
    record {
      walking =
          subst (λ (x : Drafting). IsWalking c.args.store.now.clauses c.args.trail.now c.args.at (c.take_all-count.result - 1) x) now
          (stepped c.args.store.now.clauses c.args.trail.now c.args.at c.args.count c.args.draft.now c.requires.walking c.requires.reasons h.0 h.1 on c.requires.more c.in-Some.id
          (sym (c.reason_of.ensures h.0 has (ap (λ (l : Lit). l.var) h.2)) ∙ c.in-Some.is)
          c.clause.result.now c.clause.ensures.clause c.take_all-count.result c.take_all-count.new.draft
          c.take_all-count.ensures.underway c.take_all-count.ensures.taken c.take_all-count.ensures.stay c.take_all-count.ensures.only);
    }
