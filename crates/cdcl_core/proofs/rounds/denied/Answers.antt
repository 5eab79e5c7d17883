use Rattle.std.proofs.Common.{ℕ, ◌≤◌, ap, sym, subst, ◌∙◌, arith}
use Rattle.std.specs.List.{Contains}
use Rattle.std.proofs.lemmas.Option.{slice_get_within}
use Rattle.clause_store.specs.declared.Lit.{Lit}
use Rattle.clause_store.specs.Propagation.{Follows, negations}
use Rattle.trail_core.proofs.GeneralTrails.{level-at-most}
use Rattle.trail_core.proofs.GeneralPlaces.{get-contained}
use Rattle.cdcl_core.proofs.Ending.{part-assumed, pushed-assumed, denied-part}
use Rattle.cdcl_core.proofs.Numbering.{follows-both}
use Rattle.cdcl_core.proofs.rounds.denied.Goals as goal

pub reason_of-requires : goal.reason_of-requires
reason_of-requires c = (let f = c.requires.false_lit in (f.0, f.1, ap (λ (l : Lit). l.var) f.2))

pub unreachable-requires : goal.unreachable-requires
unreachable-requires c =
    let f = c.requires.false_lit in
    let n = sym (c.reason_of.ensures f.0 f.1 (ap (λ (l : Lit). l.var) f.2)) ∙ c.in-None.is in
    let k = c.requires.footing.decided f.0 f.1 n (low f.0.level c.args.engine.now.trail.level c.args._footing.now.level (level-at-most 0 c.args.engine.now.trail.entries c.args.engine.now.trail.level f.0 c.requires.sound.search.course.rises f.1) c.requires.low) in
    c.requires.apart c.args.lit c.requires.assumed (subst (λ x. Contains c.args._assumptions.now x) f.2 k)
  where
    low : (a b d : ℕ) → a ≤ b → b ≤ d → a ≤ d
    low a b d h k = omega (arith, h, k)

pub decisions_behind-requires-clause-there : goal.decisions_behind-requires-clause-there
decisions_behind-requires-clause-there c =
    let f = c.requires.false_lit in
    let n = sym (c.reason_of.ensures f.0 f.1 (ap (λ (l : Lit). l.var) f.2)) ∙ c.in-Some.is in
    let at = get-contained c.args.engine.now.trail.entries f.0 f.1 in
    let r = c.requires.sound.search.reasons at.0 f.0 c.in-Some.id at.1 n in
    slice_get_within c.args.engine.now.store.clauses c.in-Some.id r.0 r.1

pub returns : goal.returns
returns c = λ limit.
    let f = c.requires.false_lit in
    let n = sym (c.reason_of.ensures f.0 f.1 (ap (λ (l : Lit). l.var) f.2)) ∙ c.in-Some.is in
    let es = c.args.engine.now.trail.entries in
    let cs = c.args.engine.now.store.clauses in
    let ok = c.in_ok-push-in-Some.ensures.ok in
    let before = part-assumed c.args._assumptions.now c.in_ok-part-in-Some.part c.args.engine.now.trail c.args._footing.now cs c.args.engine.now.watches.list c.requires.sound.search c.requires.footing c.requires.low c.in_ok-part-in-Some.ensures.decided in (
      subst (λ xs. (a : Lit) → Contains xs a → Contains c.args._assumptions.now a) (sym ok) (pushed-assumed c.args._assumptions.now c.in_ok-part-in-Some.part c.args.lit before c.requires.assumed),
      follows-both c.args.engine.now.learned cs (negations c.push.new.self)
          (subst (λ xs. Follows cs (negations xs)) (sym ok) (denied-part cs es c.in_ok-part-in-Some.part c.args.lit f.0 c.in-Some.id c.requires.sound.search.reasons f.1 f.2 n c.in_ok-part-in-Some.ensures.behind)),
    )
