use Rattle.std.proofs.Common.{◌≡◌, Option, false, get_or, length, sym, subst, arith, ◌∙◌, ◌+◌, ℕ}
use Rattle.std.proofs.lemmas.Option.{slice_get-get_or}
use Rattle.clause_store.specs.declared.Lit.{Lit}
use Rattle.watch_lists.proofs.Choosing.{IsBest, best-same, best-more, best-all, apart-from, same-from}
use Rattle.watch_lists.proofs.highest.Goals as goal
use Rattle.watch_lists.proofs.highest.Goals.{then-ne, else-ne}

pub loop-m-preserved : goal.loop-m-preserved
loop-m-preserved c =
    elim c.if-ne.branch [
      | then-ne w ↦
          let ne = apart-from (get_or c.args.clause.now c.loop-m.m-index (record { var = 0; positive = false })) c.args.first (sym c.ne.ensures ∙ w.if-ne.true) in
          let P : Option Lit → Type 0 = λ o. IsBest c.args.trail.now.entries c.args.clause.now c.args.first (c.loop-m.m-index + 1) o in
          subst P (sym w.best-is)
          (best-more c.args.trail.now.entries c.args.clause.now c.args.first c.loop-m.m-index c.loop-m.best (get_or c.args.clause.now c.loop-m.m-index (record { var = 0; positive = false })) w.higher.result c.seen.ensures.course.once c.requires
          (slice_get-get_or c.args.clause.now c.loop-m.m-index (record { var = 0; positive = false }) c.loop-m-test.true) ne w.higher.ensures c.loop-m.invariant)
      | else-ne w ↦
          let same = same-from (get_or c.args.clause.now c.loop-m.m-index (record { var = 0; positive = false })) c.args.first (sym c.ne.ensures ∙ w.if-ne.false) in
          let P : Option Lit → Type 0 = λ o. IsBest c.args.trail.now.entries c.args.clause.now c.args.first (c.loop-m.m-index + 1) o in
          subst P (sym w.best-is)
          (best-same c.args.trail.now.entries c.args.clause.now c.args.first c.loop-m.m-index c.loop-m.best (get_or c.args.clause.now c.loop-m.m-index (record { var = 0; positive = false })) (slice_get-get_or c.args.clause.now c.loop-m.m-index (record { var = 0; positive = false }) c.loop-m-test.true) same c.loop-m.invariant)
    ]

pub returns : goal.returns
returns c = best-all c.args.trail.now.entries c.args.clause.now c.args.first c.loop-m.best
    (let P : ℕ → Type 0 = λ n. IsBest c.args.trail.now.entries c.args.clause.now c.args.first n c.loop-m.best in
    let e : c.loop-m.m-index ≡ length c.args.clause.now = omega arith in
    subst P e c.loop-m.invariant)
