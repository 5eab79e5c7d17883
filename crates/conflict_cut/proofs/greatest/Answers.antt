use Rattle.std.proofs.Common.{◌≡◌, ◌<◌, ◌≤◌, ◌+◌, ℕ, false, get_or, slice_get, Some, ap, sym, subst, arith}
use Rattle.std.proofs.lemmas.Option.{slice_get-get_or}
use Rattle.clause_store.specs.declared.Lit.{Lit}
use Rattle.conflict_cut.specs.Cut.{FailsAt, IsGreatest}
use Rattle.conflict_cut.specs.Draft.{IsLow}
use Rattle.trail_core.proofs.GeneralPlaces.{contains-get}
use Rattle.conflict_cut.proofs.Drawing.{greatest-more, greatest-stays, greatest-all}
use Rattle.conflict_cut.proofs.greatest.Goals as goal
use Rattle.conflict_cut.proofs.greatest.Goals.{then-best-level, else-best-level}

pub level_of-level-requires : goal.level_of-level-requires
level_of-level-requires c =
    let lit = get_or c.args.lits.now c.loop-lit.lit-index (record { var = 0; positive = false }) in
    let at = slice_get-get_or c.args.lits.now c.loop-lit.lit-index (record { var = 0; positive = false }) c.loop-lit-test.true in
    let low : IsLow c.args.trail.now lit = c.requires lit (contains-get c.args.lits.now c.loop-lit.lit-index lit at) in
    (low.1.0, low.1.1, ap (λ (l : Lit). l.var) low.1.2)

pub loop-lit-preserved : goal.loop-lit-preserved
loop-lit-preserved c =
    let es = c.args.trail.now.entries in
    let i = c.loop-lit.lit-index in
    let lit = get_or c.args.lits.now c.loop-lit.lit-index (record { var = 0; positive = false }) in
    let at = slice_get-get_or c.args.lits.now c.loop-lit.lit-index (record { var = 0; positive = false }) c.loop-lit-test.true in
    let low : IsLow c.args.trail.now lit = c.requires lit (contains-get c.args.lits.now c.loop-lit.lit-index lit at) in
    let read = c.level_of-level.ensures low.1.0 low.1.1 (ap (λ (l : Lit). l.var) low.1.2) in
    let fails : FailsAt c.args.trail.now.entries lit c.level_of-level.result = (low.1.0, low.1.1, low.1.2, sym read) in
    let above : 1 ≤ c.level_of-level.result = omega (arith, read, low.1.3, low.2) in
    let under : c.level_of-level.result < c.args.trail.now.level = omega (arith, read, low.1.3, low.3) in
    elim c.if-best-level.branch [
      | then-best-level w ↦ record {
        greatest =
            subst (λ (b : ℕ). IsGreatest c.args.trail.now.entries (λ m. (k : ℕ) × (k < c.loop-lit.lit-index + 1) × (slice_get c.args.lits.now k ≡ Some m)) b) (sym w.best-is)
            (greatest-more es c.args.lits.now i c.loop-lit.best lit at c.level_of-level.result fails above w.if-best-level.true c.loop-lit.invariant.greatest);
        below = λ up. omega (arith, w.best-is, under);
      }
      | else-best-level w ↦ record {
        greatest =
            subst (λ (b : ℕ). IsGreatest c.args.trail.now.entries (λ m. (k : ℕ) × (k < c.loop-lit.lit-index + 1) × (slice_get c.args.lits.now k ≡ Some m)) b) (sym w.best-is)
            (greatest-stays es c.args.lits.now i c.loop-lit.best lit at c.level_of-level.result fails above w.if-best-level.false c.loop-lit.invariant.greatest);
        below = λ up. (let old = c.loop-lit.invariant.below up in omega (arith, w.best-is, old));
      }
    ]

pub returns-clause-greatest : goal.returns-clause-greatest
returns-clause-greatest c = greatest-all c.args.trail.now.entries c.args.lits.now c.loop-lit.lit-index c.loop-lit.best c.loop-lit-test.false c.loop-lit.invariant.greatest
