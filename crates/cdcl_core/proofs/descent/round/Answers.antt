use Rattle.std.proofs.Common.{◌≡◌, ℕ, ◌≤◌, List, length, sym, subst, arith}
use Rattle.clause_store.specs.declared.Lit.{Lit}
use Rattle.trail_core.specs.Course.{Course, Entry}
use Rattle.cdcl_core.specs.Steps.{AreMet}
use Rattle.cdcl_core.proofs.Deciding.{footing-spread, footing-decided}
use Rattle.cdcl_core.proofs.descent.round.Goals as goal

pub returns-in-Some-clause-footing : goal.returns-in-Some-clause-footing
returns-in-Some-clause-footing g c = footing-spread c.args.assumptions.now c.args.engine.now.trail c.spread.new.engine.trail c.args.footing.now c.requires.footing c.spread.ensures.spreads

pub assume-requires-clause-footing : goal.assume-requires-clause-footing
assume-requires-clause-footing g c = footing-spread c.args.assumptions.now c.args.engine.now.trail c.spread.new.engine.trail c.args.footing.now c.requires.footing c.spread.ensures.spreads

met-higher : (es : List Entry) (asm : List Lit) (a b : ℕ) → a ≤ b → AreMet es asm a → AreMet es asm b
met-higher es asm a b le h l c = (let m = h l c in (m.0, m.1, m.2, omega (arith, le, m.3)))

pub returns-in-None-clause-outcome : goal.returns-in-None-clause-outcome
returns-in-None-clause-outcome g c =
    let P : Course → Type 0 = λ t. t.seen ≡ length t.entries in (
      subst P (sym c.in-Met.ensures.came.0) c.in_default.ensures.seen,
      c.in-None.ensures.none,
      met-higher c.assume.new.engine.trail.entries c.args.assumptions.now c.assume.new.footing.level c.assume.new.engine.trail.level c.assume.ensures.footing.in_range c.in-Met.ensures.came.1,
    )

pub returns-in-Some-choose-clause-footing : goal.returns-in-Some-choose-clause-footing
returns-in-Some-choose-clause-footing g c =
    footing-decided c.args.assumptions.now c.assume.new.engine.trail c.decide.new.engine.trail c.assume.new.footing c.in-Some-choose.lit c.assume.ensures.footing c.in-Met.ensures.came.1 c.decide.ensures.trail
