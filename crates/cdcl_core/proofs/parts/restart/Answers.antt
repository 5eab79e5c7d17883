use Rattle.std.proofs.Common.{◌≡◌, ℕ, ◌<◌, sym, ap, subst, ◌∙◌, arith}
use Rattle.trail_core.specs.Course.{Course}
use Rattle.cdcl_core.specs.Search.{IsSearch}
use Rattle.cdcl_core.proofs.Learning.{search-back}
use Rattle.cdcl_core.proofs.parts.restart.Goals as goal

above : (level now : ℕ) → now ≡ level → 0 < now → 0 < level
above level now e h = omega (arith, e, h)

pub returns-then-level-gt0-clause-sound : goal.returns-then-level-gt0-clause-sound
returns-then-level-gt0-clause-sound c = record {
  over = record {
    watches_vars = c.requires.over.watches_vars;
    trail_vars = ap (λ (t : Course). t.vars) c.back_to.ensures ∙ c.requires.over.trail_vars;
    scratch_vars = c.requires.over.scratch_vars;
  };
  search = subst (IsSearch c.args.engine.now.store.clauses c.args.engine.now.watches.list) (sym c.back_to.ensures)
      (search-back c.args.engine.now.store.clauses c.args.engine.now.watches.list c.args.engine.now.trail 0 c.requires.search (above c.args.engine.now.trail.level c.level.result c.level.ensures.level c.if-level-gt0.true));
  learned = c.requires.learned;
}
