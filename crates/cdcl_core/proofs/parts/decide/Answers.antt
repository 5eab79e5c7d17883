use Rattle.std.proofs.Common.{ℕ, sym, ap, subst, ◌∙◌}
use Rattle.clause_store.specs.Clauses.{InVars}
use Rattle.trail_core.specs.Course.{Course}
use Rattle.cdcl_core.proofs.Deciding.{search-decided}
use Rattle.cdcl_core.proofs.parts.decide.Goals as goal

pub returns-clause-sound : goal.returns-clause-sound
returns-clause-sound c =
    let V : ℕ → Type 0 = λ n. InVars n c.args.lit in
    record {
      over = record {
        watches_vars = c.requires.sound.over.watches_vars;
        trail_vars = ap (λ (t : Course). t.vars) c.decide.ensures ∙ c.requires.sound.over.trail_vars;
        scratch_vars = c.requires.sound.over.scratch_vars;
      };
      search = search-decided c.args.engine.now.store.clauses c.args.engine.now.watches.list c.args.engine.now.trail c.decide.new.self c.args.lit c.requires.sound.search c.requires.seen
          (subst V (sym c.requires.sound.over.trail_vars) c.requires.there) c.requires.free c.decide.ensures;
      learned = c.requires.sound.learned;
    }
