use Rattle.std.proofs.Common.{◌≡◌, ◌-◌, ◌≤◌, ◌++◌, List, length}
use Rattle.clause_store.specs.declared.Lit.{Lit}
use Rattle.cdcl_core.specs.Answering.{AreLessons}
use Rattle.cdcl_core.specs.Search.{IsSound, given_in, learned_in}
use Rattle.cdcl_core.specs.Steps.{IsFooting}
use Rattle.cdcl_core.proofs.rounds.find_answer.Given as goal

abbrev pub invariant-search : goal.invariant-search
invariant-search g l = record {
  sound : IsSound l.engine;
  vars : l.engine.store.vars ≡ l.initial.engine.store.vars;
  given : given_in l.engine ≡ given_in l.initial.engine;
  learned : (more : List (List Lit)) × (learned_in l.engine ≡ learned_in l.initial.engine ++ more) × AreLessons (given_in l.initial.engine ++ learned_in l.initial.engine) more;
  within : length (learned_in l.engine) ≤ l.limit;
  footing : IsFooting l.assumptions l.engine.trail l.footing;
}

-- each conflict above the assumptions adds a learned clause, and there are at most `limit` of them
abbrev pub decreases-search : goal.decreases-search
decreases-search g l = l.limit - length (learned_in l.engine)
