use Rattle.std.proofs.Common.{◌≡◌, [], ◌∷◌, map, take}
use Rattle.clause_store.specs.Clauses.{negated}
use Rattle.order_coding.specs.Growth.{joined}
use Rattle.order_coding.specs.Variables.{in_lit}
use Rattle.predicate_coding.proofs.atoms.code_each.Given as goal

abbrev pub invariant-loop-mark : goal.invariant-loop-mark
invariant-loop-mark l = record {
  vars : l.store.vars ≡ l.fn.store.vars;
  written : l.store ≡ joined l.fn.store (map (λ e. negated (in_lit e) ∷ l.own ∷ []) (take l.mark-index l.marks));
}
