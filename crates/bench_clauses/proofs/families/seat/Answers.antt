use Rattle.std.proofs.Common.{arith, ap₂, sym, subst, ◌∙◌, ◌+◌, ◌*◌, ◌∷◌, ◌++◌, List, [], true}
use Rattle.std.specs.List.{All}
use Rattle.std.proofs.lemmas.List.Elements.{All-push}
use Rattle.std.proofs.lemmas.List.FromFn.{map-range_with_len_more}
use Rattle.clause_store.specs.declared.Lit.{Lit}
use Rattle.clause_store.specs.Clauses.{InVars}
use Rattle.bench_clauses.specs.Families.{sits}
use Rattle.bench_clauses.proofs.families.seat.Goals as goal

pub loop-hole-preserved : goal.loop-hole-preserved
loop-hole-preserved c =
    let vars = c.args.holes * (c.args.holes + 1) in
    let pushed = c.in_ok-push.ensures.items in (
      pushed ∙ ap₂ (λ (xs : List Lit) (x : Lit). xs ++ x ∷ []) c.loop-hole.invariant.0 c.sits.ensures.literal
          ∙ sym (map-range_with_len_more (λ hole. sits c.args.holes c.args.pigeon hole true) 0 c.loop-hole.hole c.loop-hole.hole (omega arith)),
      subst (All (InVars vars)) (sym pushed)
          (All-push (InVars vars) c.loop-hole.lits.items c.sits.result c.loop-hole.invariant.1 c.sits.ensures.named),
    )
