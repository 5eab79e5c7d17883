use Rattle.std.proofs.Common.{arith, ap₂, ◌∙◌, ◌∷◌, []}
use Rattle.clause_store.specs.declared.Lit.{Lit}
use Rattle.order_coding.specs.Growth.{joined}
use Rattle.order_coding.proofs.GeneralGrowth.{grown-more}
use Rattle.bench_clauses.specs.Families.{apart}
use Rattle.bench_clauses.proofs.families.part.Goals as goal

pub loop-first-preserved : goal.loop-first-preserved
loop-first-preserved c =
    grown-more (λ z. apart c.args.holes c.args.hole c.args.second z) 0 c.loop-first.first c.args.store.now c.loop-first.store c.add.new.self
    (omega arith) c.loop-first.invariant
    (c.in_ok-add.ensures.added ∙ ap₂ (λ (a b : Lit). joined c.loop-first.store ((a ∷ b ∷ []) ∷ [])) c.sits-there.ensures.literal c.sits.ensures.literal)
