use Rattle.std.proofs.Common.{ℕ, arith, ◌≡◌, ap, ◌∙◌, suc, ◌+◌, [], refl}
use Rattle.order_coding.specs.Growth.{joined}
use Rattle.order_coding.proofs.GeneralGrowth.{grown-none, grown-more}
use Rattle.bench_clauses.specs.Families.{behind_lit, drawn_clause, number_before}
use Rattle.bench_clauses.proofs.families.random.Goals as goal

number-first : (seed : ℕ) → seed ≡ number_before seed 0
unfolding number_before
number-first seed = refl

number-next : (seed k : ℕ) → behind_lit (behind_lit (behind_lit (number_before seed k))) ≡ number_before seed (k + 1)
unfolding number_before
number-next seed k = (let e : suc k ≡ k + 1 = omega arith in ap (number_before seed) e)

pub loop-number-init : goal.loop-number-init
loop-number-init c = (
  c.new-store.ensures ∙ grown-none (λ k. drawn_clause c.args.size (number_before c.args.size k)) 0 (record { vars = c.args.size; clauses = [] }),
  number-first c.args.size,
)

pub loop-number-preserved : goal.loop-number-preserved
loop-number-preserved c =
    let i = c.loop-number.invariant in (
      grown-more (λ k. drawn_clause c.args.size (number_before c.args.size k)) 0 c.loop-number._number (record { vars = c.args.size; clauses = [] })
          c.loop-number.store c.draw_clause.new.store (omega arith) i.0
          (c.in_ok-state.ensures.clause ∙ ap (λ (s : ℕ). joined c.loop-number.store (drawn_clause c.args.size s)) i.1),
      c.in_ok-state.ensures.last ∙ ap (λ (s : ℕ). behind_lit (behind_lit (behind_lit s))) i.1 ∙ number-next c.args.size c.loop-number._number,
    )
