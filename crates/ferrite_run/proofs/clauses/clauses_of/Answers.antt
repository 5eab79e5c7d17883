use Rattle.std.proofs.Common.{◌≡◌, Bool, ◌∙◌, ap, sym, subst}
use Rattle.litmus_syntax.specs.declared.pred.Pred.{Pred}
use Rattle.fer_events.specs.Witness.{IsWitness}
use Rattle.predicate_coding.specs.Coding.{coding}
use Rattle.ferrite_run.proofs.clauses.clauses_of.Goals as goal

pub returns-clause-clauses : goal.returns-clause-clauses
returns-clause-clauses c =
    let t = c.args.events.now in
    let kept = c.args.pairs.now.pairs in
    c.in_ok-store.ensures.clauses ∙ ap (λ (p : Pred). coding t kept p c.want.result) c.pred.ensures ∙ ap (λ (w : Bool). coding t kept c.args.litmus.now.pred w) c.want.ensures

pub returns-clause-answered : goal.returns-clause-answered
returns-clause-answered c = λ crash shows.
    let P : Pred → Bool → Type 0 = λ pred want. IsWitness c.args.events.now c.args.pairs.now.pairs pred want crash in
    let shown = subst (λ pred. P pred c.want.result) (sym c.pred.ensures) (subst (P c.args.litmus.now.pred) (sym c.want.ensures) shows) in
    let (values, long, describes, all) = c.in_ok-store.ensures.complete crash shown in (values, all)
