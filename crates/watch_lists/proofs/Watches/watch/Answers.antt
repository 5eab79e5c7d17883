use Rattle.std.proofs.Common.{ℕ, ap, sym, subst, ◌∙◌}
use Rattle.clause_store.specs.Clauses.{InVars}
use Rattle.watch_lists.specs.Links.{Chained}
use Rattle.watch_lists.specs.Watching.{Watching}
use Rattle.watch_lists.proofs.Attaching.{is-ok, hung-more, chain-there, view-more}
use Rattle.watch_lists.proofs.Watches.watch.Goals as goal

pub invariant_of-self-else-is_err : goal.invariant_of-self-else-is_err
invariant_of-self-else-is_err c =
    let over = ap (λ (v : Watching). v.vars) (sym c.self.view_is) in
    hung-more c.self.inside.vars c.self.inside.ids.items c.push.new.self.items c.self.inside.chains c.add_pair.new.self c.args.id c.code_of-chain.result c.code_of.result c.args.first c.args.second c.self.invariant
    c.in_ok-push.ensures.items
    (is-ok c.add_pair.result _ (sym c.is_err.ensures.value ∙ c.if-is_err.false) c.add_pair.ensures.ok)
    c.code_of-chain.ensures c.code_of.ensures
    (chain-there c.self.inside.vars c.self.inside.ids.items c.self.inside.chains c.args.first c.code_of-chain.result c.self.invariant (subst (λ (n : ℕ). InVars n c.args.first) over c.requires.first_in) c.code_of-chain.ensures)
    (chain-there c.self.inside.vars c.self.inside.ids.items c.self.inside.chains c.args.second c.code_of.result c.self.invariant (subst (λ (n : ℕ). InVars n c.args.second) over c.requires.second_in) c.code_of.ensures)

pub returns-clause-attached : goal.returns-clause-attached
returns-clause-attached c =
    view-more c.self.inside.vars c.self.inside.ids.items c.push.new.self.items c.self.inside.chains c.add_pair.new.self c.args.self.now c.args.id c.args.first c.args.second c.self.invariant
    c.in_ok-push.ensures.items
    (ap (λ (x : Chained). x.lits) (is-ok c.add_pair.result _ (sym c.is_err.ensures.value ∙ c.if-is_err.false) c.add_pair.ensures.ok))
    c.self.view_is
