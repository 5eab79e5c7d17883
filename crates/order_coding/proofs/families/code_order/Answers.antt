use Rattle.std.proofs.Common.{◌≡◌, ℕ, [], length, ◌∙◌, ap, subst}
use Rattle.std.proofs.lemmas.Result.{err_from_is_err_and}
use Rattle.clause_store.specs.Clauses.{Formula}
use Rattle.fer_events.specs.Orders.{AreForward}
use Rattle.order_coding.specs.Variables.{order_vars}
use Rattle.order_coding.specs.Families.{order_formula}
use Rattle.order_coding.proofs.Stages.{in-first, in-second, in-third, in-fourth, all-four}
use Rattle.order_coding.proofs.CrashLaw.{crash-values-in}
use Rattle.order_coding.proofs.families.code_order.Goals as goal

-- the store that has the variables and no clause yet
start-is :
    (old raised : Formula) (vars n p count : ℕ) → old ≡ record { vars = 0; clauses = [] } → raised ≡ record old { vars = vars }
    → vars ≡ order_vars n → n ≡ p → p ≡ count → raised ≡ record { vars = order_vars count; clauses = [] }
start-is old raised vars n p count e r v en ep =
    r ∙ ap (λ (f : Formula). record f { vars = vars }) e
    ∙ ap (λ (k : ℕ). record { vars = k; clauses = [] }) (v ∙ ap order_vars (en ∙ ep))

pub returns-in_err-keep_pairs-clause-err : goal.returns-in_err-keep_pairs-clause-err
returns-in_err-keep_pairs-clause-err c =
    let p = err_from_is_err_and c.from_residual.result c.from_residual.ensures.1 in
    rw p.1
    (in-first c.args.events.now.events c.args.pairs.now.pairs c.args.pairs.now.n c.raise_vars.new.self c.keep_pairs.new.store c.requires.size
    (start-is c.args.store.now c.raise_vars.new.self c.order_vars.result c.n-n.result c.args.pairs.now.n (length c.args.events.now.events) c.requires.empty c.raise_vars.ensures c.order_vars.ensures c.n-n.ensures.n c.requires.size)
    c.in_err-keep_pairs.ensures.err)

pub returns-in_err-forbid_cycles-clause-err : goal.returns-in_err-forbid_cycles-clause-err
returns-in_err-forbid_cycles-clause-err c =
    let p = err_from_is_err_and c.from_residual-in_err-forbid_cycles.result c.from_residual-in_err-forbid_cycles.ensures.1 in
    rw p.1
    (in-second c.args.events.now.events c.args.pairs.now.pairs c.args.pairs.now.n c.n-n.result c.raise_vars.new.self c.keep_pairs.new.store c.forbid_cycles.new.store c.requires.size (c.n-n.ensures.n ∙ c.requires.size)
    (start-is c.args.store.now c.raise_vars.new.self c.order_vars.result c.n-n.result c.args.pairs.now.n (length c.args.events.now.events) c.requires.empty c.raise_vars.ensures c.order_vars.ensures c.n-n.ensures.n c.requires.size)
    c.in_ok-keep_pairs.ensures.ok c.in_err-forbid_cycles.ensures.err)

pub returns-in_err-make_cut_prefix-clause-err : goal.returns-in_err-make_cut_prefix-clause-err
returns-in_err-make_cut_prefix-clause-err c =
    let p = err_from_is_err_and c.from_residual-in_err-make_cut_prefix.result c.from_residual-in_err-make_cut_prefix.ensures.1 in
    rw p.1
    (in-third c.args.events.now.events c.args.pairs.now.pairs c.args.pairs.now.n c.n-n.result c.raise_vars.new.self c.keep_pairs.new.store c.forbid_cycles.new.store c.make_cut_prefix.new.store c.requires.size (c.n-n.ensures.n ∙ c.requires.size)
    (start-is c.args.store.now c.raise_vars.new.self c.order_vars.result c.n-n.result c.args.pairs.now.n (length c.args.events.now.events) c.requires.empty c.raise_vars.ensures c.order_vars.ensures c.n-n.ensures.n c.requires.size)
    c.in_ok-keep_pairs.ensures.ok c.in_ok-forbid_cycles.ensures.ok c.in_err-make_cut_prefix.ensures.err)

pub returns-in_err-keep_transactions_whole-clause-err : goal.returns-in_err-keep_transactions_whole-clause-err
returns-in_err-keep_transactions_whole-clause-err c =
    let p = err_from_is_err_and c.from_residual-in_err-keep_transactions_whole.result c.from_residual-in_err-keep_transactions_whole.ensures.1 in
    rw p.1
    (in-fourth c.args.events.now.events c.args.pairs.now.pairs c.args.pairs.now.n c.n-n.result c.events-events.result.now c.raise_vars.new.self c.keep_pairs.new.store c.forbid_cycles.new.store c.make_cut_prefix.new.store c.keep_transactions_whole.new.store c.requires.size (c.n-n.ensures.n ∙ c.requires.size) c.events-events.ensures
    (start-is c.args.store.now c.raise_vars.new.self c.order_vars.result c.n-n.result c.args.pairs.now.n (length c.args.events.now.events) c.requires.empty c.raise_vars.ensures c.order_vars.ensures c.n-n.ensures.n c.requires.size)
    c.in_ok-keep_pairs.ensures.ok c.in_ok-forbid_cycles.ensures.ok c.in_ok-make_cut_prefix.ensures.ok c.in_err-keep_transactions_whole.ensures.err)

written :
    (c : goal.In_ok-keep_transactions_whole)
    → c.keep_transactions_whole.new.store ≡ order_formula c.args.events.now.events c.args.pairs.now.pairs
written c =
    all-four c.args.events.now.events c.args.pairs.now.pairs c.args.pairs.now.n c.n-n.result c.events-events.result.now c.raise_vars.new.self c.keep_pairs.new.store c.forbid_cycles.new.store c.make_cut_prefix.new.store c.keep_transactions_whole.new.store c.requires.size (c.n-n.ensures.n ∙ c.requires.size) c.events-events.ensures
    (start-is c.args.store.now c.raise_vars.new.self c.order_vars.result c.n-n.result c.args.pairs.now.n (length c.args.events.now.events) c.requires.empty c.raise_vars.ensures c.order_vars.ensures c.n-n.ensures.n c.requires.size)
    c.in_ok-keep_pairs.ensures.ok c.in_ok-forbid_cycles.ensures.ok c.in_ok-make_cut_prefix.ensures.ok c.in_ok-keep_transactions_whole.ensures.ok

pub returns-clause-ok : goal.returns-clause-ok
returns-clause-ok c = written c

pub returns-clause-complete : goal.returns-clause-complete
returns-clause-complete c =
    λ crash h. crash-values-in c.args.events.now.events c.args.pairs.now.pairs crash c.keep_transactions_whole.new.store
    (subst (λ (n : ℕ). AreForward n c.args.pairs.now.pairs) c.requires.size c.requires.forward) h (written c)
