use Rattle.std.proofs.Common.{◌∙◌, ap, sym}
use Rattle.litmus_syntax.specs.declared.pred.Pred.{Pred}
use Rattle.litmus_syntax.specs.declared.pred.Pred.TheVariants.{Not, And, Or}
use Rattle.predicate_coding.specs.Nodes.{node}
use Rattle.predicate_coding.specs.Growing.{with_node}
use Rattle.predicate_coding.proofs.Folds.{node-AttrIs}
use Rattle.predicate_coding.proofs.Growth.{not_grown, and_grown, or_grown}
use Rattle.predicate_coding.proofs.nodes.+code_node.Goals as goal

pub returns-in_ok-code_attr-in-AttrIs : goal.returns-in_ok-code_attr-in-AttrIs
returns-in_ok-code_attr-in-AttrIs t c =
    c.in_ok-code_attr-in-AttrIs.ensures
    ∙ ap (with_node c.args.store.now)
    (sym (node-AttrIs c.args.events.now c.args.cells.now c.in-AttrIs.path c.in-AttrIs.key c.in-AttrIs.value) ∙ ap (node c.args.events.now c.args.cells.now) (sym c.in-AttrIs.is))

pub returns-in_ok-join_not-in-Not : goal.returns-in_ok-join_not-in-Not
returns-in_ok-join_not-in-Not t c =
    not_grown c.args.events.now c.args.cells.now c.args.store.now c.get.result.now c.code_node.new.store c.join_not.new.store c.in_ok-code_node-in-Not.ensures c.in_ok-join_not-in-Not.ensures
    ∙ ap (λ (p : Pred). with_node c.args.store.now (node c.args.events.now c.args.cells.now p)) (ap Not c.get.ensures ∙ sym c.in-Not.is)

pub returns-in_ok-join_and-in-And : goal.returns-in_ok-join_and-in-And
returns-in_ok-join_and-in-And t c =
    and_grown c.args.events.now c.args.cells.now c.args.store.now c.get-in-And.result.now c.get-in-And-2.result.now c.code_node-in-And.new.store c.code_node-in-And-2.new.store c.join_and.new.store c.vars-left_own.result
    c.in_ok-code_node-in-And.ensures c.in_ok-code_node-in-And-2.ensures c.vars-left_own.ensures.number c.in_ok-join_and-in-And.ensures
    ∙ ap (λ (p : Pred). with_node c.args.store.now (node c.args.events.now c.args.cells.now p)) (ap (λ (p : Pred). And p c.get-in-And-2.result.now) c.get-in-And.ensures ∙ ap (And c.in-And.left) c.get-in-And-2.ensures ∙ sym c.in-And.is)

pub returns-in_ok-join_or-in-Or : goal.returns-in_ok-join_or-in-Or
returns-in_ok-join_or-in-Or t c =
    or_grown c.args.events.now c.args.cells.now c.args.store.now c.get-in-Or.result.now c.get-in-Or-2.result.now c.code_node-in-Or.new.store c.code_node-in-Or-2.new.store c.join_or.new.store c.vars-left_own-in-Or.result
    c.in_ok-code_node-in-Or.ensures c.in_ok-code_node-in-Or-2.ensures c.vars-left_own-in-Or.ensures.number c.in_ok-join_or-in-Or.ensures
    ∙ ap (λ (p : Pred). with_node c.args.store.now (node c.args.events.now c.args.cells.now p)) (ap (λ (p : Pred). Or p c.get-in-Or-2.result.now) c.get-in-Or.ensures ∙ ap (Or c.in-Or.left) c.get-in-Or-2.ensures ∙ sym c.in-Or.is)
