-- A store that grew by the operands and by their connective grew by the node.
use Rattle.std.proofs.Common.{◌≡◌, ℕ, ◌+◌, List, ◌++◌, sym, ◌∙◌, ap, arith, append_assoc}
use Rattle.litmus_syntax.specs.declared.pred.Pred.{Pred}
use Rattle.litmus_syntax.specs.declared.pred.Pred.TheVariants as pred
use Rattle.clause_store.specs.declared.Lit.{Lit}
use Rattle.clause_store.specs.Clauses.{Formula}
use Rattle.fer_events.specs.Tables.{Trace}
use Rattle.value_coding.specs.declared.cell.CodedCell.{CodedCell}
use Rattle.predicate_coding.specs.AtomNodes.{Node}
use Rattle.predicate_coding.specs.CellChoices.{yes_lit}
use Rattle.predicate_coding.specs.Nodes.{node, not_node, two_node, not_clauses, and_clauses, or_clauses}
use Rattle.predicate_coding.specs.Growing.{with_node, with_variable}
use Rattle.predicate_coding.proofs.Folds.{node-Not, node-And, node-Or}

abbrev of : ℕ → List (List Lit) → Formula
of vars clauses = record { vars = vars; clauses = clauses }

grown-not : (f : Formula) (x : Node) → with_variable (with_node f x) (not_clauses (yes_lit ((with_node f x).vars + 1)) (yes_lit (with_node f x).vars)) ≡ with_node f (not_node x)
grown-not f x =
    let a : f.vars + (x.below + 1) + 1 ≡ f.vars + (x.below + 1 + 1) = omega arith in
    let b : f.vars + (x.below + 1) + 1 ≡ f.vars + 1 + (x.below + 1) = omega arith in
    let c : f.vars + (x.below + 1) ≡ f.vars + 1 + x.below = omega arith in
    ap (λ (k : ℕ). of k (f.clauses ++ x.clauses (f.vars + 1) ++ not_clauses (yes_lit (f.vars + (x.below + 1) + 1)) (yes_lit (f.vars + (x.below + 1))))) a
    ∙ ap (λ (k : ℕ). of (f.vars + (x.below + 1 + 1)) (f.clauses ++ x.clauses (f.vars + 1) ++ not_clauses (yes_lit k) (yes_lit (f.vars + (x.below + 1))))) b
    ∙ ap (λ (k : ℕ). of (f.vars + (x.below + 1 + 1)) (f.clauses ++ x.clauses (f.vars + 1) ++ not_clauses (yes_lit (f.vars + 1 + (x.below + 1))) (yes_lit k))) c
    ∙ ap (of (f.vars + (x.below + 1 + 1))) (append_assoc f.clauses (x.clauses (f.vars + 1)) (not_clauses (yes_lit (f.vars + 1 + (x.below + 1))) (yes_lit (f.vars + 1 + x.below))))

module _ (joins : Lit → Lit → Lit → List (List Lit)) (f : Formula) (x y : Node) where
  abbrev all : ℕ
  all = f.vars + (x.below + 1 + (y.below + 1) + 1)

  grown-two : with_variable (with_node (with_node f x) y) (joins (yes_lit ((with_node (with_node f x) y).vars + 1)) (yes_lit (with_node f x).vars) (yes_lit (with_node (with_node f x) y).vars)) ≡ with_node f (two_node joins x y)
  grown-two =
      let a : f.vars + (x.below + 1) + (y.below + 1) + 1 ≡ all = omega arith in
      let b : f.vars + (x.below + 1) + (y.below + 1) + 1 ≡ f.vars + 1 + (x.below + 1 + (y.below + 1)) = omega arith in
      let c : f.vars + (x.below + 1) ≡ f.vars + 1 + x.below = omega arith in
      let d : f.vars + (x.below + 1) + (y.below + 1) ≡ f.vars + 1 + (x.below + 1) + y.below = omega arith in
      let e : f.vars + (x.below + 1) + 1 ≡ f.vars + 1 + (x.below + 1) = omega arith in
      ap (λ (k : ℕ). of k (f.clauses ++ x.clauses (f.vars + 1) ++ y.clauses (f.vars + (x.below + 1) + 1) ++ joins (yes_lit (f.vars + (x.below + 1) + (y.below + 1) + 1)) (yes_lit (f.vars + (x.below + 1))) (yes_lit (f.vars + (x.below + 1) + (y.below + 1))))) a
      ∙ ap (λ (k : ℕ). of all (f.clauses ++ x.clauses (f.vars + 1) ++ y.clauses (f.vars + (x.below + 1) + 1) ++ joins (yes_lit k) (yes_lit (f.vars + (x.below + 1))) (yes_lit (f.vars + (x.below + 1) + (y.below + 1))))) b
      ∙ ap (λ (k : ℕ). of all (f.clauses ++ x.clauses (f.vars + 1) ++ y.clauses (f.vars + (x.below + 1) + 1) ++ joins (yes_lit (f.vars + 1 + (x.below + 1 + (y.below + 1)))) (yes_lit k) (yes_lit (f.vars + (x.below + 1) + (y.below + 1))))) c
      ∙ ap (λ (k : ℕ). of all (f.clauses ++ x.clauses (f.vars + 1) ++ y.clauses (f.vars + (x.below + 1) + 1) ++ joins (yes_lit (f.vars + 1 + (x.below + 1 + (y.below + 1)))) (yes_lit (f.vars + 1 + x.below)) (yes_lit k))) d
      ∙ ap (λ (k : ℕ). of all (f.clauses ++ x.clauses (f.vars + 1) ++ y.clauses k ++ joins (yes_lit (f.vars + 1 + (x.below + 1 + (y.below + 1)))) (yes_lit (f.vars + 1 + x.below)) (yes_lit (f.vars + 1 + (x.below + 1) + y.below)))) e
      ∙ ap (of all)
      (ap (λ (cs : List (List Lit)). cs ++ joins (yes_lit (f.vars + 1 + (x.below + 1 + (y.below + 1)))) (yes_lit (f.vars + 1 + x.below)) (yes_lit (f.vars + 1 + (x.below + 1) + y.below))) (append_assoc f.clauses (x.clauses (f.vars + 1)) (y.clauses (f.vars + 1 + (x.below + 1))))
      ∙ append_assoc f.clauses (x.clauses (f.vars + 1) ++ y.clauses (f.vars + 1 + (x.below + 1))) (joins (yes_lit (f.vars + 1 + (x.below + 1 + (y.below + 1)))) (yes_lit (f.vars + 1 + x.below)) (yes_lit (f.vars + 1 + (x.below + 1) + y.below))))

module _ (t : Trace) (cs : List CodedCell) (f : Formula) where
  pub not_grown :
      (p : Pred) (s new : Formula) → s ≡ with_node f (node t cs p) → new ≡ with_variable s (not_clauses (yes_lit (s.vars + 1)) (yes_lit s.vars))
      → new ≡ with_node f (node t cs (pred.Not p))
  not_grown p s new e g =
      g ∙ ap (λ (s : Formula). with_variable s (not_clauses (yes_lit (s.vars + 1)) (yes_lit s.vars))) e ∙ grown-not f (node t cs p) ∙ ap (with_node f) (sym (node-Not t cs p))

  two-grown :
      (joins : Lit → Lit → Lit → List (List Lit)) (x y : Node) (s1 s2 new : Formula) (k : ℕ) → s1 ≡ with_node f x → s2 ≡ with_node s1 y → k ≡ s1.vars
      → new ≡ with_variable s2 (joins (yes_lit (s2.vars + 1)) (yes_lit k) (yes_lit s2.vars)) → new ≡ with_node f (two_node joins x y)
  two-grown joins x y s1 s2 new k e g h i =
      i ∙ ap (λ (n : ℕ). with_variable s2 (joins (yes_lit (s2.vars + 1)) (yes_lit n) (yes_lit s2.vars))) h
      ∙ ap (λ (s : Formula). with_variable s (joins (yes_lit (s.vars + 1)) (yes_lit s1.vars) (yes_lit s.vars))) g
      ∙ ap (λ (s : Formula). with_variable (with_node s y) (joins (yes_lit ((with_node s y).vars + 1)) (yes_lit s.vars) (yes_lit (with_node s y).vars))) e
      ∙ grown-two joins f x y

  pub and_grown :
      (p q : Pred) (s1 s2 new : Formula) (k : ℕ) → s1 ≡ with_node f (node t cs p) → s2 ≡ with_node s1 (node t cs q) → k ≡ s1.vars
      → new ≡ with_variable s2 (and_clauses (yes_lit (s2.vars + 1)) (yes_lit k) (yes_lit s2.vars)) → new ≡ with_node f (node t cs (pred.And p q))
  and_grown p q s1 s2 new k e g h i = two-grown and_clauses (node t cs p) (node t cs q) s1 s2 new k e g h i ∙ ap (with_node f) (sym (node-And t cs p q))

  pub or_grown :
      (p q : Pred) (s1 s2 new : Formula) (k : ℕ) → s1 ≡ with_node f (node t cs p) → s2 ≡ with_node s1 (node t cs q) → k ≡ s1.vars
      → new ≡ with_variable s2 (or_clauses (yes_lit (s2.vars + 1)) (yes_lit k) (yes_lit s2.vars)) → new ≡ with_node f (node t cs (pred.Or p q))
  or_grown p q s1 s2 new k e g h i = two-grown or_clauses (node t cs p) (node t cs q) s1 s2 new k e g h i ∙ ap (with_node f) (sym (node-Or t cs p q))
