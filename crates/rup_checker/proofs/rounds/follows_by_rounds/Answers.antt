use Rattle.std.proofs.Common.{rules, ◌≡◌, List, Bool, true, subst}
use Rattle.std.specs.List.{Contains}
use Rattle.clause_store.specs.declared.Lit.{Lit}
use Rattle.clause_store.specs.Clauses.{negated}
use Rattle.clause_store.specs.Propagation.{HasAll, negations}
use Rattle.clause_store.specs.Propagation.IsImplied.{assumed}
use Rattle.clause_store.proofs.GeneralLiterals.{Contains-negations, Contains-from_negations, negated-negated}
use Rattle.rup_checker.specs.Marks.{has}
use Rattle.rup_checker.proofs.Sets.{quiet-no_conflict}
use Rattle.rup_checker.proofs.rounds.follows_by_rounds.Goals as goal

in-negations : (clause : List Lit) (l : Lit) → Contains clause (negated l) → Contains (negations clause) l
in-negations clause l h = subst (λ (x : Lit). Contains (negations clause) x) (negated-negated l) (Contains-negations clause (negated l) h)

starts-with : (clause : List Lit) (set : Lit → Bool) → ((m : Lit) → Contains clause (negated m) → set m ≡ true) → HasAll set (negations clause)
starts-with clause set h l c = h l (Contains-from_negations clause l c)

pub loop-set-init : goal.loop-set-init
loop-set-init c = record {
  room = search rules;
  sound = λ l h. assumed l (in-negations c.args.clause.now l (c.in_ok-set.ensures.only l h));
  starts = c.in_ok-set.ensures.each;
}

pub returns-in-Still : goal.returns-in-Still
returns-in-Still c =
    quiet-no_conflict c.args.store.now.clauses (negations c.args.clause.now) (has c.go_through.new.set)
    (starts-with c.args.clause.now (has c.go_through.new.set) (λ l h. c.in-Still.ensures.kept l (rw c.deref_mut.ensures.value (c.loop-set.invariant.starts l h))))
    c.in-Still.ensures.is.1
