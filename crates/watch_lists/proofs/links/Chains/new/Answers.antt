use Rattle.std.proofs.Common.{◌≡◌, List, ℕ, [], replicate, sym, subst, ap, rules}
use Rattle.watch_lists.specs.Links.{Linked, nexts, lits_at}
use Rattle.watch_lists.proofs.Chaining.{linked-new}
use Rattle.watch_lists.proofs.Placing.{seen-as, still-linked}
use Rattle.watch_lists.proofs.links.Chains.new.Goals as goal
use Rattle.watch_lists.proofs.links.Chains.new.Goals.{After-new}

heads-are : (c : After-new) → c.in_ok-heads.heads.items ≡ replicate {A = ℕ} c.args.n 0
heads-are c = search rules

linked : (c : After-new) → Linked c.in_ok-heads.heads.items (nexts c.new.result.items) (replicate {A = List ℕ} c.args.n [])
linked c =
    let P : List ℕ → Type 0 = λ xs. Linked xs (nexts c.new.result.items) (replicate {A = List ℕ} c.args.n []) in
    let Q : List ℕ → Type 0 = λ xs. Linked (replicate {A = ℕ} c.args.n 0) xs (replicate {A = List ℕ} c.args.n []) in
    subst P (sym (heads-are c)) (subst Q (sym (ap nexts c.new.ensures.items)) (linked-new c.args.n))

pub invariant_of-chains : goal.invariant_of-chains
invariant_of-chains c = still-linked _ _ (replicate {A = List ℕ} c.args.n []) (linked (goal.at.invariant_of-chains c).After-new)

pub returns : goal.returns
returns c = seen-as _ _ (replicate {A = List ℕ} c.args.n []) [] (linked (goal.at.returns c).After-new) (ap lits_at c.new.ensures.items)
