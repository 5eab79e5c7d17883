use Rattle.std.proofs.Common.{◌≡◌, ◌+◌, ◌++◌, ◌∷◌, ◌∙◌, ap, [], List, length, rules}
use Rattle.watch_lists.specs.declared.links.Place.{Place}
use Rattle.watch_lists.specs.Links.{pushed}
use Rattle.watch_lists.proofs.Placing.{still-linked, pair-linked, pair-is}
use Rattle.watch_lists.proofs.links.Chains.add_pair.Goals as goal
use Rattle.watch_lists.proofs.links.Chains.add_pair.Goals.{After-len-place, After-index_mut}

count : (c : After-len-place) → c.len-place.result ≡ length c.self.inside.places.items
count c = search rules

more : (c : After-index_mut) → c.extend_from_slice.new.self.items ≡ c.self.inside.places.items ++ (record { next = c.index.result.now; lit = c.args.a }) ∷ (record { next = 0; lit = c.args.b }) ∷ []
more c = c.in_ok-extend_from_slice.ensures.items ∙ ap (λ (xs : List Place). c.self.inside.places.items ++ xs) c.as_slice.ensures

pub invariant_of-self-2 : goal.invariant_of-self-2
invariant_of-self-2 c =
    still-linked _ _ (pushed c.args.m (length c.args.self.now.lits + 1) (pushed c.args.k (length c.args.self.now.lits) c.args.self.now.lists))
    (pair-linked c.self.inside.heads.items c.self.inside.places.items c.args.self.now c.self.view_is c.self.invariant c.args.k c.args.m c.requires.k_in c.requires.m_in c.args.a c.args.b c.index.result.now c.index.ensures c.extend_from_slice.new.self.items (more (goal.at.invariant_of-self-2 c).After-index_mut) c.len-place.result (count (goal.at.invariant_of-self-2 c).After-len-place) c.index-2.result.now c.index-2.ensures)

pub returns-clause-ok : goal.returns-clause-ok
returns-clause-ok c =
    pair-is c.self.inside.heads.items c.self.inside.places.items c.args.self.now c.self.view_is c.self.invariant c.args.k c.args.m c.requires.k_in c.requires.m_in c.args.a c.args.b c.index.result.now c.index.ensures c.extend_from_slice.new.self.items (more (goal.at.returns-clause-ok c).After-index_mut) c.len-place.result (count (goal.at.returns-clause-ok c).After-len-place) c.index-2.result.now c.index-2.ensures
