-- What is known of the sites that a repair leaves or asks about.
use Rattle.std.proofs.Common.{◌≡◌, ℕ, ◌+◌, ◌≤◌, Bool, true, false, List, length, replicate, refl, sym, ◌∙◌, ap, subst, arith}
use Rattle.std.proofs.lemmas.List.{length-replicate, length-set}
use Rattle.litmus_syntax.specs.Test.{Test}
use Rattle.litmus_syntax.specs.declared.site.Site.{Site}
use Rattle.litmus_syntax.specs.Sites.{AreSyncs, StandOutside}
use Rattle.model_reader.specs.declared.model.Model.{Model}
use Rattle.sync_parts.specs.Reaching.{IsReachable}
use Rattle.sync_shrink.specs.Sets.{all_things, without}
use Rattle.sync_shrink.specs.Walk.{Walk, IsAsked}
use Rattle.sync_shrink.specs.Walk.Walk.{begin, dropped, needed}
use Rattle.sync_shrink.specs.Walk.IsAsked.{all, next}
use Rattle.sync_shrink.proofs.WalkLaws.{walk-length}
use Rattle.sync_repair.specs.Sets.{IsBad, IsLeft, IsAskedOnTheWay}
use Rattle.sync_repair.proofs.Walks.{all-there}

-- where the walk begins, all things together aren't bad
walk_begins : (bad : List Bool → Type 0) (n k : ℕ) (s : List Bool) → Walk bad n k s → bad (all_things n) → ⊥
walk_begins bad n _ _ (begin fine) b = fine b
walk_begins bad n _ _ (dropped k s walk fine) b = walk_begins bad n k s walk b
walk_begins bad n _ _ (needed k s walk is) b = walk_begins bad n k s walk b

-- so with all sites no crash answers the question
pub all_suffice :
    (litmus : Test) (model : Model) (sites : List Site) (set : List Bool) → AreSyncs sites → StandOutside litmus.body sites → IsLeft litmus model sites set
    → IsReachable litmus model sites → ⊥
all_suffice litmus model sites set syncs outside left reached =
    walk_begins (IsBad litmus model sites) (length sites) (length sites) set left
    (record { syncs = syncs; outside = outside; reached = subst (IsReachable litmus model) (sym (all-there sites)) reached })

-- a set that is left has a truth value for each site
pub left_size : (litmus : Test) (model : Model) (sites : List Site) (set : List Bool) → IsLeft litmus model sites set → length set ≡ length sites
left_size litmus model sites set left = walk-length (IsBad litmus model sites) (length sites) (length sites) set left

-- and so has one that is asked about
asked_length : (bad : List Bool → Type 0) (n : ℕ) (s : List Bool) → IsAsked bad n s → length s ≡ n
asked_length bad n _ all = length-replicate n true
asked_length bad n _ (next k s below walk) = length-set s k false ∙ walk-length bad n k s walk

pub asked_size : (litmus : Test) (model : Model) (sites : List Site) (set : List Bool) → IsAskedOnTheWay litmus model sites set → length set ≡ length sites
asked_size litmus model sites set asked = asked_length (IsBad litmus model sites) (length sites) set asked
