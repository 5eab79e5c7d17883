-- A list of events from which some are left out: what its pairs are in the numbers of the whole list. `places` has, for each
-- event that stays, its number there, ascending.
use Rattle.std.specs.Prelude.{◌≡◌, ℕ, ◌-◌, List, map, slice_index}
use Rattle.fer_events.specs.Pairs.{PairList, IsListed, has_pair}

-- the number in the whole list of the event of this number among those that stay
abbrev pub lifted : List ℕ → ℕ → ℕ
lifted places a = slice_index places (a - 1)

-- pairs of those that stay, in the numbers of the whole list
abbrev pub lifted_pairs : List ℕ → List (ℕ × ℕ) → List (ℕ × ℕ)
lifted_pairs places pairs = map (λ p. (lifted places p.0, lifted places p.1)) pairs

-- the pairs of the n events of the whole list are those of the ones that stay, and no others
pub record AreLifted (places : List ℕ) (n : ℕ) (small large : PairList) : Type 0 where
  pub counted : large.n ≡ n
  pub listed : IsListed large
  pub exactly : (a b : ℕ) → has_pair large.pairs a b ≡ has_pair (lifted_pairs places small.pairs) a b
