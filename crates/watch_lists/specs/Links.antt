-- Private: chains of places, lists that are linked by numbers, where 0 ends a list and place x has the link x + 1.
use Rattle.std.specs.Prelude.{◌≡◌, ◌≢◌, ℕ, ◌+◌, ◌<◌, ◌++◌, ◌⊎◌, List, [], ◌∷◌, length, map, take, drop, slice_set, slice_index, slice_index_or}
use Rattle.std.proofs.Common.{zero, suc}
use Rattle.std.specs.List.{Contains}
use Rattle.clause_store.specs.declared.Lit.{Lit}
use Rattle.watch_lists.specs.declared.links.Place.{Place}

-- the chains, each a list of places, and the literal that each place watches
pub record Chained : Type 0 where
  pub lists : List (List ℕ)
  pub lits : List Lit

-- the links of places, and the literals that they watch
abbrev pub nexts : List Place → List ℕ
nexts places = map (λ p. p.next) places

abbrev pub lits_at : List Place → List Lit
lits_at places = map (λ p. p.lit) places

-- the list from a link on, where no place comes twice
abbrev pub IsChain : List ℕ → ℕ → List ℕ → Type 0
IsChain next link [] = link ≡ 0
IsChain next link (x ∷ xs) = (link ≡ x + 1) × (x < length next) × (Contains xs x → ⊥) × IsChain next (slice_index next x) xs

-- the list from a link on, of at most so many places
unfoldable pub walk : ℕ → List ℕ → ℕ → List ℕ
walk zero next link = []
walk (suc n) next zero = []
walk (suc n) next (suc place) = place ∷ walk n next (slice_index next place)

-- the list that each head begins
abbrev pub lists_of : List ℕ → List ℕ → List (List ℕ)
lists_of heads next = map (walk (length next) next) heads

-- the chains as they are kept
abbrev pub chained_of : List ℕ → List Place → Chained
chained_of heads places = record { lists = lists_of heads (nexts places); lits = lits_at places }

-- each head begins its list, and no place is in two
pub record Linked (heads next : List ℕ) (all : List (List ℕ)) : Type 0 where
  pub len : length all ≡ length heads
  pub chain : (k : ℕ) → k < length heads → IsChain next (slice_index heads k) (slice_index_or all k [])
  pub apart : (k m x : ℕ) → k < length heads → m < length heads → Contains (slice_index_or all k []) x → Contains (slice_index_or all m []) x → k ≡ m

-- the place is in the list of this number
abbrev pub In : List (List ℕ) → ℕ → ℕ → Type 0
In all k x = (k < length all) × Contains (slice_index_or all k []) x

-- the first place of one list put before another list
abbrev pub shifted : ℕ → ℕ → List (List ℕ) → List (List ℕ)
shifted from to all =
    slice_set (slice_set all from (drop 1 (slice_index_or all from []))) to (take 1 (slice_index_or all from []) ++ slice_index_or all to [])

-- two lists in each other's place
abbrev pub exchanged : ℕ → ℕ → List (List ℕ) → List (List ℕ)
exchanged a b all = slice_set (slice_set all a (slice_index_or all b [])) b (slice_index_or all a [])

-- a place put before a list
abbrev pub pushed : ℕ → ℕ → List (List ℕ) → List (List ℕ)
pushed to x all = slice_set all to (x ∷ slice_index_or all to [])

-- one place has gone from its list to this one, and no other place has
pub record Moves (all new : List (List ℕ)) (x to : ℕ) : Type 0 where
  pub into : (k y : ℕ) → In new k y → ((y ≡ x) × (k ≡ to)) ⊎ ((y ≢ x) × In all k y)
  pub arrived : In new to x
  pub stays : (k y : ℕ) → y ≢ x → In all k y → In new k y
