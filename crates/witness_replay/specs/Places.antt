-- Private: where the events of an order stand, as the code keeps it, and what it finds there. Places count from 0.
use Rattle.std.specs.Prelude.{◌≡◌, ◌≢◌, ◌⊎◌, ℕ, ◌+◌, ◌-◌, ◌<◌, ◌≤◌, ◌↔◌, nat_lt, List, take, slice_index, Contains}
use Rattle.fer_events.specs.declared.event.Event.{Event}
use Rattle.fer_events.specs.Orders.{StandsBefore}
use Rattle.order_coding.specs.Variables.{IsNumber}
use Rattle.order_coding.specs.Families.{txn_of}
use Rattle.witness_replay.specs.Judging.{IsInTransaction}

-- the place of an event
abbrev pub place_in : List ℕ → ℕ → ℕ
place_in places a = slice_index places (a - 1)

-- the places tell which of two events stands before the other, and which are among the first k
pub record ArePlaces (n : ℕ) (order places : List ℕ) : Type 0 where
  pub before : (a b : ℕ) → IsNumber n a → IsNumber n b → (place_in places a < place_in places b) ↔ StandsBefore order a b
  pub inside : (k a : ℕ) → IsNumber n a → (place_in places a < k) ↔ Contains (take k order) a

-- a has to stand before b, and its place isn't before that of b
abbrev pub IsMisplaced : List (ℕ × ℕ) → List ℕ → ℕ → ℕ → Type 0
IsMisplaced kept places a b = Contains kept (a, b) × (place_in places b ≤ place_in places a)

-- the least pair that is misplaced
abbrev pub IsFirstMisplaced : List (ℕ × ℕ) → List ℕ → ℕ → ℕ → Type 0
IsFirstMisplaced kept places a b =
    IsMisplaced kept places a b × ((c d : ℕ) → IsMisplaced kept places c d → (a < c) ⊎ ((a ≡ c) × (b ≤ d)))

-- one event of the transaction has a place before the cut, another not
abbrev pub IsParted : List Event → List ℕ → ℕ → ℕ → Type 0
IsParted events places cut txn =
    (a b : ℕ) × IsInTransaction events txn a × (place_in places a < cut) × IsInTransaction events txn b
    × (cut ≤ place_in places b)

-- the events a and a + 1 are of one transaction, and one of them has a place before the cut
abbrev pub PartsNext : List Event → List ℕ → ℕ → ℕ → Type 0
PartsNext events places cut a =
    (txn_of events a ≡ txn_of events (a + 1)) × (nat_lt (place_in places a) cut ≢ nat_lt (place_in places (a + 1)) cut)
