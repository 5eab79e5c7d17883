-- What a crash is: an order of all events that keeps what has to be kept, and a cut. Events are numbered from 1.
use Rattle.std.specs.Prelude.{◌≡◌, ℕ, zero, suc, ◌+◌, ◌-◌, ◌≤◌, ◌<◌, List, [], ◌++◌, length, take, map, All, Contains, IsPermutation, slice_get, Some}
use Rattle.std.specs.List.{range_with_len}
use Rattle.fer_events.specs.declared.event.Event.{Event}
use Rattle.fer_events.specs.declared.event.Crash.{Crash}

-- the numbers of n events, in program order
abbrev pub numbers : ℕ → List ℕ
numbers n = range_with_len 1 n

-- a stands before b in the order
abbrev pub StandsBefore : List ℕ → ℕ → ℕ → Type 0
StandsBefore order a b = (front : List ℕ) × (back : List ℕ) × (order ≡ front ++ back) × Contains front a × Contains back b

-- a valid order: a permutation of the numbers of the n events in which a stands before b for each kept pair (a, b)
pub record IsValidOrder (n : ℕ) (kept : List (ℕ × ℕ)) (order : List ℕ) : Type 0 where
  pub permutes : IsPermutation (numbers n) order
  pub keeps : (a b : ℕ) → Contains kept (a, b) → StandsBefore order a b

-- the event of this number
abbrev pub IsEvent : List Event → ℕ → Event → Type 0
IsEvent events a e = (0 < a) × (slice_get events (a - 1) ≡ Some e)

-- a and b are numbers of events of one transaction
abbrev pub SameTransaction : List Event → ℕ → ℕ → Type 0
SameTransaction events a b = (e : Event) × (f : Event) × IsEvent events a e × IsEvent events b f × (e.txn ≡ f.txn)

-- the events that reached the disk before the crash, in that order
abbrev pub before_cut : Crash → List ℕ
before_cut crash = take crash.cut crash.order

-- a crash of the events: a valid order with a cut, such that each transaction stands wholly before the cut or wholly
-- behind it
pub record IsCrash (events : List Event) (kept : List (ℕ × ℕ)) (crash : Crash) : Type 0 where
  pub valid : IsValidOrder (length events) kept crash.order
  pub within : crash.cut ≤ length events
  pub whole : (a b : ℕ) → SameTransaction events a b → Contains (before_cut crash) a → Contains (before_cut crash) b

-- each pair is of two of n events, in program order
abbrev pub AreForward : ℕ → List (ℕ × ℕ) → Type 0
AreForward n pairs = All (λ p. (1 ≤ p.0) × (p.0 < p.1) × (p.1 ≤ n)) pairs

-- the pairs (a, b) with a < b of the n numbers from `low` on, by a, then b
abbrev pub pairs_from : ℕ → ℕ → List (ℕ × ℕ)
pairs_from low zero = []
pairs_from low (suc n) = map (λ b. (low, b)) (range_with_len (low + 1) n) ++ pairs_from (low + 1) n

-- what the sequential model keeps of n events: every pair in program order
abbrev pub all_pairs : ℕ → List (ℕ × ℕ)
all_pairs n = pairs_from 1 n
