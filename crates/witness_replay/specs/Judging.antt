-- What a crash is judged to be: a good answer to the question, or the first reason why it is none.
use Rattle.std.specs.Prelude.{◌≡◌, ◌≢◌, ◌⊎◌, ℕ, ◌<◌, ◌≤◌, Bool, List, length, Contains, IsPermutation}
use Rattle.litmus_syntax.specs.declared.pred.Pred.{Pred}
use Rattle.fer_events.specs.declared.event.Event.{Event}
use Rattle.fer_events.specs.declared.event.Crash.{Crash}
use Rattle.fer_events.specs.Orders.{numbers, before_cut, StandsBefore, IsEvent, IsValidOrder, IsCrash}
use Rattle.fer_events.specs.Tables.{Trace}
use Rattle.fer_events.specs.States.{after_crash}
use Rattle.fer_events.specs.Truth.{truth}
use Rattle.fer_events.specs.Witness.{IsWitness}
use Rattle.witness_replay.specs.declared.judgement.CrashJudgement.{CrashJudgement}
use Rattle.witness_replay.specs.declared.judgement.CrashJudgement.TheVariants.{Good, NotAnOrder, PairBroken, TransactionSplit, PredicateFalse}

-- the numbers of the n events, each once, and a cut that isn't above n
abbrev pub IsOrder : ℕ → Crash → Type 0
IsOrder n crash = IsPermutation (numbers n) crash.order × (crash.cut ≤ n)

-- a has to stand before b, and doesn't
abbrev pub IsBroken : List (ℕ × ℕ) → List ℕ → ℕ → ℕ → Type 0
IsBroken kept order a b = Contains kept (a, b) × (StandsBefore order a b → ⊥)

-- a is the number of an event of the transaction
abbrev pub IsInTransaction : List Event → ℕ → ℕ → Type 0
IsInTransaction events txn a = (e : Event) × IsEvent events a e × (e.txn ≡ txn)

-- one event of the transaction stands before the cut, and another doesn't
abbrev pub IsSplit : List Event → Crash → ℕ → Type 0
IsSplit events crash txn =
    (a b : ℕ) × IsInTransaction events txn a × Contains (before_cut crash) a × IsInTransaction events txn b
    × (Contains (before_cut crash) b → ⊥)

-- the broken pair that is the least by its first number, then its second
abbrev pub IsFirstBroken : List (ℕ × ℕ) → List ℕ → ℕ → ℕ → Type 0
IsFirstBroken kept order a b =
    IsBroken kept order a b × ((c d : ℕ) → IsBroken kept order c d → (a < c) ⊎ ((a ≡ c) × (b ≤ d)))

-- the least transaction that the cut splits
abbrev pub IsFirstSplit : List Event → Crash → ℕ → Type 0
IsFirstSplit events crash txn =
    IsSplit events crash txn × ((other : ℕ) → IsSplit events crash other → txn ≤ other)

-- the judgement of a crash of the trace, whose predicate has to be true where `want` is, and else false
pub data IsJudged (t : Trace) (kept : List (ℕ × ℕ)) (pred : Pred) (want : Bool) (crash : Crash) : CrashJudgement → Type 0 where
  good : IsWitness t kept pred want crash → IsJudged t kept pred want crash Good
  no_order : (IsOrder (length t.events) crash → ⊥) → IsJudged t kept pred want crash NotAnOrder
  broken : (a b : ℕ) → IsOrder (length t.events) crash → IsFirstBroken kept crash.order a b
      → IsJudged t kept pred want crash (PairBroken a b)
  split : (txn : ℕ) → IsValidOrder (length t.events) kept crash.order → crash.cut ≤ length t.events
      → IsFirstSplit t.events crash txn → IsJudged t kept pred want crash (TransactionSplit txn)
  untrue : IsCrash t.events kept crash → truth t (after_crash t crash) pred ≢ want
      → IsJudged t kept pred want crash PredicateFalse
