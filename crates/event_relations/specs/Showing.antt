-- Private: when rows of bits show a relation of events, which are numbered from 1.
use Rattle.std.specs.Prelude.{◌≡◌, ℕ, suc, ◌⊎◌, ◌-◌, ◌<◌, ◌≤◌, true, Bool, List, [], ◌∷◌, ◌++◌, length, All, slice_index_or, slice_get, Some, ◌↔◌}
use Rattle.std.specs.Int.{bit_at}
use Rattle.fer_events.specs.declared.event.Event.{Event}
use Rattle.fer_events.specs.Pairs.{PairList, has_pair}
use Rattle.model_reader.specs.declared.expr.Expr.{Expr}
use Rattle.model_reader.specs.declared.model.Definition.{Definition}
use Rattle.event_relations.specs.Rows.{has}
use Rattle.event_relations.specs.Words.{Relates}
use Rattle.event_relations.specs.Meaning.{Names, Means, AreWithin, Defined, names_of}

-- the pair, of numbers from 1, is one of the rows
abbrev pub shown : List ℕ → ℕ → ℕ → Type 0
shown rows (suc a) (suc b) = has rows a b ≡ true
shown rows _ _ = ⊥

-- the pairs of the rows are those of the relation
abbrev pub Shows : List ℕ → (ℕ → ℕ → Type 0) → Type 0
Shows rows related = (a b : ℕ) → (has rows a b ≡ true) ↔ related (suc a) (suc b)

-- the names that stand for the pairs of these rows
abbrev pub names_shown : List (List ℕ) → Names
names_shown names i (suc a) (suc b) = has (slice_index_or names i []) a b ≡ true
names_shown names i _ _ = ⊥

-- whatever the names stand for, the expression relates what a path of two of its pairs joins
abbrev pub IsTransitive : Expr → Type 0
IsTransitive x =
    (events : List Event) (names : List (List ℕ)) (a b c : ℕ)
    → Means events (names_shown names) x a b → Means events (names_shown names) x b c → Means events (names_shown names) x a c

-- the word relates the events at these places, which are counted from 0
abbrev pub RelatesPlaces : List Event → Expr → ℕ → ℕ → Type 0
RelatesPlaces events x a b =
    (e : Event) × (f : Event) × (slice_get events a ≡ Some e) × (slice_get events b ≡ Some f) × Relates (suc a) (suc b) e f x

-- the names stand for pairs of events
abbrev pub NamesWithin : List Event → Names → Type 0
NamesWithin events names = (i a b : ℕ) → names i a b → AreWithin (length events) a b

-- behind the names stand the rows of one more, which this expression defines over them
pub record HasOneMore (events : List Event) (recursive : Bool) (value : Expr) (names more_names : List (List ℕ)) : Type 0 where
  pub rows : List ℕ
  pub pushed : more_names ≡ names ++ rows ∷ []
  pub long : length rows ≡ length events
  pub shows : Shows rows (Defined events (names_shown names) (length names) recursive value)

-- the rows are those of what the names of the definitions stand for
pub record AreNames (events : List Event) (lets : List Definition) (names : List (List ℕ)) : Type 0 where
  pub long : All (λ rows. length rows ≡ length events) names
  pub within : NamesWithin events (names_shown names)
  pub same : (i a b : ℕ) → names_shown names i a b ↔ names_of events lets i a b

-- the row of event a, among n events, has a later event y
abbrev pub IsLater : ℕ → ℕ → ℕ → ℕ → Type 0
IsLater n a row y = (a < y) × (y ≤ n) × (bit_at row (y - 1) ≡ 1)

-- the pairs get those of events that the expression relates and whose second comes later
abbrev pub GetsKept : List Event → Names → Expr → PairList → PairList → Type 0
GetsKept events names x old now =
    (a b : ℕ) → (has_pair now.pairs a b ≡ true) ↔ ((has_pair old.pairs a b ≡ true) ⊎ ((a < b) × Means events names x a b))
