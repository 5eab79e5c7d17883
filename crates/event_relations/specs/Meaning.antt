-- What an expression of a model file means over a list of events: the pairs of events that it relates.
use Rattle.std.specs.Prelude.{◌≡◌, ◌≢◌, ℕ, suc, ◌≤◌, ◌⊎◌, Bool, true, false, List, [], ◌∷◌, length, Contains}
use Rattle.fer_events.specs.declared.event.Event.{Event}
use Rattle.fer_events.specs.Orders.{IsEvent}
use Rattle.model_reader.specs.declared.expr.Expr.{Expr}
use Rattle.model_reader.specs.declared.expr.Expr.TheVariants as expr
use Rattle.model_reader.specs.declared.model.Definition.{Definition}
use Rattle.event_relations.specs.Words.{Relates}

-- which pairs each name stands for, the names being numbered from 0
abbrev pub Names : Type 1
Names = ℕ → ℕ → ℕ → Type 0

-- the expression relates a to b
pub data Means (events : List Event) (names : ℕ → ℕ → ℕ → Type 0) : Expr → ℕ → ℕ → Type 0 where
  word : (x : Expr) (a b : ℕ) (e f : Event) → IsEvent events a e → IsEvent events b f → Relates a b e f x → Means events names x a b
  named : (i a b : ℕ) → names i a b → Means events names (expr.Named i) a b
  left : (x y : Expr) (a b : ℕ) → Means events names x a b → Means events names (expr.Or x y) a b
  right : (x y : Expr) (a b : ℕ) → Means events names y a b → Means events names (expr.Or x y) a b
  both : (x y : Expr) (a b : ℕ) → Means events names x a b → Means events names y a b → Means events names (expr.And x y) a b
  joined : (x y : Expr) (a b c : ℕ) → Means events names x a b → Means events names y b c → Means events names (expr.Seq x y) a c
  one : (x : Expr) (a b : ℕ) → Means events names x a b → Means events names (expr.Plus x) a b
  more : (x : Expr) (a b c : ℕ) → Means events names x a b → Means events names (expr.Plus x) b c → Means events names (expr.Plus x) a c

-- the names with these pairs for the i-th
abbrev pub with_name : ℕ → (ℕ → ℕ → Type 0) → Names → Names
with_name i related names j a b = ((j ≡ i) × related a b) ⊎ ((j ≢ i) × names j a b)

-- both are numbers of the n events
pub record AreWithin (n a b : ℕ) : Type 0 where
  pub first : (1 ≤ a) × (a ≤ n)
  pub second : (1 ≤ b) × (b ≤ n)

-- a list of pairs of events that has every pair which the expression relates, while the i-th name stands for the list
pub record IsClosed (events : List Event) (names : ℕ → ℕ → ℕ → Type 0) (i : ℕ) (x : Expr) (pairs : List (ℕ × ℕ)) : Type 0 where
  pub within : (a b : ℕ) → Contains pairs (a, b) → AreWithin (length events) a b
  pub closed : (a b : ℕ) → Means events (with_name i (λ c d. Contains pairs (c, d)) names) x a b → Contains pairs (a, b)

-- the i-th name, defined by the expression: what the expression means, or, where it may name itself, the pairs that
-- are in every closed list
abbrev pub Defined : List Event → Names → ℕ → Bool → Expr → ℕ → ℕ → Type 0
Defined events names i false x a b = Means events names x a b
Defined events names i true x a b = (pairs : List (ℕ × ℕ)) → IsClosed events names i x pairs → Contains pairs (a, b)

-- the names, with those of the definitions from the i-th on
abbrev pub names_from : List Event → ℕ → Names → List Definition → Names
names_from events i names [] = names
names_from events i names (d ∷ ds) = names_from events (suc i) (with_name i (Defined events names i d.recursive d.value) names) ds

-- no name stands for anything
abbrev pub no_names : Names
no_names i a b = ⊥

-- what the names of these definitions stand for
abbrev pub names_of : List Event → List Definition → Names
names_of events lets = names_from events 0 no_names lets
