-- Small models over the events of a write to a temporary file that is then renamed.
use Rattle.std.proofs.Common.{◌≡◌, ℕ, zero, suc, ◌<◌, inl, inr, true, List, [], ◌∷◌, Some, None, Contains, codes, refl, subst, arith}
use Rattle.fer_events.specs.declared.event.Event.{Event}
use Rattle.fer_events.specs.declared.event.Kind.TheVariants as kind
use Rattle.fer_events.specs.declared.event.Effect.TheVariants as effect
use Rattle.fer_events.specs.Orders.{IsEvent}
use Rattle.model_reader.specs.declared.expr.Expr.{Expr}
use Rattle.model_reader.specs.declared.expr.Expr.TheVariants as expr
use Rattle.model_reader.specs.declared.model.Model.{Model}
use Rattle.event_relations.specs.Words.{BothCarry}
use Rattle.event_relations.specs.Words.Relates.{earlier, dir}
use Rattle.event_relations.specs.Meaning.{Names, Means, with_name, IsClosed, Defined, names_of, no_names}
use Rattle.event_relations.specs.Meaning.Means.{word, named, left, both}
use Rattle.event_relations.specs.Kept.{IsKept}
use Rattle.event_relations.proofs.Inverting.{named_parts, or_parts}

-- `create /t`, `write /t`, `rename /t /f`
abbrev link : ℕ → ℕ → Event
link slot call = record { kind = kind.Link; file = Some 0; block = None; dir = Some 0; slot = Some slot; call = call; txn = call; effect = effect.PutName }

abbrev events : List Event
events =
    link 0 1
    ∷ record { kind = kind.Extend; file = Some 0; block = Some 0; dir = None; slot = None; call = 2; txn = 2; effect = effect.Nothing }
    ∷ link 1 3
    ∷ record { kind = kind.Unlink; file = Some 0; block = None; dir = Some 0; slot = Some 0; call = 3; txn = 3; effect = effect.ClearName }
    ∷ []

-- `let rec x = E`, `keep x`
abbrev recursive : Expr → Model
recursive x = record { name = codes "m"; lets = record { value = x; before = 0; recursive = true } ∷ []; keeps = expr.Named 0 ∷ []; version = 2 }

-- what the one name of such a model stands for
only_name : (x : Expr) (a b : ℕ) → names_of events (recursive x).lets 0 a b → Defined events no_names 0 true x a b
only_name x a b (inl own) = own.1
only_name x a b (inr other) = absurd (other.0 refl)

-- `let rec x = x | x` keeps nothing

nothing_named : (a b : ℕ) → Means events (with_name 0 (λ c d. Contains {X = ℕ × ℕ} [] (c, d)) no_names) (expr.Named 0) a b → Contains {X = ℕ × ℕ} [] (a, b)
nothing_named a b h = elim (named_parts events _ 0 a b h) [ inl own ↦ own.1 | inr other ↦ absurd other.1 ]

empty_closed : IsClosed events no_names 0 (expr.Or (expr.Named 0) (expr.Named 0)) []
empty_closed = record {
  within = λ a b h. absurd (omega (arith, h.1));
  closed = λ a b h. elim (or_parts events _ (expr.Named 0) (expr.Named 0) a b h) [ inl l ↦ nothing_named a b l | inr r ↦ nothing_named a b r ];
}

pub least_keeps_nothing : (a b : ℕ) → IsKept (recursive (expr.Or (expr.Named 0) (expr.Named 0))) events a b → ⊥
least_keeps_nothing a b (zero, (x, is, before, means)) =
    let line : Some (expr.Named 0) ≡ Some x = is in
    let same : x ≡ expr.Named 0 = cc in
    let m : Means events (names_of events (recursive (expr.Or (expr.Named 0) (expr.Named 0))).lets) (expr.Named 0) a b = subst (λ (y : Expr). Means events (names_of events (recursive (expr.Or (expr.Named 0) (expr.Named 0))).lets) y a b) same means in
    let in_empty = only_name (expr.Or (expr.Named 0) (expr.Named 0)) a b (named_parts events _ 0 a b m) [] empty_closed in
    absurd (omega (arith, in_empty.1))
least_keeps_nothing a b (suc i, (x, is, before, means)) = let none : None ≡ Some x = is in absurd (cc)

-- `let rec c = (po & dir) | (c ; c)` keeps the first event before the last
abbrev names_in_order : Expr
names_in_order = expr.And expr.Po expr.SameDir

abbrev chain : Expr
chain = expr.Or names_in_order (expr.Seq (expr.Named 0) (expr.Named 0))

steps : (names : Names) (a b : ℕ) (e f : Event) → IsEvent events a e → IsEvent events b f → a < b → BothCarry e.dir f.dir → Means events names chain a b
steps names a b e f ea fb before same =
    left names_in_order (expr.Seq (expr.Named 0) (expr.Named 0)) a b
    (both expr.Po expr.SameDir a b (word expr.Po a b e f ea fb (earlier before)) (word expr.SameDir a b e f ea fb (dir same)))

pub chain_keeps : IsKept (recursive chain) events 1 4
chain_keeps = (
  0,
  (
    expr.Named 0,
    refl,
    omega arith,
    named 0 1 4 (inl (
      refl,
      λ pairs is. is.closed 1 4
          (steps (with_name 0 (λ c d. Contains pairs (c, d)) no_names) 1 4 _ _ (omega arith, refl) (omega arith, refl) (omega arith) (0, refl, refl)),
    )),
  ),
)
