-- Rounds from the empty relation reach what a name stands for that may name itself.
use Rattle.std.proofs.Common.{ℕ, ◌⊎◌, ◌↔◌, inl, inr, true, List, length, Contains}
use Rattle.fer_events.specs.declared.event.Event.{Event}
use Rattle.model_reader.specs.declared.expr.Expr.{Expr}
use Rattle.event_relations.specs.Meaning.{Names, Means, with_name, AreWithin, IsClosed, Defined}
use Rattle.event_relations.proofs.Growing.{means_more}

-- the relation is a part of every closed list
abbrev pub IsSound : List Event → Names → ℕ → Expr → (ℕ → ℕ → Type 0) → Type 0
IsSound events names i x related =
    (pairs : List (ℕ × ℕ)) → IsClosed events names i x pairs → (a b : ℕ) → related a b → Contains pairs (a, b)

pub sound_start : (events : List Event) (names : Names) (i : ℕ) (x : Expr) (related : ℕ → ℕ → Type 0) → ((a b : ℕ) → related a b → ⊥) → IsSound events names i x related
sound_start events names i x related none pairs is a b h = absurd (none a b h)

with_name_more :
    (names : Names) (i : ℕ) (related more_related : ℕ → ℕ → Type 0) → ((a b : ℕ) → related a b → more_related a b)
    → (j a b : ℕ) → with_name i related names j a b → with_name i more_related names j a b
with_name_more names i related more_related more j a b (inl own) = inl (own.0, more a b own.1)
with_name_more names i related more_related more j a b (inr other) = inr other

-- a round adds what the expression relates, its own name standing for the relation so far
pub sound_round :
    (events : List Event) (names : Names) (i : ℕ) (x : Expr) (related more_related : ℕ → ℕ → Type 0) → IsSound events names i x related
    → ((a b : ℕ) → more_related a b → related a b ⊎ Means events (with_name i related names) x a b)
    → IsSound events names i x more_related
sound_round events names i x related more_related sound adds pairs is a b h = elim (adds a b h) [
  | inl old ↦ sound pairs is a b old
  | inr new ↦ is.closed a b
      (means_more events (with_name i related names) (with_name i (λ c d. Contains pairs (c, d)) names)
      (with_name_more names i related (λ c d. Contains pairs (c, d)) (λ c d r. sound pairs is c d r)) x a b new)
]

-- where a round adds nothing, the relation is what the name stands for
pub rounds_end :
    (events : List Event) (names : Names) (i : ℕ) (x : Expr) (related : ℕ → ℕ → Type 0) → IsSound events names i x related
    → ((a b : ℕ) → related a b → AreWithin (length events) a b)
    → ((a b : ℕ) → Means events (with_name i related names) x a b → related a b)
    → (pairs : List (ℕ × ℕ)) → ((a b : ℕ) → Contains pairs (a, b) ↔ related a b)
    → (a b : ℕ) → related a b ↔ Defined events names i true x a b
rounds_end events names i x related sound within closed pairs same a b = (
  λ h. λ list is. sound list is a b h,
  λ h. (same a b).0 (h pairs record {
    within = λ c d k. within c d ((same c d).0 k);
    closed = λ c d m. (same c d).1 (closed c d
        (means_more events (with_name i (λ u v. Contains pairs (u, v)) names) (with_name i related names)
        (with_name_more names i (λ u v. Contains pairs (u, v)) related (λ u v k. (same u v).0 k)) x c d m));
  }),
)
