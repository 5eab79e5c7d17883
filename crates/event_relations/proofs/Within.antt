-- What expressions relate are events.
use Rattle.std.proofs.Common.{◌≡◌, ℕ, zero, suc, ◌-◌, ◌<◌, ◌≤◌, inl, inr, Bool, true, false, List, [], ◌∷◌, length, Contains, sym, ◌∙◌, ap, arith, ◌&&◌, ◌||◌, leb, eqb}
use Rattle.std.proofs.lemmas.Bool.{cases_Bool, and_parts, eqb-true}
use Rattle.std.proofs.lemmas.Bool.Decides.{nat_tests}
use Rattle.fer_events.proofs.PairLaws.{has_self, has_pair-square, in_square}
use Rattle.std.proofs.lemmas.Option.{slice_get_within}
use Rattle.fer_events.specs.declared.event.Event.{Event}
use Rattle.fer_events.specs.Orders.{IsEvent}
use Rattle.fer_events.specs.Pairs.{square, has_pair}
use Rattle.model_reader.specs.declared.expr.Expr.{Expr}
use Rattle.model_reader.specs.declared.model.Definition.{Definition}
use Rattle.model_reader.specs.declared.model.Model.{Model}
use Rattle.event_relations.specs.Meaning.{Names, Means, with_name, AreWithin, IsClosed, Defined, names_from, names_of, no_names}
use Rattle.event_relations.specs.Meaning.Means.{word, named, left, right, both, joined, one, more}
use Rattle.event_relations.specs.Kept.{IsKept}
use Rattle.event_relations.specs.Showing.{NamesWithin}

same_pair : (x : ℕ × ℕ) (a b : ℕ) → (eqb x.0 a && eqb x.1 b) ≡ true → x ≡ (a, b)
same_pair x a b h =
    let parts = and_parts _ _ h in
    ap (λ (u : ℕ). (u, x.1)) (eqb-true _ _ parts.0) ∙ ap (λ (v : ℕ). (a, v)) (eqb-true _ _ parts.1)

-- a list that has a pair contains it
pub has_contained : (xs : List (ℕ × ℕ)) (a b : ℕ) → has_pair xs a b ≡ true → Contains xs (a, b)
has_contained [] a b h = absurd (cc)
has_contained (x ∷ xs) a b h = elim (cases_Bool (eqb x.0 a && eqb x.1 b)) [
  | inl e ↦ (zero, omega arith, same_pair x a b e)
  | inr e ↦
      let rest : has_pair xs a b ≡ true = sym (ap (λ (t : Bool). t || has_pair xs a b) e) ∙ h in
      let later = has_contained xs a b rest in
      (suc later.0, omega (arith, later.1), later.2)
]

pub event_within : (events : List Event) (a : ℕ) (e : Event) → IsEvent events a e → (1 ≤ a) × (a ≤ length events)
event_within events a e (some, is) =
    let below = slice_get_within events (a - 1) e is in
    (omega (arith, some), omega (arith, some, below))

pub with_name_within :
    (events : List Event) (names : Names) → NamesWithin events names → (i : ℕ) (related : ℕ → ℕ → Type 0)
    → ((a b : ℕ) → related a b → AreWithin (length events) a b) → NamesWithin events (with_name i related names)
with_name_within events names ok i related within j a b (inl own) = within a b own.1
with_name_within events names ok i related within j a b (inr other) = ok j a b other.1

-- the square has the pairs of the numbers, and no other
pub square_has : (n a b : ℕ) → AreWithin n a b → Contains (square n) (a, b)
square_has n a b w = has_contained (square n) a b (in_square n a b w.first.0 w.first.1 w.second.0 w.second.1)

pub in_square_only : (n a b : ℕ) → Contains (square n) (a, b) → AreWithin n a b
in_square_only n a b h =
    let range : ((leb 1 a && leb a n) && (leb 1 b && leb b n)) ≡ true = sym (has_pair-square n a b) ∙ has_self (square n) (a, b) h in
    record { first = (grind (arith, nat_tests), grind (arith, nat_tests)); second = (grind (arith, nat_tests), grind (arith, nat_tests)) }

pub means_within : (events : List Event) (names : Names) → NamesWithin events names → (x : Expr) (a b : ℕ) → Means events names x a b → AreWithin (length events) a b
means_within events names ok _ _ _ (word x a b e f ea fb r) = record { first = event_within events a e ea; second = event_within events b f fb }
means_within events names ok _ _ _ (named i a b h) = ok i a b h
means_within events names ok _ _ _ (left x y a b h) = means_within events names ok x a b h
means_within events names ok _ _ _ (right x y a b h) = means_within events names ok y a b h
means_within events names ok _ _ _ (both x y a b h k) = means_within events names ok x a b h
means_within events names ok _ _ _ (joined x y a b c h k) =
    record { first = (means_within events names ok x a b h).first; second = (means_within events names ok y b c k).second }
means_within events names ok _ _ _ (one x a b h) = means_within events names ok x a b h
means_within events names ok _ _ _ (more x a b c h k) =
    record { first = (means_within events names ok x a b h).first; second = (means_within events names ok _ b c k).second }

-- the list of all pairs of events is closed
pub square_closed : (events : List Event) (names : Names) → NamesWithin events names → (i : ℕ) (x : Expr) → IsClosed events names i x (square (length events))
square_closed events names ok i x =
    let n = length events in
    let within : (c d : ℕ) → Contains (square n) (c, d) → AreWithin n c d = λ c d k. in_square_only n c d k in
    record {
      within = within;
      closed = λ c d m. square_has n c d (means_within events (with_name i (λ u v. Contains (square n) (u, v)) names) (with_name_within events names ok i _ within) x c d m);
    }

-- so a name that may name itself stands for pairs of events too
pub defined_within :
    (events : List Event) (names : Names) → NamesWithin events names → (i : ℕ) (recursive : Bool) (x : Expr) (a b : ℕ)
    → Defined events names i recursive x a b → AreWithin (length events) a b
defined_within events names ok i false x a b h = means_within events names ok x a b h
defined_within events names ok i true x a b h = in_square_only (length events) a b (h (square (length events)) (square_closed events names ok i x))

pub names_from_within : (events : List Event) (lets : List Definition) (i : ℕ) (names : Names) → NamesWithin events names → NamesWithin events (names_from events i names lets)
names_from_within events [] i names ok = ok
names_from_within events (d ∷ ds) i names ok =
    names_from_within events ds (suc i) (with_name i (Defined events names i d.recursive d.value) names)
    (with_name_within events names ok i _ (λ a b h. defined_within events names ok i d.recursive d.value a b h))

pub names_within : (events : List Event) (lets : List Definition) → NamesWithin events (names_of events lets)
names_within events lets = names_from_within events lets 0 no_names (λ i a b h. absurd h)

-- a kept pair is one of events, the first before the second
pub kept_within : (model : Model) (events : List Event) (a b : ℕ) → IsKept model events a b → (1 ≤ a) × (a < b) × (b ≤ length events)
kept_within model events a b (i, (x, is, before, means)) =
    let within = means_within events (names_of events model.lets) (names_within events model.lets) x a b means in
    (within.first.0, before, within.second.1)
