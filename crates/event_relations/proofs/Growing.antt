-- The meaning of an expression grows with the events, and with what its names stand for.
use Rattle.std.proofs.Common.{◌≡◌, ℕ, suc, ◌<◌, inl, inr, Bool, true, false, List, [], ◌∷◌, length, filter, Option, Some, Contains, refl, sym, ◌∙◌, ap}
use Rattle.std.specs.Int.{bit_at}
use Rattle.std.proofs.lemmas.Bool.{and_parts, and_from}
use Rattle.fer_events.specs.declared.event.Event.{Event}
use Rattle.fer_events.specs.declared.event.Kind.{Kind}
use Rattle.fer_events.specs.Orders.{IsEvent}
use Rattle.fer_events.specs.Pairs.{square, has_pair}
use Rattle.fer_events.proofs.PairLaws.{has_self, has_pair-filter, in_square}
use Rattle.model_reader.specs.declared.expr.Expr.{Expr}
use Rattle.model_reader.specs.declared.model.Definition.{Definition}
use Rattle.model_reader.specs.declared.model.Model.{Model}
use Rattle.event_relations.specs.Words.{BothCarry, Relates, kind_place}
use Rattle.event_relations.specs.Words.Relates.{earlier, itself, any, file, block, dir, name, call, txn, kinds}
use Rattle.event_relations.specs.Meaning.{Names, Means, with_name, AreWithin, IsClosed, Defined, names_from, names_of, no_names}
use Rattle.event_relations.specs.Meaning.Means.{word, named, left, right, both, joined, one, more}
use Rattle.event_relations.specs.Kept.{IsKept, IsKeptBy}
use Rattle.event_relations.specs.Showing.{NamesWithin}
use Rattle.event_relations.specs.Parts.{AreAlike, IsPart}
use Rattle.event_relations.proofs.Within.{in_square_only, has_contained, event_within, means_within, with_name_within, defined_within, names_within}

-- what the names stand for in the small list, they stand for in the large one
abbrev pub NamesGrow : (ℕ → ℕ) → Names → Names → Type 0
NamesGrow place names more_names = (i a b : ℕ) → names i a b → more_names i (place a) (place b)

carry : (l r m n : Option ℕ) → l ≡ m → r ≡ n → BothCarry l r → BothCarry m n
carry l r m n lm rn (k, lk, rk) = (k, sym lm ∙ lk, sym rn ∙ rk)

relates_grow :
    (a b c d : ℕ) (e f g h : Event) → AreAlike e g → AreAlike f h → (a < b → c < d) → (a ≡ b → c ≡ d)
    → (e.call ≡ f.call → g.call ≡ h.call) → (e.txn ≡ f.txn → g.txn ≡ h.txn)
    → (x : Expr) → Relates a b e f x → Relates c d g h x
relates_grow a b c d e f g h eg fh rises same calls txns _ (earlier r) = earlier (rises r)
relates_grow a b c d e f g h eg fh rises same calls txns _ (itself r) = itself (same r)
relates_grow a b c d e f g h eg fh rises same calls txns _ any = any
relates_grow a b c d e f g h eg fh rises same calls txns _ (file r) = file (carry _ _ _ _ eg.file fh.file r)
relates_grow a b c d e f g h eg fh rises same calls txns _ (block r s) = block (carry _ _ _ _ eg.file fh.file r) (carry _ _ _ _ eg.block fh.block s)
relates_grow a b c d e f g h eg fh rises same calls txns _ (dir r) = dir (carry _ _ _ _ eg.dir fh.dir r)
relates_grow a b c d e f g h eg fh rises same calls txns _ (name r) = name (carry _ _ _ _ eg.slot fh.slot r)
relates_grow a b c d e f g h eg fh rises same calls txns _ (call r) = call (calls r)
relates_grow a b c d e f g h eg fh rises same calls txns _ (txn r) = txn (txns r)
relates_grow a b c d e f g h eg fh rises same calls txns _ (kinds bits r s) =
    kinds bits (same r) (sym (ap (λ (k : Kind). bit_at bits (kind_place k)) eg.kind) ∙ s)

-- what an expression relates in the small list, it relates in the large one at these places
pub means_grow :
    (small large : List Event) (place : ℕ → ℕ) → IsPart small large place
    → (names more_names : Names) → NamesGrow place names more_names
    → (x : Expr) (a b : ℕ) → Means small names x a b → Means large more_names x (place a) (place b)
means_grow small large place part names more_names grow _ _ _ (word x a b e f ea fb r) =
    let first = part.there a e ea in
    let second = part.there b f fb in
    word x (place a) (place b) first.0 second.0 first.1 second.1
    (relates_grow a b (place a) (place b) e f first.0 second.0 first.2 second.2
    (λ l. part.rises a b ea.0 l (event_within small b f fb).1) (λ e. ap place e)
    (part.calls a b e f first.0 second.0 ea fb first.1 second.1) (part.txns a b e f first.0 second.0 ea fb first.1 second.1) x r)
means_grow small large place part names more_names grow _ _ _ (named i a b h) = named i (place a) (place b) (grow i a b h)
means_grow small large place part names more_names grow _ _ _ (left x y a b h) =
    left x y (place a) (place b) (means_grow small large place part names more_names grow x a b h)
means_grow small large place part names more_names grow _ _ _ (right x y a b h) =
    right x y (place a) (place b) (means_grow small large place part names more_names grow y a b h)
means_grow small large place part names more_names grow _ _ _ (both x y a b h k) =
    both x y (place a) (place b) (means_grow small large place part names more_names grow x a b h) (means_grow small large place part names more_names grow y a b k)
means_grow small large place part names more_names grow _ _ _ (joined x y a b c h k) =
    joined x y (place a) (place b) (place c) (means_grow small large place part names more_names grow x a b h) (means_grow small large place part names more_names grow y b c k)
means_grow small large place part names more_names grow _ _ _ (one x a b h) =
    one x (place a) (place b) (means_grow small large place part names more_names grow x a b h)
means_grow small large place part names more_names grow _ _ _ (more x a b c h k) =
    more x (place a) (place b) (place c) (means_grow small large place part names more_names grow x a b h) (means_grow small large place part names more_names grow _ b c k)

with_name_grows :
    (place : ℕ → ℕ) (names more_names : Names) → NamesGrow place names more_names → (i : ℕ) (related more_related : ℕ → ℕ → Type 0)
    → ((a b : ℕ) → related a b → more_related (place a) (place b)) → NamesGrow place (with_name i related names) (with_name i more_related more_names)
with_name_grows place names more_names grow i related more_related here j a b (inl own) = inl (own.0, here a b own.1)
with_name_grows place names more_names grow i related more_related here j a b (inr other) = inr (other.0, grow j a b other.1)

-- the pairs of the small list that are, at their places, in a list of pairs of the large one
abbrev pulled : ℕ → (ℕ → ℕ) → List (ℕ × ℕ) → List (ℕ × ℕ)
pulled n place pairs = filter (λ p. has_pair pairs (place p.0) (place p.1)) (square n)

pulled_has : (n : ℕ) (place : ℕ → ℕ) (pairs : List (ℕ × ℕ)) (a b : ℕ) → AreWithin n a b → Contains pairs (place a, place b) → Contains (pulled n place pairs) (a, b)
pulled_has n place pairs a b w h =
    has_contained (pulled n place pairs) a b
    (has_pair-filter (λ p. has_pair pairs (place p.0) (place p.1)) a b (square n)
    ∙ and_from _ _ (has_self pairs (place a, place b) h) (in_square n a b w.first.0 w.first.1 w.second.0 w.second.1))

pulled_only : (n : ℕ) (place : ℕ → ℕ) (pairs : List (ℕ × ℕ)) (a b : ℕ) → Contains (pulled n place pairs) (a, b) → AreWithin n a b × Contains pairs (place a, place b)
pulled_only n place pairs a b h =
    let is = sym (has_pair-filter (λ p. has_pair pairs (place p.0) (place p.1)) a b (square n)) ∙ has_self (pulled n place pairs) (a, b) h in
    let parts = and_parts _ _ is in
    (in_square_only n a b (has_contained (square n) a b parts.1), has_contained pairs (place a) (place b) parts.0)

-- a list that is closed over the large events, pulled back, is closed over the small ones
pulled_closed :
    (small large : List Event) (place : ℕ → ℕ) → IsPart small large place
    → (names more_names : Names) → NamesWithin small names → NamesGrow place names more_names
    → (i : ℕ) (x : Expr) (pairs : List (ℕ × ℕ)) → IsClosed large more_names i x pairs → IsClosed small names i x (pulled (length small) place pairs)
pulled_closed small large place part names more_names ok grow i x pairs is =
    let n = length small in
    let back : List (ℕ × ℕ) = pulled n place pairs in
    let within : (a b : ℕ) → Contains back (a, b) → AreWithin n a b = λ a b h. (pulled_only n place pairs a b h).0 in
    record {
      within = within;
      closed = λ a b means.
          pulled_has n place pairs a b
          (means_within small (with_name i (λ c d. Contains back (c, d)) names) (with_name_within small names ok i _ within) x a b means)
          (is.closed (place a) (place b)
          (means_grow small large place part (with_name i (λ c d. Contains back (c, d)) names) (with_name i (λ c d. Contains pairs (c, d)) more_names)
          (with_name_grows place names more_names grow i (λ c d. Contains back (c, d)) (λ c d. Contains pairs (c, d)) (λ c d h. (pulled_only n place pairs c d h).1)) x a b means));
    }

-- what a definition means grows
defined_grows :
    (small large : List Event) (place : ℕ → ℕ) → IsPart small large place
    → (names more_names : Names) → NamesWithin small names → NamesGrow place names more_names
    → (i : ℕ) (recursive : Bool) (x : Expr) (a b : ℕ) → Defined small names i recursive x a b → Defined large more_names i recursive x (place a) (place b)
defined_grows small large place part names more_names ok grow i false x a b h = means_grow small large place part names more_names grow x a b h
defined_grows small large place part names more_names ok grow i true x a b h =
    λ pairs is. (pulled_only (length small) place pairs a b (h (pulled (length small) place pairs) (pulled_closed small large place part names more_names ok grow i x pairs is))).1

-- what the names of definitions stand for grows
pub names_from_grow :
    (small large : List Event) (place : ℕ → ℕ) → IsPart small large place
    → (lets : List Definition) (i : ℕ) (names more_names : Names) → NamesWithin small names → NamesGrow place names more_names
    → NamesGrow place (names_from small i names lets) (names_from large i more_names lets)
names_from_grow small large place part [] i names more_names ok grow = grow
names_from_grow small large place part (d ∷ ds) i names more_names ok grow =
    names_from_grow small large place part ds (suc i)
    (with_name i (Defined small names i d.recursive d.value) names)
    (with_name i (Defined large more_names i d.recursive d.value) more_names)
    (with_name_within small names ok i _ (λ a b h. defined_within small names ok i d.recursive d.value a b h))
    (with_name_grows place names more_names grow i (Defined small names i d.recursive d.value) (Defined large more_names i d.recursive d.value) (λ a b h. defined_grows small large place part names more_names ok grow i d.recursive d.value a b h))

-- what the names of a model stand for grows with the events
pub names_grow :
    (small large : List Event) (place : ℕ → ℕ) → IsPart small large place
    → (lets : List Definition) → NamesGrow place (names_of small lets) (names_of large lets)
names_grow small large place part lets = names_from_grow small large place part lets 0 no_names no_names (λ i a b h. absurd h) (λ i a b h. absurd h)

-- a pair that a `keep` line keeps in the small list is kept by it in the large one
pub kept_by_grows :
    (model : Model) (small large : List Event) (place : ℕ → ℕ) → IsPart small large place
    → (i a b : ℕ) → IsKeptBy model small i a b → IsKeptBy model large i (place a) (place b)
kept_by_grows model small large place part i a b (x, is, before, means) =
    let within = means_within small (names_of small model.lets) (names_within small model.lets) x a b means in (
      x,
      is,
      part.rises a b within.first.0 before within.second.1,
      means_grow small large place part (names_of small model.lets) (names_of large model.lets) (names_grow small large place part model.lets) x a b means,
    )

pub kept_grows :
    (model : Model) (small large : List Event) (place : ℕ → ℕ) → IsPart small large place
    → (a b : ℕ) → IsKept model small a b → IsKept model large (place a) (place b)
kept_grows model small large place part a b (i, h) = (i, kept_by_grows model small large place part i a b h)

same_value : (events : List Event) (a : ℕ) (e g : Event) → IsEvent events a e → IsEvent events a g → e ≡ g
same_value events a e g ea ga =
    let same : Some e ≡ Some g = sym ea.1 ∙ ga.1 in
    cc

-- the events are a part of themselves
pub whole_part : (events : List Event) → IsPart events events (λ a. a)
whole_part events = record {
  rises = λ a b some l there. l;
  there = λ a e is. (e, is, record { kind = refl; file = refl; block = refl; dir = refl; slot = refl });
  calls = λ a b e f g h ea fb ga hb same. sym (ap (λ (v : Event). v.call) (same_value events a e g ea ga)) ∙ same ∙ ap (λ (v : Event). v.call) (same_value events b f h fb hb);
  txns = λ a b e f g h ea fb ga hb same. sym (ap (λ (v : Event). v.txn) (same_value events a e g ea ga)) ∙ same ∙ ap (λ (v : Event). v.txn) (same_value events b f h fb hb);
}

-- an expression relates more where its names stand for more
pub means_more :
    (events : List Event) (names more_names : Names) → ((i a b : ℕ) → names i a b → more_names i a b)
    → (x : Expr) (a b : ℕ) → Means events names x a b → Means events more_names x a b
means_more events names more_names grow x a b h = means_grow events events (λ a. a) (whole_part events) names more_names grow x a b h
