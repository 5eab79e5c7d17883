-- Every crash has values that describe it and make the families true.
use Rattle.std.proofs.Common.{◌≡◌, ◌≢◌, ℕ, ◌+◌, ◌<◌, ◌≤◌, inl, inr, List, length, ltb, Contains, Bool, true, false, not, sym, ◌∙◌, ap, arith}
use Rattle.std.proofs.lemmas.Bool.{cases_eq, ltb-true, lt-ltb}
use Rattle.std.proofs.lemmas.Bool.Decides.{nat_tests}
use Rattle.std.proofs.lemmas.List.Elements.{All-contains}
use Rattle.clause_store.specs.Clauses.{Formula}
use Rattle.clause_store.specs.Truth.{MakesAllTrue}
use Rattle.fer_events.specs.declared.event.Event.{Event}
use Rattle.fer_events.specs.declared.event.Crash.{Crash}
use Rattle.fer_events.specs.Orders.{StandsBefore, before_cut, IsCrash, AreForward}
use Rattle.order_coding.specs.Variables.{IsNumber, order_vars}
use Rattle.order_coding.specs.Families.{order_clauses, order_formula, txn_of}
use Rattle.order_coding.specs.Decoded.{is_in, is_before, Describes}
use Rattle.order_coding.proofs.GeneralLists.{order-of}
use Rattle.order_coding.proofs.Meaning.{AreMeant, made}
use Rattle.order_coding.proofs.GeneralOrders.{place, ordered-once, ordered-contains, take-place, place-take, stands-from_places, places-from_stands, place-same}
use Rattle.order_coding.proofs.GeneralLiterals.{is_before-is, is_before-same}
use Rattle.order_coding.proofs.CrashValues.{values_of, length-values, read-in, read-up, read-down}
use Rattle.order_coding.proofs.GeneralLists.{true_false}
use Rattle.order_coding.proofs.Transactions.{together}

not-lt : (x y : ℕ) → ltb x y ≡ false → y ≤ x
not-lt x y e = grind (arith, nat_tests)

lt-no : (x y : ℕ) → y ≤ x → ltb x y ≡ false
lt-no x y h = grind (arith, nat_tests)

lt-not : (x y : ℕ) → not (ltb x y) ≡ true → y ≤ x
lt-not x y e = grind (arith, nat_tests)

not-yes : (x y : ℕ) → y ≤ x → not (ltb x y) ≡ true
not-yes x y h = ap not (lt-no x y h)

module _ (events : List Event) (kept : List (ℕ × ℕ)) (crash : Crash) (forward : AreForward (length events) kept) (c : IsCrash events kept crash) where
  abbrev n : ℕ
  n = length events

  abbrev at : ℕ → ℕ
  at e = place e crash.order

  abbrev inside : ℕ → Bool
  inside e = ltb (at e) crash.cut

  abbrev before : ℕ → ℕ → Bool
  before a b = ltb (at a) (at b)

  abbrev values : List Bool
  values = values_of n inside before

  has : (e : ℕ) → IsNumber n e → Contains crash.order e
  has e is = ordered-contains n crash.order e c.valid.permutes is

  stands : (a b : ℕ) → StandsBefore crash.order a b → at a < at b
  stands a b h = places-from_stands a b crash.order (ordered-once n crash.order b c.valid.permutes) h

  apart : (a b : ℕ) → IsNumber n a → IsNumber n b → a ≢ b → at a ≢ at b
  apart a b ia ib ne = λ same. ne (place-same a b crash.order (has a ia) (has b ib) same)

  in-there : (e : ℕ) → IsNumber n e → is_in values e ≡ true → Contains (before_cut crash) e
  in-there e is t =
      take-place crash.cut e crash.order (has e is) (ltb-true (at e) crash.cut (sym (read-in n inside before e is) ∙ t))

  there-in : (e : ℕ) → IsNumber n e → Contains (before_cut crash) e → is_in values e ≡ true
  there-in e is h = read-in n inside before e is ∙ lt-ltb (at e) crash.cut (place-take crash.cut e crash.order h)

  -- a literal is true where the first event has the lower place
  lit-less : (a b : ℕ) → IsNumber n a → IsNumber n b → a ≢ b → is_before n values a b ≡ true → at a < at b
  lit-less a b ia ib ne t = elim (order-of a b) [
    | inl l ↦ ltb-true (at a) (at b) (sym (is_before-is n values a b ne ∙ read-up n inside before a b ia.0 l ib.1) ∙ t)
    | inr (inl same) ↦ absurd (ne same)
    | inr (inr l) ↦
        let le = lt-not (at b) (at a) (sym (is_before-is n values a b ne ∙ read-down n inside before a b ib.0 l ia.1) ∙ t) in
        let other = apart a b ia ib ne in omega arith
  ]

  less-lit : (a b : ℕ) → IsNumber n a → IsNumber n b → a ≢ b → at a < at b → is_before n values a b ≡ true
  less-lit a b ia ib ne h = elim (order-of a b) [
    | inl l ↦ is_before-is n values a b ne ∙ read-up n inside before a b ia.0 l ib.1 ∙ lt-ltb (at a) (at b) h
    | inr (inl same) ↦ absurd (ne same)
    | inr (inr l) ↦ is_before-is n values a b ne ∙ read-down n inside before a b ib.0 l ia.1 ∙ not-yes (at b) (at a) (omega arith)
  ]

  describes : Describes n values crash
  describes = record {
    inside = λ e is. (in-there e is, there-in e is);
    before = λ a b ia ib. (
      λ t. elim (cases_eq a b) [
        | inl same ↦ true_false (is_before n values a b) t (is_before-same n values a b same)
        | inr ne ↦ stands-from_places a b crash.order (has a ia) (has b ib) (lit-less a b ia ib ne t)
      ],
      λ h. elim (cases_eq a b) [
        | inl same ↦ let e : at a ≡ at b = ap at same in let l = stands a b h in absurd (omega arith)
        | inr ne ↦ less-lit a b ia ib ne (stands a b h)
      ],
    );
  }

  next-of :
      (e f : ℕ) → IsNumber n e → IsNumber n f → txn_of events e ≡ txn_of events f → is_in values e ≡ true
      → is_in values f ≡ true
  next-of e f ie if same t = there-in f if (c.whole e f (together events e f ie if same) (in-there e ie t))

  means : AreMeant values events kept
  means = record {
    keeps = λ a b h.
        let pair = All-contains (λ p. (1 ≤ p.0) × (p.0 < p.1) × (p.1 ≤ n)) kept (a, b) forward h in
        read-up n inside before a b pair.0 pair.1 pair.2 ∙ lt-ltb (at a) (at b) (stands a b (c.valid.keeps a b h));
    up = λ a b d la lb ld lim s t.
        let x = ltb-true (at a) (at b) (sym (read-up n inside before a b la lb (omega arith)) ∙ s) in
        let y = ltb-true (at b) (at d) (sym (read-up n inside before b d (omega arith) ld lim) ∙ t) in
        read-up n inside before a d la (omega arith) lim ∙ lt-ltb (at a) (at d) (omega arith);
    down = λ a b d la lb ld lim s t.
        let x = not-lt (at a) (at b) (sym (read-up n inside before a b la lb (omega arith)) ∙ s) in
        let y = not-lt (at b) (at d) (sym (read-up n inside before b d (omega arith) ld lim) ∙ t) in
        read-up n inside before a d la (omega arith) lim ∙ lt-no (at a) (at d) (omega arith);
    prefix = λ a b ia ib ne s t.
        let l = lit-less a b ia ib ne (is_before-is n values a b ne ∙ t) in
        let short = ltb-true (at b) crash.cut (sym (read-in n inside before b ib) ∙ s) in
        read-in n inside before a ia ∙ lt-ltb (at a) crash.cut (omega arith);
    next = λ e is same. next-of e (e + 1) (is.0, omega (arith, is.1)) (omega arith, omega (arith, is.0, is.1)) same;
    last = λ e is same. next-of (e + 1) e (omega arith, omega (arith, is.0, is.1)) (is.0, omega (arith, is.1)) (sym same);
  }

  pub crash-values :
      (v : List Bool) × (length v ≡ order_vars (length events)) × Describes (length events) v crash
      × MakesAllTrue v (order_clauses events kept)
  crash-values = (values, length-values n inside before, describes, made values events kept means)

-- the same of a store that has the formula
pub crash-values-in :
    (events : List Event) (kept : List (ℕ × ℕ)) (crash : Crash) (store : Formula) → AreForward (length events) kept
    → IsCrash events kept crash → store ≡ order_formula events kept
    → (v : List Bool) × (length v ≡ store.vars) × Describes (length events) v crash × MakesAllTrue v store.clauses
crash-values-in events kept crash store forward h is =
    let found = crash-values events kept crash forward h in
    (found.0, found.1 ∙ sym (ap (λ (f : Formula). f.vars) is), found.2, rw is found.3)
