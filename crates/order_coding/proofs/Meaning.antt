-- What it is for values to make the four families true.
use Rattle.std.proofs.Common.{◌≡◌, ◌≢◌, ℕ, ◌+◌, ◌-◌, ◌<◌, ◌≤◌, inl, inr, List, [], ◌∷◌, ◌++◌, length, Contains, Bool, true, false, not, refl, ◌∙◌, ap, arith}
use Rattle.std.specs.List.{All, flat_map, range_with_len}
use Rattle.std.proofs.lemmas.Bool.{cases_eq, eq-eqb}
use Rattle.std.proofs.lemmas.List.Elements.{All-append, All-nil, All-cons, All-head, All-tail, All-map, All-contains}
use Rattle.clause_store.specs.declared.Lit.{Lit}
use Rattle.clause_store.specs.Clauses.{negated}
use Rattle.clause_store.specs.Truth.{is_true, MakesTrue, MakesAllTrue}
use Rattle.clause_store.proofs.GeneralLiterals.{is_true-negated}
use Rattle.clause_store.proofs.GeneralLists.{Contains-map}
use Rattle.fer_events.specs.declared.event.Event.{Event}
use Rattle.fer_events.specs.Orders.{numbers}
use Rattle.order_coding.specs.Variables.{IsNumber, in_lit, before_lit}
use Rattle.order_coding.specs.Decoded.{is_in}
use Rattle.order_coding.specs.Families.{kept_pairs, no_cycle, no_cycles, in_before, cut_is_prefix, txn_of, in_together, transactions_whole, order_clauses}
use Rattle.order_coding.proofs.GeneralLists.{All-from_contains, All-left, All-right, All-flat_map, All-from_flat_map, range_contains, range_within, Any-here, Any-later, Any-cases, Any-nil, eq-no}
use Rattle.order_coding.proofs.GeneralClauses.{truth, negated-true, negated-false, of-one, of-two, two, back-two, two-back, of-three, three, back-three, three-back}
use Rattle.order_coding.proofs.GeneralOrders.{numbers-contain, numbers-within}
use Rattle.order_coding.proofs.GeneralLists.{bit_cases, true_false}

pair-all : {A : Type 0} (P : A → Type 0) (x y : A) → P x → P y → All P (x ∷ y ∷ [])
pair-all P x y h k = All-cons P x (y ∷ []) h (All-cons P y [] k (All-nil P))

pair-first : {A : Type 0} (P : A → Type 0) (x y : A) → All P (x ∷ y ∷ []) → P x
pair-first P x y all = All-head P x (y ∷ []) all

pair-second : {A : Type 0} (P : A → Type 0) (x y : A) → All P (x ∷ y ∷ []) → P y
pair-second P x y all = All-head P y [] (All-tail P x (y ∷ []) all)

-- what values say that make the families true
pub record AreMeant (v : List Bool) (events : List Event) (kept : List (ℕ × ℕ)) : Type 0 where
  pub keeps : (a b : ℕ) → Contains kept (a, b) → is_true v (before_lit (length events) a b) ≡ true
  pub up :
      (a b c : ℕ) → 1 ≤ a → a < b → b < c → c ≤ length events
      → is_true v (before_lit (length events) a b) ≡ true → is_true v (before_lit (length events) b c) ≡ true
      → is_true v (before_lit (length events) a c) ≡ true
  pub down :
      (a b c : ℕ) → 1 ≤ a → a < b → b < c → c ≤ length events
      → is_true v (before_lit (length events) a b) ≡ false → is_true v (before_lit (length events) b c) ≡ false
      → is_true v (before_lit (length events) a c) ≡ false
  pub prefix :
      (a b : ℕ) → IsNumber (length events) a → IsNumber (length events) b → a ≢ b → is_in v b ≡ true
      → is_true v (before_lit (length events) a b) ≡ true → is_in v a ≡ true
  pub next :
      (e : ℕ) → IsNumber (length events - 1) e → txn_of events e ≡ txn_of events (e + 1) → is_in v e ≡ true
      → is_in v (e + 1) ≡ true
  pub last :
      (e : ℕ) → IsNumber (length events - 1) e → txn_of events e ≡ txn_of events (e + 1)
      → is_in v (e + 1) ≡ true → is_in v e ≡ true

in_before-is :
    (n a b : ℕ) → a ≢ b
    → in_before n a b ≡ (negated (in_lit b) ∷ negated (before_lit n a b) ∷ in_lit a ∷ []) ∷ []
in_before-is n a b ne = rw (eq-no a b ne) refl

in_before-none : (n a b : ℕ) → a ≡ b → in_before n a b ≡ []
in_before-none n a b e = rw (eq-eqb a b e) refl

in_together-is :
    (events : List Event) (e : ℕ) → txn_of events e ≡ txn_of events (e + 1)
    → in_together events e ≡ (negated (in_lit e) ∷ in_lit (e + 1) ∷ []) ∷ (in_lit e ∷ negated (in_lit (e + 1)) ∷ []) ∷ []
in_together-is events e same = rw (eq-eqb (txn_of events e) (txn_of events (e + 1)) same) refl

in_together-none :
    (events : List Event) (e : ℕ) → txn_of events e ≢ txn_of events (e + 1) → in_together events e ≡ []
in_together-none events e ne = rw (eq-no (txn_of events e) (txn_of events (e + 1)) ne) refl

module _ (v : List Bool) (n : ℕ) where
  cycle-of :
      MakesAllTrue v (no_cycles n) → (a b c : ℕ) → 1 ≤ a → a < b → b < c → c ≤ n
      → All (MakesTrue v) (no_cycle n a b c)
  cycle-of all a b c la lb lc lim =
      let row = All-from_flat_map (MakesTrue v) (λ x. flat_map (λ y. flat_map (λ z. no_cycle n x y z) (range_with_len (y + 1) (n - y))) (range_with_len (x + 1) (n - x))) (numbers n) a all (numbers-contain n a (la, omega arith)) in
      let column = All-from_flat_map (MakesTrue v) (λ y. flat_map (λ z. no_cycle n a y z) (range_with_len (y + 1) (n - y))) (range_with_len (a + 1) (n - a)) b row (range_contains (a + 1) (n - a) b (omega arith) (omega arith)) in
      All-from_flat_map (MakesTrue v) (λ z. no_cycle n a b z) (range_with_len (b + 1) (n - b)) c column (range_contains (b + 1) (n - b) c (omega arith) (omega arith))

  cycles-from :
      ((a b c : ℕ) → 1 ≤ a → a < b → b < c → c ≤ n → All (MakesTrue v) (no_cycle n a b c))
      → MakesAllTrue v (no_cycles n)
  cycles-from each =
      All-flat_map (MakesTrue v) (λ x. flat_map (λ y. flat_map (λ z. no_cycle n x y z) (range_with_len (y + 1) (n - y))) (range_with_len (x + 1) (n - x))) (numbers n)
      (λ a ca. let wa = numbers-within n a ca in
      All-flat_map (MakesTrue v) (λ y. flat_map (λ z. no_cycle n a y z) (range_with_len (y + 1) (n - y))) (range_with_len (a + 1) (n - a))
      (λ b cb. let wb = range_within (a + 1) (n - a) b cb in
      All-flat_map (MakesTrue v) (λ z. no_cycle n a b z) (range_with_len (b + 1) (n - b))
      (λ c cc'. let wc = range_within (b + 1) (n - b) c cc' in
      each a b c wa.0 (omega (arith, wb.0)) (omega (arith, wc.0)) (omega (arith, wb.1, wc.0, wc.1)))))

  prefix-of :
      MakesAllTrue v (cut_is_prefix n) → (a b : ℕ) → IsNumber n a → IsNumber n b → a ≢ b
      → MakesTrue v (negated (in_lit b) ∷ negated (before_lit n a b) ∷ in_lit a ∷ [])
  prefix-of all a b ia ib ne =
      let row = All-from_flat_map (MakesTrue v) (λ x. flat_map (λ y. in_before n x y) (numbers n)) (numbers n) a all (numbers-contain n a ia) in
      let one = All-from_flat_map (MakesTrue v) (λ y. in_before n a y) (numbers n) b row (numbers-contain n b ib) in
      All-head (MakesTrue v) (negated (in_lit b) ∷ negated (before_lit n a b) ∷ in_lit a ∷ []) [] (rw (in_before-is n a b ne) at one)

  prefix-from :
      ((a b : ℕ) → IsNumber n a → IsNumber n b → a ≢ b → MakesTrue v (negated (in_lit b) ∷ negated (before_lit n a b) ∷ in_lit a ∷ []))
      → MakesAllTrue v (cut_is_prefix n)
  prefix-from each =
      All-flat_map (MakesTrue v) (λ x. flat_map (λ y. in_before n x y) (numbers n)) (numbers n)
      (λ a ca. All-flat_map (MakesTrue v) (λ y. in_before n a y) (numbers n)
      (λ b cb. elim (cases_eq a b) [
        | inl e ↦ rw (in_before-none n a b e) (All-nil (MakesTrue v))
        | inr ne ↦ rw (in_before-is n a b ne) (All-cons (MakesTrue v) (negated (in_lit b) ∷ negated (before_lit n a b) ∷ in_lit a ∷ []) [] (each a b (numbers-within n a ca) (numbers-within n b cb) ne) (All-nil (MakesTrue v)))
      ]))

module _ (v : List Bool) (events : List Event) where
  together-of :
      MakesAllTrue v (transactions_whole events) → (e : ℕ) → IsNumber (length events - 1) e
      → txn_of events e ≡ txn_of events (e + 1)
      → All (MakesTrue v) ((negated (in_lit e) ∷ in_lit (e + 1) ∷ []) ∷ (in_lit e ∷ negated (in_lit (e + 1)) ∷ []) ∷ [])
  together-of all e is same =
      let one = All-from_flat_map (MakesTrue v) (in_together events) (numbers (length events - 1)) e all (numbers-contain (length events - 1) e is) in
      rw (in_together-is events e same) at one

  together-from :
      ((e : ℕ) → IsNumber (length events - 1) e → txn_of events e ≡ txn_of events (e + 1) → All (MakesTrue v) ((negated (in_lit e) ∷ in_lit (e + 1) ∷ []) ∷ (in_lit e ∷ negated (in_lit (e + 1)) ∷ []) ∷ []))
      → MakesAllTrue v (transactions_whole events)
  together-from each =
      All-flat_map (MakesTrue v) (in_together events) (numbers (length events - 1))
      (λ e ce. elim (cases_eq (txn_of events e) (txn_of events (e + 1))) [
        | inl same ↦ rw (in_together-is events e same) (each e (numbers-within (length events - 1) e ce) same)
        | inr ne ↦ rw (in_together-none events e ne) (All-nil (MakesTrue v))
      ])

pub meant :
    (v : List Bool) (events : List Event) (kept : List (ℕ × ℕ)) → MakesAllTrue v (order_clauses events kept)
    → AreMeant v events kept
unfolding order_clauses
meant v events kept all =
    let n : ℕ = length events in
    let three_families : MakesAllTrue v (kept_pairs n kept ++ no_cycles n ++ cut_is_prefix n) = All-left (MakesTrue v) (kept_pairs n kept ++ no_cycles n ++ cut_is_prefix n) (transactions_whole events) all in
    let two_families : MakesAllTrue v (kept_pairs n kept ++ no_cycles n) = All-left (MakesTrue v) (kept_pairs n kept ++ no_cycles n) (cut_is_prefix n) three_families in
    let pairs : MakesAllTrue v (kept_pairs n kept) = All-left (MakesTrue v) (kept_pairs n kept) (no_cycles n) two_families in
    let cycles : MakesAllTrue v (no_cycles n) = All-right (MakesTrue v) (kept_pairs n kept) (no_cycles n) two_families in
    let cut : MakesAllTrue v (cut_is_prefix n) = All-right (MakesTrue v) (kept_pairs n kept ++ no_cycles n) (cut_is_prefix n) three_families in
    let whole : MakesAllTrue v (transactions_whole events) = All-right (MakesTrue v) (kept_pairs n kept ++ no_cycles n ++ cut_is_prefix n) (transactions_whole events) all in
    record {
      keeps = λ a b h. of-one v (before_lit n a b) (All-contains (MakesTrue v) (kept_pairs n kept) (before_lit n a b ∷ []) pairs (Contains-map (λ p. before_lit n p.0 p.1 ∷ []) kept (a, b) h));
      up = λ a b c la lb lc lim. of-three v (before_lit n a b) (before_lit n b c) (before_lit n a c) (pair-first (MakesTrue v) _ _ (cycle-of v n cycles a b c la lb lc lim));
      down = λ a b c la lb lc lim. back-three v (before_lit n a b) (before_lit n b c) (before_lit n a c) (pair-second (MakesTrue v) _ _ (cycle-of v n cycles a b c la lb lc lim));
      prefix = λ a b ia ib ne. of-three v (in_lit b) (before_lit n a b) (in_lit a) (prefix-of v n cut a b ia ib ne);
      next = λ e is same. of-two v (in_lit e) (in_lit (e + 1)) (pair-first (MakesTrue v) _ _ (together-of v events whole e is same));
      last = λ e is same. back-two v (in_lit e) (in_lit (e + 1)) (pair-second (MakesTrue v) _ _ (together-of v events whole e is same));
    }

pub made :
    (v : List Bool) (events : List Event) (kept : List (ℕ × ℕ)) → AreMeant v events kept
    → MakesAllTrue v (order_clauses events kept)
unfolding order_clauses
made v events kept m =
    let n : ℕ = length events in
    let one : (x : Lit) → truth v x → MakesTrue v (x ∷ []) = λ x t. Any-here (truth v) x [] t in
    let pairs : MakesAllTrue v (kept_pairs n kept) =
    All-map (MakesTrue v) (λ p. before_lit n p.0 p.1 ∷ []) kept (All-from_contains (λ p. MakesTrue v (before_lit n p.0 p.1 ∷ [])) kept (λ p h. one (before_lit n p.0 p.1) (m.keeps p.0 p.1 h))) in
    let cycles : MakesAllTrue v (no_cycles n) =
    cycles-from v n (λ a b c la lb lc lim. pair-all (MakesTrue v) _ _ (three v (before_lit n a b) (before_lit n b c) (before_lit n a c) (m.up a b c la lb lc lim)) (three-back v (before_lit n a b) (before_lit n b c) (before_lit n a c) (m.down a b c la lb lc lim))) in
    let cut : MakesAllTrue v (cut_is_prefix n) =
    prefix-from v n (λ a b ia ib ne. three v (in_lit b) (before_lit n a b) (in_lit a) (m.prefix a b ia ib ne)) in
    let whole : MakesAllTrue v (transactions_whole events) =
    together-from v events (λ e is same. pair-all (MakesTrue v) _ _ (two v (in_lit e) (in_lit (e + 1)) (m.next e is same)) (two-back v (in_lit e) (in_lit (e + 1)) (m.last e is same))) in
    All-append (MakesTrue v) _ _ (All-append (MakesTrue v) _ _ (All-append (MakesTrue v) _ _ pairs cycles) cut) whole
