-- Each clause of the coding is over its variables.
use Rattle.std.proofs.Common.{◌≡◌, ◌≢◌, ℕ, ◌+◌, ◌-◌, ◌<◌, ◌≤◌, inl, inr, List, [], ◌∷◌, ◌++◌, length, Bool, true, false, refl, sym, ◌∙◌, ap, subst, arith, append_assoc, if◌then◌else◌, eqb}
use Rattle.std.specs.List.{All, range_with_len}
use Rattle.std.proofs.lemmas.Bool.{eqb-false}
use Rattle.std.proofs.lemmas.List.Elements.{All-nil, All-cons, All-append, All-head, All-tail}
use Rattle.clause_store.specs.declared.Lit.{Lit}
use Rattle.clause_store.specs.Clauses.{InVars, negated}
use Rattle.fer_events.specs.declared.event.Event.{Event}
use Rattle.fer_events.specs.Orders.{numbers, AreForward}
use Rattle.order_coding.specs.Variables.{IsNumber, order_vars, in_lit, before_lit}
use Rattle.order_coding.specs.Families.{kept_pairs, no_cycle, no_cycle_with, no_cycle_from, no_cycles, in_before, in_before_each, cut_is_prefix, txn_of, in_together, transactions_whole, order_clauses}
use Rattle.order_coding.proofs.GeneralLiterals.{in_lit-within, before_lit-within}
use Rattle.order_coding.proofs.GeneralLists.{All-flat_map, order-of, range_within}
use Rattle.order_coding.proofs.GeneralNumbering.{pair_var_within}
use Rattle.order_coding.proofs.GeneralOrders.{numbers-within}

module _ (n : ℕ) where
  abbrev Is : Lit → Type 0
  Is = InVars (order_vars n)

  abbrev Are : List (List Lit) → Type 0
  Are = All (All Is)

  abbrev in-named : (e : ℕ) → IsNumber n e → Is (in_lit e)
  in-named = in_lit-within n

  abbrev before-named : (a b : ℕ) → IsNumber n a → IsNumber n b → a ≢ b → Is (before_lit n a b)
  before-named = before_lit-within n

  one : (l : Lit) → Is l → All Is (l ∷ [])
  one l h = All-cons Is l [] h (All-nil Is)

  two : (l m : Lit) → Is l → Is m → All Is (l ∷ m ∷ [])
  two l m h k = All-cons Is l (m ∷ []) h (one m k)

  three : (l m o : Lit) → Is l → Is m → Is o → All Is (l ∷ m ∷ o ∷ [])
  three l m o h k j = All-cons Is l (m ∷ o ∷ []) h (two m o k j)

  both : (c d : List Lit) → All Is c → All Is d → Are (c ∷ d ∷ [])
  both c d h k = All-cons (All Is) c (d ∷ []) h (All-cons (All Is) d [] k (All-nil (All Is)))

  kept-named : (kept : List (ℕ × ℕ)) → AreForward n kept → Are (kept_pairs n kept)
  kept-named [] h = All-nil (All Is)
  kept-named (p ∷ ps) h =
      let P : ℕ × ℕ → Type 0 = λ q. (1 ≤ q.0) × (q.0 < q.1) × (q.1 ≤ n) in
      let here = All-head P p ps h in
      let ne : p.0 ≢ p.1 = λ e. let l = here.1 in omega arith in
      All-cons (All Is) (before_lit n p.0 p.1 ∷ []) (kept_pairs n ps)
      (one (before_lit n p.0 p.1) (before-named p.0 p.1 (here.0, omega (arith, here.1, here.2)) (omega (arith, here.0, here.1), here.2) ne))
      (kept-named ps (All-tail P p ps h))

  cycle-named : (a b c : ℕ) → 1 ≤ a → a < b → b < c → c ≤ n → Are (no_cycle n a b c)
  cycle-named a b c low ab bc high =
      let first : IsNumber n a = (low, omega arith) in
      let second : IsNumber n b = (omega arith, omega arith) in
      let third : IsNumber n c = (omega arith, high) in
      let x = before-named a b first second (λ e. omega arith) in
      let y = before-named b c second third (λ e. omega arith) in
      let z = before-named a c first third (λ e. omega arith) in
      both (negated (before_lit n a b) ∷ negated (before_lit n b c) ∷ before_lit n a c ∷ [])
      (before_lit n a b ∷ before_lit n b c ∷ negated (before_lit n a c) ∷ [])
      (three (negated (before_lit n a b)) (negated (before_lit n b c)) (before_lit n a c) x y z)
      (three (before_lit n a b) (before_lit n b c) (negated (before_lit n a c)) x y z)

  cycles-named : Are (no_cycles n)
  cycles-named =
      All-flat_map (All Is) (no_cycle_from n) (numbers n) (λ a ca. let ia = numbers-within n a ca in
      All-flat_map (All Is) (no_cycle_with n a) (range_with_len (a + 1) (n - a)) (λ b cb. let ib = range_within (a + 1) (n - a) b cb in
      All-flat_map (All Is) (no_cycle n a b) (range_with_len (b + 1) (n - b)) (λ c cc. let ic = range_within (b + 1) (n - b) c cc in
      cycle-named a b c ia.0 (omega (arith, ib.0)) (omega (arith, ic.0)) (omega (arith, ia.1, ib.0, ib.1, ic.0, ic.1)))))

  pull-cases : (a b : ℕ) (t : Bool) → IsNumber n a → IsNumber n b → (t ≡ false → a ≢ b)
      → Are (if t then [] else (negated (in_lit b) ∷ negated (before_lit n a b) ∷ in_lit a ∷ []) ∷ [])
  pull-cases a b true first second ne = All-nil (All Is)
  pull-cases a b false first second ne =
      All-cons (All Is) (negated (in_lit b) ∷ negated (before_lit n a b) ∷ in_lit a ∷ []) []
      (three (negated (in_lit b)) (negated (before_lit n a b)) (in_lit a) (in-named b second) (before-named a b first second (ne refl)) (in-named a first))
      (All-nil (All Is))

  pull-named : (a b : ℕ) → IsNumber n a → IsNumber n b → Are (in_before n a b)
  pull-named a b first second = pull-cases a b (eqb a b) first second (λ e. eqb-false a b e)

  prefix-named : Are (cut_is_prefix n)
  prefix-named =
      All-flat_map (All Is) (in_before_each n) (numbers n) (λ a ca.
      All-flat_map (All Is) (in_before n a) (numbers n) (λ b cb. pull-named a b (numbers-within n a ca) (numbers-within n b cb)))

  tied-named : (e : ℕ) (t : Bool) → IsNumber n e → IsNumber n (e + 1)
      → Are (if t then (negated (in_lit e) ∷ in_lit (e + 1) ∷ []) ∷ (in_lit e ∷ negated (in_lit (e + 1)) ∷ []) ∷ [] else [])
  tied-named e true this next =
      both (negated (in_lit e) ∷ in_lit (e + 1) ∷ []) (in_lit e ∷ negated (in_lit (e + 1)) ∷ [])
      (two (negated (in_lit e)) (in_lit (e + 1)) (in-named e this) (in-named (e + 1) next))
      (two (in_lit e) (negated (in_lit (e + 1))) (in-named e this) (in-named (e + 1) next))
  tied-named e false this next = All-nil (All Is)

whole-named : (events : List Event) → All (All (InVars (order_vars (length events)))) (transactions_whole events)
whole-named events =
    All-flat_map (All (InVars (order_vars (length events)))) (in_together events) (numbers (length events - 1)) (λ e ce.
    let is = numbers-within (length events - 1) e ce in
    tied-named (length events) e (eqb (txn_of events e) (txn_of events (e + 1))) (is.0, omega (arith, is.0, is.1)) (omega (arith, is.0), omega (arith, is.0, is.1)))

-- all clauses
pub clauses-named : (events : List Event) (kept : List (ℕ × ℕ)) → AreForward (length events) kept
    → All (All (InVars (order_vars (length events)))) (order_clauses events kept)
unfolding order_clauses
clauses-named events kept forward =
    let n : ℕ = length events in
    let P : List Lit → Type 0 = All (InVars (order_vars n)) in
    All-append P (kept_pairs n kept ++ no_cycles n ++ cut_is_prefix n) (transactions_whole events)
    (All-append P (kept_pairs n kept ++ no_cycles n) (cut_is_prefix n)
    (All-append P (kept_pairs n kept) (no_cycles n) (kept-named n kept forward) (cycles-named n)) (prefix-named n))
    (whole-named events)

-- the kept pairs come first
pub kept-first : (events : List Event) (kept : List (ℕ × ℕ)) → order_clauses events kept ≡ kept_pairs (length events) kept ++ order_clauses events []
unfolding order_clauses
kept-first events kept =
    let n : ℕ = length events in
    append_assoc (kept_pairs n kept ++ no_cycles n) (cut_is_prefix n) (transactions_whole events)
    ∙ append_assoc (kept_pairs n kept) (no_cycles n) (cut_is_prefix n ++ transactions_whole events)
    ∙ ap (λ (cs : List (List Lit)). kept_pairs n kept ++ cs) (sym (append_assoc (no_cycles n) (cut_is_prefix n) (transactions_whole events)))
