-- What it is for a node's clauses to say its truth, and for a node to have values that make them true.
use Rattle.std.proofs.Common.{◌≡◌, ◌⊎◌, inl, inr, ℕ, ◌+◌, ◌-◌, ◌<◌, Bool, true, false, not, ◌&&◌, ◌||◌, get_or, List, [], ◌∷◌, ◌++◌, length, refl, sym, ◌∙◌, ap, arith}
use Rattle.std.proofs.Math.ListN.{get_or-append}
use Rattle.std.proofs.Math.Seq.{get_or-append_right}
use Rattle.std.proofs.lemmas.List.{length-append}
use Rattle.std.proofs.lemmas.List.Elements.{All-append, All-nil, All-cons, All-head, All-tail}
use Rattle.clause_store.specs.declared.Lit.{Lit}
use Rattle.clause_store.specs.Clauses.{negated}
use Rattle.clause_store.specs.Truth.{is_true, MakesTrue, MakesAllTrue}
use Rattle.order_coding.proofs.GeneralLists.{All-left, All-right, Any-here, Any-later, Any-cases}
use Rattle.order_coding.proofs.GeneralLists.{bit_cases, true_false}
use Rattle.order_coding.proofs.GeneralClauses.{truth, of-one, of-two}
use Rattle.predicate_coding.specs.AtomNodes.{Node, never, always}
use Rattle.predicate_coding.specs.CellChoices.{yes_lit}
use Rattle.predicate_coding.specs.Nodes.{own_lit, not_node, two_node, and_clauses, or_clauses}
use Rattle.predicate_coding.proofs.Logic.{and-first, and-second, and-both, same-test}
use Rattle.predicate_coding.proofs.Fits.{negated-yes, negated-no, one-no, no-one}

-- values that make the node's clauses true give its variable this truth
abbrev pub Says : List Bool → Node → Bool → Type 0
Says v x b = (first : ℕ) → MakesAllTrue v (x.clauses first) → is_true v (own_lit x first) ≡ b

-- the values have this row from a variable on
abbrev pub HasRow : List Bool → ℕ → List Bool → Type 0
HasRow v first row = (i : ℕ) → i < length row → get_or v (first + i - 1) false ≡ get_or row i false

-- there is a row of values for the variables below the node's own, such that good values that have it, and the truth for
-- the own one, make the clauses true
pub record IsMade (Good : List Bool → Type 0) (x : Node) (b : Bool) : Type 0 where
  pub row : List Bool
  pub long : length row ≡ x.below
  pub makes : (v : List Bool) → Good v → (first : ℕ) → HasRow v first row → is_true v (own_lit x first) ≡ b → MakesAllTrue v (x.clauses first)

-- the row with the own value behind it
abbrev pub whole_row : {Good : List Bool → Type 0} {x : Node} {b : Bool} → IsMade Good x b → List Bool
whole_row {b = b} made = made.row ++ b ∷ []

module _ (v : List Bool) (first : ℕ) (xs ys : List Bool) (reads : HasRow v first (xs ++ ys)) where
  pub row-left : HasRow v first xs
  row-left i l = reads i (omega (arith, length-append xs ys)) ∙ get_or-append xs ys false i l

  pub row-right : (next : ℕ) → next ≡ first + length xs → HasRow v next ys
  row-right next is i l =
      let e : next + i - 1 ≡ first + (length xs + i) - 1 = omega arith in
      let f : length xs + i - length xs ≡ i = omega arith in
      ap (λ (k : ℕ). get_or v k false) e
      ∙ reads (length xs + i) (omega (arith, length-append xs ys))
      ∙ get_or-append_right xs ys (length xs + i) false (omega arith)
      ∙ ap (λ (k : ℕ). get_or ys k false) f

module _ (Good : List Bool → Type 0) (x : Node) (b : Bool) (made : IsMade Good x b) (v : List Bool) (good : Good v) (first : ℕ) (reads : HasRow v first (made.row ++ b ∷ [])) where
  pub own-read : is_true v (own_lit x first) ≡ b
  own-read =
      let e : first + x.below - 1 ≡ first + x.below + 0 - 1 = omega arith in
      ap (λ (k : ℕ). get_or v k false) e
      ∙ row-right v first made.row (b ∷ []) reads (first + x.below) (omega (arith, made.long)) 0 (omega arith)

  pub made-read : MakesAllTrue v (x.clauses first)
  made-read = made.makes v good first (row-left v first made.row (b ∷ []) reads) own-read

-- clauses of two and three literals
module _ (v : List Bool) where
  pub first-of : (a b : Lit) → truth v a → MakesTrue v (a ∷ b ∷ [])
  first-of a b h = Any-here (truth v) a (b ∷ []) h

  pub second-of : (a b : Lit) → truth v b → MakesTrue v (a ∷ b ∷ [])
  second-of a b h = Any-later (truth v) a (b ∷ []) (Any-here (truth v) b [] h)

  pub all-three : (a b c : List Lit) → MakesTrue v a → MakesTrue v b → MakesTrue v c → MakesAllTrue v (a ∷ b ∷ c ∷ [])
  all-three a b c h k l = All-cons (MakesTrue v) a (b ∷ c ∷ []) h (All-cons (MakesTrue v) b (c ∷ []) k (All-cons (MakesTrue v) c [] l (All-nil (MakesTrue v))))

  pub all-two : (a b : List Lit) → MakesTrue v a → MakesTrue v b → MakesAllTrue v (a ∷ b ∷ [])
  all-two a b h k = All-cons (MakesTrue v) a (b ∷ []) h (All-cons (MakesTrue v) b [] k (All-nil (MakesTrue v)))

  head : (a : List Lit) (more : List (List Lit)) → MakesAllTrue v (a ∷ more) → MakesTrue v a
  head a more all = All-head (MakesTrue v) a more all

  tail : (a : List Lit) (more : List (List Lit)) → MakesAllTrue v (a ∷ more) → MakesAllTrue v more
  tail a more all = All-tail (MakesTrue v) a more all

  back-two : (a x : Lit) → MakesTrue v (a ∷ negated x ∷ []) → truth v x → truth v a
  back-two a x h t = elim (Any-cases (truth v) a (negated x ∷ []) h) [
    | inl e ↦ e
    | inr rest ↦ true_false (is_true v x) t (one-no v x rest)
  ]

  module _ (own x y : Lit) where
    pub not-says : MakesAllTrue v ((own ∷ x ∷ []) ∷ (negated own ∷ negated x ∷ []) ∷ []) → is_true v own ≡ not (is_true v x)
    not-says all = elim (bit_cases (is_true v x)) [
      | inl t ↦
          elim (Any-cases (truth v) (negated own) (negated x ∷ []) (head (negated own ∷ negated x ∷ []) [] (tail (own ∷ x ∷ []) ((negated own ∷ negated x ∷ []) ∷ []) all))) [
            | inl n ↦ negated-no v own n ∙ sym (ap not t)
            | inr rest ↦ true_false (is_true v x) t (one-no v x rest)
          ]
      | inr f ↦ elim (Any-cases (truth v) own (x ∷ []) (head (own ∷ x ∷ []) ((negated own ∷ negated x ∷ []) ∷ []) all)) [
        | inl e ↦ e ∙ sym (ap not f)
        | inr rest ↦ true_false (is_true v x) (of-one v x rest) f
      ]
    ]

    pub not-made : (b : Bool) → is_true v x ≡ b → is_true v own ≡ not b → MakesAllTrue v ((own ∷ x ∷ []) ∷ (negated own ∷ negated x ∷ []) ∷ [])
    not-made true e o = all-two (own ∷ x ∷ []) (negated own ∷ negated x ∷ []) (second-of own x e) (first-of (negated own) (negated x) (negated-yes v own o))
    not-made false e o = all-two (own ∷ x ∷ []) (negated own ∷ negated x ∷ []) (first-of own x o) (second-of (negated own) (negated x) (negated-yes v x e))

    pub and-says : MakesAllTrue v (and_clauses own x y) → is_true v own ≡ (is_true v x && is_true v y)
    and-says all =
        let a = negated own ∷ x ∷ [] in
        let b = negated own ∷ y ∷ [] in
        let c = own ∷ negated x ∷ negated y ∷ [] in
        let rest = tail (negated own ∷ x ∷ []) ((negated own ∷ y ∷ []) ∷ (own ∷ negated x ∷ negated y ∷ []) ∷ []) all in
        let last = head (own ∷ negated x ∷ negated y ∷ []) [] (tail (negated own ∷ y ∷ []) ((own ∷ negated x ∷ negated y ∷ []) ∷ []) rest) in
        same-test (is_true v own) (is_true v x && is_true v y)
        (λ o. and-both (is_true v x) (is_true v y) (of-two v own x (head (negated own ∷ x ∷ []) ((negated own ∷ y ∷ []) ∷ (own ∷ negated x ∷ negated y ∷ []) ∷ []) all) o)
        (of-two v own y (head (negated own ∷ y ∷ []) ((own ∷ negated x ∷ negated y ∷ []) ∷ []) rest) o))
        (λ both. elim (Any-cases (truth v) own (negated x ∷ negated y ∷ []) last) [
          | inl o ↦ o
          | inr more ↦ elim (Any-cases (truth v) (negated x) (negated y ∷ []) more) [
            | inl n ↦ true_false (is_true v x) (and-first (is_true v x) (is_true v y) both) (negated-no v x n)
            | inr n ↦ true_false (is_true v y) (and-second (is_true v x) (is_true v y) both) (one-no v y n)
          ]
        ])

    pub and-made : (b c : Bool) → is_true v x ≡ b → is_true v y ≡ c → is_true v own ≡ (b && c) → MakesAllTrue v (and_clauses own x y)
    and-made true true e f o =
        all-three (negated own ∷ x ∷ []) (negated own ∷ y ∷ []) (own ∷ negated x ∷ negated y ∷ [])
        (second-of (negated own) x e) (second-of (negated own) y f) (Any-here (truth v) own (negated x ∷ negated y ∷ []) o)
    and-made true false e f o =
        all-three (negated own ∷ x ∷ []) (negated own ∷ y ∷ []) (own ∷ negated x ∷ negated y ∷ [])
        (first-of (negated own) x (negated-yes v own o)) (first-of (negated own) y (negated-yes v own o)) (Any-later (truth v) own (negated x ∷ negated y ∷ []) (second-of (negated x) (negated y) (negated-yes v y f)))
    and-made false c e f o =
        all-three (negated own ∷ x ∷ []) (negated own ∷ y ∷ []) (own ∷ negated x ∷ negated y ∷ [])
        (first-of (negated own) x (negated-yes v own o)) (first-of (negated own) y (negated-yes v own o)) (Any-later (truth v) own (negated x ∷ negated y ∷ []) (first-of (negated x) (negated y) (negated-yes v x e)))

    or-of : (b c : Bool) → (b || c) ≡ true → (b ≡ true) ⊎ (c ≡ true)
    or-of true c e = inl refl
    or-of false c e = inr e

    or-left : (b c : Bool) → b ≡ true → (b || c) ≡ true
    or-left true c e = refl
    or-left false c e = cc

    or-right : (b c : Bool) → c ≡ true → (b || c) ≡ true
    or-right true c e = refl
    or-right false c e = e

    pub or-says : MakesAllTrue v (or_clauses own x y) → is_true v own ≡ (is_true v x || is_true v y)
    or-says all =
        let rest = tail (own ∷ negated x ∷ []) ((own ∷ negated y ∷ []) ∷ (negated own ∷ x ∷ y ∷ []) ∷ []) all in
        let last = head (negated own ∷ x ∷ y ∷ []) [] (tail (own ∷ negated y ∷ []) ((negated own ∷ x ∷ y ∷ []) ∷ []) rest) in
        same-test (is_true v own) (is_true v x || is_true v y)
        (λ o. elim (Any-cases (truth v) (negated own) (x ∷ y ∷ []) last) [
          | inl n ↦ true_false (is_true v own) o (negated-no v own n)
          | inr more ↦ elim (Any-cases (truth v) x (y ∷ []) more) [
            | inl e ↦ or-left (is_true v x) (is_true v y) e
            | inr e ↦ or-right (is_true v x) (is_true v y) (of-one v y e)
          ]
        ])
        (λ some. elim (or-of (is_true v x) (is_true v y) some) [
          | inl e ↦ back-two own x (head (own ∷ negated x ∷ []) ((own ∷ negated y ∷ []) ∷ (negated own ∷ x ∷ y ∷ []) ∷ []) all) e
          | inr e ↦ back-two own y (head (own ∷ negated y ∷ []) ((negated own ∷ x ∷ y ∷ []) ∷ []) rest) e
        ])

    pub or-made : (b c : Bool) → is_true v x ≡ b → is_true v y ≡ c → is_true v own ≡ (b || c) → MakesAllTrue v (or_clauses own x y)
    or-made true c e f o =
        all-three (own ∷ negated x ∷ []) (own ∷ negated y ∷ []) (negated own ∷ x ∷ y ∷ [])
        (first-of own (negated x) o) (first-of own (negated y) o) (Any-later (truth v) (negated own) (x ∷ y ∷ []) (first-of x y e))
    or-made false true e f o =
        all-three (own ∷ negated x ∷ []) (own ∷ negated y ∷ []) (negated own ∷ x ∷ y ∷ [])
        (first-of own (negated x) o) (first-of own (negated y) o) (Any-later (truth v) (negated own) (x ∷ y ∷ []) (second-of x y f))
    or-made false false e f o =
        all-three (own ∷ negated x ∷ []) (own ∷ negated y ∷ []) (negated own ∷ x ∷ y ∷ [])
        (second-of own (negated x) (negated-yes v x e)) (second-of own (negated y) (negated-yes v y f)) (Any-here (truth v) (negated own) (x ∷ y ∷ []) (negated-yes v own o))

-- the connectives
zero-is : (first : ℕ) → first + 0 ≡ first
zero-is first = omega arith

module _ (v : List Bool) where
  pub always-says : Says v always true
  always-says first all = ap (λ (k : ℕ). is_true v (yes_lit k)) (zero-is first) ∙ of-one v (yes_lit first) (All-head (MakesTrue v) (yes_lit first ∷ []) [] all)

  pub never-says : Says v never false
  never-says first all = ap (λ (k : ℕ). is_true v (yes_lit k)) (zero-is first) ∙ one-no v (yes_lit first) (All-head (MakesTrue v) (negated (yes_lit first) ∷ []) [] all)

  pub not_node-says : (x : Node) (b : Bool) → Says v x b → Says v (not_node x) (not b)
  not_node-says x b says first all =
      let back : List (List Lit) = (yes_lit (first + (x.below + 1)) ∷ yes_lit (first + x.below) ∷ []) ∷ (negated (yes_lit (first + (x.below + 1))) ∷ negated (yes_lit (first + x.below)) ∷ []) ∷ [] in
      not-says v (yes_lit (first + (x.below + 1))) (yes_lit (first + x.below)) (yes_lit first) (All-right (MakesTrue v) (x.clauses first) _ all)
      ∙ ap not (says first (All-left (MakesTrue v) (x.clauses first) _ all))

  module _ (joins : Lit → Lit → Lit → List (List Lit)) (op : Bool → Bool → Bool) (says : (own x y : Lit) → MakesAllTrue v (joins own x y) → is_true v own ≡ op (is_true v x) (is_true v y)) where
    pub two_node-says : (x y : Node) (b c : Bool) → Says v x b → Says v y c → Says v (two_node joins x y) (op b c)
    two_node-says x y b c says_x says_y first all =
        let own : Lit = yes_lit (first + (x.below + 1 + (y.below + 1))) in
        let front = All-left (MakesTrue v) (x.clauses first ++ y.clauses (first + (x.below + 1))) (joins (yes_lit (first + (x.below + 1 + (y.below + 1)))) (yes_lit (first + x.below)) (yes_lit (first + (x.below + 1) + y.below))) all in
        let back = All-right (MakesTrue v) (x.clauses first ++ y.clauses (first + (x.below + 1))) (joins (yes_lit (first + (x.below + 1 + (y.below + 1)))) (yes_lit (first + x.below)) (yes_lit (first + (x.below + 1) + y.below))) all in
        says (yes_lit (first + (x.below + 1 + (y.below + 1)))) (yes_lit (first + x.below)) (yes_lit (first + (x.below + 1) + y.below)) back
        ∙ ap (λ (z : Bool). op z (is_true v (yes_lit (first + (x.below + 1) + y.below)))) (says_x first (All-left (MakesTrue v) (x.clauses first) (y.clauses (first + (x.below + 1))) front))
        ∙ ap (op b) (says_y (first + (x.below + 1)) (All-right (MakesTrue v) (x.clauses first) (y.clauses (first + (x.below + 1))) front))

module _ (Good : List Bool → Type 0) where
  pub always-made : IsMade Good always true
  always-made = record {
    row = [];
    long = refl;
    makes = λ v good first reads own. All-cons (MakesTrue v) (yes_lit first ∷ []) [] (Any-here (truth v) (yes_lit first) [] (ap (λ (k : ℕ). is_true v (yes_lit k)) (sym (zero-is first)) ∙ own)) (All-nil (MakesTrue v));
  }

  pub never-made : IsMade Good never false
  never-made = record {
    row = [];
    long = refl;
    makes = λ v good first reads own. All-cons (MakesTrue v) (negated (yes_lit first) ∷ []) [] (no-one v (yes_lit first) (ap (λ (k : ℕ). is_true v (yes_lit k)) (sym (zero-is first)) ∙ own)) (All-nil (MakesTrue v));
  }

  pub not_node-made : (x : Node) (b : Bool) → IsMade Good x b → IsMade Good (not_node x) (not b)
  not_node-made x b made = record {
    row = made.row ++ b ∷ [];
    long = omega (arith, length-append made.row (b ∷ []), made.long);
    makes = λ v good first reads own.
        All-append (MakesTrue v) (x.clauses first) _ (made-read Good x b made v good first reads)
        (not-made v (yes_lit (first + (x.below + 1))) (yes_lit (first + x.below)) (yes_lit first) b (own-read Good x b made v good first reads) own);
  }

  module _ (joins : Lit → Lit → Lit → List (List Lit)) (op : Bool → Bool → Bool)
      (makes : (v : List Bool) (own x y : Lit) (b c : Bool) → is_true v x ≡ b → is_true v y ≡ c → is_true v own ≡ op b c → MakesAllTrue v (joins own x y)) where
    pub two_node-made : (x y : Node) (b c : Bool) → IsMade Good x b → IsMade Good y c → IsMade Good (two_node joins x y) (op b c)
    two_node-made x y b c mx my = record {
      row = (mx.row ++ b ∷ []) ++ (my.row ++ c ∷ []);
      long = omega (arith, length-append (mx.row ++ b ∷ []) (my.row ++ c ∷ []), length-append mx.row (b ∷ []), length-append my.row (c ∷ []), mx.long, my.long);
      makes = λ v good first reads own.
          let left = row-left v first (mx.row ++ b ∷ []) (my.row ++ c ∷ []) reads in
          let right = row-right v first (mx.row ++ b ∷ []) (my.row ++ c ∷ []) reads (first + (x.below + 1)) (omega (arith, length-append mx.row (b ∷ []), mx.long)) in
          All-append (MakesTrue v) (x.clauses first ++ y.clauses (first + (x.below + 1))) _
          (All-append (MakesTrue v) (x.clauses first) (y.clauses (first + (x.below + 1))) (made-read Good x b mx v good first left) (made-read Good y c my v good (first + (x.below + 1)) right))
          (makes v (yes_lit (first + (x.below + 1 + (y.below + 1)))) (yes_lit (first + x.below)) (yes_lit (first + (x.below + 1) + y.below)) b c (own-read Good x b mx v good first left) (own-read Good y c my v good (first + (x.below + 1)) right) own);
    }
