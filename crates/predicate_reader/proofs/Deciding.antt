-- Whether tokens are a predicate is decided: each cut of them is tried.
use Rattle.std.proofs.Common.{◌≡◌, ◌⊎◌, ℕ, zero, suc, ◌+◌, ◌<◌, ◌≤◌, List, [], ◌∷◌, ◌++◌, length, get_or, Option, Some, None, codes, refl, sym, ◌∙◌, ap, ap₂, subst, inl, inr, length-append, arith}
use Rattle.std.proofs.lemmas.Bool.{cases_lt}
use Rattle.litmus_syntax.specs.declared.pred.Binding.{Binding}
use Rattle.litmus_syntax.specs.declared.pred.Binding.TheVariants.{Disjunction, Conjunction, Operand}
use Rattle.litmus_syntax.specs.declared.pred.Pred.{Pred}
use Rattle.litmus_syntax.specs.declared.pred.Pred.TheVariants as pred
use Rattle.lexeme_reader.specs.declared.reading.Lexeme.{Lexeme}
use Rattle.lexeme_reader.specs.declared.reading.Lexeme.TheVariants.{Word, Number, Path, Text, Sign}
use Rattle.predicate_reader.specs.Predicates.{IsAtom, IsExpression, IsPredicate}
use Rattle.lexeme_reader.proofs.GeneralTokens.{Decided, lexemes, tokens_equal}

-- what tokens of an atom's form name
word_in : Lexeme → List ℕ
word_in (Word w) = w
word_in l = []

number_in : Lexeme → ℕ
number_in (Number (Some n)) = n
number_in l = 0

path_in : Lexeme → List (List ℕ)
path_in (Path p) = p
path_in l = []

text_in : Lexeme → List ℕ
text_in (Text t) = t
text_in l = []

nth : List Lexeme → ℕ → Lexeme
nth ls i = get_or ls i (Sign 0)

abbrev IsSomeAtom : List Lexeme → Type 0
IsSomeAtom ls = (p : Pred) × IsAtom ls p

-- the tokens of each atom
abbrev exists_tokens : List (List ℕ) → List Lexeme
exists_tokens path = Word (codes "exists") ∷ Sign 40 ∷ Path path ∷ Sign 41 ∷ []

abbrev same_tokens : List (List ℕ) → List (List ℕ) → List Lexeme
same_tokens left right = Word (codes "same") ∷ Sign 40 ∷ Path left ∷ Sign 44 ∷ Path right ∷ Sign 41 ∷ []

abbrev size_tokens : List (List ℕ) → ℕ → List Lexeme
size_tokens path size = Word (codes "size") ∷ Sign 40 ∷ Path path ∷ Sign 41 ∷ Sign 61 ∷ Number (Some size) ∷ []

abbrev content_tokens : List (List ℕ) → List ℕ → List Lexeme
content_tokens path text = Word (codes "content") ∷ Sign 40 ∷ Path path ∷ Sign 41 ∷ Sign 61 ∷ Text text ∷ []

abbrev bytes_tokens : List (List ℕ) → ℕ → List ℕ → List Lexeme
bytes_tokens path at text = Word (codes "bytes") ∷ Sign 40 ∷ Path path ∷ Sign 44 ∷ Number (Some at) ∷ Sign 41 ∷ Sign 61 ∷ Text text ∷ []

abbrev attr_tokens : List (List ℕ) → List ℕ → ℕ → List Lexeme
attr_tokens path key value = Word (codes "attr") ∷ Sign 40 ∷ Path path ∷ Sign 44 ∷ Word key ∷ Sign 41 ∷ Sign 61 ∷ Number (Some value) ∷ []

abbrev seen_tokens : List ℕ → List Lexeme
seen_tokens word = Word (codes "seen") ∷ Sign 40 ∷ Word word ∷ Sign 41 ∷ []

-- the tokens are the atom that their parts name, or no atom of its form
abbrev IsExists : List Lexeme → Type 0
IsExists ls = ls ≡ exists_tokens (path_in (nth ls 2))

abbrev IsSame : List Lexeme → Type 0
IsSame ls = ls ≡ same_tokens (path_in (nth ls 2)) (path_in (nth ls 4))

abbrev IsSize : List Lexeme → Type 0
IsSize ls = ls ≡ size_tokens (path_in (nth ls 2)) (number_in (nth ls 5))

abbrev IsContent : List Lexeme → Type 0
IsContent ls = ls ≡ content_tokens (path_in (nth ls 2)) (text_in (nth ls 5))

abbrev IsBytes : List Lexeme → Type 0
IsBytes ls = (ls ≡ bytes_tokens (path_in (nth ls 2)) (number_in (nth ls 4)) (text_in (nth ls 7))) × (number_in (nth ls 4) + length (text_in (nth ls 7)) ≤ 65536)

abbrev IsAttr : List Lexeme → Type 0
IsAttr ls = ls ≡ attr_tokens (path_in (nth ls 2)) (word_in (nth ls 4)) (number_in (nth ls 7))

abbrev IsSeen : List Lexeme → Type 0
IsSeen ls = ls ≡ seen_tokens (word_in (nth ls 2))

bytes_decided : (ls : List Lexeme) → Decided (IsBytes ls)
bytes_decided ls = elim (tokens_equal ls (bytes_tokens (path_in (nth ls 2)) (number_in (nth ls 4)) (text_in (nth ls 7)))) [
  | inl is ↦ elim (cases_lt 65536 (number_in (nth ls 4) + length (text_in (nth ls 7)))) [
    | inl late ↦ inr (λ both. let early = both.1 in omega arith)
    | inr early ↦ inl (is, early)
  ]
  | inr other ↦ inr (λ both. other both.0)
]

no_atom : (ls : List Lexeme) → (ls ≡ Word (codes "true") ∷ [] → ⊥) → (ls ≡ Word (codes "false") ∷ [] → ⊥) → (IsExists ls → ⊥) → (IsSame ls → ⊥) → (IsSize ls → ⊥)
    → (IsContent ls → ⊥) → (IsBytes ls → ⊥) → (IsAttr ls → ⊥) → (IsSeen ls → ⊥) → (p : Pred) → IsAtom ls p → ⊥
unfolding nth word_in number_in path_in text_in
no_atom ls a b c d e f g h i _ (IsAtom.yes is) = a is
no_atom ls a b c d e f g h i _ (IsAtom.no is) = b is
no_atom ls a b c d e f g h i _ (IsAtom.exists path is) = c (is ∙ ap (λ (t : List Lexeme). exists_tokens (path_in (nth t 2))) (sym is))
no_atom ls a b c d e f g h i _ (IsAtom.same left right is) = d (is ∙ ap (λ (t : List Lexeme). same_tokens (path_in (nth t 2)) (path_in (nth t 4))) (sym is))
no_atom ls a b c d e f g h i _ (IsAtom.size path size is) = e (is ∙ ap (λ (t : List Lexeme). size_tokens (path_in (nth t 2)) (number_in (nth t 5))) (sym is))
no_atom ls a b c d e f g h i _ (IsAtom.content path text is) = f (is ∙ ap (λ (t : List Lexeme). content_tokens (path_in (nth t 2)) (text_in (nth t 5))) (sym is))
no_atom ls a b c d e f g h i _ (IsAtom.bytes path at text early is) =
    g (
      is ∙ ap (λ (t : List Lexeme). bytes_tokens (path_in (nth t 2)) (number_in (nth t 4)) (text_in (nth t 7))) (sym is),
      subst (λ (t : List Lexeme). number_in (nth t 4) + length (text_in (nth t 7)) ≤ 65536) (sym is) early,
    )
no_atom ls a b c d e f g h i _ (IsAtom.attr path key value is) =
    h (is ∙ ap (λ (t : List Lexeme). attr_tokens (path_in (nth t 2)) (word_in (nth t 4)) (number_in (nth t 7))) (sym is))
no_atom ls a b c d e f g h i _ (IsAtom.seen word is) = i (is ∙ ap (λ (t : List Lexeme). seen_tokens (word_in (nth t 2))) (sym is))

atom_decided : (ls : List Lexeme) → Decided (IsSomeAtom ls)
atom_decided ls = elim (tokens_equal ls (Word (codes "true") ∷ [])) [
  | inl is ↦ inl (pred.True, IsAtom.yes is)
  | inr a ↦ elim (tokens_equal ls (Word (codes "false") ∷ [])) [
    | inl is ↦ inl (pred.False, IsAtom.no is)
    | inr b ↦ elim (tokens_equal ls (exists_tokens (path_in (nth ls 2)))) [
      | inl is ↦ inl (pred.Exists (path_in (nth ls 2)), IsAtom.exists (path_in (nth ls 2)) is)
      | inr c ↦ elim (tokens_equal ls (same_tokens (path_in (nth ls 2)) (path_in (nth ls 4)))) [
        | inl is ↦ inl (pred.Same (path_in (nth ls 2)) (path_in (nth ls 4)), IsAtom.same (path_in (nth ls 2)) (path_in (nth ls 4)) is)
        | inr d ↦ elim (tokens_equal ls (size_tokens (path_in (nth ls 2)) (number_in (nth ls 5)))) [
          | inl is ↦ inl (pred.SizeIs (path_in (nth ls 2)) (number_in (nth ls 5)), IsAtom.size (path_in (nth ls 2)) (number_in (nth ls 5)) is)
          | inr e ↦ elim (tokens_equal ls (content_tokens (path_in (nth ls 2)) (text_in (nth ls 5)))) [
            | inl is ↦ inl (pred.ContentIs (path_in (nth ls 2)) (text_in (nth ls 5)), IsAtom.content (path_in (nth ls 2)) (text_in (nth ls 5)) is)
            | inr f ↦ elim (bytes_decided ls) [
              | inl both ↦ inl (
                pred.BytesAre (path_in (nth ls 2)) (number_in (nth ls 4)) (text_in (nth ls 7)),
                IsAtom.bytes (path_in (nth ls 2)) (number_in (nth ls 4)) (text_in (nth ls 7)) both.1 both.0,
              )
              | inr g ↦ elim (tokens_equal ls (attr_tokens (path_in (nth ls 2)) (word_in (nth ls 4)) (number_in (nth ls 7)))) [
                | inl is ↦ inl (
                  pred.AttrIs (path_in (nth ls 2)) (word_in (nth ls 4)) (number_in (nth ls 7)),
                  IsAtom.attr (path_in (nth ls 2)) (word_in (nth ls 4)) (number_in (nth ls 7)) is,
                )
                | inr h ↦ elim (tokens_equal ls (seen_tokens (word_in (nth ls 2)))) [
                  | inl is ↦ inl (pred.Seen (word_in (nth ls 2)), IsAtom.seen (word_in (nth ls 2)) is)
                  | inr i ↦ inr (λ some. no_atom ls a b c d e f g h i some.0 some.1)
                ]
              ]
            ]
          ]
        ]
      ]
    ]
  ]
]

-- tokens that are cut by one of them into two lists for which a fact holds
abbrev IsCutBy : Lexeme → (List Lexeme → List Lexeme → Type 0) → List Lexeme → Type 0
IsCutBy x P ls = (a b : List Lexeme) × (ls ≡ a ++ x ∷ b) × P a b

cut_decided : (x : Lexeme) (P : List Lexeme → List Lexeme → Type 0) (ls : List Lexeme) → ((a b : List Lexeme) → ls ≡ a ++ x ∷ b → Decided (P a b)) → Decided (IsCutBy x P ls)
cut_decided x P [] each = inr (λ c. let size : 0 ≡ length (c.0 ++ x ∷ c.1) = ap length c.2 in omega (arith, length-append c.0 (x ∷ c.1)))
cut_decided x P (l ∷ ls) each = elim (here (lexemes l x)) [
  | inl (same, found) ↦ inl ([], ls, ap (λ m. m ∷ ls) same, found)
  | inr none ↦ elim (cut_decided x (λ a b. P (l ∷ a) b) ls (λ a b e. each (l ∷ a) b (ap (λ ms. l ∷ ms) e))) [
    | inl (a, b, is, found) ↦ inl (l ∷ a, b, ap (λ ms. l ∷ ms) is, found)
    | inr no_later ↦ inr (λ c. nowhere none no_later c.0 c.1 c.2 c.3)
  ]
]
  where
    here : Decided (l ≡ x) → Decided ((l ≡ x) × P [] ls)
    here (inr other) = inr (λ both. other both.0)
    here (inl same) = elim (each [] ls (ap (λ m. m ∷ ls) same)) [ inl found ↦ inl (same, found) | inr none ↦ inr (λ both. none both.1) ]

    nowhere : ((l ≡ x) × P [] ls → ⊥) → (IsCutBy x (λ a b. P (l ∷ a) b) ls → ⊥) → (a b : List Lexeme) → l ∷ ls ≡ a ++ x ∷ b → P a b → ⊥
    nowhere none no_later [] b is found =
        let first : l ≡ x = cc in
        let rest : ls ≡ b = cc in
        none (first, subst (λ (ms : List Lexeme). P [] ms) (sym rest) found)
    nowhere none no_later (y ∷ a) b is found =
        let first : y ≡ l = cc in
        let rest : ls ≡ a ++ x ∷ b = cc in
        no_later (a, b, rest, subst (λ (m : Lexeme). P (m ∷ a) b) first found)

-- the tokens are an expression of this binding
abbrev IsSome : Binding → List Lexeme → Type 0
IsSome b ls = (p : Pred) × IsExpression b ls p

-- the ways in which tokens may be an expression
operand_ways : (ls : List Lexeme) (p : Pred) → IsExpression Operand ls p
    → IsSomeAtom ls ⊎ ((mid : List Lexeme) × (ls ≡ Sign 40 ∷ mid ++ Sign 41 ∷ []) × IsSome Disjunction mid) ⊎ ((rest : List Lexeme) × (ls ≡ Word (codes "not") ∷ rest) × IsSome Operand rest)
operand_ways _ _ (IsExpression.atom ls p h) = inl (p, h)
operand_ways _ _ (IsExpression.inner mid p h) = inr (inl (mid, refl, (p, h)))
operand_ways _ _ (IsExpression.negation rest p h) = inr (inr (rest, refl, (p, h)))

conjunction_ways : (ls : List Lexeme) (p : Pred) → IsExpression Conjunction ls p
    → IsSome Operand ls ⊎ IsCutBy (Word (codes "and")) (λ a b. IsSome Conjunction a × IsSome Operand b) ls
conjunction_ways _ _ (IsExpression.tighter ls p h) = inl (p, h)
conjunction_ways _ _ (IsExpression.both a b p q h g) = inr (a, b, refl, ((p, h), (q, g)))

disjunction_ways : (ls : List Lexeme) (p : Pred) → IsExpression Disjunction ls p
    → IsSome Conjunction ls ⊎ IsCutBy (Word (codes "or")) (λ a b. IsSome Disjunction a × IsSome Conjunction b) ls
disjunction_ways _ _ (IsExpression.single ls p h) = inl (p, h)
disjunction_ways _ _ (IsExpression.either a b p q h g) = inr (a, b, refl, ((p, h), (q, g)))

-- of each binding it is known whether the tokens are such an expression
abbrev Known : List Lexeme → Type 0
Known ls = Decided (IsSome Operand ls) × Decided (IsSome Conjunction ls) × Decided (IsSome Disjunction ls)

both_decided : (P Q : Type 0) → Decided P → Decided Q → Decided (P × Q)
both_decided P Q (inl p) (inl q) = inl (p, q)
both_decided P Q (inl p) (inr q) = inr (λ both. q both.1)
both_decided P Q (inr p) q = inr (λ both. p both.0)

module _ (ls : List Lexeme) (shorter : (xs : List Lexeme) → length xs < length ls → Known xs) where
  abbrev InParentheses : Type 0
  InParentheses = (mid : List Lexeme) × (ls ≡ Sign 40 ∷ mid ++ Sign 41 ∷ []) × IsSome Disjunction mid

  abbrev Negates : Type 0
  Negates = (rest : List Lexeme) × (ls ≡ Word (codes "not") ∷ rest) × IsSome Operand rest

  inner_decided : (xs : List Lexeme) → ls ≡ xs → Decided InParentheses
  inner_decided [] is = inr (λ w. let none : [] ≡ Sign 40 ∷ w.0 ++ Sign 41 ∷ [] = sym is ∙ w.1 in absurd cc)
  inner_decided (x ∷ xs) is = elim (lexemes x (Sign 40)) [
    | inr other ↦ inr (λ w. let all : x ∷ xs ≡ Sign 40 ∷ w.0 ++ Sign 41 ∷ [] = sym is ∙ w.1 in let first : x ≡ Sign 40 = cc in other first)
    | inl opens ↦
        let size : length ls ≡ suc (length xs) = ap length is in
        elim (cut_decided (Sign 41) (λ mid b. (b ≡ []) × IsSome Disjunction mid) xs (λ mid b e.
        let below : length xs ≡ length (mid ++ Sign 41 ∷ b) = ap length e in
        both_decided (b ≡ []) (IsSome Disjunction mid) (tokens_equal b []) ((shorter mid (omega (arith, length-append mid (Sign 41 ∷ b)))).2))) [
          | inl (mid, b, e, (last, some)) ↦
              inl (mid, is ∙ ap₂ (λ (l : Lexeme) (ms : List Lexeme). l ∷ ms) opens (e ∙ ap (λ (ms : List Lexeme). mid ++ Sign 41 ∷ ms) last), some)
          | inr none ↦ inr (λ w.
              let all : x ∷ xs ≡ Sign 40 ∷ w.0 ++ Sign 41 ∷ [] = sym is ∙ w.1 in
              let rest : xs ≡ w.0 ++ Sign 41 ∷ [] = cc in
              none (w.0, [], rest, (refl, w.2)))
        ]
  ]

  negation_decided : (xs : List Lexeme) → ls ≡ xs → Decided Negates
  negation_decided [] is = inr (λ w. let none : [] ≡ Word (codes "not") ∷ w.0 = sym is ∙ w.1 in absurd cc)
  negation_decided (x ∷ xs) is = elim (lexemes x (Word (codes "not"))) [
    | inr other ↦ inr (λ w. let all : x ∷ xs ≡ Word (codes "not") ∷ w.0 = sym is ∙ w.1 in let first : x ≡ Word (codes "not") = cc in other first)
    | inl same ↦
        let size : length ls ≡ suc (length xs) = ap length is in
        elim ((shorter xs (omega arith)).0) [
          | inl some ↦ inl (xs, is ∙ ap (λ (l : Lexeme). l ∷ xs) same, some)
          | inr none ↦ inr (λ w.
              let all : x ∷ xs ≡ Word (codes "not") ∷ w.0 = sym is ∙ w.1 in
              let rest : w.0 ≡ xs = cc in
              none (subst (λ (ms : List Lexeme). IsSome Operand ms) rest w.2))
        ]
  ]

  operand_decided : Decided (IsSome Operand ls)
  operand_decided = elim (atom_decided ls) [
    | inl (p, is) ↦ inl (p, IsExpression.atom ls p is)
    | inr no_atoms ↦ elim (inner_decided ls refl) [
      | inl (mid, is, some) ↦ inl (some.0, subst (λ (ms : List Lexeme). IsExpression Operand ms some.0) (sym is) (IsExpression.inner mid some.0 some.1))
      | inr no_inner ↦ elim (negation_decided ls refl) [
        | inl (rest, is, some) ↦
            inl (pred.Not some.0, subst (λ (ms : List Lexeme). IsExpression Operand ms (pred.Not some.0)) (sym is) (IsExpression.negation rest some.0 some.1))
        | inr no_negation ↦ inr (λ some. elim (operand_ways ls some.0 some.1) [ inl atom ↦ no_atoms atom | inr (inl inner) ↦ no_inner inner | inr (inr negates) ↦ no_negation negates ])
      ]
    ]
  ]

  front_shorter : (a b : List Lexeme) (x : Lexeme) → ls ≡ a ++ x ∷ b → (length a < length ls) × (length b < length ls)
  front_shorter a b x is =
      let size : length ls ≡ length (a ++ x ∷ b) = ap length is in
      (omega (arith, length-append a (x ∷ b)), omega (arith, length-append a (x ∷ b)))

  conjunction_decided : Decided (IsSome Conjunction ls)
  conjunction_decided = elim operand_decided [
    | inl (p, h) ↦ inl (p, IsExpression.tighter ls p h)
    | inr no_operand ↦ elim (cut_decided (Word (codes "and")) (λ a b. IsSome Conjunction a × IsSome Operand b) ls (λ a b e.
        let below = front_shorter a b (Word (codes "and")) e in
        both_decided (IsSome Conjunction a) (IsSome Operand b) ((shorter a below.0).1) ((shorter b below.1).0))) [
          | inl (a, b, is, (left, right)) ↦ inl (
            pred.And left.0 right.0,
            subst (λ (ms : List Lexeme). IsExpression Conjunction ms (pred.And left.0 right.0)) (sym is) (IsExpression.both a b left.0 right.0 left.1 right.1),
          )
          | inr no_cut ↦ inr (λ some. elim (conjunction_ways ls some.0 some.1) [ inl operand ↦ no_operand operand | inr cut ↦ no_cut cut ])
        ]
  ]

  disjunction_decided : Decided (IsSome Disjunction ls)
  disjunction_decided = elim conjunction_decided [
    | inl (p, h) ↦ inl (p, IsExpression.single ls p h)
    | inr no_conjunction ↦ elim (cut_decided (Word (codes "or")) (λ a b. IsSome Disjunction a × IsSome Conjunction b) ls (λ a b e.
        let below = front_shorter a b (Word (codes "or")) e in
        both_decided (IsSome Disjunction a) (IsSome Conjunction b) ((shorter a below.0).2) ((shorter b below.1).1))) [
          | inl (a, b, is, (left, right)) ↦ inl (
            pred.Or left.0 right.0,
            subst (λ (ms : List Lexeme). IsExpression Disjunction ms (pred.Or left.0 right.0)) (sym is) (IsExpression.either a b left.0 right.0 left.1 right.1),
          )
          | inr no_cut ↦ inr (λ some. elim (disjunction_ways ls some.0 some.1) [ inl conjunction ↦ no_conjunction conjunction | inr cut ↦ no_cut cut ])
        ]
  ]

known_below : (n : ℕ) (ls : List Lexeme) → length ls < n → Known ls
known_below zero ls few = absurd (omega arith)
known_below (suc n) ls few =
    let shorter : (xs : List Lexeme) → length xs < length ls → Known xs = λ xs less. known_below n xs (omega arith) in
    (operand_decided ls shorter, conjunction_decided ls shorter, disjunction_decided ls shorter)

-- tokens are a predicate, or they are none
pub predicate_decided : (tokens : List Lexeme) → ((p : Pred) × IsPredicate tokens p) ⊎ ((p : Pred) → IsPredicate tokens p → ⊥)
predicate_decided tokens = elim ((known_below (suc (length tokens)) tokens (omega arith)).2) [
  | inl some ↦ inl some
  | inr none ↦ inr (λ p h. none (p, h))
]
