-- General lemmas: whether two lists of tokens are equal is decided.
use Rattle.std.proofs.Common.{◌≡◌, ◌⊎◌, ℕ, ◌==◌, List, [], ◌∷◌, Option, Some, None, refl, ap, ap₂, inl, inr}
use Rattle.std.proofs.lemmas.Bool.{cases_Bool, eqb-true, eqb-false}
use Rattle.lexeme_reader.specs.declared.reading.Lexeme.{Lexeme}
use Rattle.lexeme_reader.specs.declared.reading.Lexeme.TheVariants.{Word, Number, Path, Text, Sign}

-- the fact holds, or it doesn't
abbrev pub Decided : Type 0 → Type 0
Decided P = P ⊎ (P → ⊥)

-- equal or not
numbers : (m n : ℕ) → Decided (m ≡ n)
numbers m n = elim (cases_Bool (m == n)) [ inl same ↦ inl (eqb-true m n same) | inr other ↦ inr (eqb-false m n other) ]

lists : {X : Type 0} (each : (x y : X) → Decided (x ≡ y)) (xs ys : List X) → Decided (xs ≡ ys)
lists each [] [] = inl refl
lists each [] (y ∷ ys) = inr (λ e. absurd cc)
lists each (x ∷ xs) [] = inr (λ e. absurd cc)
lists each (x ∷ xs) (y ∷ ys) = elim (each x y) [
  | inl first ↦ elim (lists each xs ys) [
    | inl rest ↦ inl (ap₂ (λ z zs. z ∷ zs) first rest)
    | inr other ↦ inr (λ e. let rest : xs ≡ ys = cc in other rest)
  ]
  | inr other ↦ inr (λ e. let first : x ≡ y = cc in other first)
]

options : (m n : Option ℕ) → Decided (m ≡ n)
options None None = inl refl
options None (Some n) = inr (λ e. absurd cc)
options (Some m) None = inr (λ e. absurd cc)
options (Some m) (Some n) = elim (numbers m n) [ inl same ↦ inl (ap (λ k. Some k) same) | inr other ↦ inr (λ e. let same : m ≡ n = cc in other same) ]

pub lexemes : (l m : Lexeme) → Decided (l ≡ m)
lexemes (Word v) (Word w) = elim (lists numbers v w) [ inl same ↦ inl (ap (λ k. Word k) same) | inr other ↦ inr (λ e. let same : v ≡ w = cc in other same) ]
lexemes (Number v) (Number w) = elim (options v w) [ inl same ↦ inl (ap (λ k. Number k) same) | inr other ↦ inr (λ e. let same : v ≡ w = cc in other same) ]
lexemes (Path v) (Path w) = elim (lists (lists numbers) v w) [ inl same ↦ inl (ap (λ k. Path k) same) | inr other ↦ inr (λ e. let same : v ≡ w = cc in other same) ]
lexemes (Text v) (Text w) = elim (lists numbers v w) [ inl same ↦ inl (ap (λ k. Text k) same) | inr other ↦ inr (λ e. let same : v ≡ w = cc in other same) ]
lexemes (Sign v) (Sign w) = elim (numbers v w) [ inl same ↦ inl (ap (λ k. Sign k) same) | inr other ↦ inr (λ e. let same : v ≡ w = cc in other same) ]
lexemes l m = inr (λ e. absurd cc)

pub tokens_equal : (a b : List Lexeme) → Decided (a ≡ b)
tokens_equal a b = lists lexemes a b
