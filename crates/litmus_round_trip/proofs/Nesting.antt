-- Counts of tokens that are joined.
use Rattle.std.proofs.Common.{◌≡◌, ℕ, suc, ◌+◌, ◌≤◌, max, Some, None, List, [], ◌∷◌, ◌++◌, length, map, filter, sum, refl, ◌∙◌, ap, arith, length-append}
use Rattle.std.specs.Prelude.{⊤}
use Rattle.std.proofs.lemmas.List.{map-append}
use Rattle.std.proofs.lemmas.List.Sums.{sum_by-append}
use Rattle.std.proofs.lemmas.List.Elements.{filter-append}
use Rattle.lexeme_reader.specs.declared.reading.Lexeme.{Lexeme}
use Rattle.lexeme_reader.specs.declared.reading.Lexeme.TheVariants.{Word, Number, Path, Text, Sign}
use Rattle.lexeme_reader.specs.Parentheses.{depth_behind, most_open}
use Rattle.predicate_reader.specs.Counts.{is_word_of, word_count, text_size}

-- how many parentheses are open behind tokens, of as many before them
abbrev pub open_after : ℕ → List Lexeme → ℕ
open_after depth [] = depth
open_after depth (l ∷ ls) = open_after (depth_behind depth l) ls

most_front : (depth : ℕ) (ls : List Lexeme) → depth ≤ most_open depth ls
most_front depth [] = omega arith
most_front depth (l ∷ ls) = omega arith

most_joined : (depth : ℕ) (xs ys : List Lexeme) → most_open depth (xs ++ ys) ≡ max (most_open depth xs) (most_open (open_after depth xs) ys)
most_joined depth [] ys = omega (arith, most_front depth ys)
most_joined depth (x ∷ xs) ys = omega (arith, most_joined (depth_behind depth x) xs ys)

after_joined : (depth : ℕ) (xs ys : List Lexeme) → open_after depth (xs ++ ys) ≡ open_after (open_after depth xs) ys
after_joined depth [] ys = refl
after_joined depth (x ∷ xs) ys = after_joined (depth_behind depth x) xs ys

-- the tokens open so many parentheses at one place, and close them all
abbrev pub Nested : ℕ → List Lexeme → Type 0
Nested count ls = (depth : ℕ) → (most_open depth ls ≡ depth + count) × (open_after depth ls ≡ depth)

pub nested_joined : (a b : ℕ) (xs ys : List Lexeme) → Nested a xs → Nested b ys → Nested (max a b) (xs ++ ys)
nested_joined a b xs ys x y = λ depth.
    let front = x depth in
    let behind = y depth in
    let moved : most_open (open_after depth xs) ys ≡ most_open depth ys = ap (λ (d : ℕ). most_open d ys) front.1 in
    (omega (arith, most_joined depth xs ys, front.0, moved, behind.0), after_joined depth xs ys ∙ ap (λ (d : ℕ). open_after d ys) front.1 ∙ behind.1)

-- a word at the front opens nothing
pub nested_word : (word : List ℕ) (count : ℕ) (ls : List Lexeme) → Nested count ls → Nested count (Word word ∷ ls)
nested_word word count ls nested = λ depth. let n = nested depth in (omega (arith, n.0), n.1)

-- parentheses round the tokens
pub nested_inside : (count : ℕ) (ls : List Lexeme) → Nested count ls → Nested (suc count) (Sign 40 ∷ (ls ++ Sign 41 ∷ []))
nested_inside count ls nested = λ depth.
    let n = nested (suc depth) in
    let most = most_joined (suc depth) ls (Sign 41 ∷ []) in
    let last : most_open (open_after (suc depth) ls) (Sign 41 ∷ []) ≡ most_open (suc depth) (Sign 41 ∷ []) = ap (λ (d : ℕ). most_open d (Sign 41 ∷ [])) n.1 in
    let after : open_after (suc depth) (ls ++ Sign 41 ∷ []) ≡ open_after (suc depth) (Sign 41 ∷ []) = after_joined (suc depth) ls (Sign 41 ∷ []) ∙ ap (λ (d : ℕ). open_after d (Sign 41 ∷ [])) n.1 in
    (omega (arith, most, last, n.0), after ∙ omega arith)

pub texts_joined : (xs ys : List Lexeme) → sum (map text_size (xs ++ ys)) ≡ sum (map text_size xs) + sum (map text_size ys)
texts_joined xs ys = ap sum (map-append text_size xs ys) ∙ sum_by-append (λ n. n) (map text_size xs) (map text_size ys)

pub words_joined : (words : List (List ℕ)) (xs ys : List Lexeme) → word_count words (xs ++ ys) ≡ word_count words xs + word_count words ys
words_joined words xs ys = ap length (filter-append (is_word_of words) xs ys) ∙ length-append (filter (is_word_of words) xs) (filter (is_word_of words) ys)

-- a number that has 32 bits at most, or no number
abbrev pub IsSmall : Lexeme → Type 0
IsSmall (Word word) = ⊤
IsSmall (Number (Some n)) = ⊤
IsSmall (Number None) = ⊥
IsSmall (Path path) = ⊤
IsSmall (Text text) = ⊤
IsSmall (Sign sign) = ⊤

abbrev pub AreSmall : List Lexeme → Type 0
AreSmall [] = ⊤
AreSmall (l ∷ ls) = IsSmall l × AreSmall ls

pub small_joined : (xs ys : List Lexeme) → AreSmall xs → AreSmall ys → AreSmall (xs ++ ys)
small_joined [] ys x y = y
small_joined (l ∷ ls) ys x y = (x.0, small_joined ls ys x.1 y)
