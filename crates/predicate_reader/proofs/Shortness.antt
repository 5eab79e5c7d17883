-- A predicate's canonical text has no more of what is counted than its tokens.
use Rattle.std.proofs.Common.{ap₂, ◌≡◌, ℕ, suc, ◌+◌, ◌≤◌, Bool, true, false, if◌then◌else◌, List, [], ◌∷◌, ◌++◌, Some, length, length-append, map, sum, max, codes, bytes_eq, refl, ap, ◌∙◌, append_assoc, arith}
use Rattle.std.specs.List.{filter, list_any, sum_by}
use Rattle.std.proofs.lemmas.Bool.Decides.{nat_tests}
use Rattle.std.proofs.lemmas.List.{append-nil}
use Rattle.std.proofs.lemmas.List.Sums.{sum-map, sum_by-cons}
use Rattle.std.proofs.lemmas.List.Elements.{filter-append}
use Rattle.litmus_syntax.specs.declared.pred.Pred.{Pred}
use Rattle.litmus_syntax.specs.declared.pred.Pred.TheVariants as pred
use Rattle.litmus_syntax.specs.Counts.{Counts, IsShortPred, atom_words, counted, counts, counts_of, operand_depth}
use Rattle.lexeme_reader.specs.declared.reading.Lexeme.{Lexeme}
use Rattle.lexeme_reader.specs.declared.reading.Lexeme.TheVariants.{Word, Number, Text, Sign}
use Rattle.lexeme_reader.specs.Parentheses.{most_open}
use Rattle.predicate_reader.specs.Counts.{IsShort, is_word_of, word_count, text_size}
use Rattle.litmus_syntax.specs.declared.pred.Binding.{Binding}
use Rattle.litmus_syntax.specs.declared.pred.Binding.TheVariants.{Disjunction, Conjunction, Operand}
use Rattle.predicate_reader.specs.Predicates.{IsAtom, IsExpression, IsPredicate}
use Rattle.lexeme_reader.proofs.Depths.{most_open_front}
use Rattle.predicate_reader.proofs.Folds.{fold_true, fold_false, fold_exists, fold_same, fold_size, fold_content, fold_bytes, fold_attr, fold_seen, fold_not, fold_and, fold_or}

-- how many bytes the texts have together
abbrev texts : List Lexeme → ℕ
texts [] = 0
texts (x ∷ a) = text_size x + texts a

texts-append : (a b : List Lexeme) → texts (a ++ b) ≡ texts a + texts b
texts-append [] b = omega arith
texts-append (x ∷ a) b = omega (arith, texts-append a b)

texts-sum_by : (a : List Lexeme) → sum_by text_size a ≡ texts a
texts-sum_by [] = refl
texts-sum_by (x ∷ a) = sum_by-cons text_size x a ∙ ap (λ (n : ℕ). text_size x + n) (texts-sum_by a)

texts-sum : (a : List Lexeme) → sum (map text_size a) ≡ texts a
texts-sum a = sum-map text_size a ∙ texts-sum_by a

words-append : (words : List (List ℕ)) (a b : List Lexeme) → word_count words (a ++ b) ≡ word_count words a + word_count words b
words-append words a b =
    ap (λ (x : List Lexeme). length x) (filter-append (is_word_of words) a b) ∙ length-append (filter (is_word_of words) a) (filter (is_word_of words) b)

-- a word is counted once or not at all
chosen : (b : Bool) (x : Lexeme) → length (if b then x ∷ [] else []) ≡ (if b then 1 else 0)
chosen true x = refl
chosen false x = refl

one_word : (words : List (List ℕ)) (word : List ℕ) → word_count words (Word word ∷ []) ≡ counted words word
one_word words word = chosen (list_any (bytes_eq word) words) (Word word)

-- a `)` closes what a `(` opened
closing : (d : ℕ) (r : List Lexeme) → most_open (suc d) (Sign 41 ∷ r) ≡ max (suc d) (most_open d r)
closing d r = ap (λ (k : ℕ). max (suc d) (most_open k r)) (omega arith)

-- an operand stands in parentheses only where its place asks for more
less_deep : (c : Counts) → operand_depth Conjunction c ≤ operand_depth Operand c
less_deep c = grind (arith, nat_tests)

least_deep : (c : Counts) → operand_depth Disjunction c ≤ operand_depth Conjunction c
least_deep c = grind (arith, nat_tests)

no_less : (c : Counts) → c.depth ≤ operand_depth Disjunction c
no_less c = grind (arith, nat_tests)

-- what tokens have of what is counted, as an operand whose place asks for this binding: behind them as many
-- parentheses are open as before them, and between them so many more at most
record Has (least : Binding) (a : List Lexeme) (c : Counts) : Type 0 where
  texts_are : texts a ≡ c.texts
  words_are : word_count atom_words a ≡ c.words
  nots_are : word_count (codes "not" ∷ []) a ≡ c.nots
  rise : ℕ
  rises : (d : ℕ) (r : List Lexeme) → most_open d (a ++ r) ≡ max (d + rise) (most_open d r)
  deep : operand_depth least c ≤ rise

has_atom : (a : List Lexeme) (p : Pred) → IsAtom a p → Has Operand a (counts p)
has_atom a _ (IsAtom.yes e) = rw (e, fold_true Counts counts_of) (record {
  texts_are = refl;
  words_are = refl;
  nots_are = refl;
  rise = 0;
  rises = λ d r. omega (arith, most_open_front d r);
  deep = omega arith;
})
has_atom a _ (IsAtom.no e) = rw (e, fold_false Counts counts_of) (record {
  texts_are = refl;
  words_are = refl;
  nots_are = refl;
  rise = 0;
  rises = λ d r. omega (arith, most_open_front d r);
  deep = omega arith;
})
has_atom a _ (IsAtom.exists path e) = rw (e, fold_exists Counts counts_of path) (record {
  texts_are = refl;
  words_are = refl;
  nots_are = refl;
  rise = 1;
  rises = λ d r. omega (arith, closing d (r), most_open_front d r);
  deep = omega arith;
})
has_atom a _ (IsAtom.same left right e) = rw (e, fold_same Counts counts_of left right) (record {
  texts_are = refl;
  words_are = refl;
  nots_are = refl;
  rise = 1;
  rises = λ d r. omega (arith, closing d (r), most_open_front d r);
  deep = omega arith;
})
has_atom a _ (IsAtom.size path size e) = rw (e, fold_size Counts counts_of path size) (record {
  texts_are = refl;
  words_are = refl;
  nots_are = refl;
  rise = 1;
  rises = λ d r. omega (arith, closing d (Sign 61 ∷ Number (Some size) ∷ r), most_open_front d r);
  deep = omega arith;
})
has_atom a _ (IsAtom.content path text e) = rw (e, fold_content Counts counts_of path text) (record {
  texts_are = omega arith;
  words_are = refl;
  nots_are = refl;
  rise = 1;
  rises = λ d r. omega (arith, closing d (Sign 61 ∷ Text text ∷ r), most_open_front d r);
  deep = omega arith;
})
has_atom a _ (IsAtom.bytes path at text early e) = rw (e, fold_bytes Counts counts_of path at text) (record {
  texts_are = omega arith;
  words_are = refl;
  nots_are = refl;
  rise = 1;
  rises = λ d r. omega (arith, closing d (Sign 61 ∷ Text text ∷ r), most_open_front d r);
  deep = omega arith;
})
has_atom a _ (IsAtom.attr path key value e) = rw (e, fold_attr Counts counts_of path key value) (record {
  texts_are = refl;
  words_are = ap suc (one_word atom_words key);
  nots_are = one_word (codes "not" ∷ []) key;
  rise = 1;
  rises = λ d r. omega (arith, closing d (Sign 61 ∷ Number (Some value) ∷ r), most_open_front d r);
  deep = omega arith;
})
has_atom a _ (IsAtom.seen word e) = rw (e, fold_seen Counts counts_of word) (record {
  texts_are = refl;
  words_are = ap suc (one_word atom_words word);
  nots_are = one_word (codes "not" ∷ []) word;
  rise = 1;
  rises = λ d r. omega (arith, closing d (r), most_open_front d r);
  deep = omega arith;
})

has_and : (a b : List Lexeme) (p q : Pred) → Has Conjunction a (counts p) → Has Operand b (counts q) → Has Conjunction (a ++ Word (codes "and") ∷ b) (counts (pred.And p q))
has_and a b p q left right = rw (fold_and Counts counts_of p q) (record {
  texts_are = omega (arith, texts-append a (Word (codes "and") ∷ b), left.texts_are, right.texts_are);
  words_are = words-append atom_words a (Word (codes "and") ∷ b) ∙ ap₂ ◌+◌ left.words_are right.words_are;
  nots_are = words-append (codes "not" ∷ []) a (Word (codes "and") ∷ b) ∙ ap₂ ◌+◌ left.nots_are right.nots_are;
  rise = max left.rise right.rise;
  rises = λ d r. omega (arith, ap (most_open d) (append_assoc a (Word (codes "and") ∷ b) r), left.rises d (Word (codes "and") ∷ b ++ r), right.rises d r, most_open_front d r);
  deep = omega (arith, left.deep, right.deep);
})

has_or : (a b : List Lexeme) (p q : Pred) → Has Disjunction a (counts p) → Has Conjunction b (counts q) → Has Disjunction (a ++ Word (codes "or") ∷ b) (counts (pred.Or p q))
has_or a b p q left right = rw (fold_or Counts counts_of p q) (record {
  texts_are = omega (arith, texts-append a (Word (codes "or") ∷ b), left.texts_are, right.texts_are);
  words_are = words-append atom_words a (Word (codes "or") ∷ b) ∙ ap₂ ◌+◌ left.words_are right.words_are;
  nots_are = words-append (codes "not" ∷ []) a (Word (codes "or") ∷ b) ∙ ap₂ ◌+◌ left.nots_are right.nots_are;
  rise = max left.rise right.rise;
  rises = λ d r. omega (arith, ap (most_open d) (append_assoc a (Word (codes "or") ∷ b) r), left.rises d (Word (codes "or") ∷ b ++ r), right.rises d r, most_open_front d r);
  deep = omega (arith, left.deep, right.deep);
})

has_inner : (a : List Lexeme) (c : Counts) → Has Disjunction a c → Has Operand (Sign 40 ∷ a ++ Sign 41 ∷ []) c
has_inner a c inner = record {
  texts_are = omega (arith, texts-append a (Sign 41 ∷ []), inner.texts_are);
  words_are = omega (arith, words-append atom_words a (Sign 41 ∷ []), inner.words_are);
  nots_are = omega (arith, words-append (codes "not" ∷ []) a (Sign 41 ∷ []), inner.nots_are);
  rise = suc inner.rise;
  rises = λ d r. omega (arith, ap (most_open (suc d)) (append_assoc a (Sign 41 ∷ []) r), inner.rises (suc d) (Sign 41 ∷ r), closing d r, most_open_front d r);
  deep = grind (arith, nat_tests, inner.deep);
}

has_not : (a : List Lexeme) (p : Pred) → Has Operand a (counts p) → Has Operand (Word (codes "not") ∷ a) (counts (pred.Not p))
has_not a p inner = rw (fold_not Counts counts_of p) (record {
  texts_are = omega (arith, inner.texts_are);
  words_are = inner.words_are;
  nots_are = ap suc inner.nots_are;
  rise = inner.rise;
  rises = λ d r. omega (arith, inner.rises d r, most_open_front d r);
  deep = inner.deep;
})

has : (b : Binding) (a : List Lexeme) (p : Pred) → IsExpression b a p → Has b a (counts p)
has _ _ _ (IsExpression.atom a p is) = has_atom a p is
has _ _ _ (IsExpression.inner a p h) = has_inner a (counts p) (has Disjunction a p h)
has _ _ _ (IsExpression.negation a p h) = has_not a p (has Operand a p h)
has _ _ _ (IsExpression.tighter a p h) =
    let found = has Operand a p h in
    record {
      texts_are = found.texts_are;
      words_are = found.words_are;
      nots_are = found.nots_are;
      rise = found.rise;
      rises = found.rises;
      deep = omega (arith, found.deep, less_deep (counts p));
    }
has _ _ _ (IsExpression.both a b p q h g) = has_and a b p q (has Conjunction a p h) (has Operand b q g)
has _ _ _ (IsExpression.single a p h) =
    let found = has Conjunction a p h in
    record {
      texts_are = found.texts_are;
      words_are = found.words_are;
      nots_are = found.nots_are;
      rise = found.rise;
      rises = found.rises;
      deep = omega (arith, found.deep, least_deep (counts p));
    }
has _ _ _ (IsExpression.either a b p q h g) = has_or a b p q (has Disjunction a p h) (has Conjunction b q g)

pub short_predicate : (tokens : List Lexeme) (p : Pred) → IsShort tokens → IsPredicate tokens p → IsShortPred p
short_predicate tokens p short h =
    let found = has Disjunction tokens p h in
    record {
      texts = omega (arith, found.texts_are, texts-sum tokens, short.texts);
      words = omega (arith, found.words_are, short.atoms);
      nots = omega (arith, found.nots_are, short.nots);
      depth = omega (arith, no_less (counts p), found.deep, found.rises 0 [], ap (most_open 0) (append-nil tokens), short.depth);
    }
