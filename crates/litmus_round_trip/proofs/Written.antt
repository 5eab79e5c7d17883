-- What is known of a written predicate: what it says, that its tokens are it, and what is counted of them.
use Rattle.std.proofs.Common.{◌≡◌, ℕ, zero, suc, ◌≤◌, List, [], ◌∷◌, ◌++◌, map, sum, Bool, true, false, refl, sym, ap, subst, arith, append_assoc}
use Rattle.std.specs.Prelude.{codes, if◌then◌else◌}
use Rattle.std.proofs.lemmas.Bool.{ltb-false}
use Rattle.text_scan.specs.Bytes.{is_path_byte}
use Rattle.litmus_syntax.specs.declared.pred.Binding.{Binding}
use Rattle.litmus_syntax.specs.declared.pred.Binding.TheVariants.{Disjunction, Conjunction, Operand}
use Rattle.litmus_syntax.specs.declared.pred.Pred.{Pred}
use Rattle.litmus_syntax.specs.Bindings.{tightness, is_looser}
use Rattle.litmus_syntax.specs.Counts.{Counts, atom_words, operand_depth}
use Rattle.litmus_syntax.specs.PredText.{Written, operand}
use Rattle.lexeme_reader.specs.declared.reading.Lexeme.{Lexeme}
use Rattle.lexeme_reader.specs.declared.reading.Lexeme.TheVariants.{Sign}
use Rattle.predicate_reader.specs.Counts.{word_count, text_size}
use Rattle.predicate_reader.specs.Predicates.{IsExpression, inner, tighter, single}
use Rattle.litmus_round_trip.proofs.Reading.{Reads}
use Rattle.litmus_round_trip.proofs.Pieces.{Stops, reads_sign}
use Rattle.litmus_round_trip.proofs.Lines.{Visible, seen_both}
use Rattle.litmus_round_trip.proofs.Nesting.{Nested, nested_inside, texts_joined, words_joined, AreSmall, small_joined}

pub record IsWritten (text : List ℕ) (binding : Binding) (p : Pred) (c : Counts) : Type 0 where
  pub lexemes : List Lexeme
  pub reads : (rest : List ℕ) (more : List Lexeme) → Stops is_path_byte rest → Reads rest more → Reads (text ++ rest) (lexemes ++ more)
  pub means : IsExpression binding lexemes p
  pub texts : sum (map text_size lexemes) ≡ c.texts
  pub words : word_count atom_words lexemes ≡ c.words
  pub nots : word_count (codes "not" ∷ []) lexemes ≡ c.nots
  pub nested : Nested c.depth lexemes
  pub small : AreSmall lexemes
  pub seen : Visible text

-- what binds tightly may stand where less is asked for
pub loosened : (a b : Binding) (ls : List Lexeme) (p : Pred) → tightness b ≤ tightness a → IsExpression a ls p → IsExpression b ls p
loosened Disjunction Disjunction ls p least e = e
loosened Disjunction Conjunction ls p least e = absurd (omega (arith, least))
loosened Disjunction Operand ls p least e = absurd (omega (arith, least))
loosened Conjunction Disjunction ls p least e = single ls p e
loosened Conjunction Conjunction ls p least e = e
loosened Conjunction Operand ls p least e = absurd (omega (arith, least))
loosened Operand Disjunction ls p least e = single ls p (tighter ls p e)
loosened Operand Conjunction ls p least e = tighter ls p e
loosened Operand Operand ls p least e = e

pub loosen : (b : Binding) (text : List ℕ) (a : Binding) (p : Pred) (c : Counts) → tightness b ≤ tightness a → IsWritten text a p c → IsWritten text b p c
loosen b text a p c least w = record {
  lexemes = w.lexemes;
  reads = w.reads;
  means = loosened a b w.lexemes p least w.means;
  texts = w.texts;
  words = w.words;
  nots = w.nots;
  nested = w.nested;
  small = w.small;
  seen = w.seen;
}

most_tight : (b : Binding) → tightness b ≤ tightness Operand
most_tight Disjunction = omega arith
most_tight Conjunction = omega arith
most_tight Operand = omega arith

-- in parentheses it binds tightly
enclosed : (b : Binding) (text : List ℕ) (a : Binding) (p : Pred) (c : Counts) → IsWritten text a p c → IsWritten (40 ∷ text ++ 41 ∷ []) b p (record c { depth = suc c.depth })
enclosed b text a p c w =
    let open_ : List Lexeme = Sign 40 ∷ (w.lexemes ++ Sign 41 ∷ []) in
    let close : List Lexeme = Sign 41 ∷ [] in
    let loose : IsExpression Disjunction w.lexemes p = loosened a Disjunction w.lexemes p (omega arith) w.means in
    let tight : IsExpression Operand open_ p = inner w.lexemes p loose in
    record {
      lexemes = open_;
      reads = λ rest more stops reads.
          let behind : Reads (41 ∷ rest) (Sign 41 ∷ more) = reads_sign 41 rest more refl refl refl reads in
          let inside : Reads (text ++ 41 ∷ rest) (w.lexemes ++ Sign 41 ∷ more) = w.reads (41 ∷ rest) (Sign 41 ∷ more) refl behind in
          let bytes : (text ++ 41 ∷ []) ++ rest ≡ text ++ 41 ∷ rest = append_assoc text (41 ∷ []) rest in
          let tokens : (w.lexemes ++ close) ++ more ≡ w.lexemes ++ Sign 41 ∷ more = append_assoc w.lexemes close more in
          let whole : Reads ((text ++ 41 ∷ []) ++ rest) ((w.lexemes ++ close) ++ more) =
          subst (λ (b : List ℕ). Reads b ((w.lexemes ++ close) ++ more)) (sym bytes) (subst (λ (l : List Lexeme). Reads (text ++ 41 ∷ rest) l) (sym tokens) inside) in
          reads_sign 40 ((text ++ 41 ∷ []) ++ rest) ((w.lexemes ++ close) ++ more) refl refl refl whole;
      means = loosened Operand b open_ p (most_tight b) tight;
      texts = let joined = texts_joined w.lexemes close in let inside = w.texts in omega (arith, joined, inside);
      words = let joined = words_joined atom_words w.lexemes close in let inside = w.words in omega (arith, joined, inside);
      nots = let joined = words_joined (codes "not" ∷ []) w.lexemes close in let inside = w.nots in omega (arith, joined, inside);
      nested = nested_inside c.depth w.lexemes w.nested;
      small = (tt, small_joined w.lexemes close w.small (tt, tt));
      seen = seen_both text (41 ∷ []) w.seen refl;
    }

not_looser : (a b : Binding) → is_looser a b ≡ false → tightness b ≤ tightness a
not_looser a b told = ltb-false (tightness a) (tightness b) told

-- an operand at a place that asks for a binding
pub written_operand : (b : Binding) (w : Written) (p : Pred) (c : Counts) → w.binding ≡ c.binding → IsWritten w.text w.binding p c
    → IsWritten (operand b w) b p (record c { depth = operand_depth b c })
written_operand b w p c same is = by_test (is_looser w.binding b) (is_looser c.binding b) refl (ap (λ (x : Binding). is_looser x b) same)
  where
    by_test : (t u : Bool) → is_looser w.binding b ≡ t → t ≡ u
        → IsWritten (if t then 40 ∷ w.text ++ 41 ∷ [] else w.text) b p (record c { depth = if u then suc c.depth else c.depth })
    by_test true true told alike = enclosed b w.text w.binding p c is
    by_test false false told alike = loosen b w.text w.binding p c (not_looser w.binding b told) is
    by_test true false told alike = cc
    by_test false true told alike = cc
