-- Each predicate is read as it is written.
use Rattle.std.proofs.Common.{◌≡◌, ℕ, suc, ◌+◌, ◌≤◌, ◌&&◌, nat_le, max, List, [], ◌∷◌, ◌++◌, length, map, sum, Bool, true, IsTrue, refl, sym, ◌∙◌, ap, subst, arith, append_assoc}
use Rattle.std.specs.Prelude.{codes}
use Rattle.std.proofs.lemmas.Bool.Decides.{nat_tests}
use Rattle.text_scan.specs.Bytes.{is_path_byte}
use Rattle.text_scan.specs.Forms.{is_word}
use Rattle.litmus_syntax.specs.declared.pred.Binding.TheVariants.{Disjunction, Conjunction, Operand}
use Rattle.litmus_syntax.specs.declared.pred.Pred as whole
use Rattle.litmus_syntax.specs.declared.pred.Pred.{Pred, fold-Pred, fold-roll-Pred}
use Rattle.litmus_syntax.specs.declared.pred.Pred.TheOpen as open_pred
use Rattle.litmus_syntax.specs.declared.pred.Pred.TheVariants as pred
use Rattle.litmus_syntax.specs.Counts.{Counts, counts, counts_of, atom_words, operand_depth}
use Rattle.litmus_syntax.specs.Forms.{is_formed_pred, is_formed_of, is_formed_path, is_narrow, is_byte_text}
use Rattle.litmus_syntax.specs.PredText.{Written, written, written_of, operand, pred_text}
use Rattle.lexeme_reader.specs.declared.reading.Lexeme.{Lexeme}
use Rattle.lexeme_reader.specs.declared.reading.Lexeme.TheVariants.{Word}
use Rattle.predicate_reader.specs.Counts.{word_count, text_size}
use Rattle.predicate_reader.specs.Predicates.{negation, both, either}
use Rattle.litmus_round_trip.proofs.Reading.{Reads, reads_blank}
use Rattle.litmus_round_trip.proofs.Pieces.{Stops, left, right, reads_word}
use Rattle.litmus_round_trip.proofs.Lines.{Visible, seen_both}
use Rattle.litmus_round_trip.proofs.Nesting.{nested_word, nested_joined, texts_joined, words_joined, small_joined}
use Rattle.litmus_round_trip.proofs.Written.{IsWritten, loosen, written_operand}
use Rattle.litmus_round_trip.proofs.Atoms.{three, true_written, false_written, exists_written, same_written, size_written, content_written, bytes_written, attr_written, seen_written}
use Rattle.litmus_syntax.proofs.GeneralPredicates.{Steps, by_steps}

-- what holds of a predicate whose parts are formed
record IsRead (p : Pred) : Type 0 where
  binding : (written p).binding ≡ (counts p).binding
  is : IsWritten (written p).text (written p).binding p (counts p)

abbrev Read : Pred → Type 0
Read p = IsTrue (is_formed_pred p) → IsRead p

read_as : (p : Pred) (w : Written) (c : Counts) → written p ≡ w → counts p ≡ c → w.binding ≡ c.binding → IsWritten w.text w.binding p c → IsRead p
read_as p w c text count same is = record {
  binding = ap (λ (x : Written). x.binding) text ∙ same ∙ sym (ap (λ (x : Counts). x.binding) count);
  is = subst (λ (x : Written). IsWritten x.text x.binding p (counts p)) (sym text)
      (subst (λ (x : Counts). IsWritten w.text w.binding p x) (sym count) is);
}

-- `not` before an operand
not_written : (text : List ℕ) (p : Pred) (c : Counts) → IsWritten text Operand p c
    → IsWritten (codes "not " ++ text) Operand (pred.Not p) (record { texts = c.texts; words = c.words; nots = suc c.nots; depth = c.depth; binding = Operand })
not_written text p c w = record {
  lexemes = Word (codes "not") ∷ w.lexemes;
  reads = λ rest more stops reads. reads_word (codes "not") (32 ∷ (text ++ rest)) (w.lexemes ++ more) refl refl (reads_blank (text ++ rest) (w.lexemes ++ more) (w.reads rest more stops reads));
  means = negation w.lexemes p w.means;
  texts = let joined = texts_joined (Word (codes "not") ∷ []) w.lexemes in let inside = w.texts in omega (arith, joined, inside);
  words = w.words;
  nots = ap suc w.nots;
  nested = nested_word (codes "not") c.depth w.lexemes w.nested;
  small = (tt, w.small);
  seen = seen_both (codes "not ") text refl w.seen;
}

-- two operands with a word between them that isn't counted
record IsJoint (word : List ℕ) : Type 0 where
  form : IsTrue (is_word word)
  no_atom : word_count atom_words (Word word ∷ []) ≡ 0
  no_not : word_count (codes "not" ∷ []) (Word word ∷ []) ≡ 0
  seen : Visible word

joint_lexemes : (word : List ℕ) (xs ys : List Lexeme) → List Lexeme
joint_lexemes word xs ys = xs ++ Word word ∷ ys

joint_reads : (word : List ℕ) → IsJoint word → (a b rest : List ℕ) (xs ys more : List Lexeme)
    → ((r : List ℕ) (m : List Lexeme) → Stops is_path_byte r → Reads r m → Reads (a ++ r) (xs ++ m))
    → Reads (b ++ rest) (ys ++ more)
    → Reads ((a ++ (32 ∷ word ++ 32 ∷ []) ++ b) ++ rest) ((xs ++ Word word ∷ ys) ++ more)
joint_reads word joint a b rest xs ys more front behind =
    let bytes : (a ++ (32 ∷ word ++ 32 ∷ []) ++ b) ++ rest ≡ a ++ (32 ∷ (word ++ 32 ∷ (b ++ rest))) =
    three a (32 ∷ word ++ 32 ∷ []) b rest ∙ ap (λ (x : List ℕ). a ++ 32 ∷ x) (append_assoc word (32 ∷ []) (b ++ rest)) in
    let tokens : (xs ++ Word word ∷ ys) ++ more ≡ xs ++ (Word word ∷ (ys ++ more)) = append_assoc xs (Word word ∷ ys) more in
    let middle : Reads (word ++ 32 ∷ (b ++ rest)) (Word word ∷ (ys ++ more)) = reads_word word (32 ∷ (b ++ rest)) (ys ++ more) joint.form refl (reads_blank (b ++ rest) (ys ++ more) behind) in
    let all : Reads (a ++ (32 ∷ (word ++ 32 ∷ (b ++ rest)))) (xs ++ (Word word ∷ (ys ++ more))) =
    front (32 ∷ (word ++ 32 ∷ (b ++ rest))) (Word word ∷ (ys ++ more)) refl (reads_blank (word ++ 32 ∷ (b ++ rest)) (Word word ∷ (ys ++ more)) middle) in
    subst (λ (x : List ℕ). Reads x ((xs ++ Word word ∷ ys) ++ more)) (sym bytes) (subst (λ (l : List Lexeme). Reads (a ++ (32 ∷ (word ++ 32 ∷ (b ++ rest)))) l) (sym tokens) all)

and_joint : IsJoint (codes "and")
and_joint = record { form = refl; no_atom = refl; no_not = refl; seen = refl }

or_joint : IsJoint (codes "or")
or_joint = record { form = refl; no_atom = refl; no_not = refl; seen = refl }

-- the counts of two operands with such a word between them
counted_texts : (word : List ℕ) (xs ys : List Lexeme) (m n : ℕ) → sum (map text_size xs) ≡ m → sum (map text_size ys) ≡ n → sum (map text_size (xs ++ Word word ∷ ys)) ≡ m + n
counted_texts word xs ys m n one two =
    let first = texts_joined xs (Word word ∷ ys) in let second = texts_joined (Word word ∷ []) ys in omega (arith, first, second, one, two)

counted_words : (words : List (List ℕ)) (word : List ℕ) (xs ys : List Lexeme) (m n : ℕ) → word_count words (Word word ∷ []) ≡ 0 → word_count words xs ≡ m → word_count words ys ≡ n → word_count words (xs ++ Word word ∷ ys) ≡ m + n
counted_words words word xs ys m n none one two =
    let first = words_joined words xs (Word word ∷ ys) in let second = words_joined words (Word word ∷ []) ys in omega (arith, first, second, one, two, none)

joint_seen : (word a b : List ℕ) → IsJoint word → Visible a → Visible b → Visible (a ++ (32 ∷ word ++ 32 ∷ []) ++ b)
joint_seen word a b joint x y = seen_both (a ++ (32 ∷ word ++ 32 ∷ [])) b (seen_both a (32 ∷ word ++ 32 ∷ []) x (seen_both (32 ∷ word) (32 ∷ []) joint.seen refl)) y

and_written : (a b : List ℕ) (p q : Pred) (c d : Counts) → IsWritten a Conjunction p c → IsWritten b Operand q d
    → IsWritten (a ++ codes " and " ++ b) Conjunction (pred.And p q) (record { texts = c.texts + d.texts; words = c.words + d.words; nots = c.nots + d.nots; depth = max c.depth d.depth; binding = Conjunction })
and_written a b p q c d v w = record {
  lexemes = v.lexemes ++ Word (codes "and") ∷ w.lexemes;
  reads = λ rest more stops reads. joint_reads (codes "and") and_joint a b rest v.lexemes w.lexemes more v.reads (w.reads rest more stops reads);
  means = both v.lexemes w.lexemes p q v.means w.means;
  texts = counted_texts (codes "and") v.lexemes w.lexemes c.texts d.texts v.texts w.texts;
  words = counted_words atom_words (codes "and") v.lexemes w.lexemes c.words d.words refl v.words w.words;
  nots = counted_words (codes "not" ∷ []) (codes "and") v.lexemes w.lexemes c.nots d.nots refl v.nots w.nots;
  nested = nested_joined c.depth d.depth v.lexemes (Word (codes "and") ∷ w.lexemes) v.nested (nested_word (codes "and") d.depth w.lexemes w.nested);
  small = small_joined v.lexemes (Word (codes "and") ∷ w.lexemes) v.small (tt, w.small);
  seen = joint_seen (codes "and") a b and_joint v.seen w.seen;
}

or_written : (a b : List ℕ) (p q : Pred) (c d : Counts) → IsWritten a Disjunction p c → IsWritten b Conjunction q d
    → IsWritten (a ++ codes " or " ++ b) Disjunction (pred.Or p q) (record { texts = c.texts + d.texts; words = c.words + d.words; nots = c.nots + d.nots; depth = max c.depth d.depth; binding = Disjunction })
or_written a b p q c d v w = record {
  lexemes = v.lexemes ++ Word (codes "or") ∷ w.lexemes;
  reads = λ rest more stops reads. joint_reads (codes "or") or_joint a b rest v.lexemes w.lexemes more v.reads (w.reads rest more stops reads);
  means = either v.lexemes w.lexemes p q v.means w.means;
  texts = counted_texts (codes "or") v.lexemes w.lexemes c.texts d.texts v.texts w.texts;
  words = counted_words atom_words (codes "or") v.lexemes w.lexemes c.words d.words refl v.words w.words;
  nots = counted_words (codes "not" ∷ []) (codes "or") v.lexemes w.lexemes c.nots d.nots refl v.nots w.nots;
  nested = nested_joined c.depth d.depth v.lexemes (Word (codes "or") ∷ w.lexemes) v.nested (nested_word (codes "or") d.depth w.lexemes w.nested);
  small = small_joined v.lexemes (Word (codes "or") ∷ w.lexemes) v.small (tt, w.small);
  seen = joint_seen (codes "or") a b or_joint v.seen w.seen;
}

steps : Steps Read
unfolding whole.roll-Pred denote.Hole.Carrier.roll
steps = record {
  yes = λ form. read_as pred.True _ _ (fold-roll-Pred Written written_of open_pred.True) (fold-roll-Pred Counts counts_of open_pred.True) refl true_written;
  no = λ form. read_as pred.False _ _ (fold-roll-Pred Written written_of open_pred.False) (fold-roll-Pred Counts counts_of open_pred.False) refl false_written;
  exists = λ path form.
      let here = sym (fold-roll-Pred Bool is_formed_of (open_pred.Exists path)) ∙ form in
      read_as (pred.Exists path) _ _ (fold-roll-Pred Written written_of (open_pred.Exists path)) (fold-roll-Pred Counts counts_of (open_pred.Exists path)) refl (exists_written path here);
  same = λ one two form.
      let here = sym (fold-roll-Pred Bool is_formed_of (open_pred.Same one two)) ∙ form in
      read_as (pred.Same one two) _ _ (fold-roll-Pred Written written_of (open_pred.Same one two)) (fold-roll-Pred Counts counts_of (open_pred.Same one two)) refl
      (same_written one two (left (is_formed_path one) (is_formed_path two) here) (right (is_formed_path one) (is_formed_path two) here));
  size = λ path size form.
      let here = sym (fold-roll-Pred Bool is_formed_of (open_pred.SizeIs path size)) ∙ form in
      read_as (pred.SizeIs path size) _ _ (fold-roll-Pred Written written_of (open_pred.SizeIs path size)) (fold-roll-Pred Counts counts_of (open_pred.SizeIs path size)) refl
      (size_written path size (left (is_formed_path path) (is_narrow size) here) (right (is_formed_path path) (is_narrow size) here));
  content = λ path text form.
      let here = sym (fold-roll-Pred Bool is_formed_of (open_pred.ContentIs path text)) ∙ form in
      read_as (pred.ContentIs path text) _ _ (fold-roll-Pred Written written_of (open_pred.ContentIs path text)) (fold-roll-Pred Counts counts_of (open_pred.ContentIs path text)) refl
      (content_written path text (left (is_formed_path path) (is_byte_text text) here) (right (is_formed_path path) (is_byte_text text) here));
  bytes = λ path at text form.
      let here = sym (fold-roll-Pred Bool is_formed_of (open_pred.BytesAre path at text)) ∙ form in
      let front = left (is_formed_path path && is_byte_text text) (nat_le (at + length text) 65536) here in
      let told = right (is_formed_path path && is_byte_text text) (nat_le (at + length text) 65536) here in
      let fits : at + length text ≤ 65536 = at_most (at + length text) told in
      read_as (pred.BytesAre path at text) _ _ (fold-roll-Pred Written written_of (open_pred.BytesAre path at text)) (fold-roll-Pred Counts counts_of (open_pred.BytesAre path at text)) refl
      (bytes_written path at text (left (is_formed_path path) (is_byte_text text) front) fits (right (is_formed_path path) (is_byte_text text) front));
  attr = λ path key value form.
      let here = sym (fold-roll-Pred Bool is_formed_of (open_pred.AttrIs path key value)) ∙ form in
      let front = left (is_formed_path path && is_word key) (is_narrow value) here in
      read_as (pred.AttrIs path key value) _ _ (fold-roll-Pred Written written_of (open_pred.AttrIs path key value)) (fold-roll-Pred Counts counts_of (open_pred.AttrIs path key value)) refl
      (attr_written path key value (left (is_formed_path path) (is_word key) front) (right (is_formed_path path) (is_word key) front) (right (is_formed_path path && is_word key) (is_narrow value) here));
  seen = λ word form.
      let here = sym (fold-roll-Pred Bool is_formed_of (open_pred.Seen word)) ∙ form in
      read_as (pred.Seen word) _ _ (fold-roll-Pred Written written_of (open_pred.Seen word)) (fold-roll-Pred Counts counts_of (open_pred.Seen word)) refl (seen_written word here);
  negation = λ p read form.
      let inner = read (sym (fold-roll-Pred Bool is_formed_of (open_pred.Not p)) ∙ form) in
      read_as (pred.Not p) _ _ (fold-roll-Pred Written written_of (open_pred.Not p)) (fold-roll-Pred Counts counts_of (open_pred.Not p)) refl
      (not_written (operand Operand (written p)) p (record (counts p) { depth = operand_depth Operand (counts p) }) (written_operand Operand (written p) p (counts p) inner.binding inner.is));
  both = λ p q one two form.
      let here = sym (fold-roll-Pred Bool is_formed_of (open_pred.And p q)) ∙ form in
      let first = one (left (is_formed_pred p) (is_formed_pred q) here) in
      let second = two (right (is_formed_pred p) (is_formed_pred q) here) in
      read_as (pred.And p q) _ _ (fold-roll-Pred Written written_of (open_pred.And p q)) (fold-roll-Pred Counts counts_of (open_pred.And p q)) refl
      (and_written (operand Conjunction (written p)) (operand Operand (written q)) p q (record (counts p) { depth = operand_depth Conjunction (counts p) }) (record (counts q) { depth = operand_depth Operand (counts q) })
      (written_operand Conjunction (written p) p (counts p) first.binding first.is) (written_operand Operand (written q) q (counts q) second.binding second.is));
  either = λ p q one two form.
      let here = sym (fold-roll-Pred Bool is_formed_of (open_pred.Or p q)) ∙ form in
      let first = one (left (is_formed_pred p) (is_formed_pred q) here) in
      let second = two (right (is_formed_pred p) (is_formed_pred q) here) in
      read_as (pred.Or p q) _ _ (fold-roll-Pred Written written_of (open_pred.Or p q)) (fold-roll-Pred Counts counts_of (open_pred.Or p q)) refl
      (or_written (operand Disjunction (written p)) (operand Conjunction (written q)) p q (record (counts p) { depth = operand_depth Disjunction (counts p) }) (record (counts q) { depth = operand_depth Conjunction (counts q) })
      (written_operand Disjunction (written p) p (counts p) first.binding first.is) (written_operand Conjunction (written q) q (counts q) second.binding second.is));
}
  where
    at_most : (n : ℕ) → nat_le n 65536 ≡ true → n ≤ 65536
    at_most n told = grind (arith, nat_tests)

-- a formed predicate's text says tokens that are this predicate, with its counts
pub pred_read : (p : Pred) → IsTrue (is_formed_pred p) → IsWritten (pred_text p) Disjunction p (counts p)
pred_read p form = let r = by_steps Read steps p form in loosen Disjunction (written p).text (written p).binding p (counts p) (omega arith) r.is
