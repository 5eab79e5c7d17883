-- How atoms are read as they are written.
use Rattle.std.proofs.Common.{◌≡◌, ℕ, suc, ◌+◌, ◌<◌, ◌≤◌, ◌^◌, List, [], ◌∷◌, ◌++◌, length, Bool, true, false, Some, IsTrue, refl, sym, ◌∙◌, ap, subst, arith, append_assoc}
use Rattle.std.specs.Prelude.{codes, decimal, bytes_eq, cond, if◌then◌else◌}
use Rattle.std.specs.List.{list_any}
use Rattle.std.proofs.lemmas.Bool.Decides.{nat_tests}
use Rattle.text_scan.specs.Bytes.{is_path_byte, is_name_byte}
use Rattle.text_scan.specs.Forms.{is_word}
use Rattle.litmus_syntax.specs.declared.pred.Binding.TheVariants.{Operand}
use Rattle.litmus_syntax.specs.declared.pred.Pred.TheVariants as pred
use Rattle.litmus_syntax.specs.Counts.{atom_words, atom_counts, constant_counts, named_counts}
use Rattle.litmus_syntax.specs.Forms.{is_formed_path, is_narrow, is_byte_text}
use Rattle.litmus_syntax.specs.Texts.{path_text, quoted}
use Rattle.lexeme_reader.specs.declared.reading.Lexeme.{Lexeme}
use Rattle.lexeme_reader.specs.declared.reading.Lexeme.TheVariants.{Word, Number, Path, Text, Sign}
use Rattle.predicate_reader.specs.Predicates.{yes, no, exists, same, size, content, bytes, attr, seen, atom}
use Rattle.litmus_round_trip.proofs.Reading.{Reads, reads_blank}
use Rattle.litmus_round_trip.proofs.Pieces.{Stops, reads_word, reads_number, reads_sign}
use Rattle.litmus_round_trip.proofs.Paths.{reads_path}
use Rattle.litmus_round_trip.proofs.Texts.{reads_text}
use Rattle.litmus_round_trip.proofs.Calls.{in_range}
use Rattle.litmus_round_trip.proofs.Lines.{seen_both, seen_word, seen_path, seen_text, seen_number}
use Rattle.litmus_round_trip.proofs.Written.{IsWritten}

pub three : {X : Type 0} (a b c r : List X) → (a ++ b ++ c) ++ r ≡ a ++ (b ++ (c ++ r))
three a b c r = append_assoc (a ++ b) c r ∙ append_assoc a b (c ++ r)

four : {X : Type 0} (a b c d r : List X) → (a ++ b ++ c ++ d) ++ r ≡ a ++ (b ++ (c ++ (d ++ r)))
four a b c d r = append_assoc (a ++ b ++ c) d r ∙ three a b c (d ++ r)

five : {X : Type 0} (a b c d e r : List X) → (a ++ b ++ c ++ d ++ e) ++ r ≡ a ++ (b ++ (c ++ (d ++ (e ++ r))))
five a b c d e r = append_assoc (a ++ b ++ c ++ d) e r ∙ four a b c d (e ++ r)

pub six : {X : Type 0} (a b c d e f r : List X) → (a ++ b ++ c ++ d ++ e ++ f) ++ r ≡ a ++ (b ++ (c ++ (d ++ (e ++ (f ++ r)))))
six a b c d e f r = append_assoc (a ++ b ++ c ++ d ++ e) f r ∙ five a b c d e (f ++ r)

regrouped : (a b : List ℕ) (ls : List Lexeme) → a ≡ b → Reads b ls → Reads a ls
regrouped a b ls alike reads = subst (λ (x : List ℕ). Reads x ls) (sym alike) reads

-- what ends a path ends a word and a number too
name_stops : (rest : List ℕ) → Stops is_path_byte rest → Stops is_name_byte rest
name_stops [] stops = stops
name_stops (b ∷ bs) stops = off b stops
  where
    off : (b : ℕ) → is_path_byte b ≡ false → is_name_byte b ≡ false
    off b told = grind (arith, nat_tests)

-- `(`, `)`, `, ` and `) = `
opens : (rest : List ℕ) (more : List Lexeme) → Reads rest more → Reads (40 ∷ rest) (Sign 40 ∷ more)
opens rest more reads = reads_sign 40 rest more refl refl refl reads

closes : (rest : List ℕ) (more : List Lexeme) → Reads rest more → Reads (41 ∷ rest) (Sign 41 ∷ more)
closes rest more reads = reads_sign 41 rest more refl refl refl reads

parts : (rest : List ℕ) (more : List Lexeme) → Reads rest more → Reads (44 ∷ 32 ∷ rest) (Sign 44 ∷ more)
parts rest more reads = reads_sign 44 (32 ∷ rest) more refl refl refl (reads_blank rest more reads)

equals : (rest : List ℕ) (more : List Lexeme) → Reads rest more → Reads (41 ∷ 32 ∷ 61 ∷ 32 ∷ rest) (Sign 41 ∷ Sign 61 ∷ more)
equals rest more reads =
    closes (32 ∷ 61 ∷ 32 ∷ rest) (Sign 61 ∷ more) (reads_blank (61 ∷ 32 ∷ rest) (Sign 61 ∷ more) (reads_sign 61 (32 ∷ rest) more refl refl refl (reads_blank rest more reads)))

pub true_written : IsWritten (codes "true") Operand pred.True constant_counts
true_written = record {
  lexemes = Word (codes "true") ∷ [];
  reads = λ rest more stops reads. reads_word (codes "true") rest more refl (name_stops rest stops) reads;
  means = atom _ _ (yes refl);
  texts = refl;
  words = refl;
  nots = refl;
  nested = λ d. (omega arith, refl);
  small = (tt, tt);
  seen = refl;
}

pub false_written : IsWritten (codes "false") Operand pred.False constant_counts
false_written = record {
  lexemes = Word (codes "false") ∷ [];
  reads = λ rest more stops reads. reads_word (codes "false") rest more refl (name_stops rest stops) reads;
  means = atom _ _ (no refl);
  texts = refl;
  words = refl;
  nots = refl;
  nested = λ d. (omega arith, refl);
  small = (tt, tt);
  seen = refl;
}

pub exists_written : (path : List (List ℕ)) → IsTrue (is_formed_path path) → IsWritten (codes "exists(" ++ path_text path ++ codes ")") Operand (pred.Exists path) (atom_counts 0)
exists_written path form = record {
  lexemes = Word (codes "exists") ∷ Sign 40 ∷ Path path ∷ Sign 41 ∷ [];
  reads = λ rest more stops reads.
      regrouped _ _ _ (three (codes "exists(") (path_text path) (codes ")") rest)
      (reads_word (codes "exists") _ _ refl refl (opens _ _ (reads_path path _ _ form refl (closes rest more reads))));
  means = atom _ _ (exists path refl);
  texts = refl;
  words = refl;
  nots = refl;
  nested = λ d. (omega arith, omega arith);
  small = (tt, (tt, (tt, (tt, tt))));
  seen = seen_both (codes "exists(" ++ path_text path) (codes ")") (seen_both (codes "exists(") (path_text path) refl (seen_path path form)) refl;
}

pub same_written : (one two : List (List ℕ)) → IsTrue (is_formed_path one) → IsTrue (is_formed_path two)
    → IsWritten (codes "same(" ++ path_text one ++ codes ", " ++ path_text two ++ codes ")") Operand (pred.Same one two) (atom_counts 0)
same_written one two first second = record {
  lexemes = Word (codes "same") ∷ Sign 40 ∷ Path one ∷ Sign 44 ∷ Path two ∷ Sign 41 ∷ [];
  reads = λ rest more stops reads.
      regrouped _ _ _ (five (codes "same(") (path_text one) (codes ", ") (path_text two) (codes ")") rest)
      (reads_word (codes "same") _ _ refl refl (opens _ _ (reads_path one _ _ first refl (parts _ _ (reads_path two _ _ second refl (closes rest more reads))))));
  means = atom _ _ (same one two refl);
  texts = refl;
  words = refl;
  nots = refl;
  nested = λ d. (omega arith, omega arith);
  small = (tt, (tt, (tt, (tt, (tt, (tt, tt))))));
  seen =
      let start = seen_both (codes "same(") (path_text one) refl (seen_path one first) in
      let middle = seen_both (codes "same(" ++ path_text one) (codes ", ") start refl in
      let names = seen_both (codes "same(" ++ path_text one ++ codes ", ") (path_text two) middle (seen_path two second) in
      seen_both (codes "same(" ++ path_text one ++ codes ", " ++ path_text two) (codes ")") names refl;
}

pub size_written : (path : List (List ℕ)) (value : ℕ) → IsTrue (is_formed_path path) → IsTrue (is_narrow value)
    → IsWritten (codes "size(" ++ path_text path ++ codes ") = " ++ decimal value) Operand (pred.SizeIs path value) (atom_counts 0)
size_written path value form number = record {
  lexemes = Word (codes "size") ∷ Sign 40 ∷ Path path ∷ Sign 41 ∷ Sign 61 ∷ Number (Some value) ∷ [];
  reads = λ rest more stops reads.
      regrouped _ _ _ (four (codes "size(") (path_text path) (codes ") = ") (decimal value) rest)
      (reads_word (codes "size") _ _ refl refl (opens _ _ (reads_path path _ _ form refl (equals _ _ (reads_number value rest more (in_range value number) (name_stops rest stops) reads)))));
  means = atom _ _ (size path value refl);
  texts = refl;
  words = refl;
  nots = refl;
  nested = λ d. (omega arith, omega arith);
  small = (tt, (tt, (tt, (tt, (tt, (tt, tt))))));
  seen =
      let start = seen_both (codes "size(") (path_text path) refl (seen_path path form) in
      seen_both (codes "size(" ++ path_text path ++ codes ") = ") (decimal value) (seen_both (codes "size(" ++ path_text path) (codes ") = ") start refl) (seen_number value (in_range value number));
}

pub content_written : (path : List (List ℕ)) (text : List ℕ) → IsTrue (is_formed_path path) → IsTrue (is_byte_text text)
    → IsWritten (codes "content(" ++ path_text path ++ codes ") = " ++ quoted text) Operand (pred.ContentIs path text) (atom_counts (length text))
content_written path text form are_bytes = record {
  lexemes = Word (codes "content") ∷ Sign 40 ∷ Path path ∷ Sign 41 ∷ Sign 61 ∷ Text text ∷ [];
  reads = λ rest more stops reads.
      regrouped _ _ _ (four (codes "content(") (path_text path) (codes ") = ") (quoted text) rest)
      (reads_word (codes "content") _ _ refl refl (opens _ _ (reads_path path _ _ form refl (equals _ _ (reads_text text rest more are_bytes reads)))));
  means = atom _ _ (content path text refl);
  texts = omega arith;
  words = refl;
  nots = refl;
  nested = λ d. (omega arith, omega arith);
  small = (tt, (tt, (tt, (tt, (tt, (tt, tt))))));
  seen =
      let start = seen_both (codes "content(") (path_text path) refl (seen_path path form) in
      seen_both (codes "content(" ++ path_text path ++ codes ") = ") (quoted text) (seen_both (codes "content(" ++ path_text path) (codes ") = ") start refl) (seen_text text);
}

pub bytes_written : (path : List (List ℕ)) (at : ℕ) (text : List ℕ) → IsTrue (is_formed_path path) → at + length text ≤ 65536 → IsTrue (is_byte_text text)
    → IsWritten (codes "bytes(" ++ path_text path ++ codes ", " ++ decimal at ++ codes ") = " ++ quoted text) Operand (pred.BytesAre path at text) (atom_counts (length text))
bytes_written path at text form fits are_bytes =
    let number : at < 2 ^ 32 = omega (arith, fits) in
    record {
      lexemes = Word (codes "bytes") ∷ Sign 40 ∷ Path path ∷ Sign 44 ∷ Number (Some at) ∷ Sign 41 ∷ Sign 61 ∷ Text text ∷ [];
      reads = λ rest more stops reads.
          regrouped _ _ _ (six (codes "bytes(") (path_text path) (codes ", ") (decimal at) (codes ") = ") (quoted text) rest)
          (reads_word (codes "bytes") _ _ refl refl (opens _ _ (reads_path path _ _ form refl (parts _ _ (reads_number at _ _ number refl (equals _ _ (reads_text text rest more are_bytes reads)))))));
      means = atom _ _ (bytes path at text fits refl);
      texts = omega arith;
      words = refl;
      nots = refl;
      nested = λ d. (omega arith, omega arith);
      small = (tt, (tt, (tt, (tt, (tt, (tt, (tt, (tt, tt))))))));
      seen =
          let start = seen_both (codes "bytes(" ++ path_text path) (codes ", ") (seen_both (codes "bytes(") (path_text path) refl (seen_path path form)) refl in
          let place = seen_both (codes "bytes(" ++ path_text path ++ codes ", ") (decimal at) start (seen_number at number) in
          let behind = seen_both (codes "bytes(" ++ path_text path ++ codes ", " ++ decimal at) (codes ") = ") place refl in
          seen_both (codes "bytes(" ++ path_text path ++ codes ", " ++ decimal at ++ codes ") = ") (quoted text) behind (seen_text text);
    }

one_if : (t : Bool) (l : Lexeme) → length (cond t (l ∷ []) []) ≡ (if t then 1 else 0)
one_if true l = refl
one_if false l = refl

one_more_if : (t : Bool) (l : Lexeme) → suc (length (cond t (l ∷ []) [])) ≡ suc (if t then 1 else 0)
one_more_if t l = ap suc (one_if t l)

pub attr_written : (path : List (List ℕ)) (key : List ℕ) (value : ℕ) → IsTrue (is_formed_path path) → IsTrue (is_word key) → IsTrue (is_narrow value)
    → IsWritten (codes "attr(" ++ path_text path ++ codes ", " ++ key ++ codes ") = " ++ decimal value) Operand (pred.AttrIs path key value) (named_counts key)
attr_written path key value form word number = record {
  lexemes = Word (codes "attr") ∷ Sign 40 ∷ Path path ∷ Sign 44 ∷ Word key ∷ Sign 41 ∷ Sign 61 ∷ Number (Some value) ∷ [];
  reads = λ rest more stops reads.
      regrouped _ _ _ (six (codes "attr(") (path_text path) (codes ", ") key (codes ") = ") (decimal value) rest)
      (reads_word (codes "attr") _ _ refl refl (opens _ _ (reads_path path _ _ form refl (parts _ _ (reads_word key _ _ word refl
      (equals _ _ (reads_number value rest more (in_range value number) (name_stops rest stops) reads)))))));
  means = atom _ _ (attr path key value refl);
  texts = refl;
  words = one_more_if (list_any (bytes_eq key) atom_words) (Word key);
  nots = one_if (list_any (bytes_eq key) (codes "not" ∷ [])) (Word key);
  nested = λ d. (omega arith, omega arith);
  small = (tt, (tt, (tt, (tt, (tt, (tt, (tt, (tt, tt))))))));
  seen =
      let start = seen_both (codes "attr(" ++ path_text path) (codes ", ") (seen_both (codes "attr(") (path_text path) refl (seen_path path form)) refl in
      let name = seen_both (codes "attr(" ++ path_text path ++ codes ", ") key start (seen_word key word) in
      let behind = seen_both (codes "attr(" ++ path_text path ++ codes ", " ++ key) (codes ") = ") name refl in
      seen_both (codes "attr(" ++ path_text path ++ codes ", " ++ key ++ codes ") = ") (decimal value) behind (seen_number value (in_range value number));
}

pub seen_written : (word : List ℕ) → IsTrue (is_word word) → IsWritten (codes "seen(" ++ word ++ codes ")") Operand (pred.Seen word) (named_counts word)
seen_written word form = record {
  lexemes = Word (codes "seen") ∷ Sign 40 ∷ Word word ∷ Sign 41 ∷ [];
  reads = λ rest more stops reads.
      regrouped _ _ _ (three (codes "seen(") word (codes ")") rest)
      (reads_word (codes "seen") _ _ refl refl (opens _ _ (reads_word word _ _ form refl (closes rest more reads))));
  means = atom _ _ (seen word refl);
  texts = refl;
  words = one_more_if (list_any (bytes_eq word) atom_words) (Word word);
  nots = one_if (list_any (bytes_eq word) (codes "not" ∷ [])) (Word word);
  nested = λ d. (omega arith, omega arith);
  small = (tt, (tt, (tt, (tt, tt))));
  seen = seen_both (codes "seen(" ++ word) (codes ")") (seen_both (codes "seen(") word refl (seen_word word form)) refl;
}
