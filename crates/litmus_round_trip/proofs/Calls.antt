-- How calls are read as they are written.
use Rattle.std.proofs.Common.{◌≡◌, ℕ, ◌<◌, ◌^◌, IsTrue, ◌&&◌, List, [], ◌∷◌, ◌++◌, true, refl, sym, subst, arith, append_assoc}
use Rattle.std.specs.Prelude.{codes, decimal}
use Rattle.std.proofs.lemmas.Bool.Decides.{nat_tests}
use Rattle.text_scan.specs.Forms.{is_word}
use Rattle.litmus_syntax.specs.declared.call.Call.{Call}
use Rattle.litmus_syntax.specs.declared.call.Call.TheVariants as call
use Rattle.litmus_syntax.specs.CallText.{call_text}
use Rattle.litmus_syntax.specs.Forms.{is_formed_call, is_formed_path, is_narrow, is_byte_text}
use Rattle.litmus_syntax.specs.Texts.{path_text, quoted}
use Rattle.lexeme_reader.specs.declared.reading.Lexeme.{Lexeme}
use Rattle.lexeme_reader.specs.declared.reading.Lexeme.TheVariants.{Word, Path, Text}
use Rattle.litmus_reader.specs.Statements.{number, call_lexemes}
use Rattle.litmus_round_trip.proofs.Reading.{Reads, reads_nothing, reads_blank, reads_end}
use Rattle.litmus_round_trip.proofs.Pieces.{left, right, reads_word, reads_any_number}
use Rattle.litmus_round_trip.proofs.Paths.{reads_path}
use Rattle.litmus_round_trip.proofs.Texts.{reads_text}

pub in_range : (n : ℕ) → is_narrow n ≡ true → n < 2 ^ 32
in_range n told = grind (arith, nat_tests)

-- a path at the end of a line
pub path_ends : (path : List (List ℕ)) → IsTrue (is_formed_path path) → Reads (path_text path) (Path path ∷ [])
path_ends path form = reads_end (path_text path) (Path path ∷ []) (reads_path path [] [] form tt reads_nothing)

pub number_ends : (n : ℕ) → IsTrue (is_narrow n) → Reads (decimal n) (number n ∷ [])
number_ends n form = reads_end (decimal n) (number n ∷ []) (reads_any_number n [] [] (in_range n form) tt reads_nothing)

pub word_ends : (w : List ℕ) → IsTrue (is_word w) → Reads w (Word w ∷ [])
word_ends w form = reads_end w (Word w ∷ []) (reads_word w [] [] form tt reads_nothing)

pub text_ends : (text : List ℕ) → IsTrue (is_byte_text text) → Reads (quoted text) (Text text ∷ [])
text_ends text form = reads_end (quoted text) (Text text ∷ []) (reads_text text [] [] form reads_nothing)

-- a word, and behind a blank what follows
pub word_then : (w : List ℕ) → IsTrue (is_word w) → (rest : List ℕ) (ls : List Lexeme) → Reads rest ls → Reads (w ++ 32 ∷ rest) (Word w ∷ ls)
word_then w form rest ls reads = reads_word w (32 ∷ rest) ls form refl (reads_blank rest ls reads)

path_then : (path : List (List ℕ)) → IsTrue (is_formed_path path) → (rest : List ℕ) (ls : List Lexeme) → Reads rest ls → Reads (path_text path ++ 32 ∷ rest) (Path path ∷ ls)
path_then path form rest ls reads = reads_path path (32 ∷ rest) ls form refl (reads_blank rest ls reads)

number_then : (n : ℕ) → IsTrue (is_narrow n) → (rest : List ℕ) (ls : List Lexeme) → Reads rest ls → Reads (decimal n ++ 32 ∷ rest) (number n ∷ ls)
number_then n form rest ls reads = reads_any_number n (32 ∷ rest) ls (in_range n form) refl (reads_blank rest ls reads)

-- the text of a call says its name and what it is called on
pub reads_call : (c : Call) → IsTrue (is_formed_call c) → Reads (call_text c) (call_lexemes c)
reads_call (call.Mkdir path) form = word_then (codes "mkdir") refl _ _ (path_ends path form)
reads_call (call.Create path) form = word_then (codes "create") refl _ _ (path_ends path form)
reads_call (call.Write path at text) form =
    let front = left (is_formed_path path && is_narrow at) (is_byte_text text) form in
    subst (λ (b : List ℕ). Reads (codes "write " ++ b) (call_lexemes (call.Write path at text)))
    (sym (append_assoc (path_text path) (32 ∷ decimal at) (32 ∷ quoted text)))
    (word_then (codes "write") refl _ _ (path_then path (left (is_formed_path path) (is_narrow at) front) _ _
    (number_then at (right (is_formed_path path) (is_narrow at) front) _ _ (text_ends text (right (is_formed_path path && is_narrow at) (is_byte_text text) form)))))
reads_call (call.Append path text) form =
    word_then (codes "append") refl _ _ (path_then path (left (is_formed_path path) (is_byte_text text) form) _ _ (text_ends text (right (is_formed_path path) (is_byte_text text) form)))
reads_call (call.Truncate path size) form =
    word_then (codes "truncate") refl _ _ (path_then path (left (is_formed_path path) (is_narrow size) form) _ _ (number_ends size (right (is_formed_path path) (is_narrow size) form)))
reads_call (call.Link from to) form =
    word_then (codes "link") refl _ _ (path_then from (left (is_formed_path from) (is_formed_path to) form) _ _ (path_ends to (right (is_formed_path from) (is_formed_path to) form)))
reads_call (call.Unlink path) form = word_then (codes "unlink") refl _ _ (path_ends path form)
reads_call (call.Rename from to) form =
    word_then (codes "rename") refl _ _ (path_then from (left (is_formed_path from) (is_formed_path to) form) _ _ (path_ends to (right (is_formed_path from) (is_formed_path to) form)))
reads_call (call.Attr path key value) form =
    let front = left (is_formed_path path && is_word key) (is_narrow value) form in
    subst (λ (b : List ℕ). Reads (codes "attr " ++ b) (call_lexemes (call.Attr path key value)))
    (sym (append_assoc (path_text path) (32 ∷ key) (32 ∷ decimal value)))
    (word_then (codes "attr") refl _ _ (path_then path (left (is_formed_path path) (is_word key) front) _ _
    (word_then key (right (is_formed_path path) (is_word key) front) _ _ (number_ends value (right (is_formed_path path && is_word key) (is_narrow value) form)))))
reads_call (call.Fsync path) form = word_then (codes "fsync") refl _ _ (path_ends path form)
reads_call (call.FsyncDir path) form = word_then (codes "fsyncdir") refl _ _ (path_ends path form)
reads_call call.Sync form = word_ends (codes "sync") refl
reads_call (call.Mark word) form = word_then (codes "mark") refl _ _ (word_ends word form)
reads_call call.Begin form = word_ends (codes "begin") refl
reads_call call.Commit form = word_ends (codes "commit") refl
