-- How paths are read as they are written.
use Rattle.std.proofs.Common.{◌≡◌, ℕ, ◌≤◌, ◌==◌, IsTrue, ◌&&◌, nat_le, List, [], ◌∷◌, ◌++◌, length, cond, Bool, true, false, not, refl, sym, ◌∙◌, ap, arith, append-nil, length-append}
use Rattle.std.specs.Prelude.{if◌then◌else◌, bytes_eq, codes}
use Rattle.std.specs.List.{list_all, flat_map, slice_split, onto_first}
use Rattle.std.proofs.lemmas.Bool.Decides.{nat_tests}
use Rattle.std.proofs.lemmas.List.Folds.{list_all-append}
use Rattle.text_scan.specs.declared.scanning.TokenKind.TheVariants as kind
use Rattle.text_scan.specs.Bytes.{is_name_byte, is_path_byte}
use Rattle.text_scan.specs.Forms.{is_component, is_path, components}
use Rattle.litmus_syntax.specs.Texts.{path_text}
use Rattle.litmus_syntax.specs.Forms.{is_formed_path}
use Rattle.lexeme_reader.specs.declared.reading.Lexeme.{Lexeme}
use Rattle.lexeme_reader.specs.declared.reading.Lexeme.TheVariants as says
use Rattle.litmus_round_trip.proofs.Reading.{Reads, reads_token}
use Rattle.litmus_round_trip.proofs.Pieces.{left, right, both_hold, Stops, prefix_whole, taken}

abbrev is_slash : ℕ → Bool
is_slash x = x == 47

abbrev pub slashed : List (List ℕ) → List ℕ
slashed names = flat_map (λ part. 47 ∷ part) names

no_slash : (b : ℕ) → is_name_byte b ≡ true → is_slash b ≡ false
no_slash b name = grind (arith, nat_tests)

in_path : (b : ℕ) → is_name_byte b ≡ true → is_path_byte b ≡ true
in_path b name = grind (arith, nat_tests)

names_in_path : (bs : List ℕ) → list_all is_name_byte bs ≡ true → list_all is_path_byte bs ≡ true
names_in_path [] all = refl
names_in_path (b ∷ bs) all =
    both_hold (is_path_byte b) (list_all is_path_byte bs) (in_path b (left (is_name_byte b) (list_all is_name_byte bs) all))
    (names_in_path bs (right (is_name_byte b) (list_all is_name_byte bs) all))

-- a component has one byte at least, all of them name characters
component_names : (n : List ℕ) → is_component n ≡ true → list_all is_name_byte n ≡ true
component_names n form =
    right (nat_le 1 (length n) && nat_le (length n) 64 && not (bytes_eq n (codes ".")) && not (bytes_eq n (codes ".."))) (list_all is_name_byte n) form

component_some : (n : List ℕ) → is_component n ≡ true → 1 ≤ length n
component_some n form =
    let some : nat_le 1 (length n) ≡ true =
    left (nat_le 1 (length n)) (nat_le (length n) 64)
    (left (nat_le 1 (length n) && nat_le (length n) 64) (not (bytes_eq n (codes ".")))
    (left (nat_le 1 (length n) && nat_le (length n) 64 && not (bytes_eq n (codes "."))) (not (bytes_eq n (codes "..")))
    (left (nat_le 1 (length n) && nat_le (length n) 64 && not (bytes_eq n (codes ".")) && not (bytes_eq n (codes ".."))) (list_all is_name_byte n) form))) in
    at_least (length n) some
  where
    at_least : (k : ℕ) → nat_le 1 k ≡ true → 1 ≤ k
    at_least k told = grind (arith, nat_tests)

-- a name ends at the next slash
split_front : (n rest : List ℕ) → list_all is_name_byte n ≡ true → slice_split is_slash (n ++ 47 ∷ rest) ≡ n ∷ slice_split is_slash rest
split_front [] rest names = refl
split_front (b ∷ bs) rest names =
    ap (λ (t : Bool). cond t ([] ∷ slice_split is_slash (bs ++ 47 ∷ rest)) (onto_first b (slice_split is_slash (bs ++ 47 ∷ rest)))) (no_slash b (left (is_name_byte b) (list_all is_name_byte bs) names))
    ∙ ap (onto_first b) (split_front bs rest (right (is_name_byte b) (list_all is_name_byte bs) names))

split_last : (n : List ℕ) → list_all is_name_byte n ≡ true → slice_split is_slash n ≡ n ∷ []
split_last [] names = refl
split_last (b ∷ bs) names =
    ap (λ (t : Bool). cond t ([] ∷ slice_split is_slash bs) (onto_first b (slice_split is_slash bs))) (no_slash b (left (is_name_byte b) (list_all is_name_byte bs) names))
    ∙ ap (onto_first b) (split_last bs (right (is_name_byte b) (list_all is_name_byte bs) names))

split_names : (n : List ℕ) (ns : List (List ℕ)) → is_component n ≡ true → list_all is_component ns ≡ true → slice_split is_slash (n ++ slashed ns) ≡ n ∷ ns
split_names n [] form all = ap (slice_split is_slash) (append-nil n) ∙ split_last n (component_names n form)
split_names n (m ∷ ms) form all =
    split_front n (m ++ slashed ms) (component_names n form)
    ∙ ap (λ (parts : List (List ℕ)). n ∷ parts) (split_names m ms (left (is_component m) (list_all is_component ms) all) (right (is_component m) (list_all is_component ms) all))

pub slashed_in_path : (ns : List (List ℕ)) → list_all is_component ns ≡ true → list_all is_path_byte (slashed ns) ≡ true
slashed_in_path [] all = refl
slashed_in_path (n ∷ ns) all =
    list_all-append is_path_byte n (slashed ns)
    ∙ both_hold (list_all is_path_byte n) (list_all is_path_byte (slashed ns)) (names_in_path n (component_names n (left (is_component n) (list_all is_component ns) all)))
    (slashed_in_path ns (right (is_component n) (list_all is_component ns) all))

-- the components of a written path
components_written : (n : List ℕ) (ns : List (List ℕ)) → list_all is_component (n ∷ ns) ≡ true → components (47 ∷ (n ++ slashed ns)) ≡ n ∷ ns
components_written n ns all =
    let form : is_component n ≡ true = left (is_component n) (list_all is_component ns) all in
    let some : length (n ++ slashed ns) == 0 ≡ false = let one = component_some n form in let long = length-append n (slashed ns) in grind (arith, nat_tests) in
    ap (λ (t : Bool). if t then [] else slice_split is_slash (n ++ slashed ns)) some
    ∙ split_names n ns form (right (is_component n) (list_all is_component ns) all)

-- a path, before something that is no part of it
pub reads_path : (path : List (List ℕ)) (rest : List ℕ) (ls : List Lexeme) → IsTrue (is_formed_path path) → Stops is_path_byte rest → Reads rest ls → Reads (path_text path ++ rest) (says.Path path ∷ ls)
reads_path [] rest ls form stops reads =
    reads_token kind.PathToken (47 ∷ []) rest (says.Path []) ls (taken kind.PathToken 47 [] rest refl refl (prefix_whole is_path_byte [] rest refl stops) refl) refl reads
reads_path (n ∷ ns) rest ls form stops reads =
    let tail : List ℕ = n ++ slashed ns in
    let written : components (47 ∷ tail) ≡ n ∷ ns = components_written n ns form in
    let is : is_path (47 ∷ tail) ≡ true = ap (list_all is_component) written ∙ form in
    let bytes : list_all is_path_byte tail ≡ true = slashed_in_path (n ∷ ns) form in
    reads_token kind.PathToken (47 ∷ tail) rest (says.Path (n ∷ ns)) ls
    (taken kind.PathToken 47 tail rest refl refl (prefix_whole is_path_byte tail rest bytes stops) is)
    (ap (λ (p : List (List ℕ)). says.Path p) (sym written)) reads
