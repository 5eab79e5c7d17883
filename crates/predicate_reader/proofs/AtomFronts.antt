-- Tokens begin with one atom at most, and it is one of the grammar.
use Rattle.std.proofs.Common.{◌≡◌, ℕ, if◌then◌else◌, List, [], ◌∷◌, ◌++◌, Some, bytes_eq, codes, refl, sym, ap, ◌∙◌}
use Rattle.litmus_syntax.specs.declared.pred.Pred.{Pred}
use Rattle.lexeme_reader.specs.declared.reading.Lexeme.{Lexeme}
use Rattle.lexeme_reader.specs.declared.reading.Lexeme.TheVariants.{Word, Number, Path, Text, Sign}
use Rattle.predicate_reader.specs.declared.atoms.AtomName.{AtomName}
use Rattle.predicate_reader.specs.declared.atoms.AtomName.TheVariants as name
use Rattle.predicate_reader.specs.AtomNames.{atom_text}
use Rattle.predicate_reader.specs.Predicates.{IsAtom}
use Rattle.predicate_reader.specs.AtomFronts.{CompletesAtom, BeginsAtom}

-- the name that a word is, if it is one
abbrev name_of : List ℕ → AtomName
name_of word =
    if bytes_eq word (codes "true") then name.True
    else (if bytes_eq word (codes "false") then name.False
    else (if bytes_eq word (codes "exists") then name.Exists
    else (if bytes_eq word (codes "same") then name.Same
    else (if bytes_eq word (codes "size") then name.Size
    else (if bytes_eq word (codes "content") then name.Content
    else (if bytes_eq word (codes "bytes") then name.Bytes
    else (if bytes_eq word (codes "attr") then name.Attr
    else name.Seen)))))))

named : (n : AtomName) → name_of (atom_text n) ≡ n
named name.True = refl
named name.False = refl
named name.Exists = refl
named name.Same = refl
named name.Size = refl
named name.Content = refl
named name.Bytes = refl
named name.Attr = refl
named name.Seen = refl

one_name : (m n : AtomName) → atom_text m ≡ atom_text n → m ≡ n
one_name m n same = sym (named m) ∙ ap name_of same ∙ named n

-- what completes an atom is read in one way
one_completion : (n : AtomName) (tokens us : List Lexeme) (p q : Pred) (r s : List Lexeme) → CompletesAtom n tokens p r → CompletesAtom n us q s
    → tokens ≡ us → (p ≡ q) × (r ≡ s)
one_completion name.True tokens us p q r s a b e = (cc (a.0, b.0), cc (a.1, b.1, e))
one_completion name.False tokens us p q r s a b e = (cc (a.0, b.0), cc (a.1, b.1, e))
one_completion name.Exists tokens us p q r s a b e = (cc (a.1, b.1, a.2, b.2, e), cc (a.2, b.2, e))
one_completion name.Same tokens us p q r s a b e = (cc (a.2, b.2, a.3, b.3, e), cc (a.3, b.3, e))
one_completion name.Size tokens us p q r s a b e = (cc (a.2, b.2, a.3, b.3, e), cc (a.3, b.3, e))
one_completion name.Content tokens us p q r s a b e = (cc (a.2, b.2, a.3, b.3, e), cc (a.3, b.3, e))
one_completion name.Bytes tokens us p q r s a b e = (cc (a.4, b.4, a.5, b.5, e), cc (a.5, b.5, e))
one_completion name.Attr tokens us p q r s a b e = (cc (a.3, b.3, a.4, b.4, e), cc (a.4, b.4, e))
one_completion name.Seen tokens us p q r s a b e = (cc (a.1, b.1, a.2, b.2, e), cc (a.2, b.2, e))

-- two atoms at the front of the same tokens are one
pub one_atom : (m n : AtomName) (tokens us : List Lexeme) (p q : Pred) (r s : List Lexeme) → CompletesAtom m tokens p r → CompletesAtom n us q s
    → Word (atom_text m) ∷ tokens ≡ Word (atom_text n) ∷ us → (p ≡ q) × (r ≡ s)
one_atom m n tokens us p q r s a b e =
    let same : m ≡ n = one_name m n (cc e) in
    one_completion m tokens us p q r s a (rw same b) (cc e)

-- the word `not` is no name of an atom
pub not_named : (n : AtomName) → atom_text n ≡ codes "not" → ⊥
not_named name.True e = cc e
not_named name.False e = cc e
not_named name.Exists e = cc e
not_named name.Same e = cc e
not_named name.Size e = cc e
not_named name.Content e = cc e
not_named name.Bytes e = cc e
not_named name.Attr e = cc e
not_named name.Seen e = cc e

-- what completes an atom ends with it
pub atom_front : (n : AtomName) (tokens : List Lexeme) (p : Pred) (r : List Lexeme) → CompletesAtom n tokens p r
    → (b : List Lexeme) × (tokens ≡ b ++ r) × IsAtom (Word (atom_text n) ∷ b) p
atom_front name.True tokens p r a = ([], a.1, rw a.0 (IsAtom.yes refl))
atom_front name.False tokens p r a = ([], a.1, rw a.0 (IsAtom.no refl))
atom_front name.Exists tokens p r a = (Sign 40 ∷ Path a.0 ∷ Sign 41 ∷ [], a.2, rw a.1 (IsAtom.exists a.0 refl))
atom_front name.Same tokens p r a = (Sign 40 ∷ Path a.0 ∷ Sign 44 ∷ Path a.1 ∷ Sign 41 ∷ [], a.3, rw a.2 (IsAtom.same a.0 a.1 refl))
atom_front name.Size tokens p r a = (Sign 40 ∷ Path a.0 ∷ Sign 41 ∷ Sign 61 ∷ Number (Some a.1) ∷ [], a.3, rw a.2 (IsAtom.size a.0 a.1 refl))
atom_front name.Content tokens p r a = (Sign 40 ∷ Path a.0 ∷ Sign 41 ∷ Sign 61 ∷ Text a.1 ∷ [], a.3, rw a.2 (IsAtom.content a.0 a.1 refl))
atom_front name.Bytes tokens p r a =
    (Sign 40 ∷ Path a.0 ∷ Sign 44 ∷ Number (Some a.1) ∷ Sign 41 ∷ Sign 61 ∷ Text a.2 ∷ [], a.5, rw a.4 (IsAtom.bytes a.0 a.1 a.2 a.3 refl))
atom_front name.Attr tokens p r a =
    (Sign 40 ∷ Path a.0 ∷ Sign 44 ∷ Word a.1 ∷ Sign 41 ∷ Sign 61 ∷ Number (Some a.2) ∷ [], a.4, rw a.3 (IsAtom.attr a.0 a.1 a.2 refl))
atom_front name.Seen tokens p r a = (Sign 40 ∷ Word a.0 ∷ Sign 41 ∷ [], a.2, rw a.1 (IsAtom.seen a.0 refl))

-- an atom of the grammar stands at the front of its tokens and any others
pub begins_atom : (lexemes : List Lexeme) (p : Pred) → IsAtom lexemes p → (r : List Lexeme) → BeginsAtom (lexemes ++ r) p r
begins_atom lexemes _ (IsAtom.yes e) r = (name.True, r, rw e refl, (refl, refl))
begins_atom lexemes _ (IsAtom.no e) r = (name.False, r, rw e refl, (refl, refl))
begins_atom lexemes _ (IsAtom.exists path e) r = (name.Exists, Sign 40 ∷ Path path ∷ Sign 41 ∷ r, rw e refl, (path, refl, refl))
begins_atom lexemes _ (IsAtom.same left right e) r =
    (name.Same, Sign 40 ∷ Path left ∷ Sign 44 ∷ Path right ∷ Sign 41 ∷ r, rw e refl, (left, right, refl, refl))
begins_atom lexemes _ (IsAtom.size path size e) r =
    (name.Size, Sign 40 ∷ Path path ∷ Sign 41 ∷ Sign 61 ∷ Number (Some size) ∷ r, rw e refl, (path, size, refl, refl))
begins_atom lexemes _ (IsAtom.content path text e) r =
    (name.Content, Sign 40 ∷ Path path ∷ Sign 41 ∷ Sign 61 ∷ Text text ∷ r, rw e refl, (path, text, refl, refl))
begins_atom lexemes _ (IsAtom.bytes path at text early e) r =
    (name.Bytes, Sign 40 ∷ Path path ∷ Sign 44 ∷ Number (Some at) ∷ Sign 41 ∷ Sign 61 ∷ Text text ∷ r, rw e refl, (path, at, text, early, refl, refl))
begins_atom lexemes _ (IsAtom.attr path key value e) r =
    (name.Attr, Sign 40 ∷ Path path ∷ Sign 44 ∷ Word key ∷ Sign 41 ∷ Sign 61 ∷ Number (Some value) ∷ r, rw e refl, (path, key, value, refl, refl))
begins_atom lexemes _ (IsAtom.seen word e) r = (name.Seen, Sign 40 ∷ Word word ∷ Sign 41 ∷ r, rw e refl, (word, refl, refl))
