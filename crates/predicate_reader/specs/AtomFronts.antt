-- Private: what tokens begin with, an atom and any others behind it. Only the contracts of private functions cite it.
use Rattle.std.specs.Prelude.{◌≡◌, ℕ, ◌+◌, ◌≤◌, List, ◌∷◌, Some, length}
use Rattle.litmus_syntax.specs.declared.pred.Pred.{Pred}
use Rattle.litmus_syntax.specs.declared.pred.Pred.TheVariants as pred
use Rattle.lexeme_reader.specs.declared.reading.Lexeme.{Lexeme}
use Rattle.lexeme_reader.specs.declared.reading.Lexeme.TheVariants.{Word, Number, Path, Text, Sign}
use Rattle.predicate_reader.specs.declared.atoms.AtomName.{AtomName}
use Rattle.predicate_reader.specs.declared.atoms.AtomName.TheVariants as name
use Rattle.predicate_reader.specs.AtomNames.{atom_text}

-- the tokens behind an atom's name begin with what completes this atom, and the rest follows
abbrev pub CompletesAtom : AtomName → List Lexeme → Pred → List Lexeme → Type 0
CompletesAtom name.True tokens p rest = (p ≡ pred.True) × (tokens ≡ rest)
CompletesAtom name.False tokens p rest = (p ≡ pred.False) × (tokens ≡ rest)
CompletesAtom name.Exists tokens p rest = (path : List (List ℕ)) × (p ≡ pred.Exists path) × (tokens ≡ Sign 40 ∷ Path path ∷ Sign 41 ∷ rest)
CompletesAtom name.Same tokens p rest = (left right : List (List ℕ)) × (p ≡ pred.Same left right)
    × (tokens ≡ Sign 40 ∷ Path left ∷ Sign 44 ∷ Path right ∷ Sign 41 ∷ rest)
CompletesAtom name.Size tokens p rest = (path : List (List ℕ)) × (size : ℕ) × (p ≡ pred.SizeIs path size)
    × (tokens ≡ Sign 40 ∷ Path path ∷ Sign 41 ∷ Sign 61 ∷ Number (Some size) ∷ rest)
CompletesAtom name.Content tokens p rest = (path : List (List ℕ)) × (text : List ℕ) × (p ≡ pred.ContentIs path text)
    × (tokens ≡ Sign 40 ∷ Path path ∷ Sign 41 ∷ Sign 61 ∷ Text text ∷ rest)
CompletesAtom name.Bytes tokens p rest = (path : List (List ℕ)) × (at : ℕ) × (text : List ℕ) × (at + length text ≤ 65536) × (p ≡ pred.BytesAre path at text)
    × (tokens ≡ Sign 40 ∷ Path path ∷ Sign 44 ∷ Number (Some at) ∷ Sign 41 ∷ Sign 61 ∷ Text text ∷ rest)
CompletesAtom name.Attr tokens p rest = (path : List (List ℕ)) × (key : List ℕ) × (value : ℕ) × (p ≡ pred.AttrIs path key value)
    × (tokens ≡ Sign 40 ∷ Path path ∷ Sign 44 ∷ Word key ∷ Sign 41 ∷ Sign 61 ∷ Number (Some value) ∷ rest)
CompletesAtom name.Seen tokens p rest = (word : List ℕ) × (p ≡ pred.Seen word) × (tokens ≡ Sign 40 ∷ Word word ∷ Sign 41 ∷ rest)

-- the tokens begin with an atom, and the rest follows
abbrev pub BeginsAtom : List Lexeme → Pred → List Lexeme → Type 0
BeginsAtom tokens p rest = (name : AtomName) × (behind : List Lexeme) × (tokens ≡ Word (atom_text name) ∷ behind) × CompletesAtom name behind p rest
