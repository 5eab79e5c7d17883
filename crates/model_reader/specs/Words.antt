-- The words of expressions: base words, kind words, and the names of definitions.
use Rattle.std.specs.Prelude.{ℕ, if◌then◌else◌, List, [], ◌∷◌, Option, Some, None, bytes_eq, codes}
use Rattle.std.specs.List.{position}
use Rattle.std.specs.Option.{option_map}
use Rattle.model_reader.specs.declared.words.Vocabulary.{Vocabulary}
use Rattle.model_reader.specs.declared.words.Vocabulary.TheVariants.{EachWord, KnownNames, KnownWords}
use Rattle.model_reader.specs.declared.expr.Expr.{Expr}
use Rattle.model_reader.specs.declared.expr.Expr.TheVariants.{Po, Id, Any, SameFile, SameBlock, SameDir, SameName, SameCall, SameTxn, Named}

-- what stands beside a word in a table
abbrev pub looked_up : {X : Type 0} → List (List ℕ × X) → List ℕ → Option X
looked_up [] word = None
looked_up (row ∷ rows) word = if bytes_eq word row.0 then Some row.1 else looked_up rows word

-- the base words, and what they are
abbrev pub base_words : List (List ℕ × Expr)
base_words =
    (codes "po", Po) ∷ (codes "id", Id) ∷ (codes "any", Any) ∷ (codes "file", SameFile) ∷ (codes "block", SameBlock)
    ∷ (codes "dir", SameDir) ∷ (codes "name", SameName) ∷ (codes "call", SameCall) ∷ (codes "txn", SameTxn) ∷ []

-- the kind words, each with the bit of its kind
abbrev pub kind_words : List (List ℕ × ℕ)
kind_words =
    (codes "write", 1) ∷ (codes "extend", 2) ∷ (codes "trunc", 4) ∷ (codes "attr", 8) ∷ (codes "link", 16) ∷ (codes "unlink", 32)
    ∷ (codes "fsync", 64) ∷ (codes "fsyncdir", 128) ∷ (codes "sync", 256) ∷ (codes "mark", 512) ∷ []

-- a word as the name of a definition: its place among the names
abbrev pub name_of : List (List ℕ) → List ℕ → Option Expr
name_of names word = option_map (λ index. Named index) (position (bytes_eq word) names)

-- what a word is, a base word or else a name
abbrev pub base_or_name : List (List ℕ) → List ℕ → Option Expr → Option Expr
base_or_name names word (Some e) = Some e
base_or_name names word None = name_of names word

-- what a word outside brackets is: a base word, or a name of these; where each word is taken, it doesn't matter which
abbrev pub word_of : Vocabulary → List (List ℕ) → List ℕ → Option Expr
word_of EachWord names word = Some Id
word_of KnownNames names word = base_or_name names word (looked_up base_words word)
word_of KnownWords names word = base_or_name names word (looked_up base_words word)

-- the bit of a word in brackets: that of a kind word, or none where each word is taken
abbrev pub bit_of : Vocabulary → List ℕ → Option ℕ
bit_of EachWord word = Some 0
bit_of KnownNames word = Some 0
bit_of KnownWords word = looked_up kind_words word
