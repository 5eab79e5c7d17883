-- What is counted of a predicate as its canonical text writes it.
use Rattle.std.specs.Prelude.{ℕ, suc, ◌+◌, ◌≤◌, if◌then◌else◌, List, [], ◌∷◌, length, max, bytes_eq, codes}
use Rattle.std.specs.List.{list_any}
use Rattle.litmus_syntax.specs.declared.pred.Pred.{Pred, fold-Pred}
use Rattle.litmus_syntax.specs.declared.pred.Pred.TheOpen.{Pred-F}
use Rattle.litmus_syntax.specs.declared.pred.Pred.TheOpen as pred
use Rattle.litmus_syntax.specs.declared.pred.Binding.{Binding}
use Rattle.litmus_syntax.specs.declared.pred.Binding.TheVariants.{Disjunction, Conjunction, Operand}
use Rattle.litmus_syntax.specs.Bindings.{is_looser}

-- how many bytes its texts have together; how many of its words are one that an atom begins with, or is; how many
-- words `not` it has; the most parentheses that are open at one place; and how tightly it binds
pub record Counts : Type 0 where
  pub texts : ℕ
  pub words : ℕ
  pub nots : ℕ
  pub depth : ℕ
  pub binding : Binding

-- the words that begin an atom, or are one
abbrev pub atom_words : List (List ℕ)
atom_words =
    codes "exists" ∷ codes "same" ∷ codes "size" ∷ codes "content" ∷ codes "bytes" ∷ codes "attr" ∷ codes "seen" ∷ codes "true" ∷ codes "false" ∷ []

-- 1 for one of these words, which is counted wherever it stands, and 0 for another
abbrev pub counted : List (List ℕ) → List ℕ → ℕ
counted words word = if list_any (bytes_eq word) words then 1 else 0

-- the counts of an atom: it has one word at least, and it opens one parenthesis
abbrev pub atom_counts : ℕ → Counts
atom_counts texts = record { texts = texts; words = 1; nots = 0; depth = 1; binding = Operand }

-- `true` and `false` have no parenthesis
abbrev pub constant_counts : Counts
constant_counts = record { texts = 0; words = 1; nots = 0; depth = 0; binding = Operand }

-- an atom with a word in it, as a key
abbrev pub named_counts : List ℕ → Counts
named_counts word = record { texts = 0; words = suc (counted atom_words word); nots = counted (codes "not" ∷ []) word; depth = 1; binding = Operand }

-- the parentheses that are open in an operand whose place asks for this binding
abbrev pub operand_depth : Binding → Counts → ℕ
operand_depth least part = if is_looser part.binding least then suc part.depth else part.depth

abbrev pub joined_counts : Binding → Binding → Binding → Counts → Counts → Counts
joined_counts binding least_left least_right left right =
    record {
      texts = left.texts + right.texts;
      words = left.words + right.words;
      nots = left.nots + right.nots;
      depth = max (operand_depth least_left left) (operand_depth least_right right);
      binding = binding;
    }

abbrev pub counts_of : Pred-F Counts → Counts
counts_of pred.True = constant_counts
counts_of pred.False = constant_counts
counts_of (pred.Exists path) = atom_counts 0
counts_of (pred.Same left right) = atom_counts 0
counts_of (pred.SizeIs path size) = atom_counts 0
counts_of (pred.ContentIs path text) = atom_counts (length text)
counts_of (pred.BytesAre path at text) = atom_counts (length text)
counts_of (pred.AttrIs path key value) = named_counts key
counts_of (pred.Seen word) = named_counts word
counts_of (pred.Not inner) = record { texts = inner.texts; words = inner.words; nots = suc inner.nots; depth = operand_depth Operand inner; binding = Operand }
counts_of (pred.And left right) = joined_counts Conjunction Conjunction Operand left right
counts_of (pred.Or left right) = joined_counts Disjunction Disjunction Conjunction left right

abbrev pub counts : Pred → Counts
counts = fold-Pred Counts counts_of

-- a predicate that a question may ask: its texts have 4,096 bytes at most, it has at most 256 words that atoms begin with
-- and at most 256 words `not`, and at no place are more than 64 parentheses open
pub record IsShortPred (p : Pred) : Type 0 where
  pub texts : (counts p).texts ≤ 4096
  pub words : (counts p).words ≤ 256
  pub nots : (counts p).nots ≤ 256
  pub depth : (counts p).depth ≤ 64
