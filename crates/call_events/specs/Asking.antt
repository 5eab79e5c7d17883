-- What a predicate asks for: words that must be marked, and paths that get slots.
use Rattle.std.specs.Prelude.{ℕ, Bool, nat_lt, if◌then◌else◌, List, [], ◌∷◌, ◌++◌, length, fold, Option, is_none}
use Rattle.std.specs.List.{list_any}
use Rattle.std.specs.Option.{option_or}
use Rattle.litmus_syntax.specs.declared.pred.Pred.{Pred, fold-Pred}
use Rattle.litmus_syntax.specs.declared.pred.Pred.TheOpen.{Pred-F}
use Rattle.litmus_syntax.specs.declared.pred.Pred.TheOpen as atom
use Rattle.fer_events.specs.Truth.{text_number}
use Rattle.call_events.specs.declared.files.Files.{Files}
use Rattle.call_events.specs.declared.call_kind.CallKind.{CallKind}
use Rattle.call_events.specs.declared.call_kind.CallKind.TheVariants.{UnknownMark, TooMany}
use Rattle.call_events.specs.Found.{is_dir}
use Rattle.call_events.specs.Refusals.{kind_if}
use Rattle.call_events.specs.Changes.{with_slot}

-- the words that a predicate asks for, from left to right
abbrev pub words_asked_of : Pred-F (List (List ℕ)) → List (List ℕ)
words_asked_of (atom.Seen word) = word ∷ []
words_asked_of (atom.Not inner) = inner
words_asked_of (atom.And left right) = left ++ right
words_asked_of (atom.Or left right) = left ++ right
words_asked_of atom = []

abbrev pub words_asked : Pred → List (List ℕ)
words_asked = fold-Pred (List (List ℕ)) words_asked_of

-- the paths that a predicate asks for, from left to right
abbrev pub paths_asked_of : Pred-F (List (List (List ℕ))) → List (List (List ℕ))
paths_asked_of (atom.Exists path) = path ∷ []
paths_asked_of (atom.Same left right) = left ∷ right ∷ []
paths_asked_of (atom.SizeIs path size) = path ∷ []
paths_asked_of (atom.ContentIs path text) = path ∷ []
paths_asked_of (atom.BytesAre path at text) = path ∷ []
paths_asked_of (atom.AttrIs path key value) = path ∷ []
paths_asked_of (atom.Not inner) = inner
paths_asked_of (atom.And left right) = left ++ right
paths_asked_of (atom.Or left right) = left ++ right
paths_asked_of atom = []

abbrev pub paths_asked : Pred → List (List (List ℕ))
paths_asked = fold-Pred (List (List (List ℕ))) paths_asked_of

-- a path that is asked for has a slot where its parent is a directory and it isn't one itself
abbrev pub with_asked : Files → List (List ℕ) → Files
with_asked s path = if is_dir s path then s else with_slot s path

-- the files with slots for the paths that a predicate asks for
abbrev pub asked : Files → Pred → Files
asked s pred = fold with_asked s (paths_asked pred)

-- a word is asked for that no call marks
abbrev pub has_unknown : Files → Pred → Bool
has_unknown s pred = list_any (λ word. is_none (text_number s.words word)) (words_asked pred)

-- the kind with which the question is refused
abbrev pub question_refusal : Files → Pred → Option CallKind
question_refusal s pred = option_or (kind_if (has_unknown s pred) UnknownMark) (kind_if (nat_lt 64 (length (asked s pred).slots)) TooMany)
