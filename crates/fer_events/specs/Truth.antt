-- The truth of a predicate in a state.
use Rattle.std.specs.Prelude.{ℕ, ◌+◌, Bool, true, false, not, ◌&&◌, ◌||◌, ◌==◌, nat_le, List, [], length, take, drop, bytes_eq, Option, Some, is_some, slice_get, position, unwrap_or, option_and_then}
use Rattle.std.specs.Option.{option_map_or}
use Rattle.litmus_syntax.specs.declared.pred.Pred.{Pred, fold-Pred}
use Rattle.litmus_syntax.specs.declared.pred.Pred.TheOpen.{Pred-F}
use Rattle.litmus_syntax.specs.declared.pred.Pred.TheOpen as atom
use Rattle.fer_events.specs.Paths.{path_slot}
use Rattle.fer_events.specs.Tables.{Trace}
use Rattle.fer_events.specs.States.{State}

-- the slot of a path among those of the trace
abbrev pub slot_number : Trace → List (List ℕ) → Option ℕ
slot_number t path = path_slot t.dirs t.slots path

-- the number of an attribute's key, and of a mark's word
abbrev pub text_number : List (List ℕ) → List ℕ → Option ℕ
text_number table text = position (λ entry. bytes_eq entry text) table

-- the item at a place, if there is a place and an item
abbrev pub item_at : {X : Type 0} → List X → Option ℕ → Option X
item_at xs place = option_and_then (slice_get xs) place

-- the file that a path holds
abbrev pub held_file : Trace → State → List (List ℕ) → Option ℕ
held_file t s path = option_and_then (λ held. held) (item_at s.slots (slot_number t path))

abbrev pub same_file : Option ℕ → Option ℕ → Bool
same_file (Some f) (Some g) = f == g
same_file _ _ = false

abbrev pub size_of : State → ℕ → ℕ
size_of s f = unwrap_or (slice_get s.sizes f) 0

-- the first bytes of a file, as many as its size says
abbrev pub content_of : State → ℕ → List ℕ
content_of s f = take (size_of s f) (unwrap_or (slice_get s.bytes f) [])

-- the file has the text at a place
abbrev pub has_bytes : State → ℕ → List ℕ → ℕ → Bool
has_bytes s at text f = nat_le (at + length text) (size_of s f) && bytes_eq (take (length text) (drop at (content_of s f))) text

-- the file has this value of the key
abbrev pub has_value : State → Option ℕ → ℕ → ℕ → Bool
has_value s key value f = option_map_or (λ v. v == value) (option_and_then (λ v. v) (slice_get (unwrap_or (item_at s.attrs key) []) f)) false

-- an atom is false where its path holds no file
abbrev pub on_file : Option ℕ → (ℕ → Bool) → Bool
on_file held test = option_map_or test held false

-- the truth of one atom, or of a connective over the truths of its parts
abbrev pub truth_of : Trace → State → Pred-F Bool → Bool
truth_of t s atom.True = true
truth_of t s atom.False = false
truth_of t s (atom.Exists path) = is_some (held_file t s path)
truth_of t s (atom.Same left right) = same_file (held_file t s left) (held_file t s right)
truth_of t s (atom.SizeIs path size) = on_file (held_file t s path) (λ f. size_of s f == size)
truth_of t s (atom.ContentIs path text) = on_file (held_file t s path) (λ f. bytes_eq (content_of s f) text)
truth_of t s (atom.BytesAre path at text) = on_file (held_file t s path) (has_bytes s at text)
truth_of t s (atom.AttrIs path key value) = on_file (held_file t s path) (has_value s (text_number t.keys key) value)
truth_of t s (atom.Seen word) = unwrap_or (item_at s.seen (text_number t.words word)) false
truth_of t s (atom.Not inner) = not inner
truth_of t s (atom.And left right) = left && right
truth_of t s (atom.Or left right) = left || right

-- the truth of a predicate in a state of the trace
abbrev pub truth : Trace → State → Pred → Bool
truth t s pred = fold-Pred Bool (truth_of t s) pred
