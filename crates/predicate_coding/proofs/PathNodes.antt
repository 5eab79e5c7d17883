-- Atoms on a path, with a slot or without.
use Rattle.std.proofs.Common.{ℕ, ◌<◌, Bool, false, List, [], ◌∷◌, length, map, Option, Some, None, option_and_then, Contains, refl, ◌∙◌, ap, arith}
use Rattle.std.specs.List.{range_with_len}
use Rattle.std.proofs.lemmas.List.{get_or-map, length-map}
use Rattle.litmus_syntax.specs.declared.pred.Pred.{Pred}
use Rattle.clause_store.proofs.GeneralLists.{Contains-map, Contains-from_filter, Contains-head_is}
use Rattle.fer_events.specs.States.{State, after_numbers, start_state}
use Rattle.fer_events.specs.Tables.{Trace, IsTrace, file_count}
use Rattle.fer_events.specs.Truth.{on_file, item_at}
use Rattle.value_coding.specs.Cells.{held_by}
use Rattle.value_coding.specs.declared.reading.Part.{Part}
use Rattle.value_coding.specs.declared.reading.Part.TheVariants.{Name, Size, Places}
use Rattle.value_coding.specs.Readings.{key_part, at_slot, readings, may_hold}
use Rattle.predicate_coding.specs.declared.asked.Asked.{Asked}
use Rattle.predicate_coding.specs.declared.asked.Asked.TheVariants.{Presence, ItsSize, Content, TextAt, Attribute}
use Rattle.predicate_coding.specs.Asking.{meets}
use Rattle.value_coding.specs.declared.cell.CodedCell.{CodedCell}
use Rattle.predicate_coding.specs.CellChoices.{candidates, candidates_below}
use Rattle.predicate_coding.specs.AtomNodes.{file_node, path_node}
use Rattle.predicate_coding.proofs.Meets.{parts_of}
use Rattle.predicate_coding.proofs.Told.{Tells, Knows}
use Rattle.predicate_coding.proofs.Fits.{Keyed}
use Rattle.predicate_coding.proofs.HeldFiles.{may-there, file-node-true, file-node-made}
use Rattle.predicate_coding.proofs.CandidateRows.{below-read}
use Rattle.predicate_coding.proofs.Made.{Says, IsMade, never-says, never-made}

has-name : (asked : Asked) → Contains (parts_of asked) Name
has-name Presence = Contains-head_is Name [] Name refl
has-name (ItsSize size) = Contains-head_is Name (Size ∷ []) Name refl
has-name (Content text) = Contains-head_is Name (Size ∷ Places 0 (length text) ∷ []) Name refl
has-name (TextAt at text) = Contains-head_is Name (Size ∷ Places at (length text) ∷ []) Name refl
has-name (Attribute key value) = Contains-head_is Name (key_part key) Name refl

-- the key of what is asked, where it has a number, is one of the trace
abbrev pub KeyThere : Trace → Asked → Type 0
KeyThere t (Attribute (Some key) value) = key < length t.keys
KeyThere t (Attribute None value) = Unit {0}
KeyThere t Presence = Unit {0}
KeyThere t (ItsSize size) = Unit {0}
KeyThere t (Content text) = Unit {0}
KeyThere t (TextAt at text) = Unit {0}

-- the path's slot, if it has one, is one of the trace
abbrev pub SlotThere : Trace → Option ℕ → Type 0
SlotThere t None = Unit {0}
SlotThere t (Some slot) = slot < length t.slots

module _ (t : Trace) (q : Pred) (rules : IsTrace t) (order : List ℕ) (cs : List CodedCell) where
  abbrev s : State
  s = after_numbers t.events (start_state t) order

  keyed : (v : List Bool) (tells : Tells t q v (after_numbers t.events (start_state t) order) cs) (asked : Asked) → KeyThere t asked → Keyed t q rules order v cs tells asked
  keyed v tells (Attribute (Some key) value) h = h
  keyed v tells (Attribute None value) h = tt
  keyed v tells Presence h = tt
  keyed v tells (ItsSize size) h = tt
  keyed v tells (Content text) h = tt
  keyed v tells (TextAt at text) h = tt

  abbrev Reads : Option ℕ → Asked → Type 0
  Reads o asked = (r : ℕ × Part) → Contains (at_slot o (parts_of asked)) r → Contains (readings t q) r

  reads-part : (slot : ℕ) (asked : Asked) → Reads (Some slot) asked → (part : Part) → Contains (parts_of asked) part → Contains (readings t q) (slot, part)
  reads-part slot asked reads part h = reads (slot, part) (Contains-map (λ (part : Part). (slot, part)) (parts_of asked) part h)

  pub file_node-says :
      (v : List Bool) → Knows t q order cs v → (slot : ℕ) (asked : Asked) → slot < length t.slots → KeyThere t asked → Reads (Some slot) asked
      → Says v (file_node t cs asked slot) (on_file (held_by s slot) (meets s asked))
  file_node-says v knows slot asked there key reads first all =
      file-node-true t q rules order v cs knows.tells slot first there asked (keyed v knows.tells asked key) (reads-part slot asked reads) (has-name asked) all

  pub file_node-made :
      (slot : ℕ) (asked : Asked) → slot < length t.slots → KeyThere t asked → Reads (Some slot) asked
      → IsMade (Knows t q order cs) (file_node t cs asked slot) (on_file (held_by s slot) (meets s asked))
  file_node-made slot asked there key reads = record {
    row = map (meets s asked) (candidates t slot);
    long = length-map (candidates t slot) (meets s asked);
    makes = λ v knows first has own.
        file-node-made t q rules order v cs knows.tells slot first there asked (keyed v knows.tells asked key) (reads-part slot asked reads)
        (λ f hf.
        let kept = Contains-from_filter (may_hold t slot) (range_with_len 0 (file_count t)) f hf in
        let (short, is) = below-read (may_hold t slot) (file_count t) f kept.1 (may-there t slot f rules kept.1) in
        has (length (candidates_below t slot f)) (omega (arith, length-map (candidates t slot) (meets s asked)))
        ∙ get_or-map (meets s asked) (candidates t slot) (length (candidates_below t slot f)) 0 false short
        ∙ ap (meets s asked) is)
        own;
  }

  abbrev Held_at : Option ℕ → Option ℕ
  Held_at o = option_and_then (λ held. held) (item_at s.slots o)

  pub path_node-says :
      (v : List Bool) → Knows t q order cs v → (o : Option ℕ) (asked : Asked) → SlotThere t o → KeyThere t asked → Reads o asked
      → Says v (path_node t cs asked o) (on_file (option_and_then (λ held. held) (item_at s.slots o)) (meets s asked))
  path_node-says v knows None asked there key reads = never-says v
  path_node-says v knows (Some slot) asked there key reads = file_node-says v knows slot asked there key reads

  pub path_node-made :
      (o : Option ℕ) (asked : Asked) → SlotThere t o → KeyThere t asked → Reads o asked
      → IsMade (Knows t q order cs) (path_node t cs asked o) (on_file (option_and_then (λ held. held) (item_at s.slots o)) (meets s asked))
  path_node-made None asked there key reads = never-made (Knows t q order cs)
  path_node-made (Some slot) asked there key reads = file_node-made slot asked there key reads
