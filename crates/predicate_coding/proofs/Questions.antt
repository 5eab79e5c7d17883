-- The clauses of every part of a question: what they say, and that there are values for them.
use Rattle.std.proofs.Common.{◌≡◌, ℕ, ◌<◌, Bool, ◌&&◌, ◌||◌, List, [], ◌∷◌, length, Option, Some, None, is_some, Contains, refl, sym, ◌∙◌, subst}
use Rattle.std.specs.Prelude.{option_and_then}
use Rattle.std.proofs.lemmas.List.Quantifiers.{position-Some}
use Rattle.std.proofs.lemmas.List.Elements.{Contains-append_left, Contains-append_right}
use Rattle.litmus_syntax.specs.declared.pred.Pred.{Pred}
use Rattle.litmus_syntax.specs.declared.pred.Pred.TheVariants as pred
use Rattle.fer_events.specs.States.{State, after_numbers, start_state}
use Rattle.fer_events.specs.Tables.{Trace, IsTrace}
use Rattle.fer_events.specs.declared.tables.SlotName.{SlotName}
use Rattle.fer_events.specs.Paths.{path_entry, same_entry, entry_number}
use Rattle.fer_events.specs.Truth.{slot_number, text_number, on_file, held_file, truth}
use Rattle.order_coding.specs.Variables.{IsNumber}
use Rattle.value_coding.specs.declared.reading.Part.{Part}
use Rattle.value_coding.specs.declared.reading.Part.TheVariants.{Name}
use Rattle.value_coding.specs.Readings.{at_slot, readings}
use Rattle.value_coding.proofs.GeneralReadings.{readings-Exists, readings-Same, readings-SizeIs, readings-ContentIs, readings-BytesAre, readings-AttrIs, readings-Not, readings-And, readings-Or}
use Rattle.predicate_coding.specs.declared.asked.Asked.{Asked}
use Rattle.predicate_coding.specs.declared.asked.Asked.TheVariants.{Presence, ItsSize, Content, TextAt, Attribute}
use Rattle.predicate_coding.specs.Asking.{meets}
use Rattle.value_coding.specs.declared.cell.CodedCell.{CodedCell}
use Rattle.predicate_coding.specs.AtomNodes.{Node, path_node}
use Rattle.predicate_coding.specs.Nodes.{node, and_clauses, or_clauses}
use Rattle.predicate_coding.proofs.Folds.{node-True, node-False, node-Exists, node-Same, node-SizeIs, node-ContentIs, node-BytesAre, node-AttrIs, node-Seen, node-Not, node-And, node-Or, truth-True, truth-False, truth-Exists, truth-Same, truth-SizeIs, truth-ContentIs, truth-BytesAre, truth-AttrIs, truth-Seen, truth-Not, truth-And, truth-Or}
use Rattle.litmus_syntax.proofs.GeneralPredicates.{Steps, by_steps}
use Rattle.predicate_coding.proofs.Meets.{parts_of}
use Rattle.predicate_coding.proofs.Told.{Knows}
use Rattle.predicate_coding.proofs.Made.{Says, IsMade, always-says, never-says, not_node-says, two_node-says, and-says, or-says, always-made, never-made, not_node-made, two_node-made, and-made, or-made}
use Rattle.predicate_coding.proofs.PathNodes.{KeyThere, SlotThere, path_node-says, path_node-made}
use Rattle.predicate_coding.proofs.SeenNodes.{WordThere, seen_node-says, seen_node-made}
use Rattle.predicate_coding.proofs.SameNodes.{same_node-says, same_node-made}

-- numbers that are found are there
entry-found : (slots : List SlotName) (entry : Option SlotName) (slot : ℕ) → option_and_then (entry_number slots) entry ≡ Some slot → slot < length slots
entry-found slots None slot e = cc
entry-found slots (Some entry) slot e = (position-Some (λ slot. same_entry slot entry) slots slot entry e).0

slot-found : (t : Trace) (path : List (List ℕ)) (o : Option ℕ) → slot_number t path ≡ o → SlotThere t o
slot-found t path None e = tt
slot-found t path (Some slot) e = entry-found t.slots (path_entry t.dirs path) slot e

key-found : (t : Trace) (key : List ℕ) (value : ℕ) (o : Option ℕ) → text_number t.keys key ≡ o → KeyThere t (Attribute o value)
key-found t key value None e = tt
key-found t key value (Some number) e = (position-Some _ t.keys number [] e).0

word-found : (t : Trace) (word : List ℕ) (o : Option ℕ) → text_number t.words word ≡ o → WordThere t o
word-found t word None e = tt
word-found t word (Some number) e = (position-Some _ t.words number [] e).0

-- an atom that asks for nothing is true where its path holds a file
exists-held : (s : State) (o : Option ℕ) → is_some o ≡ on_file o (meets s Presence)
exists-held s None = refl
exists-held s (Some f) = refl

module _ (t : Trace) (q : Pred) (rules : IsTrace t) (order : List ℕ) (within : (e : ℕ) → Contains order e → IsNumber (length t.events) e) (cs : List CodedCell) where
  abbrev s : State
  s = after_numbers t.events (start_state t) order

  -- the part reads nothing but what the question reads
  abbrev pub IsPart : Pred → Type 0
  IsPart p = (r : ℕ × Part) → Contains (readings t p) r → Contains (readings t q) r

  part-reads : (p : Pred) (rs : List (ℕ × Part)) → readings t p ≡ rs → IsPart p → (r : ℕ × Part) → Contains rs r → Contains (readings t q) r
  part-reads p rs e part r h = part r (subst (λ (xs : List (ℕ × Part)). Contains xs r) (sym e) h)

  module _ (v : List Bool) (knows : Knows t q order cs v) where
    says-as : (p : Pred) (x : Node) (b : Bool) → node t cs p ≡ x → truth t s p ≡ b → Says v x b → Says v (node t cs p) (truth t s p)
    says-as p x b e f says = rw (e, f) says

    path-says : (p : Pred) (path : List (List ℕ)) (asked : Asked) → readings t p ≡ at_slot (slot_number t path) (parts_of asked) → KeyThere t asked → IsPart p
        → Says v (path_node t cs asked (slot_number t path)) (on_file (held_file t s path) (meets s asked))
    path-says p path asked e key part = path_node-says t q rules order cs v knows (slot_number t path) asked (slot-found t path (slot_number t path) refl) key (part-reads p _ e part)

    says-steps : Steps (λ p. IsPart p → Says v (node t cs p) (truth t s p))
    says-steps = record {
      yes = λ part. says-as pred.True _ _ (node-True t cs) (truth-True t s) (always-says v);
      no = λ part. says-as pred.False _ _ (node-False t cs) (truth-False t s) (never-says v);
      exists = λ path part.
          says-as (pred.Exists path) _ _ (node-Exists t cs path) (truth-Exists t s path ∙ exists-held s (held_file t s path)) (path-says (pred.Exists path) path Presence (readings-Exists t path) tt part);
      same = λ left right part.
          let reads = part-reads (pred.Same left right) _ (readings-Same t left right) part in
          says-as (pred.Same left right) _ _ (node-Same t cs left right) (truth-Same t s left right)
          (same_node-says t q rules order cs v knows (slot_number t left) (slot_number t right) (slot-found t left (slot_number t left) refl) (slot-found t right (slot_number t right) refl)
          (λ r h. reads r (Contains-append_left (at_slot (slot_number t left) (Name ∷ [])) (at_slot (slot_number t right) (Name ∷ [])) r h))
          (λ r h. reads r (Contains-append_right (at_slot (slot_number t left) (Name ∷ [])) (at_slot (slot_number t right) (Name ∷ [])) r h)));
      size = λ path size part. says-as (pred.SizeIs path size) _ _ (node-SizeIs t cs path size) (truth-SizeIs t s path size) (path-says (pred.SizeIs path size) path (ItsSize size) (readings-SizeIs t path size) tt part);
      content = λ path text part.
          says-as (pred.ContentIs path text) _ _ (node-ContentIs t cs path text) (truth-ContentIs t s path text) (path-says (pred.ContentIs path text) path (Content text) (readings-ContentIs t path text) tt part);
      bytes = λ path at text part.
          says-as (pred.BytesAre path at text) _ _ (node-BytesAre t cs path at text) (truth-BytesAre t s path at text) (path-says (pred.BytesAre path at text) path (TextAt at text) (readings-BytesAre t path at text) tt part);
      attr = λ path key value part.
          says-as (pred.AttrIs path key value) _ _ (node-AttrIs t cs path key value) (truth-AttrIs t s path key value)
          (path-says (pred.AttrIs path key value) path (Attribute (text_number t.keys key) value) (readings-AttrIs t path key value) (key-found t key value (text_number t.keys key) refl) part);
      seen = λ word part.
          says-as (pred.Seen word) _ _ (node-Seen t cs word) (truth-Seen t s word)
          (seen_node-says t q order within cs v knows (text_number t.words word) (word-found t word (text_number t.words word) refl));
      negation = λ p says part.
          says-as (pred.Not p) _ _ (node-Not t cs p) (truth-Not t s p)
          (not_node-says v (node t cs p) (truth t s p) (says (part-reads (pred.Not p) _ (readings-Not t p) part)));
      both = λ p r says_p says_r part.
          let reads = part-reads (pred.And p r) _ (readings-And t p r) part in
          says-as (pred.And p r) _ _ (node-And t cs p r) (truth-And t s p r)
          (two_node-says v and_clauses (λ b c. b && c) (and-says v) (node t cs p) (node t cs r) (truth t s p) (truth t s r)
          (says_p (λ x h. reads x (Contains-append_left (readings t p) (readings t r) x h)))
          (says_r (λ x h. reads x (Contains-append_right (readings t p) (readings t r) x h))));
      either = λ p r says_p says_r part.
          let reads = part-reads (pred.Or p r) _ (readings-Or t p r) part in
          says-as (pred.Or p r) _ _ (node-Or t cs p r) (truth-Or t s p r)
          (two_node-says v or_clauses (λ b c. b || c) (or-says v) (node t cs p) (node t cs r) (truth t s p) (truth t s r)
          (says_p (λ x h. reads x (Contains-append_left (readings t p) (readings t r) x h)))
          (says_r (λ x h. reads x (Contains-append_right (readings t p) (readings t r) x h))));
    }

    -- values that make the clauses of a part true give its variable its truth
    pub part-says : (p : Pred) → IsPart p → Says v (node t cs p) (truth t s p)
    part-says p = by_steps (λ p. IsPart p → Says v (node t cs p) (truth t s p)) says-steps p

  module _ where
    abbrev Good : List Bool → Type 0
    Good = Knows t q order cs

    made-as : (p : Pred) (x : Node) (b : Bool) → node t cs p ≡ x → truth t s p ≡ b → IsMade Good x b → IsMade Good (node t cs p) (truth t s p)
    made-as p x b e f made = rw (e, f) made

    path-made : (p : Pred) (path : List (List ℕ)) (asked : Asked) → readings t p ≡ at_slot (slot_number t path) (parts_of asked) → KeyThere t asked → IsPart p
        → IsMade Good (path_node t cs asked (slot_number t path)) (on_file (held_file t s path) (meets s asked))
    path-made p path asked e key part = path_node-made t q rules order cs (slot_number t path) asked (slot-found t path (slot_number t path) refl) key (part-reads p _ e part)

    made-steps : Steps (λ p. IsPart p → IsMade Good (node t cs p) (truth t s p))
    made-steps = record {
      yes = λ part. made-as pred.True _ _ (node-True t cs) (truth-True t s) (always-made Good);
      no = λ part. made-as pred.False _ _ (node-False t cs) (truth-False t s) (never-made Good);
      exists = λ path part.
          made-as (pred.Exists path) _ _ (node-Exists t cs path) (truth-Exists t s path ∙ exists-held s (held_file t s path)) (path-made (pred.Exists path) path Presence (readings-Exists t path) tt part);
      same = λ left right part.
          let reads = part-reads (pred.Same left right) _ (readings-Same t left right) part in
          made-as (pred.Same left right) _ _ (node-Same t cs left right) (truth-Same t s left right)
          (same_node-made t q rules order cs (slot_number t left) (slot_number t right) (slot-found t left (slot_number t left) refl) (slot-found t right (slot_number t right) refl)
          (λ r h. reads r (Contains-append_left (at_slot (slot_number t left) (Name ∷ [])) (at_slot (slot_number t right) (Name ∷ [])) r h))
          (λ r h. reads r (Contains-append_right (at_slot (slot_number t left) (Name ∷ [])) (at_slot (slot_number t right) (Name ∷ [])) r h)));
      size = λ path size part. made-as (pred.SizeIs path size) _ _ (node-SizeIs t cs path size) (truth-SizeIs t s path size) (path-made (pred.SizeIs path size) path (ItsSize size) (readings-SizeIs t path size) tt part);
      content = λ path text part.
          made-as (pred.ContentIs path text) _ _ (node-ContentIs t cs path text) (truth-ContentIs t s path text) (path-made (pred.ContentIs path text) path (Content text) (readings-ContentIs t path text) tt part);
      bytes = λ path at text part.
          made-as (pred.BytesAre path at text) _ _ (node-BytesAre t cs path at text) (truth-BytesAre t s path at text) (path-made (pred.BytesAre path at text) path (TextAt at text) (readings-BytesAre t path at text) tt part);
      attr = λ path key value part.
          made-as (pred.AttrIs path key value) _ _ (node-AttrIs t cs path key value) (truth-AttrIs t s path key value)
          (path-made (pred.AttrIs path key value) path (Attribute (text_number t.keys key) value) (readings-AttrIs t path key value) (key-found t key value (text_number t.keys key) refl) part);
      seen = λ word part.
          made-as (pred.Seen word) _ _ (node-Seen t cs word) (truth-Seen t s word)
          (seen_node-made t q order within cs (text_number t.words word) (word-found t word (text_number t.words word) refl));
      negation = λ p made part.
          made-as (pred.Not p) _ _ (node-Not t cs p) (truth-Not t s p)
          (not_node-made Good (node t cs p) (truth t s p) (made (part-reads (pred.Not p) _ (readings-Not t p) part)));
      both = λ p r made_p made_r part.
          let reads = part-reads (pred.And p r) _ (readings-And t p r) part in
          made-as (pred.And p r) _ _ (node-And t cs p r) (truth-And t s p r)
          (two_node-made Good and_clauses (λ b c. b && c) (λ v own x y b c. and-made v own x y b c) (node t cs p) (node t cs r) (truth t s p) (truth t s r)
          (made_p (λ x h. reads x (Contains-append_left (readings t p) (readings t r) x h)))
          (made_r (λ x h. reads x (Contains-append_right (readings t p) (readings t r) x h))));
      either = λ p r made_p made_r part.
          let reads = part-reads (pred.Or p r) _ (readings-Or t p r) part in
          made-as (pred.Or p r) _ _ (node-Or t cs p r) (truth-Or t s p r)
          (two_node-made Good or_clauses (λ b c. b || c) (λ v own x y b c. or-made v own x y b c) (node t cs p) (node t cs r) (truth t s p) (truth t s r)
          (made_p (λ x h. reads x (Contains-append_left (readings t p) (readings t r) x h)))
          (made_r (λ x h. reads x (Contains-append_right (readings t p) (readings t r) x h))));
    }

    -- there are values for the variables of a part that make its clauses true
    pub part-made : (p : Pred) → IsPart p → IsMade Good (node t cs p) (truth t s p)
    part-made p = by_steps (λ p. IsPart p → IsMade Good (node t cs p) (truth t s p)) made-steps p
