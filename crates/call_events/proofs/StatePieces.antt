-- What the pieces of a text leave of a state is the text, written into the file at once.
use Rattle.std.proofs.Common.{◌≡◌, ℕ, zero, suc, ◌+◌, ◌-◌, ◌<◌, ◌≤◌, true, nat_le, List, [], ◌∷◌, ◌++◌, length, take, drop, fold, replicate, Option, Some, None, All, refl, sym, ◌∙◌, ap, subst, inl, inr, arith, append_assoc, length-append, length-take, drop-drop}
use Rattle.std.specs.Prelude.{if◌then◌else◌}
use Rattle.std.proofs.Math.Seq.{take-append_seam, drop-append-add}
use Rattle.std.proofs.lemmas.Bool.{cases_Bool, cases_lt}
use Rattle.std.proofs.lemmas.Bool.Decides.{nat_tests}
use Rattle.std.proofs.lemmas.List.{append-nil, drop_all, drop-append-le, drop-replicate, length-drop, length-replicate}
use Rattle.std.proofs.lemmas.List.Elements.{All-head, All-tail}
use Rattle.fer_events.specs.declared.event.Event.{Event}
use Rattle.fer_events.specs.States.{State, padded, written, cleared, at_place, after_event}
use Rattle.fer_events.proofs.AtPlace.{All-at_place}
use Rattle.call_events.specs.declared.making.Sizes.{Sizes}
use Rattle.call_events.specs.declared.making.Stamp.{Stamp}
use Rattle.call_events.specs.Cutting.{Piece, begins_there, onto_first, cut_up}
use Rattle.call_events.specs.Changes.{resized, overwritten}
use Rattle.call_events.specs.CallEvents.{next_stamp, piece_event, piece_events, text_events}
use Rattle.call_events.proofs.FileContents.{front_filled, length-written}

-- the state after events, one after another
abbrev pub all_after : State → List Event → State
all_after s events = fold after_event s events

-- the pieces make up the text from this place on
abbrev Tiles : ℕ → List ℕ → List Piece → Type 0
Tiles at text [] = text ≡ []
Tiles at text (p ∷ ps) = (rest : List ℕ) × (p.at ≡ at) × (0 < length p.text) × (text ≡ p.text ++ rest) × Tiles (at + length p.text) rest ps

onto_tiles : (at b : ℕ) (bs : List ℕ) (ps : List Piece) → Tiles (at + 1) bs ps → Tiles at (b ∷ bs) (onto_first at b ps)
onto_tiles at b bs [] tiles = ([], refl, omega arith, ap (λ (t : List ℕ). b ∷ t) tiles, refl)
onto_tiles at b bs (p ∷ ps) (rest, place, some, is, more) =
    let further : at + 1 + length p.text ≡ at + suc (length p.text) = omega arith in
    (rest, refl, omega arith, ap (λ (t : List ℕ). b ∷ t) is, subst (λ (k : ℕ). Tiles k rest ps) further more)

cut_tiles : (sizes : Sizes) (at : ℕ) (text : List ℕ) → Tiles at text (cut_up sizes at text)
cut_tiles sizes at [] = refl
cut_tiles sizes at (b ∷ bs) = elim (cases_Bool (begins_there sizes (at + 1))) [
  | inl cut ↦ rw cut (bs, refl, omega arith, refl, cut_tiles sizes (at + 1) bs)
  | inr more ↦ rw more (onto_tiles at b bs (cut_up sizes (at + 1) bs) (cut_tiles sizes (at + 1) bs))
]

-- two texts, one behind the other, are written as one
written_twice : (at : ℕ) (p r bytes : List ℕ) → at + length p + length r ≤ length bytes → written (at + length p) r (written at p bytes) ≡ written at (p ++ r) bytes
unfolding written
written_twice at p r bytes room =
    let front : List ℕ = take at bytes ++ p in
    let back : List ℕ = drop (at + length p) bytes in
    let long : at + length p ≡ length front = omega (arith, length-append (take at bytes) p, length-take at bytes) in
    let first : take (at + length p) (front ++ back) ≡ front = ap (λ (n : ℕ). take n (front ++ back)) long ∙ take-append_seam front back in
    let last : drop (at + length p + length r) (front ++ back) ≡ drop (at + length p + length r) bytes =
    ap (λ (n : ℕ). drop (n + length r) (front ++ back)) long ∙ drop-append-add front back (length r) ∙ drop-drop (length r) (at + length p) bytes in
    let whole : at + length p + length r ≡ at + length (p ++ r) = omega (arith, length-append p r) in
    ap (λ (f : List ℕ). f ++ r ++ drop (at + length p + length r) (front ++ back)) first
    ∙ ap (λ (d : List ℕ). front ++ r ++ d) last
    ∙ ap (λ (f : List ℕ). f ++ drop (at + length p + length r) bytes) (append_assoc (take at bytes) p r)
    ∙ ap (λ (n : ℕ). take at bytes ++ (p ++ r) ++ drop n bytes) whole

places_twice : {X : Type 0} (o : Option ℕ) (g h : X → X) (xs : List X) → at_place o h (at_place o g xs) ≡ at_place o (λ x. h (g x)) xs
places_twice None g h xs = refl
places_twice (Some k) g h [] = refl
places_twice (Some zero) g h (x ∷ xs) = refl
places_twice (Some (suc k)) g h (x ∷ xs) = ap (λ (ys : List _). x ∷ ys) (places_twice (Some k) g h xs)

place_alike : {X : Type 0} (P : X → Type 0) (o : Option ℕ) (g h : X → X) (xs : List X) → ((x : X) → P x → g x ≡ h x) → All P xs → at_place o g xs ≡ at_place o h xs
place_alike P None g h xs same all = refl
place_alike P (Some k) g h [] same all = refl
place_alike P (Some zero) g h (x ∷ xs) same all = ap (λ (y : _). y ∷ xs) (same x (All-head P x xs all))
place_alike P (Some (suc k)) g h (x ∷ xs) same all = ap (λ (ys : List _). x ∷ ys) (place_alike P (Some k) g h xs same (All-tail P x xs all))

-- the sizes behind a text that ends at a place: that of its file, if it ends behind it
abbrev pub grown : ℕ → ℕ → Option ℕ → List ℕ → List ℕ
grown size end o sizes = if nat_le end size then sizes else at_place o (λ _. end) sizes

grown_twice : (size first end : ℕ) (o : Option ℕ) (sizes : List ℕ) → first ≤ end → grown size end o (grown size first o sizes) ≡ grown size end o sizes
grown_twice size first end o sizes less = elim (cases_Bool (nat_le end size)) [
  | inl fits ↦ let before : nat_le first size ≡ true = grind (arith, nat_tests) in rw (fits, before) refl
  | inr longer ↦ rw longer (elim (cases_Bool (nat_le first size)) [
    | inl before ↦ rw before refl
    | inr behind ↦ rw behind (places_twice o (λ _. first) (λ _. end) sizes)
  ])
]

abbrev pub text_state : ℕ → Option ℕ → ℕ → List ℕ → State → State
text_state size o at text s = record s { bytes = at_place o (written at text) s.bytes; sizes = grown size (at + length text) o s.sizes }

one_piece : (sizes : Sizes) (stamp : Stamp) (o : Option ℕ) (size at : ℕ) (p : Piece) (s : State) → p.at ≡ at → after_event s (piece_event sizes stamp o size p) ≡ text_state size o at p.text s
one_piece sizes stamp o size at p s place =
    let gives : ℕ → State = λ k. text_state size o k p.text s in
    elim (cases_Bool (nat_le (p.at + length p.text) size)) as (λ _. after_event s (piece_event sizes stamp o size p) ≡ text_state size o at p.text s) [
      | inl fits ↦ rw fits (rw (sym place, fits) refl)
      | inr longer ↦ rw longer (rw (sym place, longer) refl)
    ]

pieces_mean : (sizes : Sizes) (stamp : Stamp) (o : Option ℕ) (size at : ℕ) (text : List ℕ) (ps : List Piece) (s : State) → Tiles at text ps → 0 < length text → at + length text ≤ 65536 → All (λ b. length b ≡ 65536) s.bytes
    → all_after s (piece_events sizes stamp o size ps) ≡ text_state size o at text s
pieces_mean sizes stamp o size at text [] s tiles some room full = let none = ap (λ (t : List ℕ). length t) tiles in absurd (omega (arith, none))
pieces_mean sizes stamp o size at text (p ∷ []) s (rest, place, is_some, is, done) some room full =
    let only : text ≡ p.text = is ∙ ap (λ (r : List ℕ). p.text ++ r) done ∙ append-nil p.text in
    one_piece sizes stamp o size at p s place ∙ ap (λ (t : List ℕ). text_state size o at t s) (sym only)
pieces_mean sizes stamp o size at text (p ∷ q ∷ ps) s (rest, place, is_some, is, more) some room full =
    let long : length text ≡ length p.text + length rest = ap (λ (t : List ℕ). length t) is ∙ length-append p.text rest in
    let rest_some : 0 < length rest = omega (arith, ap (λ (t : List ℕ). length t) more.3, length-append q.text more.0, more.2) in
    let s1 : State = text_state size o at p.text s in
    let one : after_event s (piece_event sizes stamp o size p) ≡ s1 = one_piece sizes stamp o size at p s place in
    let full1 : All (λ b. length b ≡ 65536) s1.bytes = All-at_place (λ b. length b ≡ 65536) o (written at p.text) s.bytes (λ b is65. length-written at p.text b (omega (arith, is65, long, room)) ∙ is65) full in
    let others = pieces_mean sizes (next_stamp stamp) o size (at + length p.text) rest (q ∷ ps) s1 more rest_some (omega (arith, long, room)) full1 in
    let end : at + length p.text + length rest ≡ at + length text = omega (arith, long) in
    let bytes : at_place o (written (at + length p.text) rest) (at_place o (written at p.text) s.bytes) ≡ at_place o (written at text) s.bytes =
    places_twice o (written at p.text) (written (at + length p.text) rest) s.bytes
    ∙ place_alike (λ b. length b ≡ 65536) o (λ b. written (at + length p.text) rest (written at p.text b)) (written at (p.text ++ rest)) s.bytes
    (λ b is65. written_twice at p.text rest b (omega (arith, is65, long, room))) full
    ∙ ap (λ (t : List ℕ). at_place o (written at t) s.bytes) (sym is) in
    let lengths : grown size (at + length p.text + length rest) o (grown size (at + length p.text) o s.sizes) ≡ grown size (at + length text) o s.sizes =
    grown_twice size (at + length p.text) (at + length p.text + length rest) o s.sizes (omega arith)
    ∙ ap (λ (n : ℕ). grown size n o s.sizes) end in
    ap (λ (u : State). all_after u (piece_events sizes (next_stamp stamp) o size (q ∷ ps))) one
    ∙ others
    ∙ ap (λ (b : List (List ℕ)). record s { bytes = b; sizes = grown size (at + length p.text + length rest) o (grown size (at + length p.text) o s.sizes) }) bytes
    ∙ ap (λ (l : List ℕ). record s { bytes = at_place o (written at text) s.bytes; sizes = l }) lengths

-- the events of a text leave the text
pub text_mean : (sizes : Sizes) (stamp : Stamp) (o : Option ℕ) (size at : ℕ) (text : List ℕ) (s : State) → 0 < length text → at + length text ≤ 65536 → All (λ b. length b ≡ 65536) s.bytes
    → all_after s (text_events sizes stamp o size at text) ≡ text_state size o at text s
text_mean sizes stamp o size at text s some room full = pieces_mean sizes stamp o size at text (cut_up sizes at text) s (cut_tiles sizes at text) some room full

pub length-padded : (content : List ℕ) → length content ≤ 65536 → length (padded content) ≡ 65536
unfolding padded
length-padded content fits = omega (arith, length-append content (replicate (65536 - length content) 0), length-replicate {A = ℕ} (65536 - length content) 0)

pub length-overwritten_is : (at : ℕ) (text content : List ℕ) → 0 < length text → length (overwritten at text content) ≡ at + length text + (length content - (at + length text))
length-overwritten_is at [] content some = absurd (omega arith)
length-overwritten_is at (b ∷ bs) content some =
    let text : List ℕ = b ∷ bs in
    let zeros : List ℕ = replicate (at - length content) 0 in
    omega (arith, length-append (resized at content ++ text) (drop (at + length text) content), length-append (resized at content) text, length-append (take at content) zeros, length-take at content, length-replicate {A = ℕ} (at - length content) 0, length-drop (at + length text) content)

-- the zeros behind a text that is written into a content
back_padded : (end : ℕ) (content : List ℕ) (long : ℕ) → end ≤ 65536 → length content ≤ 65536 → long ≡ end + (length content - end)
    → drop end (content ++ replicate (65536 - length content) 0) ≡ drop end content ++ replicate (65536 - long) 0
back_padded end content long room fits is = elim (cases_lt (length content) end) [
  | inl longer ↦
      let more : end ≡ length content + (end - length content) = omega arith in
      let zeros : List ℕ = replicate (65536 - length content) 0 in
      let count : 65536 - length content - (end - length content) ≡ 65536 - long = omega arith in
      ap (λ (n : ℕ). drop n (content ++ zeros)) more
      ∙ drop-append-add content zeros (end - length content)
      ∙ drop-replicate (end - length content) (65536 - length content) 0
      ∙ ap (λ (n : ℕ). replicate n 0) count
      ∙ ap (λ (d : List ℕ). d ++ replicate (65536 - long) 0) (sym (drop_all end content (omega arith)))
  | inr within ↦
      let same : 65536 - length content ≡ 65536 - long = omega arith in
      drop-append-le end content (replicate (65536 - length content) 0) within ∙ ap (λ (n : ℕ). drop end content ++ replicate n 0) same
]

-- a text written into all bytes of a file is a text written into its content
pub written_padded : (at : ℕ) (text content : List ℕ) → 0 < length text → at + length text ≤ 65536 → length content ≤ 65536 → written at text (padded content) ≡ padded (overwritten at text content)
unfolding written padded
written_padded at [] content some room fits = absurd (omega arith)
written_padded at (b ∷ bs) content some room fits =
    let text : List ℕ = b ∷ bs in
    let long : ℕ = length (overwritten at text content) in
    let zeros : List ℕ = replicate (65536 - length content) 0 in
    ap (λ (f : List ℕ). f ++ text ++ drop (at + length text) (content ++ zeros)) (front_filled at 65536 content (omega arith))
    ∙ ap (λ (d : List ℕ). resized at content ++ text ++ d) (back_padded (at + length text) content long room fits (length-overwritten_is at text content some))
    ∙ sym (append_assoc (resized at content ++ text) (drop (at + length text) content) (replicate (65536 - long) 0))

-- bytes cleared from a size on are a content of that size
pub cleared_padded : (size : ℕ) (content : List ℕ) → size ≤ 65536 → length content ≤ 65536 → cleared size (padded content) ≡ padded (resized size content)
unfolding cleared padded
cleared_padded size content room fits =
    let whole : length (content ++ replicate (65536 - length content) 0) ≡ 65536 = length-padded content fits in
    let cut : length (resized size content) ≡ size = omega (arith, length-append (take size content) (replicate (size - length content) 0), length-take size content, length-replicate {A = ℕ} (size - length content) 0) in
    ap (λ (f : List ℕ). f ++ replicate (length (content ++ replicate (65536 - length content) 0) - size) 0) (front_filled size 65536 content room)
    ∙ ap (λ (n : ℕ). resized size content ++ replicate (n - size) 0) whole
    ∙ ap (λ (n : ℕ). resized size content ++ replicate (65536 - n) 0) (sym cut)
