-- The pieces of a text that is written, and their events, fit the files.
use Rattle.std.proofs.Common.{◌≡◌, ℕ, ◌+◌, ◌<◌, ◌≤◌, Bool, true, false, nat_le, List, [], ◌∷◌, length, Option, is_some, IfSome, All, refl, ap, inl, inr, arith}
use Rattle.std.proofs.lemmas.Bool.{cases_Bool}
use Rattle.std.proofs.lemmas.List.Elements.{All-nil, All-cons, All-head, All-tail}
use Rattle.fer_events.specs.Tables.{IsEventOf}
use Rattle.call_events.specs.declared.files.Files.{Files}
use Rattle.call_events.specs.declared.making.Sizes.{Sizes}
use Rattle.call_events.specs.declared.making.Stamp.{Stamp}
use Rattle.call_events.specs.Cutting.{Piece, begins_there, onto_first, cut_up}
use Rattle.call_events.specs.CallEvents.{next_stamp, piece_event, piece_events, text_events}
use Rattle.call_events.specs.Runs.{now}

-- the piece ends at this place at most
abbrev pub EndsBy : ℕ → Piece → Type 0
EndsBy end piece = piece.at + length piece.text ≤ end

-- the first piece begins at this place
abbrev StartsAt : ℕ → List Piece → Type 0
StartsAt at [] = Unit {0}
StartsAt at (piece ∷ pieces) = piece.at ≡ at

onto_ends : (end at b : ℕ) (pieces : List Piece) → at + 1 ≤ end → All (EndsBy end) pieces → StartsAt (at + 1) pieces → All (EndsBy end) (onto_first at b pieces)
onto_ends end at b [] room ends starts = All-cons (EndsBy end) (record { at = at; text = b ∷ [] }) [] (omega arith) (All-nil (EndsBy end))
onto_ends end at b (piece ∷ pieces) room ends starts =
    All-cons (EndsBy end) (record { at = at; text = b ∷ piece.text }) pieces (omega (arith, All-head (EndsBy end) piece pieces ends, starts)) (All-tail (EndsBy end) piece pieces ends)

cut_starts : (sizes : Sizes) (at : ℕ) (text : List ℕ) → StartsAt at (cut_up sizes at text)
cut_starts sizes at [] = tt
cut_starts sizes at (b ∷ bs) = elim (cases_Bool (begins_there sizes (at + 1))) [
  | inl cut ↦ rw cut refl
  | inr more ↦ rw more (onto_starts at b (cut_up sizes (at + 1) bs))
]
  where
    onto_starts : (at b : ℕ) (pieces : List Piece) → StartsAt at (onto_first at b pieces)
    onto_starts at b [] = refl
    onto_starts at b (piece ∷ pieces) = refl

-- no piece ends behind the text
pub cut_ends : (sizes : Sizes) (at : ℕ) (text : List ℕ) (end : ℕ) → at + length text ≤ end → All (EndsBy end) (cut_up sizes at text)
cut_ends sizes at [] end room = All-nil (EndsBy end)
cut_ends sizes at (b ∷ bs) end room =
    let rest : All (EndsBy end) (cut_up sizes (at + 1) bs) = cut_ends sizes (at + 1) bs end (omega arith) in
    elim (cases_Bool (begins_there sizes (at + 1))) [
      | inl cut ↦ rw cut (All-cons (EndsBy end) (record { at = at; text = b ∷ [] }) (cut_up sizes (at + 1) bs) (omega arith) rest)
      | inr more ↦ rw more (onto_ends end at b (cut_up sizes (at + 1) bs) (omega arith) rest (cut_starts sizes (at + 1) bs))
    ]

piece_fits : (n : Files) (sizes : Sizes) (stamp : Stamp) (file : Option ℕ) (size : ℕ) (piece : Piece) → is_some file ≡ true → IfSome file (λ f. f < length n.contents)
    → EndsBy 65536 piece → IsEventOf (now n) (piece_event sizes stamp file size piece)
piece_fits n sizes stamp file size piece present there room = elim (cases_Bool (nat_le (piece.at + length piece.text) size)) [
  | inl fits ↦ rw fits (record {
    carries = ap (λ (b : Bool). record { file = b; block = true; dir = false; slot = false }) present;
    file_there = there;
    dir_there = tt;
    slot_there = tt;
    effect = room;
  })
  | inr longer ↦ rw longer (record {
    carries = ap (λ (b : Bool). record { file = b; block = true; dir = false; slot = false }) present;
    file_there = there;
    dir_there = tt;
    slot_there = tt;
    effect = (refl, room);
  })
]

pieces_fit : (n : Files) (sizes : Sizes) (stamp : Stamp) (file : Option ℕ) (size : ℕ) (pieces : List Piece) → is_some file ≡ true → IfSome file (λ f. f < length n.contents)
    → All (EndsBy 65536) pieces → All (IsEventOf (now n)) (piece_events sizes stamp file size pieces)
pieces_fit n sizes stamp file size [] present there ends = All-nil (IsEventOf (now n))
pieces_fit n sizes stamp file size (piece ∷ pieces) present there ends =
    All-cons (IsEventOf (now n)) (piece_event sizes stamp file size piece) (piece_events sizes (next_stamp stamp) file size pieces)
    (piece_fits n sizes stamp file size piece present there (All-head (EndsBy 65536) piece pieces ends))
    (pieces_fit n sizes (next_stamp stamp) file size pieces present there (All-tail (EndsBy 65536) piece pieces ends))

-- the events of a text that is written fit
pub text_fits : (n : Files) (sizes : Sizes) (stamp : Stamp) (file : Option ℕ) (size at : ℕ) (text : List ℕ) → is_some file ≡ true → IfSome file (λ f. f < length n.contents)
    → at + length text ≤ 65536 → All (IsEventOf (now n)) (text_events sizes stamp file size at text)
text_fits n sizes stamp file size at text present there room =
    pieces_fit n sizes stamp file size (cut_up sizes at text) present there (cut_ends sizes at text 65536 room)
