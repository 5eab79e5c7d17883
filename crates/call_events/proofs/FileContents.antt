-- How a write into a part of a content, and a change of one file, give what the definitions say.
use Rattle.std.proofs.Common.{◌≡◌, ℕ, ◌+◌, ◌-◌, ◌<◌, ◌≤◌, List, [], ◌∷◌, ◌++◌, length, take, drop, replicate, set, get_or, Option, Some, refl, sym, ◌∙◌, ap, inl, inr, arith, length-append, length-take}
use Rattle.std.proofs.Math.Seq.{take-length, take-append-add}
use Rattle.std.proofs.lemmas.Bool.{cases_lt}
use Rattle.std.proofs.lemmas.List.{append-nil, drop_all, take_all, take-append-le, take-replicate, length-drop, length-replicate}
use Rattle.std.proofs.lemmas.Slice.{put_mid-paste}
use borrow.Rule.Slice.PartMut.{put_mid}
use Rattle.fer_events.specs.States.{at_place, written}
use Rattle.fer_events.proofs.AtPlace.{set_is_at_place}
use Rattle.call_events.specs.Changes.{resized, overwritten}

-- the front of a content that is filled up with zeros
pub front_filled : (at end : ℕ) (content : List ℕ) → at ≤ end → take at (content ++ replicate (end - length content) 0) ≡ resized at content
front_filled at end content within = elim (cases_lt (length content) at) [
  | inl longer ↦
      let more : at ≡ length content + (at - length content) = omega arith in
      let zeros : List ℕ = replicate (end - length content) 0 in
      ap (λ (n : ℕ). take n (content ++ zeros)) more
      ∙ take-append-add content zeros (at - length content)
      ∙ ap (λ (z : List ℕ). content ++ z) (take-replicate (at - length content) (end - length content) 0 (omega arith))
      ∙ ap (λ (c : List ℕ). c ++ replicate (at - length content) 0) (sym (take_all at content (omega arith)))
  | inr within ↦
      let none : 0 ≡ at - length content = omega arith in
      take-append-le at content (replicate (end - length content) 0) within
      ∙ sym (append-nil (take at content))
      ∙ ap (λ (n : ℕ). take at content ++ replicate n 0) none
]

-- the zeros end where the text does
back_filled : (end : ℕ) (content : List ℕ) → drop end (content ++ replicate (end - length content) 0) ≡ drop end content
back_filled end content = elim (cases_lt (length content) end) [
  | inl longer ↦
      let zeros : List ℕ = replicate (end - length content) 0 in
      drop_all end (content ++ zeros) (omega (arith, length-append content zeros, length-replicate {A = ℕ} (end - length content) 0))
      ∙ sym (drop_all end content (omega arith))
  | inr within ↦
      let none : end - length content ≡ 0 = omega arith in
      ap (λ (n : ℕ). drop end (content ++ replicate n 0)) none ∙ ap (drop end) (append-nil content)
]

-- a text within bytes leaves as many
pub length-written : (at : ℕ) (text bytes : List ℕ) → at + length text ≤ length bytes → length (written at text bytes) ≡ length bytes
unfolding written
length-written at text bytes room =
    let back : List ℕ = drop (at + length text) bytes in
    omega (arith, length-append (take at bytes ++ text) back, length-append (take at bytes) text, length-take at bytes, length-drop (at + length text) bytes)

-- bytes as many as they were are all that is kept
pub whole_kept : (n : ℕ) (bytes items : List ℕ) → length bytes ≡ n → length items ≡ n → take n (bytes ++ drop (length bytes) items) ≡ bytes
whole_kept n bytes items long same =
    ap (λ (d : List ℕ). take n (bytes ++ d)) (drop_all (length bytes) items (omega arith)) ∙ ap (take n) (append-nil bytes) ∙ take_all n bytes (omega arith)

-- a text that isn't empty, written into a content that reaches to its end
pub filled_over : (at : ℕ) (content bytes text : List ℕ) → bytes ≡ content ++ replicate (at + length text - length content) 0 → 0 < length text → written at text bytes ≡ overwritten at text content
unfolding written
filled_over at content bytes [] filled some = absurd (omega arith)
filled_over at content bytes (b ∷ bs) filled some =
    let text : List ℕ = b ∷ bs in
    let end : ℕ = at + length text in
    ap (λ (c : List ℕ). take at c ++ text ++ drop end c) filled
    ∙ ap (λ (f : List ℕ). f ++ text ++ drop end (content ++ replicate (end - length content) 0)) (front_filled at end content (omega arith))
    ∙ ap (λ (r : List ℕ). resized at content ++ text ++ r) (back_filled end content)

-- a part of bytes that is written over
pub written_by_part : (at k : ℕ) (bytes text ys : List ℕ) → k ≡ length text → ys ≡ text → put_mid at k bytes ys ≡ written at text bytes
unfolding written
written_by_part at k bytes text ys few same =
    put_mid-paste at k bytes ys text (length text) same (sym few) refl
    ∙ ap (λ (t : List ℕ). take at bytes ++ t ++ drop (at + length text) bytes) (take-length text)

-- a list with a changed item is the list with the change at that place
pub changed_at : (items old : List (List ℕ)) (o : Option ℕ) (i : ℕ) (change : List ℕ → List ℕ) (d y : List ℕ) → items ≡ old → o ≡ Some i → y ≡ change (get_or items i d) → set items i y ≡ at_place o change old
changed_at items old o i change d y same there changed =
    set_is_at_place change items i d y changed
    ∙ ap (λ (p : Option ℕ). at_place p change items) (sym there)
    ∙ ap (at_place o change) same
