-- How a write to a part of a file's bytes gives what the definitions say.
use Rattle.std.proofs.Common.{◌≡◌, ℕ, ◌+◌, ◌-◌, ◌≤◌, List, ◌++◌, length, take, drop, replicate, refl, sym, ◌∙◌, ap, arith, length-append, length-drop}
use Rattle.std.proofs.Math.Seq.{take-length}
use Rattle.std.proofs.lemmas.List.{append-nil, drop_all, take_at}
use Rattle.std.proofs.lemmas.Slice.{put_mid-paste}
use borrow.Rule.Slice.PartMut.{put_mid}
use Rattle.fer_events.specs.States.{padded, written, cleared}

pub written_by_part : (at k : ℕ) (bytes text ys : List ℕ) → k ≡ length text → ys ≡ text → put_mid at k bytes ys ≡ written at text bytes
unfolding written
written_by_part at k bytes text ys few same =
    put_mid-paste at k bytes ys text (length text) same (sym few) refl
    ∙ ap (λ (t : List ℕ). take at bytes ++ t ++ drop (at + length text) bytes) (take-length text)

pub cleared_by_part : (size k : ℕ) (bytes ys : List ℕ) → k ≡ length bytes - size → ys ≡ replicate k 0 → put_mid size k bytes ys ≡ cleared size bytes
unfolding cleared
cleared_by_part size k bytes ys rest zeros =
    let short : length (drop size bytes) ≤ k = omega (arith, length-drop size bytes) in
    ap (λ (t : List ℕ). take size bytes ++ (ys ++ t)) (drop_all k (drop size bytes) short)
    ∙ ap (λ (t : List ℕ). take size bytes ++ t) (append-nil ys ∙ zeros ∙ ap (λ (n : ℕ). replicate n 0) rest)

-- a content written at the start, with the rest cleared
pub padded_by_parts : (content bytes : List ℕ) → length bytes ≡ 65536 → length content ≤ 65536 → cleared (length content) (written 0 content bytes) ≡ padded content
unfolding written cleared padded
padded_by_parts content bytes room fits =
    let whole : length (content ++ drop (0 + length content) bytes) - length content ≡ 65536 - length content = omega (arith, length-append content (drop (0 + length content) bytes), length-drop (0 + length content) bytes) in
    ap (λ (t : List ℕ). t ++ replicate (length (content ++ drop (0 + length content) bytes) - length content) 0) (take_at content (drop (0 + length content) bytes) (length content) refl)
    ∙ ap (λ (n : ℕ). content ++ replicate n 0) whole
