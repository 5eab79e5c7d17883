-- The parts of a line, and the bad bytes in them.
use Rattle.std.proofs.Common.{◌≡◌, ◌≢◌, ◌⊎◌, inl, inr, ℕ, zero, suc, ◌+◌, ◌<◌, ◌≤◌, Bool, true, false, true≢false, ◌||◌, eqb, List, [], ◌∷◌, length, take, drop, IsTrue, Some, refl, sym, ◌∙◌, ap, subst, arith}
use Rattle.std.specs.List.{list_any}
use Rattle.std.proofs.lemmas.List.{length-drop}
use Rattle.std.proofs.lemmas.Bool.{cases_Bool, ne_eqb}
use Rattle.std.proofs.lemmas.Bool.Decides.{eqb_tells}
use Rattle.text_scan.specs.Texts.{text_len}
use Rattle.text_scan.specs.Comments.{IsEnd, IsPart, byte, text, AreParts, is_bad, HasBadByte}

-- a line begins with one part at most
one_part : (line p r q s : List ℕ) → IsPart line p r → IsPart line q s → (p ≡ q) × (r ≡ s)
one_part line p r q s (byte b quote sharp e f) (byte c quote' sharp' e' f') =
    let both : b ∷ r ≡ c ∷ s = sym e ∙ e' in
    let same : b ≡ c = cc both in
    (f ∙ ap (λ (x : ℕ). x ∷ []) same ∙ sym f', cc both)
one_part line p r q s (byte b quote sharp e f) (text behind e' f' g') = absurd (quote (let both : b ∷ r ≡ 34 ∷ behind = sym e ∙ e' in cc both))
one_part line p r q s (text behind e f g) (byte c quote' sharp' e' f') = absurd (quote' (let both : c ∷ s ≡ 34 ∷ behind = sym e' ∙ e in cc both))
one_part line p r q s (text behind e f g) (text behind' e' f' g') =
    let both : 34 ∷ behind ≡ 34 ∷ behind' = sym e ∙ e' in
    let same : behind ≡ behind' = cc both in (
      f ∙ ap (λ (x : List ℕ). 34 ∷ take (text_len x) x) same ∙ sym f',
      g ∙ ap (λ (x : List ℕ). drop (text_len x) x) same ∙ sym g',
    )

-- behind a part fewer bytes are left
pub part_shorter : (line part rest : List ℕ) → IsPart line part rest → length rest < length line
part_shorter line part rest (byte b quote sharp e f) = let long : length line ≡ suc (length rest) = ap length e in omega arith
part_shorter line part rest (text behind e f g) =
    let long : length line ≡ suc (length behind) = ap length e in
    let left : length rest ≡ length (drop (text_len behind) behind) = ap length g in
    let cut = length-drop (text_len behind) behind in
    omega arith

end_no_part : (line part rest : List ℕ) → IsEnd line → IsPart line part rest → ⊥
end_no_part [] part rest end (byte b quote sharp e f) = cc e
end_no_part [] part rest end (text behind e f g) = cc e
end_no_part (x ∷ xs) part rest end (byte b quote sharp e f) = sharp (let same : x ≡ b = cc e in sym same ∙ end)
end_no_part (x ∷ xs) part rest end (text behind e f g) = let same : x ≡ 34 = cc e in absurd (omega arith)

-- a part at the front of a line
pub record Front (line : List ℕ) : Type 0 where
  pub part : List ℕ
  pub rest : List ℕ
  pub is : IsPart line part rest

pub part_or_end : (line : List ℕ) → IsEnd line ⊎ Front line
part_or_end [] = inl tt
part_or_end (b ∷ bs) =
    elim (eqb_tells b 35) [
      | inl (told, same) ↦ inl same
      | inr (told, sharp) ↦ elim (eqb_tells b 34) [
        | inl (told', same) ↦ inr (record {
          part = 34 ∷ take (text_len bs) bs;
          rest = drop (text_len bs) bs;
          is = text bs (ap (λ (x : ℕ). x ∷ bs) same) refl refl;
        })
        | inr (told', quote) ↦ inr (record { part = b ∷ []; rest = bs; is = byte b quote sharp refl refl })
      ]
    ]

-- the line cut behind its first byte, and behind its first text
pub byte_front : (line behind part rest : List ℕ) (b : ℕ) → line ≡ b ∷ behind → b ≢ 34 → b ≢ 35 → part ≡ take 1 line → rest ≡ drop 1 line → IsPart line part rest
byte_front line behind part rest b e quote sharp front back =
    let left : rest ≡ behind = back ∙ ap (drop 1) e in
    byte b quote sharp (e ∙ ap (λ (x : List ℕ). b ∷ x) (sym left)) (front ∙ ap (take 1) e)

pub text_front : (line behind part rest : List ℕ) (b n : ℕ) → line ≡ b ∷ behind → b ≡ 34 → n ≡ text_len behind → part ≡ take (1 + n) line
    → rest ≡ drop (1 + n) line → IsPart line part rest
text_front line behind part rest b n e quote len front back =
    let next : 1 + n ≡ suc (text_len behind) = omega arith in
    let whole : line ≡ 34 ∷ behind = e ∙ ap (λ (x : ℕ). x ∷ behind) quote in
    text behind whole
    (front ∙ ap (λ (k : ℕ). take k line) next ∙ ap (take (suc (text_len behind))) whole)
    (back ∙ ap (λ (k : ℕ). drop k line) next ∙ ap (drop (suc (text_len behind))) whole)

-- each line has parts
parts_of : (n : ℕ) (line : List ℕ) → length line ≤ n → (parts : List (List ℕ)) × AreParts line parts
parts_of zero [] few = ([], tt)
parts_of zero (b ∷ bs) few = absurd (omega arith)
parts_of (suc n) line few =
    elim (part_or_end line) [
      | inl end ↦ ([], end)
      | inr f ↦
          let less = part_shorter line f.part f.rest f.is in
          let more = parts_of n f.rest (omega arith) in
          (f.part ∷ more.0, (f.rest, f.is, more.1))
    ]

-- where no part is left no byte is bad
pub end_clean : (line : List ℕ) → IsEnd line → HasBadByte line → ⊥
end_clean line end ([], are, bad) = true≢false (sym bad)
end_clean line end (part ∷ parts, (rest, is, are), bad) = end_no_part line part rest end is

-- a bad byte in the first part
pub bad_here : (line part rest : List ℕ) → IsPart line part rest → list_any is_bad part ≡ true → HasBadByte line
bad_here line part rest is bad =
    let more = parts_of (length rest) rest (omega arith) in
    (part ∷ more.0, (rest, is, more.1), ap (λ (t : Bool). t || list_any (list_any is_bad) more.0) bad)

or_true : (t : Bool) → t || true ≡ true
or_true true = refl
or_true false = refl

-- and in what follows it
pub bad_behind : (line part rest : List ℕ) → IsPart line part rest → HasBadByte rest → HasBadByte line
bad_behind line part rest is (parts, are, bad) =
    (part ∷ parts, (rest, is, are), ap (λ (t : Bool). list_any is_bad part || t) bad ∙ or_true (list_any is_bad part))

pub bad_further : (line part rest : List ℕ) → IsPart line part rest → list_any is_bad part ≡ false → HasBadByte line → HasBadByte rest
bad_further line part rest is clean ([], are, bad) = absurd (true≢false (sym bad))
bad_further line part rest is clean (p ∷ parts, (r, was, are), bad) =
    let same = one_part line p r part rest was is in (
      parts,
      subst (λ (x : List ℕ). AreParts x parts) same.1 are,
      ap (λ (t : Bool). t || list_any (list_any is_bad) parts) (sym (ap (list_any is_bad) same.0 ∙ clean)) ∙ bad,
    )

abbrev BadOrNot : List ℕ → Type 0
BadOrNot line = HasBadByte line ⊎ (HasBadByte line → ⊥)

-- a line has a bad byte or it has none
pub bad_or_not : (n : ℕ) (line : List ℕ) → length line ≤ n → BadOrNot line
bad_or_not zero [] few = inr (end_clean [] tt)
bad_or_not zero (b ∷ bs) few = absurd (omega arith)
bad_or_not (suc n) line few =
    elim (part_or_end line) [
      | inl end ↦ inr (end_clean line end)
      | inr f ↦ elim (cases_Bool (list_any is_bad f.part)) [
        | inl bad ↦ inl (bad_here line f.part f.rest f.is bad)
        | inr clean ↦ let less = part_shorter line f.part f.rest f.is in elim (bad_or_not n f.rest (omega arith)) [
          | inl bad ↦ inl (bad_behind line f.part f.rest f.is bad)
          | inr none ↦ inr (λ h. none (bad_further line f.part f.rest f.is clean h))
        ]
      ]
    ]

-- the line has a bad byte exactly where the rest of it has one
pub record IsAlike (line rest : List ℕ) : Type 0 where
  pub forth : HasBadByte line → HasBadByte rest
  pub back : HasBadByte rest → HasBadByte line

pub alike_all : (line : List ℕ) → IsAlike line line
alike_all line = record { forth = λ h. h; back = λ h. h }

pub alike_more : (line rest part behind : List ℕ) → IsAlike line rest → IsPart rest part behind → list_any is_bad part ≡ false → IsAlike line behind
alike_more line rest part behind h is clean = record {
  forth = λ b. bad_further rest part behind is clean (h.forth b);
  back = λ b. h.back (bad_behind rest part behind is b);
}
