-- The first piece of a text that is written ends where a block or a sector does, or the text.
use Rattle.std.proofs.Common.{◌≡◌, ℕ, zero, suc, ◌+◌, ◌-◌, ◌*◌, ◌/◌, ◌%◌, ◌<◌, ◌≤◌, ◌⊎◌, inl, inr, min, Bool, true, false, List, [], ◌∷◌, length, take, drop, refl, ◌∙◌, ap, arith}
use Rattle.std.proofs.lemmas.Bool.{cases_Bool, cases_lt}
use Rattle.std.proofs.lemmas.Bool.Decides.{nat_tests}
use Rattle.std.proofs.Math.Nat.{mod-add-div', mul-mod_left}
use Rattle.std.proofs.Math.Arith.{digits_mod}
use Rattle.call_events.specs.declared.making.Sizes.{Sizes}
use Rattle.call_events.specs.Cutting.{begins_there, onto_first, cut_up}
use Rattle.call_events.specs.Small.{IsCutting}

-- a piece in which nothing begins and behind which something does, or the text ends
first_piece : (sizes : Sizes) (at b : ℕ) (bs : List ℕ) (m : ℕ) → m ≤ length bs
    → ((j : ℕ) → 0 < j → j ≤ m → begins_there sizes (at + j) ≡ false)
    → (m ≡ length bs) ⊎ (begins_there sizes (at + suc m) ≡ true)
    → cut_up sizes at (b ∷ bs) ≡ record { at = at; text = b ∷ take m bs } ∷ cut_up sizes (at + suc m) (drop m bs)
first_piece sizes at b [] zero within none ends = elim (cases_Bool (begins_there sizes (at + 1))) [ inl cut ↦ rw cut refl | inr more ↦ rw more refl ]
first_piece sizes at b [] (suc m) within none ends = absurd (omega arith)
first_piece sizes at b (c ∷ cs) zero within none (inl all) = absurd (omega arith)
first_piece sizes at b (c ∷ cs) zero within none (inr cut) = rw cut refl
first_piece sizes at b (c ∷ cs) (suc k) within none ends =
    let more : begins_there sizes (at + 1) ≡ false = none 1 (omega arith) (omega arith) in
    let begins : ℕ → Bool = begins_there sizes in
    let rest : cut_up sizes (at + 1) (c ∷ cs) ≡ record { at = at + 1; text = c ∷ take k cs } ∷ cut_up sizes (at + 1 + suc k) (drop k cs) =
    first_piece sizes (at + 1) c cs k (omega arith)
    (λ j some most. let same : at + 1 + j ≡ at + suc j = omega arith in ap begins same ∙ none (suc j) (omega arith) (omega arith))
    (shifted begins at k cs ends) in
    let place : at + 1 + suc k ≡ at + suc (suc k) = omega arith in
    rw more (ap (onto_first at b) rest ∙ ap (λ (n : ℕ). record { at = at; text = b ∷ c ∷ take k cs } ∷ cut_up sizes n (drop k cs)) place)
  where
    shifted : (begins : ℕ → Bool) (at k : ℕ) (cs : List ℕ) → (suc k ≡ suc (length cs)) ⊎ (begins (at + suc (suc k)) ≡ true) → (k ≡ length cs) ⊎ (begins (at + 1 + suc k) ≡ true)
    shifted begins at k cs (inl all) = inl (omega arith)
    shifted begins at k cs (inr cut) = let place : at + 1 + suc k ≡ at + suc (suc k) = omega arith in inr (ap begins place ∙ cut)

-- within a block the remainder grows with the place
grown_remainder : (place more size : ℕ) → place % size + more < size → (place + more) % size ≡ place % size + more
grown_remainder place more size small =
    let whole : place + more ≡ place / size * size + (place % size + more) = omega (arith, mod-add-div' place size) in
    ap (λ (n : ℕ). n % size) whole ∙ digits_mod (place / size) small

-- behind the rest of a block the next begins
next_begins : (place size : ℕ) → 0 < size → place % size < size → (place + (size - place % size)) % size ≡ 0
next_begins place size positive below =
    let whole : place + (size - place % size) ≡ (place / size + 1) * size = grind (arith, mod-add-div' place size) in
    ap (λ (n : ℕ). n % size) whole ∙ mul-mod_left (place / size + 1) size

nothing_begins : (sizes : Sizes) (at j : ℕ) → 0 < j → at % sizes.block + j < sizes.block → at % sizes.sector + j < sizes.sector → begins_there sizes (at + j) ≡ false
nothing_begins sizes at j some block sector =
    let first = grown_remainder at j sizes.block block in
    let second = grown_remainder at j sizes.sector sector in
    grind (arith, nat_tests)

block_begins : (sizes : Sizes) (at n : ℕ) → 0 < sizes.block → at % sizes.block < sizes.block → n ≡ sizes.block - at % sizes.block → begins_there sizes (at + n) ≡ true
block_begins sizes at n positive below is =
    let begins : (at + n) % sizes.block ≡ 0 = ap (λ (k : ℕ). (at + k) % sizes.block) is ∙ next_begins at sizes.block positive below in
    grind (arith, nat_tests)

sector_begins : (sizes : Sizes) (at n : ℕ) → 0 < sizes.sector → at % sizes.sector < sizes.sector → n ≡ sizes.sector - at % sizes.sector → begins_there sizes (at + n) ≡ true
sector_begins sizes at n positive below is =
    let begins : (at + n) % sizes.sector ≡ 0 = ap (λ (k : ℕ). (at + k) % sizes.sector) is ∙ next_begins at sizes.sector positive below in
    grind (arith, nat_tests)

-- the length of the first piece
abbrev pub first_len : Sizes → ℕ → ℕ → ℕ
first_len sizes at len = min len (min (sizes.block - at % sizes.block) (sizes.sector - at % sizes.sector))

pub first_len_some : (sizes : Sizes) (at len : ℕ) → IsCutting sizes → 0 < len → 0 < first_len sizes at len
first_len_some sizes at len (some_block, few, some_sector, most) some = omega arith

-- a text is cut behind its first piece
pub first_cut : (sizes : Sizes) (at : ℕ) (text : List ℕ) (n : ℕ) → IsCutting sizes → 0 < length text → n ≡ first_len sizes at (length text)
    → cut_up sizes at text ≡ record { at = at; text = take n text } ∷ cut_up sizes (at + n) (drop n text)
first_cut sizes at [] n cuts some is = absurd (omega arith)
first_cut sizes at (b ∷ bs) zero cuts some is = absurd (omega (arith, first_len_some sizes at (length (b ∷ bs)) cuts some))
first_cut sizes at (b ∷ bs) (suc m) (some_block, few, some_sector, most) some is =
    let block : at % sizes.block < sizes.block = omega arith in
    let sector : at % sizes.sector < sizes.sector = omega arith in
    first_piece sizes at b bs m (omega arith)
    (λ j least most. nothing_begins sizes at j least (omega arith) (omega arith))
    (ended block sector (cases_lt m (length bs)))
  where
    ended : at % sizes.block < sizes.block → at % sizes.sector < sizes.sector → (m < length bs) ⊎ (length bs ≤ m) → (m ≡ length bs) ⊎ (begins_there sizes (at + suc m) ≡ true)
    ended block sector (inr all) = inl (omega arith)
    ended block sector (inl less) = elim (cases_lt (sizes.block - at % sizes.block) (sizes.sector - at % sizes.sector)) [
      | inl first ↦ inr (block_begins sizes at (suc m) some_block block (omega arith))
      | inr second ↦ inr (sector_begins sizes at (suc m) some_sector sector (omega arith))
    ]
