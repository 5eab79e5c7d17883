-- Where a text ends, whatever stands behind it.
use Rattle.std.proofs.Common.{◌≡◌, ◌≢◌, ℕ, ◌+◌, ◌<◌, ◌≤◌, Bool, cond, true, false, true≢false, not, ◌&&◌, ◌||◌, eqb, List, [], ◌∷◌, ◌++◌, length, drop, Some, IsTrue, refl, sym, ◌∙◌, ap, subst, inl, inr, arith, length-append, append_assoc}
use Rattle.std.specs.List.{list_any}
use Rattle.std.proofs.lemmas.List.Folds.{list_any-append}
use Rattle.std.proofs.lemmas.Bool.{ne_eqb}
use Rattle.std.proofs.lemmas.Bool.Decides.{nat_tests, eqb_tells}
use Rattle.text_scan.specs.Bytes.{is_hex_digit}
use Rattle.text_scan.specs.Items.{is_plain, escaped, hex_value, IsItem, plain, short, hex, Spells, IsText}
use Rattle.text_scan.specs.Texts.{text_len}
use Rattle.text_scan.specs.Comments.{is_bad}
use Rattle.text_scan.specs.Kinds.{token_len}

-- a text ends at a quote
pub text_closed : (bs : List ℕ) → text_len (34 ∷ bs) ≡ 1
text_closed [] = refl
text_closed (c ∷ cs) = refl

-- a byte that is neither a quote nor a backslash
pub text_other : (b : ℕ) (bs : List ℕ) → b ≢ 34 → b ≢ 92 → text_len (b ∷ bs) ≡ 1 + text_len bs
text_other b [] quote backslash = omega arith
text_other b (c ∷ cs) quote backslash =
    ap (λ t. cond t 1 (cond (eqb b 92) (2 + text_len cs) (1 + text_len (c ∷ cs)))) (ne_eqb b 34 quote)
    ∙ ap (λ t. cond t (2 + text_len cs) (1 + text_len (c ∷ cs))) (ne_eqb b 92 backslash)

-- a text that goes on behind a byte other than the quote: a backslash takes the next byte too
pub text_goes_on : (b : ℕ) (bs : List ℕ) → b ≢ 34
    → text_len (b ∷ bs) + length (cond (eqb b 92) (drop 1 bs) bs) ≡ 1 + length bs + text_len (cond (eqb b 92) (drop 1 bs) bs)
text_goes_on b bs quote =
    elim (eqb_tells b 92) [
      | inr (told, other) ↦
          let one = text_other b bs quote other in
          subst (λ (t : Bool). text_len (b ∷ bs) + length (cond t (drop 1 bs) bs) ≡ 1 + length bs + text_len (cond t (drop 1 bs) bs)) (sym told) (omega (arith, one))
      | inl (told, same) ↦
          subst (λ (t : Bool). text_len (b ∷ bs) + length (cond t (drop 1 bs) bs) ≡ 1 + length bs + text_len (cond t (drop 1 bs) bs)) (sym told)
          (subst (λ (x : ℕ). text_len (x ∷ bs) + length (drop 1 bs) ≡ 1 + length bs + text_len (drop 1 bs)) (sym same) (escape bs))
    ]
  where
    escape : (bs : List ℕ) → text_len (92 ∷ bs) + length (drop 1 bs) ≡ 1 + length bs + text_len (drop 1 bs)
    escape [] = refl
    escape (c ∷ cs) = omega arith

pub text_within : (bs : List ℕ) → text_len bs ≤ length bs
text_within [] = omega arith
text_within (b ∷ []) = omega arith
text_within (b ∷ c ∷ cs) = chosen (eqb b 34) (eqb b 92) (text_len cs) (text_len (c ∷ cs)) (text_within cs) (text_within (c ∷ cs))
  where
    chosen : (s t : Bool) (m n : ℕ) → m ≤ length cs → n ≤ length (c ∷ cs) → cond s 1 (cond t (2 + m) (1 + n)) ≤ length (b ∷ c ∷ cs)
    chosen true t m n h k = omega arith
    chosen false true m n h k = omega arith
    chosen false false m n h k = omega arith

-- the bytes of a hexadecimal digit and of a plain byte
hex_other : (a : ℕ) → is_hex_digit a ≡ true → (a ≢ 34) × (a ≢ 92) × (is_bad a ≡ false)
hex_other a h = (λ e. grind (arith, nat_tests), λ e. grind (arith, nat_tests), grind (arith, nat_tests))

plain_other : (a : ℕ) → is_plain a ≡ true → (a ≢ 34) × (a ≢ 92) × (is_bad a ≡ false)
plain_other a h = (λ e. grind (arith, nat_tests), λ e. grind (arith, nat_tests), grind (arith, nat_tests))

-- an item and what follows it
past_item : (item : List ℕ) (byte : ℕ) (rest : List ℕ) → IsItem item byte → text_len (item ++ rest) ≡ length item + text_len rest
past_item item byte rest (plain p e) =
    let o = plain_other byte p in
    subst (λ (x : List ℕ). text_len (x ++ rest) ≡ length x + text_len rest) (sym e) (text_other byte rest o.0 o.1)
past_item item byte rest (short b p e) =
    subst (λ (x : List ℕ). text_len (x ++ rest) ≡ length x + text_len rest) (sym e) refl
past_item item byte rest (hex a b p q v e) =
    let o = hex_other a p in
    let m = hex_other b q in
    let one = text_other a (b ∷ rest) o.0 o.1 in
    let two = text_other b rest m.0 m.1 in
    subst (λ (x : List ℕ). text_len (x ++ rest) ≡ length x + text_len rest) (sym e) (omega (arith, one, two))

past_items : (written bytes rest : List ℕ) → Spells written bytes → text_len (written ++ rest) ≡ length written
past_items written [] rest e = subst (λ (x : List ℕ). text_len (x ++ rest) ≡ length x) (sym e) (text_closed rest)
past_items written (byte ∷ bytes) rest (item, more, e, is, s) =
    let cut : text_len (written ++ rest) ≡ text_len (item ++ (more ++ rest)) = ap (λ (x : List ℕ). text_len (x ++ rest)) e ∙ ap text_len (append_assoc item more rest) in
    let here = past_item item byte (more ++ rest) is in
    let behind = past_items more bytes rest s in
    let long : length written ≡ length item + length more = ap length e ∙ length-append item more in
    omega (arith, cut, here, behind, long)

-- a text takes its own bytes alone, whatever follows
pub text_ends : (text rest : List ℕ) → IsText text → token_len (text ++ rest) ≡ length text
text_ends text rest (bytes, (written, e, s)) =
    subst (λ (x : List ℕ). token_len (x ++ rest) ≡ length x) (sym e) (let here = past_items written bytes rest s in omega (arith, here))

-- no byte of an item is bad, and none of a text
item_clean : (item : List ℕ) (byte : ℕ) → IsItem item byte → list_any is_bad item ≡ false
item_clean item byte (plain p e) =
    let o = plain_other byte p in
    subst (λ (x : List ℕ). list_any is_bad x ≡ false) (sym e) (ap (λ (t : Bool). t || false) o.2)
item_clean item byte (short b p e) =
    subst (λ (x : List ℕ). list_any is_bad x ≡ false) (sym e) (ap (λ (t : Bool). t || false) (short_clean b byte p))
  where
    short_clean : (b byte : ℕ) → escaped b ≡ Some byte → is_bad b ≡ false
    short_clean b byte p = grind (arith, nat_tests)
item_clean item byte (hex a b p q v e) =
    let o = hex_other a p in
    let m = hex_other b q in
    subst (λ (x : List ℕ). list_any is_bad x ≡ false) (sym e)
    (ap (λ (t : Bool). t || (is_bad b || false)) o.2 ∙ ap (λ (t : Bool). t || false) m.2)

pub spelled_clean : (written bytes : List ℕ) → Spells written bytes → list_any is_bad written ≡ false
spelled_clean written [] e = ap (list_any is_bad) e
spelled_clean written (byte ∷ bytes) (item, more, e, is, s) =
    ap (list_any is_bad) e ∙ list_any-append is_bad item more
    ∙ ap (λ (t : Bool). t || list_any is_bad more) (item_clean item byte is) ∙ spelled_clean more bytes s

pub text_clean : (text : List ℕ) → IsText text → list_any is_bad text ≡ false
text_clean text (bytes, (written, e, s)) = ap (list_any is_bad) e ∙ spelled_clean written bytes s
