-- Lines without control characters end where a line feed stands behind them; numbers and spaces are none.
use Rattle.std.proofs.Common.{◌≡◌, ℕ, ◌^◌, ◌<◌, ◌≤◌, Bool, true, false, cond, eqb, leb, ◌&&◌, List, [], ◌∷◌, ◌++◌, refl, sym, ◌∙◌, ap, subst, arith}
use Rattle.std.specs.Prelude.{decimal}
use Rattle.std.specs.List.{All, list_all, onto_first}
use Rattle.std.specs.Str.Parse.{AllDigits}
use Rattle.std.proofs.lemmas.Bool.{and_parts, and_from}
use Rattle.std.proofs.lemmas.Bool.Decides.{nat_tests}
use Rattle.std.proofs.lemmas.Fmt.{decimal_is_IsNumeral}
use Rattle.std.proofs.lemmas.List.Concat.{flat_map-cons}
use Rattle.std.proofs.lemmas.List.Elements.{All-head, All-tail}
use Rattle.std.proofs.lemmas.List.Folds.{list_all-append}
use Rattle.std.proofs.lemmas.Str.Parse.{digit_from_value}
use Rattle.text_scan.specs.Lines.{lines_of, feed_is_first}
use Rattle.numerals.specs.Numbers.{numbers_text}

-- no byte is a control character
abbrev pub Visible : List ℕ → Type 0
Visible bytes = list_all (λ b. leb 32 b) bytes ≡ true

no_feed : (b : ℕ) → leb 32 b ≡ true → eqb b 10 ≡ false
no_feed b told = grind (arith, nat_tests)

no_return : (b : ℕ) → leb 32 b ≡ true → eqb b 13 ≡ false
no_return b told = grind (arith, nat_tests)

-- a line of visible bytes ends at its line feed
pub cut_line : (line rest : List ℕ) → Visible line → lines_of (line ++ 10 ∷ rest) ≡ line ∷ lines_of rest
cut_line [] rest seen = refl
cut_line (b ∷ bs) rest seen =
    let parts = and_parts (leb 32 b) (list_all (λ b. leb 32 b) bs) seen in
    let others : List ℕ = bs ++ 10 ∷ rest in
    ap (λ (t : Bool). cond t ([] ∷ lines_of others) (cond (eqb b 13 && feed_is_first others) (lines_of others) (onto_first b (lines_of others)))) (no_feed b parts.0)
    ∙ ap (λ (t : Bool). cond (t && feed_is_first others) (lines_of others) (onto_first b (lines_of others))) (no_return b parts.0)
    ∙ ap (onto_first b) (cut_line bs rest parts.1)

pub seen_both : (xs ys : List ℕ) → Visible xs → Visible ys → Visible (xs ++ ys)
seen_both xs ys x y = list_all-append (λ b. leb 32 b) xs ys ∙ and_from (list_all (λ b. leb 32 b) xs) (list_all (λ b. leb 32 b) ys) x y

pub seen_digits : (digits : List ℕ) → AllDigits 10 digits → Visible digits
seen_digits [] all = refl
seen_digits (d ∷ ds) all =
    let range = digit_from_value d all.0 in
    let here : leb 32 d ≡ true = grind (arith, nat_tests) in
    and_from (leb 32 d) (list_all (λ b. leb 32 b) ds) here (seen_digits ds all.1)

-- numbers of 32 bits
abbrev pub Narrow : List ℕ → Type 0
Narrow ns = All (λ n. n ≤ 4294967295) ns

pub seen_numbers : (ns : List ℕ) → Narrow ns → Visible (numbers_text ns)
seen_numbers [] narrow = refl
seen_numbers (n ∷ ns) narrow =
    let small : n < 2 ^ 64 = omega (arith, All-head (λ n. n ≤ 4294967295) n ns narrow) in
    subst Visible (sym (flat_map-cons (λ n. 32 ∷ decimal n) n ns))
    (seen_both (32 ∷ decimal n) (numbers_text ns) (seen_digits (decimal n) (decimal_is_IsNumeral n small).0.1) (seen_numbers ns (All-tail (λ n. n ≤ 4294967295) n ns narrow)))
