-- Each line is written in one way, and no line of one sort is one of another.
use Rattle.std.proofs.Common.{◌≡◌, ℕ, ◌^◌, ◌<◌, ◌≤◌, Bool, true, false, List, [], ◌∷◌, ◌++◌, length, get_or, refl, sym, ◌∙◌, ap, ap₂, subst, arith, Option, None, Some}
use Rattle.std.specs.Prelude.{decimal, codes}
use Rattle.std.specs.List.{All}
use Rattle.std.proofs.lemmas.Fmt.{decimal_is_IsNumeral, decimal_injective}
use Rattle.std.proofs.lemmas.List.{append_assoc, append_cancel_left, length-append}
use Rattle.std.proofs.lemmas.List.Concat.{flat_map-cons}
use Rattle.std.proofs.lemmas.List.Elements.{All-nil, All-cons, All-head, All-tail}
use Rattle.litmus_syntax.specs.declared.site.SiteKind.{SiteKind}
use Rattle.litmus_syntax.specs.declared.site.SiteKind.TheVariants.{Fsync, Sync, All as Each}
use Rattle.numerals.specs.Numbers.{numbers_text}
use Rattle.numerals.specs.Spans.{is_decimal_digit, StartsNot}
use Rattle.numerals.proofs.VisibleLines.{Narrow}
use Rattle.clause_store.specs.declared.Lit.{Lit}
use Rattle.clause_store.specs.Clauses.{InVars}
use Rattle.proof_log.specs.LogText.{literals_text, clause_line, kind_word, head_line, sites_line, formula_line}
use Rattle.proof_log.proofs.Numbering.{space_ends, nothing_ends, one_number}
use Rattle.proof_log.proofs.Literals.{one_list, printed_literals}

pub numbers_end : (ns : List ℕ) → StartsNot is_decimal_digit (numbers_text ns)
numbers_end [] = nothing_ends
numbers_end (n ∷ ns) = subst (StartsNot is_decimal_digit) (sym (flat_map-cons (λ k. 32 ∷ decimal k) n ns)) (space_ends (decimal n ++ numbers_text ns))

cons_tail : (x : ℕ) (xs ys : List ℕ) → x ∷ xs ≡ x ∷ ys → xs ≡ ys
cons_tail x xs ys e = cc

no_space : (xs : List ℕ) → [] ≡ 32 ∷ xs → ⊥
no_space xs e = absurd cc

-- a number and numbers behind it are read in one way
pub one_first : (n : ℕ) (ns : List ℕ) (m : ℕ) (rest : List ℕ) → n ≤ 4294967295 → m ≤ 4294967295 → StartsNot is_decimal_digit rest
    → numbers_text (n ∷ ns) ≡ 32 ∷ decimal m ++ rest → (n ≡ m) × (numbers_text ns ≡ rest)
one_first n ns m rest small small' ends e =
    let wide : n < 2 ^ 64 = omega (arith, small) in
    let wide' : m < 2 ^ 64 = omega (arith, small') in
    let cut : decimal n ++ numbers_text ns ≡ decimal m ++ rest =
    cons_tail 32 (decimal n ++ numbers_text ns) (decimal m ++ rest) (sym (flat_map-cons (λ k. 32 ∷ decimal k) n ns) ∙ e) in
    let both = one_number (decimal n) (numbers_text ns) (decimal m) rest (decimal_is_IsNumeral n wide).0.1 (decimal_is_IsNumeral m wide').0.1 (numbers_end ns) ends cut in
    (decimal_injective n m wide wide' both.0, both.1)

pub one_numbers : (ns ms : List ℕ) → Narrow ns → Narrow ms → numbers_text ns ≡ numbers_text ms → ns ≡ ms
one_numbers [] [] small small' e = refl
one_numbers [] (m ∷ ms) small small' e = absurd (no_space (decimal m ++ numbers_text ms) (e ∙ flat_map-cons (λ k. 32 ∷ decimal k) m ms))
one_numbers (n ∷ ns) [] small small' e = absurd (no_space (decimal n ++ numbers_text ns) (sym e ∙ flat_map-cons (λ k. 32 ∷ decimal k) n ns))
one_numbers (n ∷ ns) (m ∷ ms) small small' e =
    let both = one_first n ns m (numbers_text ms) (All-head (λ k. k ≤ 4294967295) n ns small) (All-head (λ k. k ≤ 4294967295) m ms small') (numbers_end ms)
    (e ∙ flat_map-cons (λ k. 32 ∷ decimal k) m ms) in
    ap₂ (λ (x : ℕ) (xs : List ℕ). x ∷ xs) both.0
    (one_numbers ns ms (All-tail (λ k. k ≤ 4294967295) n ns small) (All-tail (λ k. k ≤ 4294967295) m ms small') both.1)

pub one_head : (a b : Bool) → head_line a ≡ head_line b → a ≡ b
one_head true true e = refl
one_head false false e = refl
one_head true false e = let bad : 50 ≡ 49 = ap (λ (l : List ℕ). get_or l 12 0) e in absurd (omega (arith, bad))
one_head false true e = let bad : 49 ≡ 50 = ap (λ (l : List ℕ). get_or l 12 0) e in absurd (omega (arith, bad))

-- the words of the kinds differ in their first bytes
pub one_word : (k m : SiteKind) (xs ys : List ℕ) → kind_word k ++ xs ≡ kind_word m ++ ys → (k ≡ m) × (xs ≡ ys)
one_word Fsync Fsync xs ys e = (refl, append_cancel_left (codes "fsync") xs ys e)
one_word Sync Sync xs ys e = (refl, append_cancel_left (codes "sync") xs ys e)
one_word Each Each xs ys e = (refl, append_cancel_left (codes "all") xs ys e)
one_word Fsync Sync xs ys e = let bad : 102 ≡ 115 = ap (λ (l : List ℕ). get_or l 0 0) e in absurd (omega (arith, bad))
one_word Fsync Each xs ys e = let bad : 102 ≡ 97 = ap (λ (l : List ℕ). get_or l 0 0) e in absurd (omega (arith, bad))
one_word Sync Fsync xs ys e = let bad : 115 ≡ 102 = ap (λ (l : List ℕ). get_or l 0 0) e in absurd (omega (arith, bad))
one_word Sync Each xs ys e = let bad : 115 ≡ 97 = ap (λ (l : List ℕ). get_or l 0 0) e in absurd (omega (arith, bad))
one_word Each Fsync xs ys e = let bad : 97 ≡ 102 = ap (λ (l : List ℕ). get_or l 0 0) e in absurd (omega (arith, bad))
one_word Each Sync xs ys e = let bad : 97 ≡ 115 = ap (λ (l : List ℕ). get_or l 0 0) e in absurd (omega (arith, bad))

-- no word of a kind is that of none
pub no_kind : (k : SiteKind) (xs : List ℕ) → kind_word k ++ xs ≡ codes "none" → ⊥
no_kind Fsync xs e = let bad : 102 ≡ 110 = ap (λ (l : List ℕ). get_or l 0 0) e in omega (arith, bad)
no_kind Sync xs e = let bad : 115 ≡ 110 = ap (λ (l : List ℕ). get_or l 0 0) e in omega (arith, bad)
no_kind Each xs e = let bad : 97 ≡ 110 = ap (λ (l : List ℕ). get_or l 0 0) e in omega (arith, bad)

pub word_behind : (k : SiteKind) (ns : List ℕ) → sites_line (Some k) ns ≡ codes "sites " ++ (kind_word k ++ numbers_text ns)
word_behind k ns = append_assoc (codes "sites ") (kind_word k) (numbers_text ns)

pub one_sites : (k m : Option SiteKind) (ns ms : List ℕ) → Narrow ns → Narrow ms → (k ≡ None → ns ≡ []) → (m ≡ None → ms ≡ []) → sites_line k ns ≡ sites_line m ms
    → (k ≡ m) × (ns ≡ ms)
one_sites None None ns ms small small' off off' e = (refl, off refl ∙ sym (off' refl))
one_sites None (Some m) ns ms small small' off off' e =
    absurd (no_kind m (numbers_text ms) (append_cancel_left (codes "sites ") (kind_word m ++ numbers_text ms) (codes "none") (sym (word_behind m ms) ∙ sym e)))
one_sites (Some k) None ns ms small small' off off' e =
    absurd (no_kind k (numbers_text ns) (append_cancel_left (codes "sites ") (kind_word k ++ numbers_text ns) (codes "none") (sym (word_behind k ns) ∙ e)))
one_sites (Some k) (Some m) ns ms small small' off off' e =
    let both = one_word k m (numbers_text ns) (numbers_text ms)
    (append_cancel_left (codes "sites ") (kind_word k ++ numbers_text ns) (kind_word m ++ numbers_text ms) (sym (word_behind k ns) ∙ e ∙ word_behind m ms)) in
    (ap (λ (x : SiteKind). Some x) both.0, one_numbers ns ms small small' both.1)

pub two_narrow : (v c : ℕ) → v ≤ 4294967295 → c ≤ 4294967295 → Narrow (v ∷ c ∷ [])
two_narrow v c small small' = All-cons (λ n. n ≤ 4294967295) v (c ∷ []) small (All-cons (λ n. n ≤ 4294967295) c [] small' (All-nil (λ n. n ≤ 4294967295)))

pub one_formula : (v c w d : ℕ) → v ≤ 4294967295 → c ≤ 4294967295 → w ≤ 4294967295 → d ≤ 4294967295 → formula_line v c ≡ formula_line w d → (v ≡ w) × (c ≡ d)
one_formula v c w d a b a' b' e =
    let same = one_numbers (v ∷ c ∷ []) (w ∷ d ∷ []) (two_narrow v c a b) (two_narrow w d a' b')
    (append_cancel_left (codes "formula") (numbers_text (v ∷ c ∷ [])) (numbers_text (w ∷ d ∷ [])) e) in
    (ap (λ (l : List ℕ). get_or l 0 0) same, ap (λ (l : List ℕ). get_or l 1 0) same)

pub one_clause : (vars : ℕ) (xs ys : List Lit) → vars ≤ 4294967295 → All (InVars vars) xs → All (InVars vars) ys → clause_line xs ≡ clause_line ys → xs ≡ ys
one_clause vars xs ys small all all' e =
    one_list (literals_text xs) xs (literals_text ys) ys (printed_literals vars xs small all) (printed_literals vars ys small all') e

-- a clause line ends in a 0
last_of : (xs ys : List ℕ) (a b : ℕ) → xs ++ a ∷ [] ≡ ys ++ b ∷ [] → a ≡ b
last_of [] [] a b e = cc
last_of [] (y ∷ ys) a b e = absurd (omega (arith, ap (λ (l : List ℕ). length l) e, length-append ys (b ∷ [])))
last_of (x ∷ xs) [] a b e = absurd (omega (arith, ap (λ (l : List ℕ). length l) e, length-append xs (a ∷ [])))
last_of (x ∷ xs) (y ∷ ys) a b e = last_of xs ys a b (tails x y (xs ++ a ∷ []) (ys ++ b ∷ []) e)
  where
    tails : (x y : ℕ) (xs ys : List ℕ) → x ∷ xs ≡ y ∷ ys → xs ≡ ys
    tails x y xs ys e = cc

pub no_question : (text : List ℕ) → text ++ codes "0" ≡ codes "question" → ⊥
no_question text e = let bad = last_of text (codes "questio") 48 110 e in omega (arith, bad)

pub no_end : (text : List ℕ) → text ++ codes "0" ≡ codes "end" → ⊥
no_end text e = let bad = last_of text (codes "en") 48 100 e in omega (arith, bad)
