-- The texts of lists of lines add up.
use Rattle.std.proofs.Common.{◌≡◌, ℕ, ◌-◌, List, ◌∷◌, ◌++◌, length, take, drop, sym, ◌∙◌, ap, ap₂, arith}
use Rattle.std.specs.Prelude.{codes, map, slice_range}
use Rattle.std.proofs.lemmas.Grind.{flat_map-append}
use Rattle.std.proofs.lemmas.List.{append_assoc, length-drop, take_all, take-map, drop-map}
use Rattle.std.proofs.lemmas.List.Concat.{flat_map-cons}
use Rattle.clause_store.specs.declared.Lit.{Lit}
use Rattle.proof_log.specs.LogText.{clause_line, text_of}

pub text_both : (xs ys : List (List ℕ)) → text_of (xs ++ ys) ≡ text_of xs ++ text_of ys
text_both xs ys = flat_map-append (λ (line : List ℕ). line ++ codes "\n") xs ys

pub text_first : (x : List ℕ) (ys : List (List ℕ)) → text_of (x ∷ ys) ≡ (x ++ codes "\n") ++ text_of ys
text_first x ys = flat_map-cons (λ (line : List ℕ). line ++ codes "\n") x ys

range_front : (cs : List (List Lit)) (n : ℕ) → slice_range cs 0 n ≡ take n cs
range_front cs n = let same : n - 0 ≡ n = omega arith in ap (λ (k : ℕ). take k cs) same

range_back : (cs : List (List Lit)) (n : ℕ) → slice_range cs n (length cs) ≡ drop n cs
range_back cs n = take_all (length cs - n) (drop n cs) (omega (arith, length-drop n cs))

-- clauses around the question
pub learned_asked : (out : List ℕ) (cs : List (List Lit)) (n : ℕ)
    → ((out ++ text_of (map clause_line (slice_range cs 0 n))) ++ codes "question\n") ++ text_of (map clause_line (slice_range cs n (length cs)))
    ≡ out ++ text_of (take n (map clause_line cs) ++ codes "question" ∷ drop n (map clause_line cs))
learned_asked out cs n =
    let front = take n (map clause_line cs) in
    let back = drop n (map clause_line cs) in
    let f : map clause_line (slice_range cs 0 n) ≡ front = ap (map clause_line) (range_front cs n) ∙ sym (take-map clause_line n cs) in
    let b : map clause_line (slice_range cs n (length cs)) ≡ back = ap (map clause_line) (range_back cs n) ∙ sym (drop-map clause_line n cs) in
    ap₂ (λ (x y : List (List ℕ)). ((out ++ text_of x) ++ codes "question\n") ++ text_of y) f b
    ∙ append_assoc (out ++ text_of front) (codes "question\n") (text_of back)
    ∙ append_assoc out (text_of front) (codes "question\n" ++ text_of back)
    ∙ ap (λ (x : List ℕ). out ++ (text_of front ++ x)) (sym (text_first (codes "question") back))
    ∙ ap (λ (x : List ℕ). out ++ x) (sym (text_both front (codes "question" ∷ back)))
