-- One more clause of a part of a list.
use Rattle.std.proofs.Common.{◌≡◌, ℕ, ◌+◌, ◌-◌, ◌<◌, ◌≤◌, List, [], ◌∷◌, ◌++◌, length, take, drop, get_or, sym, ◌∙◌, ap, arith, Some}
use Rattle.std.specs.Prelude.{codes, map, slice_get, slice_range}
use Rattle.std.proofs.lemmas.List.{take_more, get_or-drop, length-drop, map-append, flat_map_more}
use Rattle.std.proofs.lemmas.Option.{get_or_from_slice_get}
use Rattle.clause_store.specs.declared.Lit.{Lit}
use Rattle.proof_log.specs.LogText.{clause_line, text_of}

range_more : (cs : List (List Lit)) (start id : ℕ) (c : List Lit) → start ≤ id → id < length cs → slice_get cs id ≡ Some c
    → slice_range cs start (id + 1) ≡ slice_range cs start id ++ c ∷ []
range_more cs start id c turned there is =
    let count : id + 1 - start ≡ id - start + 1 = omega (arith, turned) in
    let place : start + (id - start) ≡ id = omega (arith, turned) in
    let inside : id - start < length (drop start cs) = omega (arith, turned, there, length-drop start cs) in
    let at : get_or (drop start cs) (id - start) c ≡ c = get_or-drop start cs (id - start) c ∙ ap (λ (k : ℕ). get_or cs k c) place ∙ get_or_from_slice_get cs id c c is in
    ap (λ (k : ℕ). take k (drop start cs)) count ∙ take_more (drop start cs) (id - start) c inside ∙ ap (λ (x : List Lit). take (id - start) (drop start cs) ++ x ∷ []) at

pub clauses_more : (out : List ℕ) (before : List ℕ) (cs : List (List Lit)) (start id : ℕ) (c : List Lit) → start ≤ id → id < length cs → slice_get cs id ≡ Some c
    → before ≡ out ++ text_of (map clause_line (slice_range cs start id)) → before ++ (clause_line c ++ codes "\n") ≡ out ++ text_of (map clause_line (slice_range cs start (id + 1)))
clauses_more out before cs start id c turned there is e =
    let xs = map clause_line (slice_range cs start id) in
    ap (λ (x : List ℕ). x ++ (clause_line c ++ codes "\n")) e
    ∙ flat_map_more (λ (line : List ℕ). line ++ codes "\n") out xs (clause_line c)
    ∙ ap (λ (x : List (List ℕ)). out ++ text_of x)
    (sym (map-append clause_line (slice_range cs start id) (c ∷ [])) ∙ ap (map clause_line) (sym (range_more cs start id c turned there is)))
