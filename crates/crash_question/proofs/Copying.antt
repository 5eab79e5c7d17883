-- Clauses copied one after the other, none of them empty.
use Rattle.std.proofs.Common.{◌≡◌, ℕ, suc, ◌+◌, ◌<◌, List, [], ◌∷◌, ◌++◌, length, take, get_or, Some, slice_get, refl, sym, ◌∙◌, ap, arith}
use Rattle.std.proofs.Math.Seq.{take-suc}
use Rattle.std.proofs.lemmas.List.{get_or_default}
use Rattle.std.proofs.lemmas.Option.{get_or_from_slice_get}
use Rattle.std.specs.List.{Contains}
use Rattle.clause_store.specs.declared.Lit.{Lit}
use Rattle.clause_store.specs.Clauses.{Formula}

some_lits : (clause : List Lit) → (clause ≡ [] → ⊥) → 0 < length clause
some_lits [] none = absurd (none refl)
some_lits (l ∷ ls) none = omega arith

pub each_has_lits : (clauses : List (List Lit)) → (Contains clauses [] → ⊥) → (k : ℕ) (d : List Lit) → k < length clauses → 0 < length (get_or clauses k d)
each_has_lits clauses none k d there = some_lits (get_or clauses k d) (λ e. none (k, there, get_or_default clauses k [] d there ∙ e))

-- one clause more
pub copied_next :
    (vars k : ℕ) (clauses : List (List Lit)) (clause : List Lit) (old new : Formula) → k < length clauses → slice_get clauses k ≡ Some clause
    → old ≡ record { vars = vars; clauses = take k clauses } → new ≡ record old { clauses = old.clauses ++ clause ∷ [] }
    → new ≡ record { vars = vars; clauses = take (k + 1) clauses }
copied_next vars k clauses clause old new there is so_far added =
    let make : ℕ → List (List Lit) → Formula = λ v cs. record { vars = v; clauses = cs } in
    let next : suc k ≡ k + 1 = omega arith in
    let longer : take k clauses ++ clause ∷ [] ≡ take (k + 1) clauses =
    ap (λ y. take k clauses ++ y ∷ []) (sym (get_or_from_slice_get clauses k clause clause is)) ∙ sym (take-suc clauses k clause there) ∙ ap (λ (n : ℕ). take n clauses) next in
    added ∙ ap (λ (f : Formula). make f.vars (f.clauses ++ clause ∷ [])) so_far ∙ ap (make vars) longer
