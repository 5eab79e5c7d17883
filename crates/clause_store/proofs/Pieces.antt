-- Laws of the pieces of a flat list.
use Rattle.std.proofs.Common.{◌≡◌, ℕ, zero, suc, ◌+◌, ◌<◌, ◌≤◌, List, [], ◌∷◌, ◌++◌, length, get_or, take, drop, refl, ap, sym, ◌∙◌, Some, slice_get, slice_range, arith, length-append}
use Rattle.std.proofs.lemmas.Grind.{common_steps}
use Rattle.std.proofs.lemmas.List.{take-append-drop}
use Rattle.std.proofs.lemmas.List.Elements.{All-append, All-take, All-drop, All-nil, All-cons, All-weaker}
use Rattle.std.specs.List.{All}
use Rattle.clause_store.specs.declared.Lit.{Lit}
use Rattle.clause_store.specs.Clauses.{InVars}
use Rattle.clause_store.specs.Arena.{pieces, AreEnds, start_at, IsArena}

pub length_pieces : (from : ℕ) (es : List ℕ) (lits : List Lit) → length (pieces from es lits) ≡ length es
length_pieces from [] lits = refl
length_pieces from (e ∷ es) lits = ap (λ n. suc n) (length_pieces e es lits)

-- the first place is within
pub AreEnds-le : (from : ℕ) (es : List ℕ) (n : ℕ) → AreEnds from es n → from ≤ n
AreEnds-le from [] n h = omega (arith, h)
AreEnds-le from (e ∷ es) n h = omega (arith, h.0, AreEnds-le e es n h.1)

pub AreEnds-push : (from : ℕ) (es : List ℕ) (n m : ℕ) → AreEnds from es n → AreEnds from (es ++ (n + m) ∷ []) (n + m)
AreEnds-push from [] n m h = (omega (arith, h), refl)
AreEnds-push from (e ∷ es) n m h = (h.0, AreEnds-push e es n m h.1)

range-append : (lits c : List Lit) (from e : ℕ) → from ≤ e → e ≤ length lits → slice_range (lits ++ c) from e ≡ slice_range lits from e
range-append lits c from e h k = grind (arith, common_steps)

range-last : (lits c : List Lit) → slice_range (lits ++ c) (length lits) (length lits + length c) ≡ c
range-last lits c = grind (arith, common_steps)

length_take_within : (n : ℕ) (lits : List Lit) → n ≤ length lits → length (take n lits) ≡ n
length_take_within n lits h = grind (arith, common_steps)

range-take : (lits : List Lit) (from e n : ℕ) → from ≤ e → e ≤ n → n ≤ length lits → slice_range (take n lits) from e ≡ slice_range lits from e
range-take lits from e n h k w =
    let within : e ≤ length (take n lits) = rw (length_take_within n lits w) k in
    sym (range-append (take n lits) (drop n lits) from e h within)
    ∙ ap (λ (xs : List Lit). slice_range xs from e) (take-append-drop n lits)

pub pieces-push : (from : ℕ) (es : List ℕ) (lits c : List Lit) → AreEnds from es (length lits) → pieces from (es ++ (length lits + length c) ∷ []) (lits ++ c) ≡ pieces from es lits ++ c ∷ []
pieces-push from [] lits c h = rw h (ap (λ x. x ∷ []) (range-last lits c))
pieces-push from (e ∷ es) lits c h =
    let k = AreEnds-le e es (length lits) h.1 in
    rw (range-append lits c from e h.0 k) (ap (λ xs. slice_range lits from e ∷ xs) (pieces-push e es lits c h.1))

pub get_pieces : (from : ℕ) (es : List ℕ) (lits : List Lit) (id : ℕ) → id < length es → slice_get (pieces from es lits) id ≡ Some (slice_range lits (start_at from es id) (get_or es id 0))
get_pieces from [] lits id h = grind arith
get_pieces from (e ∷ es) lits zero h = refl
get_pieces from (e ∷ es) lits (suc zero) h = get_pieces e es lits zero (omega arith)
get_pieces from (e ∷ es) lits (suc (suc k)) h = get_pieces e es lits (suc k) (omega arith)

pub start_le : (from : ℕ) (es : List ℕ) (n id : ℕ) → AreEnds from es n → id < length es → start_at from es id ≤ get_or es id 0
start_le from [] n id a h = grind arith
start_le from (e ∷ es) n zero a h = a.0
start_le from (e ∷ es) n (suc zero) a h = start_le e es n zero a.1 (omega arith)
start_le from (e ∷ es) n (suc (suc k)) a h = start_le e es n (suc k) a.1 (omega arith)

pub end_le : (from : ℕ) (es : List ℕ) (n id : ℕ) → AreEnds from es n → id < length es → get_or es id 0 ≤ n
end_le from [] n id a h = grind arith
end_le from (e ∷ es) n zero a h = AreEnds-le e es n a.1
end_le from (e ∷ es) n (suc k) a h = end_le e es n k a.1 (omega arith)

-- where a piece begins, all pieces before it have ended
first_le : (from : ℕ) (es : List ℕ) (n id : ℕ) → AreEnds from es n → id ≤ length es → from ≤ start_at from es id
first_le from es n zero a h = omega arith
first_le from [] n (suc id) a h = absurd (omega arith)
first_le from (e ∷ es) n (suc zero) a h = a.0
first_le from (e ∷ es) n (suc (suc k)) a h = omega (arith, a.0, first_le e es n (suc k) a.1 (omega arith))

pub begin_le : (from : ℕ) (es : List ℕ) (n id : ℕ) → AreEnds from es n → id ≤ length es → start_at from es id ≤ n
begin_le from es n zero a h = AreEnds-le from es n a
begin_le from es n (suc k) a h = end_le from es n k a (omega arith)

-- the first ends are the ends of the list up to the place where the next piece begins
pub AreEnds-take : (from : ℕ) (es : List ℕ) (n id : ℕ) → AreEnds from es n → id ≤ length es → AreEnds from (take id es) (start_at from es id)
AreEnds-take from es n zero a h = refl
AreEnds-take from [] n (suc id) a h = absurd (omega arith)
AreEnds-take from (e ∷ es) n (suc zero) a h = (a.0, refl)
AreEnds-take from (e ∷ es) n (suc (suc k)) a h = (a.0, AreEnds-take e es n (suc k) a.1 (omega arith))

pub pieces-take : (from : ℕ) (es : List ℕ) (lits : List Lit) (id : ℕ) → AreEnds from es (length lits) → id ≤ length es → pieces from (take id es) (take (start_at from es id) lits) ≡ take id (pieces from es lits)
pieces-take from es lits zero a h = refl
pieces-take from [] lits (suc id) a h = absurd (omega arith)
pieces-take from (e ∷ es) lits (suc zero) a h =
    ap (λ x. x ∷ []) (range-take lits from e e a.0 (omega arith) (AreEnds-le e es (length lits) a.1))
pieces-take from (e ∷ es) lits (suc (suc k)) a h =
    let le = first_le e es (length lits) (suc k) a.1 (omega arith) in
    let within = begin_le e es (length lits) (suc k) a.1 (omega arith) in
    rw (range-take lits from e (start_at e es (suc k)) a.0 le within)
    (ap (λ xs. slice_range lits from e ∷ xs) (pieces-take e es lits (suc k) a.1 (omega arith)))

pub arena-push :
    (vars : ℕ) (ends : List ℕ) (lits c : List Lit) (ends' : List ℕ) (lits' : List Lit) (n : ℕ)
    → IsArena vars ends lits → All (InVars vars) c → lits' ≡ lits ++ c → n ≡ length lits + length c → ends' ≡ ends ++ n ∷ [] → IsArena vars ends' lits'
arena-push vars ends lits c ends' lits' n a h e en e' = record {
  cut = rw (e', e, en, length-append lits c) (AreEnds-push 0 ends (length lits) (length c) a.cut);
  named = rw e (All-append (InVars vars) lits c a.named h);
}

pub view-push :
    (vars : ℕ) (ends : List ℕ) (lits c : List Lit) (ends' : List ℕ) (lits' : List Lit) (n : ℕ)
    → IsArena vars ends lits → lits' ≡ lits ++ c → n ≡ length lits + length c → ends' ≡ ends ++ n ∷ []
    → pieces 0 ends' lits' ≡ pieces 0 ends lits ++ c ∷ []
view-push vars ends lits c ends' lits' n a e en e' = rw (e', e, en) (pieces-push 0 ends lits c a.cut)

pub arena-take :
    (vars : ℕ) (ends : List ℕ) (lits : List Lit) (id : ℕ)
    → IsArena vars ends lits → id ≤ length ends → IsArena vars (take id ends) (take (start_at 0 ends id) lits)
arena-take vars ends lits id a h = record {
  cut =
      rw (length_take_within (start_at 0 ends id) lits (begin_le 0 ends (length lits) id a.cut h))
      (AreEnds-take 0 ends (length lits) id a.cut h);
  named = All-take (InVars vars) (start_at 0 ends id) lits a.named;
}

pub arena-raise :
    (vars more : ℕ) (ends : List ℕ) (lits : List Lit) → IsArena vars ends lits → vars ≤ more → IsArena more ends lits
arena-raise vars more ends lits a h = record {
  cut = a.cut;
  named = All-weaker (InVars vars) (InVars more) (λ l w. (w.0, omega (arith, w.1))) lits a.named;
}

-- what holds of each literal holds of each literal of each piece
pub All-pieces : (P : Lit → Type 0) (from : ℕ) (ends : List ℕ) (lits : List Lit) → All P lits → All (All P) (pieces from ends lits)
All-pieces P from [] lits h = All-nil (All P)
All-pieces P from (e ∷ es) lits h =
    All-cons (All P) (slice_range lits from e) (pieces e es lits) (All-take P _ _ (All-drop P _ lits h)) (All-pieces P e es lits h)
