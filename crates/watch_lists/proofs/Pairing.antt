-- Watches as they are kept: the numbers of the clauses, and the watched literals side by side.
use Rattle.std.proofs.Common.{◌≡◌, ℕ, zero, suc, ◌*◌, Bool, true, false, List, [], ◌∷◌, ◌++◌, length, set, slice_get, Some, refl, ap, arith}
use Rattle.std.proofs.lemmas.Option.{same_Some}
use Rattle.clause_store.specs.declared.Lit.{Lit}
use Rattle.watch_lists.specs.Watching.{Watch, numbers}
use Rattle.watch_lists.specs.Going.{watches_of, here, moved, place}

two-more : (i : ℕ) (b : Bool) → place (suc i) b ≡ suc (suc (place i b))
two-more i true = omega arith
two-more i false = omega arith

pub length-of : (ids : List ℕ) (lits : List Lit) → length lits ≡ 2 * length ids → length (watches_of ids lits) ≡ length ids
length-of [] lits h = refl
length-of (id ∷ ids) [] h = absurd (omega (arith, h))
length-of (id ∷ ids) (a ∷ []) h = absurd (omega (arith, h))
length-of (id ∷ ids) (a ∷ b ∷ lits) h = ap (λ (n : ℕ). suc n) (length-of ids lits (omega (arith, h)))

pub numbers-of : (ids : List ℕ) (lits : List Lit) → length lits ≡ 2 * length ids → numbers (watches_of ids lits) ≡ ids
numbers-of [] lits h = refl
numbers-of (id ∷ ids) [] h = absurd (omega (arith, h))
numbers-of (id ∷ ids) (a ∷ []) h = absurd (omega (arith, h))
numbers-of (id ∷ ids) (a ∷ b ∷ lits) h = ap (λ (ns : List ℕ). id ∷ ns) (numbers-of ids lits (omega (arith, h)))

-- what is read of a watch
pub id-at : (ids : List ℕ) (lits : List Lit) (i : ℕ) (w : Watch) → slice_get (watches_of ids lits) i ≡ Some w → slice_get ids i ≡ Some w.clause
id-at [] lits i w e = cc
id-at (id ∷ ids) [] i w e = cc
id-at (id ∷ ids) (a ∷ []) i w e = cc
id-at (id ∷ ids) (a ∷ b ∷ lits) zero w e = ap (λ (v : Watch). Some v.clause) (same_Some _ w e)
id-at (id ∷ ids) (a ∷ b ∷ lits) (suc i) w e = id-at ids lits i w e

pub lit-at : (ids : List ℕ) (lits : List Lit) (i : ℕ) (w : Watch) (s : Bool) → slice_get (watches_of ids lits) i ≡ Some w → slice_get lits (place i s) ≡ Some (here w s)
lit-at [] lits i w s e = cc
lit-at (id ∷ ids) [] i w s e = cc
lit-at (id ∷ ids) (a ∷ []) i w s e = cc
lit-at (id ∷ ids) (a ∷ b ∷ lits) zero w true e = ap (λ (v : Watch). Some v.second) (same_Some _ w e)
lit-at (id ∷ ids) (a ∷ b ∷ lits) zero w false e = ap (λ (v : Watch). Some v.first) (same_Some _ w e)
lit-at (id ∷ ids) (a ∷ b ∷ lits) (suc i) w s e = rw (two-more i s) (lit-at ids lits i w s e)

-- another literal is watched
pub lit-moved : (ids : List ℕ) (lits : List Lit) (i : ℕ) (w : Watch) (s : Bool) (m : Lit) → slice_get (watches_of ids lits) i ≡ Some w → watches_of ids (set lits (place i s) m) ≡ set (watches_of ids lits) i (moved w s m)
lit-moved [] lits i w s m e = cc
lit-moved (id ∷ ids) [] i w s m e = cc
lit-moved (id ∷ ids) (a ∷ []) i w s m e = cc
lit-moved (id ∷ ids) (a ∷ b ∷ lits) zero w true m e = ap (λ (v : Watch). moved v true m ∷ watches_of ids lits) (same_Some _ w e)
lit-moved (id ∷ ids) (a ∷ b ∷ lits) zero w false m e = ap (λ (v : Watch). moved v false m ∷ watches_of ids lits) (same_Some _ w e)
lit-moved (id ∷ ids) (a ∷ b ∷ lits) (suc i) w s m e = rw (two-more i s) (ap (λ (ws : List Watch). (record { clause = id; first = a; second = b }) ∷ ws) (lit-moved ids lits i w s m e))

-- one clause more
pub one-more : (ids : List ℕ) (lits : List Lit) (id : ℕ) (a b : Lit) → length lits ≡ 2 * length ids → watches_of (ids ++ id ∷ []) (lits ++ a ∷ b ∷ []) ≡ watches_of ids lits ++ (record { clause = id; first = a; second = b }) ∷ []
one-more [] [] id a b h = refl
one-more [] (x ∷ lits) id a b h = absurd (omega (arith, h))
one-more (n ∷ ids) [] id a b h = absurd (omega (arith, h))
one-more (n ∷ ids) (x ∷ []) id a b h = absurd (omega (arith, h))
one-more (n ∷ ids) (x ∷ y ∷ lits) id a b h = ap (λ (ws : List Watch). (record { clause = n; first = x; second = y }) ∷ ws) (one-more ids lits id a b (omega (arith, h)))
