-- Clauses that are added one after the other.
use Rattle.std.proofs.Common.{List, [], ◌∷◌, ◌++◌, Bool, Contains, sym, subst, append_assoc, append-nil}
use Rattle.std.proofs.lemmas.List.Elements.{All-nil, All-cons, All-append, All-push}
use Rattle.clause_store.specs.declared.Lit.{Lit}
use Rattle.clause_store.specs.Propagation.{Follows}
use Rattle.clause_store.specs.Truth.{MakesTrue, MakesAllTrue}
use Rattle.clause_store.specs.Derivations.{EachInTurn, EachFollows}
use Rattle.clause_store.proofs.GeneralLists.{Contains-joins}
use Rattle.clause_store.proofs.LeastSet.{more-follows, true-follows, true-refuted}

abbrev Kind : Type 1
Kind = List (List Lit) → List Lit → Type 0

pub turn-join : (R : Kind) (given a b : List (List Lit)) → EachInTurn R given a → EachInTurn R (given ++ a) b → EachInTurn R given (a ++ b)
turn-join R given [] b h g = subst (λ (x : List (List Lit)). EachInTurn R x b) (append-nil given) g
turn-join R given (c ∷ cs) b h g =
    (h.0, turn-join R (given ++ c ∷ []) cs b h.1 (subst (λ (x : List (List Lit)). EachInTurn R x b) (sym (append_assoc given (c ∷ []) cs)) g))

pub turn-split : (R : Kind) (given a b : List (List Lit)) → EachInTurn R given (a ++ b) → EachInTurn R given a × EachInTurn R (given ++ a) b
turn-split R given [] b h = (tt, subst (λ (x : List (List Lit)). EachInTurn R x b) (sym (append-nil given)) h)
turn-split R given (c ∷ cs) b h =
    let rest = turn-split R (given ++ c ∷ []) cs b h.1 in
    ((h.0, rest.0), subst (λ (x : List (List Lit)). EachInTurn R x b) (append_assoc given (c ∷ []) cs) rest.1)

pub turn-push : (R : Kind) (given added : List (List Lit)) (clause : List Lit) → EachInTurn R given added → R (given ++ added) clause
    → EachInTurn R given (added ++ clause ∷ [])
turn-push R given added clause h is = turn-join R given added (clause ∷ []) h (is, tt)

-- more given clauses keep a derivation
pub follows-more : (given more derived : List (List Lit)) → ((c : List Lit) → Contains given c → Contains more c) → EachFollows given derived
    → EachFollows more derived
follows-more given more [] within h = tt
follows-more given more (c ∷ cs) within h =
    (more-follows given more c within h.0, follows-more (given ++ c ∷ []) (more ++ c ∷ []) cs (Contains-joins given more (c ∷ []) within) h.1)

-- values that make the given clauses true make the derived ones true
pub derived-true : (given derived : List (List Lit)) (values : List Bool) → EachFollows given derived → MakesAllTrue values given → MakesAllTrue values derived
derived-true given [] values h all = All-nil (MakesTrue values)
derived-true given (c ∷ cs) values h all =
    let here = true-follows given c values all h.0 in
    All-cons (MakesTrue values) c cs here (derived-true (given ++ c ∷ []) cs values h.1 (All-push (MakesTrue values) given c all here))

pub derived-refuted : (given derived : List (List Lit)) (values : List Bool) → EachFollows given derived → Follows (given ++ derived) [] → MakesAllTrue values given → ⊥
derived-refuted given derived values h empty all =
    true-refuted (given ++ derived) values empty (All-append (MakesTrue values) given derived all (derived-true given derived values h all))
