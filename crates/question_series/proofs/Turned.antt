-- Literals in the opposite order say the same.
use Rattle.std.proofs.Common.{ℕ, inl, inr, List, [], ◌∷◌, ◌++◌, reverse, sym, subst}
use Rattle.std.specs.List.{All, Contains}
use Rattle.std.proofs.lemmas.List.{reverse-reverse}
use Rattle.std.proofs.lemmas.List.Elements.{Contains-append_left, Contains-push, All-weaker, All-contains, All-contains_itself}
use Rattle.clause_store.proofs.GeneralLists.{Contains-nil, Contains-cons_cases}
use Rattle.clause_store.proofs.LeastSet.{more-conflicts}
use Rattle.clause_store.specs.declared.Lit.{Lit}
use Rattle.clause_store.specs.Clauses.{negated}
use Rattle.cdcl_core.specs.Answering.{Solving}
use Rattle.question_series.specs.Settling.{IsFound}
use Rattle.question_series.specs.declared.settling.Found.{Found}
use Rattle.question_series.specs.declared.settling.Found.TheVariants.{Values, Refuted, Spent}
use mathlib.Core.List.{reverse-cons}

pub in-turned : {A : Type 0} (xs : List A) (x : A) → Contains xs x → Contains (reverse xs) x
in-turned [] x h = absurd (Contains-nil x h)
in-turned (y ∷ ys) x h = subst (λ (zs : List _). Contains zs x) (sym (reverse-cons y ys)) (elim (Contains-cons_cases y ys x h) [
  | inl is ↦ subst (λ z. Contains (reverse ys ++ y ∷ []) z) is (Contains-push (reverse ys) y)
  | inr later ↦ Contains-append_left (reverse ys) (y ∷ []) x (in-turned ys x later)
])

pub from-turned : {A : Type 0} (xs : List A) (x : A) → Contains (reverse xs) x → Contains xs x
from-turned xs x h = subst (λ (zs : List _). Contains zs x) (reverse-reverse xs) (in-turned (reverse xs) x h)

-- what is true of each stays so
pub all-turned : {A : Type 0} (P : A → Type 0) (xs : List A) → All P xs → All P (reverse xs)
all-turned P xs all = All-weaker (Contains (reverse xs)) P (λ x h. All-contains P xs x all (from-turned xs x h)) (reverse xs) (All-contains_itself (reverse xs))

-- none stands beside its negation
pub apart-turned : (lits : List Lit) → ((l : Lit) → Contains lits l → Contains lits (negated l) → ⊥)
    → (l : Lit) → Contains (reverse lits) l → Contains (reverse lits) (negated l) → ⊥
apart-turned lits apart l h k = apart l (from-turned lits l h) (from-turned lits (negated l) k)

-- what a search ended with under them
pub found-turned : (old s : Solving) (lits : List Lit) (limit : ℕ) (found : Found) → IsFound old s (reverse lits) limit found → IsFound old s lits limit found
found-turned old s lits limit (Values values) (long, all, assumed) = (long, all, λ l h. assumed l (in-turned lits l h))
found-turned old s lits limit Refuted is = more-conflicts (s.clauses ++ s.learned) (s.clauses ++ s.learned) (reverse lits) lits (λ c h. h) (λ l h. from-turned lits l h) is
found-turned old s lits limit Spent (full, undecided) =
    (full, λ is. undecided (more-conflicts (s.clauses ++ s.learned) (s.clauses ++ s.learned) lits (reverse lits) (λ c h. h) (λ l h. in-turned lits l h) is))
