-- Clauses of a log that follow one after the other, and the first one that doesn't.
use Rattle.std.proofs.Common.{◌≡◌, ℕ, zero, suc, ◌+◌, ◌≤◌, List, [], ◌∷◌, ◌++◌, length, take, slice_get, Option, Some, None, MatchOption, Bool, true, false, if◌then◌else◌, refl, ap, sym, ◌∙◌, subst, arith}
use Rattle.std.proofs.lemmas.Option.{slice_get_within}
use Rattle.clause_store.specs.declared.Lit.{Lit}
use Rattle.clause_store.specs.Propagation.{Follows}
use Rattle.clause_store.specs.Derivations.{EachFollows}
use Rattle.clause_store.proofs.InTurn.{turn-push, turn-split}
use Rattle.trail_core.proofs.GeneralPlaces.{get-more, get-new}
use Rattle.unit_closure.proofs.Adding.{take-next, take-grown}
use Rattle.proof_log.specs.Logs.{Derivation}
use Rattle.rup_checker.specs.Accepting.{IsFirstWrong, all_clauses}

pub take-more : (cs : List (List Lit)) (n : ℕ) (c : List Lit) → slice_get cs n ≡ Some c → take (n + 1) cs ≡ take n cs ++ c ∷ []
take-more cs n c at = (let more : n + 1 ≡ suc n = omega arith in ap (λ k. take k cs) more ∙ take-next cs n c at)

take-front : (cs : List (List Lit)) (c : List Lit) (n : ℕ) → n ≤ length cs → take n (cs ++ c ∷ []) ≡ take n cs
take-front cs c zero le = refl
take-front [] c (suc n) le = absurd (omega (arith, le))
take-front (d ∷ ds) c (suc n) le = ap (λ es. d ∷ es) (take-front ds c n (omega (arith, le)))

-- one clause more follows
pub follow-next : (given cs : List (List Lit)) (n : ℕ) (c : List Lit) → slice_get cs n ≡ Some c → EachFollows given (take n cs) → Follows (given ++ take n cs) c → EachFollows given (take (n + 1) cs)
follow-next given cs n c at h is = subst (λ ds. EachFollows given ds) (sym (take-more cs n c at)) (turn-push Follows given (take n cs) c h is)

-- a learned clause is the first that doesn't
pub wrong-learned : (d : Derivation) (given : List (List Lit)) (n : ℕ) (c : List Lit) → slice_get d.learned n ≡ Some c → EachFollows given (take n d.learned)
    → (Follows (given ++ take n d.learned) c → ⊥) → IsFirstWrong given (all_clauses d) n
wrong-learned d given n c at h wrong = by d.closed
  where
    same : take n (d.learned ++ [] ∷ []) ≡ take n d.learned
    same = take-front d.learned [] n (omega (arith, slice_get_within d.learned n c at))

    by : (closed : Bool) → IsFirstWrong given (if closed then d.learned ++ [] ∷ [] else d.learned) n
    by true = (
      c,
      get-more d.learned [] n c at,
      subst (λ ds. EachFollows given ds) (sym same) h,
      subst (λ (ds : List (List Lit)). Follows (given ++ ds) c → ⊥) (sym same) wrong,
    )
    by false = (c, at, h, wrong)

-- the empty clause behind them is
pub wrong-last : (d : Derivation) (given : List (List Lit)) (n : ℕ) → d.closed ≡ true → n ≡ length d.learned → EachFollows given d.learned
    → (Follows (given ++ d.learned) [] → ⊥) → IsFirstWrong given (all_clauses d) n
wrong-last d given n closed is h wrong = subst (λ (b : Bool). IsFirstWrong given (if b then d.learned ++ [] ∷ [] else d.learned) n) (sym closed) (
  [],
  subst (λ k. slice_get (d.learned ++ [] ∷ []) k ≡ Some []) (sym is) (get-new d.learned []),
  subst (λ ds. EachFollows given ds) (sym (take-grown d.learned [] n is)) h,
  subst (λ (ds : List (List Lit)). Follows (given ++ ds) [] → ⊥) (sym (take-grown d.learned [] n is)) wrong,
)

pub follow-closed : (d : Derivation) (given : List (List Lit)) → d.closed ≡ true → EachFollows given d.learned → Follows (given ++ d.learned) [] → EachFollows given (all_clauses d)
follow-closed d given closed h is =
    subst (λ (b : Bool). EachFollows given (if b then d.learned ++ [] ∷ [] else d.learned)) (sym closed) (turn-push Follows given d.learned [] h is)

pub follow-unclosed : (d : Derivation) (given : List (List Lit)) → d.closed ≡ false → EachFollows given d.learned → EachFollows given (all_clauses d)
follow-unclosed d given closed h = subst (λ (b : Bool). EachFollows given (if b then d.learned ++ [] ∷ [] else d.learned)) (sym closed) h

-- and back
pub closed-follow : (d : Derivation) (given : List (List Lit)) → d.closed ≡ true → EachFollows given (all_clauses d) → EachFollows given d.learned × Follows (given ++ d.learned) []
closed-follow d given closed h =
    let parts = turn-split Follows given d.learned ([] ∷ []) (subst (λ (b : Bool). EachFollows given (if b then d.learned ++ [] ∷ [] else d.learned)) closed h) in
    (parts.0, parts.1.0)

pub unclosed-follow : (d : Derivation) (given : List (List Lit)) → d.closed ≡ false → EachFollows given (all_clauses d) → EachFollows given d.learned
unclosed-follow d given closed h = subst (λ (b : Bool). EachFollows given (if b then d.learned ++ [] ∷ [] else d.learned)) closed h

pub was-none : {A : Type 0} (o : Option A) (N : Type 0) (S : A → Type 0) → o ≡ None → MatchOption o N S → N
was-none None N S e h = h
was-none (Some x) N S e h = cc
