-- One judgement for each log.
use Rattle.std.proofs.Common.{◌≡◌, ℕ, zero, suc, ◌<◌, ◌⊎◌, inl, inr, List, [], ◌∷◌, ◌++◌, take, slice_get, Some, refl, ap, sym, ◌∙◌, subst, arith, append_assoc, append-nil}
use Rattle.std.proofs.lemmas.Option.{same_Some}
use Rattle.clause_store.specs.declared.Lit.{Lit}
use Rattle.clause_store.specs.Clauses.{Formula}
use Rattle.clause_store.specs.Propagation.{Follows}
use Rattle.clause_store.specs.Derivations.{EachFollows}
use Rattle.proof_log.specs.Logs.{Logged}
use Rattle.unit_closure.proofs.Going.{never}
use Rattle.rup_checker.specs.declared.judgement.Judgement.{Judgement}
use Rattle.rup_checker.specs.declared.judgement.Judgement.TheVariants.{Accepted, Refused}
use Rattle.rup_checker.specs.declared.judgement.JudgeKind.{JudgeKind}
use Rattle.rup_checker.specs.declared.judgement.JudgeKind.TheVariants.{OtherFormula, NotRup, NoEmptyClause}
use Rattle.rup_checker.specs.Accepting.{IsFirstWrong, IsAccepted, IsRefused, IsJudged, all_clauses, line_of_clause}
use Rattle.rup_checker.proofs.GeneralLogs.{follow-closed, follow-unclosed}

-- each clause of a list that follows does
follow-at : (given cs : List (List Lit)) (n : ℕ) (c : List Lit) → EachFollows given cs → slice_get cs n ≡ Some c → Follows (given ++ take n cs) c
follow-at given [] n c h at = cc
follow-at given (d ∷ ds) zero c h at =
    subst (λ (e : List Lit). Follows (given ++ []) e) (same_Some d c at) (subst (λ (cs : List (List Lit)). Follows cs d) (sym (append-nil given)) h.0)
follow-at given (d ∷ ds) (suc n) c h at =
    subst (λ (cs : List (List Lit)). Follows cs c) (append_assoc given (d ∷ []) (take n ds)) (follow-at (given ++ d ∷ []) ds n c h.1 at)

get-take : (cs : List (List Lit)) (n m : ℕ) → n < m → slice_get (take m cs) n ≡ slice_get cs n
get-take cs n zero lt = absurd (omega (arith, lt))
get-take [] n (suc m) lt = refl
get-take (d ∷ ds) zero (suc m) lt = refl
get-take (d ∷ ds) (suc n) (suc m) lt = get-take ds n m (omega (arith, lt))

take-take : (cs : List (List Lit)) (n m : ℕ) → n < m → take n (take m cs) ≡ take n cs
take-take cs n zero lt = absurd (omega (arith, lt))
take-take [] zero (suc m) lt = refl
take-take [] (suc n) (suc m) lt = refl
take-take (d ∷ ds) zero (suc m) lt = refl
take-take (d ∷ ds) (suc n) (suc m) lt = ap (λ es. d ∷ es) (take-take ds n m (omega (arith, lt)))

-- where all follow, none is wrong
none-wrong : (given cs : List (List Lit)) (n : ℕ) → EachFollows given cs → IsFirstWrong given cs n → ⊥
none-wrong given cs n h (c, at, before, wrong) = wrong (follow-at given cs n c h at)

-- and only one is the first
not-before : (given cs : List (List Lit)) (n m : ℕ) → n < m → IsFirstWrong given cs n → IsFirstWrong given cs m → ⊥
not-before given cs n m lt (c, at, before, wrong) (d, at', before', wrong') =
    wrong (subst (λ (ds : List (List Lit)). Follows (given ++ ds) c) (take-take cs n m lt) (follow-at given (take m cs) n c before' (get-take cs n m lt ∙ at)))

order : (n m : ℕ) → (n ≡ m) ⊎ ((n < m) ⊎ (m < n))
order zero zero = inl refl
order zero (suc m) = inr (inl (omega arith))
order (suc n) zero = inr (inr (omega arith))
order (suc n) (suc m) = elim (order n m) [
  | inl same ↦ inl (ap (λ (k : ℕ). suc k) same)
  | inr (inl lt) ↦ inr (inl (omega (arith, lt)))
  | inr (inr gt) ↦ inr (inr (omega (arith, gt)))
]

one-first : (given cs : List (List Lit)) (n m : ℕ) → IsFirstWrong given cs n → IsFirstWrong given cs m → n ≡ m
one-first given cs n m a b = elim (order n m) [
  | inl same ↦ same
  | inr (inl lt) ↦ absurd (not-before given cs n m lt a b)
  | inr (inr gt) ↦ absurd (not-before given cs m n gt b a)
]

all-follow : (f : Formula) (log : Logged) → IsAccepted f log → EachFollows f.clauses (all_clauses log.part)
all-follow f log a = follow-closed log.part f.clauses a.closed a.follow a.empty

not-both : (f : Formula) (log : Logged) (line : ℕ) (kind : JudgeKind) → IsAccepted f log → IsRefused f log line kind → ⊥
not-both f log line OtherFormula a r = r.1 a.made_for
not-both f log line NotRup a r = none-wrong f.clauses (all_clauses log.part) r.0 (all-follow f log a) r.3
not-both f log line NoEmptyClause a r = never ⊥ (sym a.closed ∙ r.3)

same-refusal : (f : Formula) (log : Logged) (i j : ℕ) (a b : JudgeKind) → IsRefused f log i a → IsRefused f log j b → Refused i a ≡ Refused j b
same-refusal f log i j OtherFormula OtherFormula r s = ap (λ (k : ℕ). Refused k OtherFormula) (r.0 ∙ sym s.0)
same-refusal f log i j OtherFormula NotRup r s = absurd (r.1 s.2)
same-refusal f log i j OtherFormula NoEmptyClause r s = absurd (r.1 s.1)
same-refusal f log i j NotRup OtherFormula r s = absurd (s.1 r.2)
same-refusal f log i j NotRup NotRup r s =
    let same = one-first f.clauses (all_clauses log.part) r.0 s.0 r.3 s.3 in
    ap (λ (k : ℕ). Refused k NotRup) (r.1 ∙ ap (λ n. line_of_clause log n) same ∙ sym s.1)
same-refusal f log i j NotRup NoEmptyClause r s = absurd (none-wrong f.clauses (all_clauses log.part) r.0 (follow-unclosed log.part f.clauses s.3 s.2) r.3)
same-refusal f log i j NoEmptyClause OtherFormula r s = absurd (s.1 r.1)
same-refusal f log i j NoEmptyClause NotRup r s = absurd (none-wrong f.clauses (all_clauses log.part) s.0 (follow-unclosed log.part f.clauses r.3 r.2) s.3)
same-refusal f log i j NoEmptyClause NoEmptyClause r s = ap (λ (k : ℕ). Refused k NoEmptyClause) (r.0 ∙ sym s.0)

pub same-judgement : (f : Formula) (log : Logged) (a b : Judgement) → IsJudged f log a → IsJudged f log b → a ≡ b
same-judgement f log Accepted Accepted h g = refl
same-judgement f log Accepted (Refused j b) h g = absurd (not-both f log j b h g)
same-judgement f log (Refused i a) Accepted h g = absurd (not-both f log i a g h)
same-judgement f log (Refused i a) (Refused j b) h g = same-refusal f log i j a b h g
