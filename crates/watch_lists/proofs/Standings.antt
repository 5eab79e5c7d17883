-- How a clause stands with one literal more.
use Rattle.std.proofs.Common.{ℕ, inl, inr, List, [], ◌∷◌, ◌++◌, take, drop, subst}
use Rattle.std.specs.List.{Contains}
use Rattle.std.proofs.lemmas.List.{take-append-drop}
use Rattle.std.proofs.lemmas.List.Elements.{Contains-append_left, Contains-push, Contains-push_cases}
use Rattle.clause_store.specs.declared.Lit.{Lit}
use Rattle.trail_core.specs.Course.{Entry, Holds, Fails}
use Rattle.watch_lists.specs.Standing.{IsStanding}
use Rattle.watch_lists.specs.declared.standing.Standing.{Standing}
use Rattle.watch_lists.specs.declared.standing.Standing.TheVariants.{True, False, Open}
use Rattle.watch_lists.specs.declared.standing.Standing.TheVariants as standing

-- a literal that is true among the first ones
pub true-within : (entries : List Entry) (clause : List Lit) (n : ℕ) → IsStanding entries (take n clause) True → IsStanding entries clause True
true-within entries clause n (l, has, holds) =
    (l, subst (λ (ls : List Lit). Contains ls l) (take-append-drop n clause) (Contains-append_left (take n clause) (drop n clause) l has), holds)

module _ (entries : List Entry) (lits : List Lit) (lit : Lit) where
  -- a true literal more
  pub true-more : Holds entries lit → IsStanding entries (lits ++ lit ∷ []) True
  true-more h = (lit, Contains-push lits lit, h)

  there : (l : Lit) → Contains lits l → Contains (lits ++ lit ∷ []) l
  there l h = Contains-append_left lits (lit ∷ []) l h

  -- a false literal more
  pub false-more : Fails entries lit → (found : Standing) → IsStanding entries lits found → IsStanding entries (lits ++ lit ∷ []) found
  false-more f True is = (is.0, there is.0 is.1, is.2)
  false-more f False is = λ m h. elim (Contains-push_cases lits lit m h) [
    | inl before ↦ is m before
    | inr last ↦ subst (Fails entries) last f
  ]
  false-more f (standing.Unit l) is = (
    there l is.0,
    is.1,
    λ m h ne. elim (Contains-push_cases lits lit m h) [
      | inl before ↦ is.2 m before ne
      | inr last ↦ subst (Fails entries) last f
    ],
  )
  false-more f (Open l m) is = (there l is.0, there m is.1, is.2, is.3, is.4)
