-- What the end of a search without assumptions says of its clauses.
use Rattle.std.proofs.Common.{◌≡◌, ℕ, ◌<◌, ◌≤◌, Bool, true, false, List, [], ◌∷◌, ◌++◌, length, refl, ap, sym, subst, ◌∙◌, append-nil}
use Rattle.std.specs.List.{Contains}
use Rattle.clause_store.specs.declared.Lit.{Lit}
use Rattle.clause_store.specs.Clauses.{Formula}
use Rattle.clause_store.specs.Propagation.{Follows, negations}
use Rattle.clause_store.specs.Truth.{MakesAllTrue}
use Rattle.clause_store.proofs.GeneralLists.{Contains-nil, Contains-head}
use Rattle.cdcl_core.specs.Answering.{Solving, AreLessons, IsVerdict}
use Rattle.cdcl_core.specs.declared.Verdict.TheVariants.{Satisfied, Refuted, Spent}
use Rattle.proof_log.specs.Logs.{Derivation}
use Rattle.crash_question.specs.Answers.{IsRefutation, IsOpenPart}

-- what is learned from nothing is lessons on the clauses
lessons-on : (clauses before learned more : List (List Lit)) → before ≡ [] → learned ≡ before ++ more → AreLessons (clauses ++ before) more → AreLessons clauses learned
lessons-on clauses before learned more none is k =
    let from = subst (λ xs. AreLessons xs more) (ap (λ xs. clauses ++ xs) none ∙ append-nil clauses) k in
    subst (λ xs. AreLessons clauses xs) (sym (is ∙ ap (λ xs. xs ++ more) none)) from

-- a part of no assumptions is empty
no-part : (clauses : List (List Lit)) (part : List Lit) → ((a : Lit) → Contains part a → Contains [] a) → Follows clauses (negations part) → Follows clauses []
no-part clauses [] within found = found
no-part clauses (a ∷ part) within found = absurd (Contains-nil a (within a (Contains-head a part)))

module _ (f : Formula) (s : Solving) (limit : ℕ) (vars : s.vars ≡ f.vars) (clauses : s.clauses ≡ f.clauses) (lessons : AreLessons f.clauses s.learned)
    (within : length s.learned ≤ limit)
  where
    abbrev pub part : Bool → Derivation
    part closed = record { vars = f.vars; clauses = length f.clauses; learned = s.learned; closed = closed }

    pub ended_values : (values : List Bool) → IsVerdict s [] limit (Satisfied values) → (length values ≡ f.vars) × MakesAllTrue values f.clauses
    ended_values values (long, all, none) = (long ∙ vars, subst (MakesAllTrue values) clauses all)

    pub ended_refuted : (of : List Lit) → IsVerdict s [] limit (Refuted of) → IsRefutation f (part true) × (length s.learned ≤ limit)
    ended_refuted of (some, found) = (
      record {
        of = record { vars = refl; clauses = refl };
        closed = refl;
        refutes = record { learned = lessons; refuted = subst (λ cs. Follows (cs ++ s.learned) []) clauses (no-part (s.clauses ++ s.learned) of some found) };
      },
      within,
    )

    pub ended_spent : IsVerdict s [] limit Spent → IsOpenPart f (part false) × (length s.learned ≡ limit) × (limit < 18446744073709551615)
    ended_spent (full, undecided, below) = (
      record {
        of = record { vars = refl; clauses = refl };
        unclosed = refl;
        leaves = record { learned = lessons; undecided = λ found. undecided (subst (λ cs. Follows (cs ++ s.learned) []) (sym clauses) found) };
      },
      full,
      below,
    )

-- the part with these numbers
pub same_part :
    (vars clauses : ℕ) (f : Formula) (learned : List (List Lit)) (closed : Bool) (p : Derivation) → vars ≡ f.vars → clauses ≡ length f.clauses
    → p ≡ record { vars = vars; clauses = clauses; learned = learned; closed = closed } → p ≡ record { vars = f.vars; clauses = length f.clauses; learned = learned; closed = closed }
same_part vars clauses f learned closed p v c is =
    let make : ℕ → ℕ → Derivation = λ a b. record { vars = a; clauses = b; learned = learned; closed = closed } in
    is ∙ ap (λ a. make a clauses) v ∙ ap (make f.vars) c

-- what a search learned before which nothing was learned
pub lessons_of :
    (old new : Solving) → old.learned ≡ []
    → (more : List (List Lit)) × (new.learned ≡ old.learned ++ more) × AreLessons (old.clauses ++ old.learned) more → AreLessons old.clauses new.learned
lessons_of old new none (more, learned, lessons) = lessons-on old.clauses old.learned new.learned more none learned lessons
