-- Private: how far a log is read, and what may stand on the next line.
use Rattle.std.specs.Prelude.{◌≡◌, ◌⊎◌, ℕ, ◌+◌, ◌<◌, ◌≤◌, Bool, true, false, List, [], ◌∷◌, ◌++◌, length, Option, None, Some, IsSome, All, codes}
use Rattle.std.specs.List.Sorted.{IsStrictlyIncreasing}
use Rattle.litmus_syntax.specs.declared.site.SiteKind.{SiteKind}
use Rattle.clause_store.specs.declared.Lit.{Lit}
use Rattle.clause_store.specs.Clauses.{InVars}
use Rattle.proof_log.specs.declared.fault.LogKind.{LogKind}
use Rattle.proof_log.specs.declared.fault.LogKind.TheVariants.{BadLine, BadLiteral, EndsEarly}
use Rattle.proof_log.specs.Logs.{Logged}
use Rattle.proof_log.specs.LogText.{clause_line, head_line, sites_line, formula_line}
use Rattle.proof_log.specs.LogFiles.{HasBadLiteral}

-- before the head; behind it, which says whether the log is of the second version; behind the syncs; behind the line of the
-- formula, with the log so far; behind the end
pub data Stage : Type 0 where
  fresh : Stage
  headed : Bool → Stage
  sited : Bool → Option SiteKind → List ℕ → Stage
  within : Bool → Logged → Stage
  ended : Logged → Stage

-- the numbers of syncs
abbrev pub AreSites : List ℕ → Type 0
AreSites sites = IsStrictlyIncreasing sites × All (λ n. (1 ≤ n) × (n ≤ 4294967295)) sites

-- the log of which no clause is read
abbrev pub begun : Option SiteKind → List ℕ → ℕ → ℕ → Logged
begun kind sites vars clauses = record { kind = kind; sites = sites; part = record { vars = vars; clauses = clauses; learned = []; closed = false }; question = None }

abbrev pub with_clause : Logged → List Lit → Logged
with_clause l lits = record l { part = record l.part { learned = l.part.learned ++ lits ∷ [] } }

abbrev pub with_question : Logged → Logged
with_question l = record l { question = Some (length l.part.learned) }

abbrev pub with_end : Logged → Logged
with_end l = record l { part = record l.part { closed = true } }

-- in the second version the question has been read
abbrev pub IsAsked : Bool → Logged → Type 0
IsAsked second l = second ≡ true → IsSome l.question

-- what the line of the syncs may say
abbrev pub MayBeMadeWith : Bool → Option SiteKind → List ℕ → Type 0
MayBeMadeWith second kind sites = AreSites sites × (kind ≡ None → sites ≡ []) × (second ≡ true → IsSome kind)

-- a clause that may stand behind the log so far
abbrev pub IsClauseOf : Logged → List Lit → Type 0
IsClauseOf l lits = (l.part.vars ≤ 4294967295) × (0 < length lits) × All (InVars l.part.vars) lits

-- the line leads from the log so far to the next stage
pub data Adds (second : Bool) (l : Logged) (line : List ℕ) (next : Stage) : Type 0 where
  clause : (lits : List Lit) → l.part.closed ≡ false → IsClauseOf l lits → line ≡ clause_line lits
      → next ≡ within second (with_clause l lits) → Adds second l line next
  question : l.part.closed ≡ false → second ≡ true → l.question ≡ None → line ≡ codes "question"
      → next ≡ within second (with_question l) → Adds second l line next
  closing : l.part.closed ≡ false → IsAsked second l → line ≡ clause_line [] → next ≡ within second (with_end l)
      → Adds second l line next
  end : IsAsked second l → line ≡ codes "end" → next ≡ ended l → Adds second l line next

-- the line leads from one stage to the next
abbrev pub Steps : Stage → List ℕ → Stage → Type 0
Steps fresh line next = (second : Bool) × (line ≡ head_line second) × (next ≡ headed second)
Steps (headed second) line next =
    (kind : Option SiteKind) × (sites : List ℕ) × MayBeMadeWith second kind sites × (line ≡ sites_line kind sites)
    × (next ≡ sited second kind sites)
Steps (sited second kind sites) line next =
    (vars clauses : ℕ) × (vars ≤ 4294967295) × (clauses ≤ 4294967295) × (line ≡ formula_line vars clauses)
    × (next ≡ within second (begun kind sites vars clauses))
Steps (within second l) line next = Adds second l line next
Steps (ended l) line next = ⊥

-- the lines lead from one stage to another
abbrev pub Runs : Stage → List (List ℕ) → Stage → Type 0
Runs from [] to = from ≡ to
Runs from (line ∷ lines) to = (next : Stage) × Steps from line next × Runs next lines to

-- at this stage the line is a clause with a bad literal
abbrev pub IsBadThere : Stage → List ℕ → Type 0
IsBadThere (within second l) line = (l.part.closed ≡ false) × HasBadLiteral l.part.vars line
IsBadThere fresh line = ⊥
IsBadThere (headed second) line = ⊥
IsBadThere (sited second kind sites) line = ⊥
IsBadThere (ended l) line = ⊥

-- the line leads nowhere, for a fault of this kind
abbrev pub IsLineFault : Stage → List ℕ → LogKind → Type 0
IsLineFault stage line kind =
    ((next : Stage) → Steps stage line next → ⊥)
    × (((kind ≡ BadLine) × (IsBadThere stage line → ⊥)) ⊎ ((kind ≡ BadLiteral) × IsBadThere stage line))

abbrev pub IsEnded : Stage → Type 0
IsEnded stage = (l : Logged) × (stage ≡ ended l)

-- the lines behind the first `count` ones, which led to a stage, don't lead to the end: one of them is bad, or they are too few
pub data Fails (from : Stage) (count : ℕ) (lines : List (List ℕ)) (number : ℕ) (kind : LogKind) : Type 0 where
  bad : (before : List (List ℕ)) (line : List ℕ) (behind : List (List ℕ)) (to : Stage) → lines ≡ before ++ line ∷ behind
      → Runs from before to → number ≡ count + length before + 1 → IsLineFault to line kind → Fails from count lines number kind
  early : (to : Stage) → Runs from lines to → (IsEnded to → ⊥) → number ≡ count + length lines + 1 → kind ≡ EndsEarly
      → Fails from count lines number kind
