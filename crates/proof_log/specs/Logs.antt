-- What a log is to its readers: the clauses that it puts behind those of a formula, the syncs for which it was made, and
-- where the question stands in a log of the second version.
use Rattle.std.specs.Prelude.{◌≡◌, ℕ, ◌<◌, ◌≤◌, Bool, List, [], length, Option, None, IfSome, IsSome}
use Rattle.std.specs.List.{All}
use Rattle.std.specs.List.Sorted.{IsStrictlyIncreasing}
use Rattle.litmus_syntax.specs.declared.site.SiteKind.{SiteKind}
use Rattle.clause_store.specs.declared.Lit.{Lit}
use Rattle.clause_store.specs.Clauses.{InVars}

-- how many variables and clauses the formula has, the clauses behind it, and whether the empty clause ends them
pub record Derivation : Type 0 where
  pub vars : ℕ
  pub clauses : ℕ
  pub learned : List (List Lit)
  pub closed : Bool

-- the kind and the numbers of the syncs, `None` where the log is made without any; the clauses; and how many of them stand
-- before the question, `None` in the first version
pub record Logged : Type 0 where
  pub kind : Option SiteKind
  pub sites : List ℕ
  pub part : Derivation
  pub question : Option ℕ

-- the numbers have 32 bits, no clause is empty, and each literal is of one of the variables
pub record IsDerivation (d : Derivation) : Type 0 where
  pub few_vars : d.vars ≤ 4294967295
  pub few_clauses : d.clauses ≤ 4294967295
  pub named : All (All (InVars d.vars)) d.learned
  pub filled : All (λ clause. 0 < length clause) d.learned

-- the syncs are numbered from 1, in order, each once, with numbers of 32 bits; without a kind there are none, and no question,
-- which stands behind no more clauses than there are
pub record IsLog (l : Logged) : Type 0 where
  pub part : IsDerivation l.part
  pub ascending : IsStrictlyIncreasing l.sites
  pub numbered : All (λ n. (1 ≤ n) × (n ≤ 4294967295)) l.sites
  pub none : l.kind ≡ None → l.sites ≡ []
  pub asked : IfSome l.question (λ q. (q ≤ length l.part.learned) × IsSome l.kind)
