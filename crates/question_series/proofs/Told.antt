-- From what a search under assumed literals ended with to the answer to the question where the pairs are kept.
use Rattle.std.proofs.Common.{◌≡◌, ℕ, ◌+◌, ◌≤◌, inl, inr, Bool, List, [], ◌++◌, length, map, sym, ◌∙◌, ap, subst, arith}
use Rattle.std.specs.List.{Contains}
use Rattle.std.proofs.lemmas.List.{length-append}
use Rattle.std.proofs.lemmas.List.Elements.{All-append, Contains-append_left, Contains-append_right, Contains-append_cases}
use Rattle.litmus_syntax.specs.declared.pred.Pred.{Pred}
use Rattle.clause_store.specs.declared.Lit.{Lit}
use Rattle.clause_store.specs.Propagation.{Conflicts, Follows, HasAll}
use Rattle.clause_store.specs.Derivations.{EachFollows}
use Rattle.clause_store.specs.Truth.{is_true, MakesTrue, MakesAllTrue}
use Rattle.clause_store.proofs.LeastSet.{more-follows}
use Rattle.clause_store.proofs.Bridges.{units-conflict, conflict-units}
use Rattle.clause_store.proofs.InTurn.{follows-more, derived-refuted}
use Rattle.cdcl_core.specs.Answering.{Solving}
use Rattle.fer_events.specs.declared.event.Crash.{Crash}
use Rattle.fer_events.specs.Orders.{AreForward}
use Rattle.fer_events.specs.Tables.{Trace}
use Rattle.fer_events.specs.Witness.{IsWitness}
use Rattle.order_coding.specs.Decoded.{HasValues, IsDecoded}
use Rattle.order_coding.specs.Variables.{order_vars}
use Rattle.order_coding.specs.Families.{kept_pairs}
use Rattle.value_coding.specs.QuestionCells.{cells}
use Rattle.value_coding.specs.Writers.{writers}
use Rattle.value_coding.specs.LastClauses.{last_vars}
use Rattle.predicate_coding.specs.Coding.{coding, node_in}
use Rattle.proof_log.specs.Logs.{Derivation}
use Rattle.question_series.specs.Assumed.{kept_lits}
use Rattle.question_series.specs.Settling.{IsFound, IsTold}
use Rattle.question_series.specs.declared.settling.Found.{Found}
use Rattle.question_series.specs.declared.settling.Found.TheVariants.{Values, Refuted}
use Rattle.question_series.specs.declared.settling.Found.TheVariants as found
use Rattle.question_series.specs.declared.series.SeriesAnswer.{SeriesAnswer}
use Rattle.question_series.specs.declared.series.SeriesAnswer.TheVariants.{Allowed, Forbidden}
use Rattle.question_series.specs.declared.series.SeriesAnswer.TheVariants as answer
use Rattle.question_series.specs.Series.{IsAbout, IsRefuted, IsNextAnswer, IsPartUnder}
use Rattle.question_series.proofs.Assumed.{units-kept, count-kept, kept-true, lits-apart, coded-front}

-- what stands in three lists stands there in any order
turned : (k a l : List (List Lit)) (c : List Lit) → Contains (a ++ l ++ k) c → Contains (k ++ a ++ l) c
turned k a l c h = elim (Contains-append_cases (a ++ l) k c h) [
  | inl early ↦ elim (Contains-append_cases a l c early) [
    | inl first ↦ Contains-append_left (k ++ a) l c (Contains-append_right k a c first)
    | inr second ↦ Contains-append_right (k ++ a) l c second
  ]
  | inr late ↦ Contains-append_left (k ++ a) l c (Contains-append_left k a c late)
]

turned_back : (k a l : List (List Lit)) (c : List Lit) → Contains (k ++ a ++ l) c → Contains (a ++ l ++ k) c
turned_back k a l c h = elim (Contains-append_cases (k ++ a) l c h) [
  | inl early ↦ elim (Contains-append_cases k a c early) [
    | inl first ↦ Contains-append_right (a ++ l) k c first
    | inr second ↦ Contains-append_left (a ++ l) k c (Contains-append_left a l c second)
  ]
  | inr late ↦ Contains-append_left (a ++ l) k c (Contains-append_right a l c late)
]

module _ (t : Trace) (kept : List (ℕ × ℕ)) (pred : Pred) (want : Bool) (s : Solving) (about : s.clauses ≡ (coding t [] pred want).clauses) where
  abbrev n : ℕ
  n = length t.events

  abbrev lits : List Lit
  lits = kept_lits n kept

  -- the clauses of the question are those of the kept pairs, then the series'
  pub coded : (coding t kept pred want).clauses ≡ kept_pairs n kept ++ s.clauses
  coded = coded-front t kept pred want ∙ ap (λ cs. kept_pairs n kept ++ cs) (sym about)

  pub coded-count : length (coding t kept pred want).clauses ≡ length s.clauses + length kept
  coded-count =
      let both : length (kept_pairs n kept ++ s.clauses) ≡ length (kept_pairs n kept) + length s.clauses = length-append (kept_pairs n kept) s.clauses in
      let pairs : length (kept_pairs n kept) ≡ length kept = count-kept n kept in
      ap length coded ∙ omega (arith, both, pairs)

  -- a conflict of the assumed literals refutes the question, and the other way round
  pub refuted : Conflicts (s.clauses ++ s.learned) lits → IsRefuted s t kept pred want
  refuted found =
      let follows : Follows (s.clauses ++ s.learned ++ kept_pairs n kept) [] =
      subst (λ (cs : List (List Lit)). Follows (s.clauses ++ s.learned ++ cs) []) (units-kept n kept) (units-conflict (s.clauses ++ s.learned) lits found) in
      subst (λ (cs : List (List Lit)). Follows (cs ++ s.learned) []) (sym coded)
      (more-follows (s.clauses ++ s.learned ++ kept_pairs n kept) (kept_pairs n kept ++ s.clauses ++ s.learned) [] (turned (kept_pairs n kept) s.clauses s.learned) follows)

  pub conflicting : AreForward n kept → IsRefuted s t kept pred want → Conflicts (s.clauses ++ s.learned) lits
  conflicting forward is =
      let follows : Follows (kept_pairs n kept ++ s.clauses ++ s.learned) [] = subst (λ (cs : List (List Lit)). Follows (cs ++ s.learned) []) coded is in
      let turned_so : Follows (s.clauses ++ s.learned ++ kept_pairs n kept) [] =
      more-follows (kept_pairs n kept ++ s.clauses ++ s.learned) (s.clauses ++ s.learned ++ kept_pairs n kept) [] (turned_back (kept_pairs n kept) s.clauses s.learned) follows in
      conflict-units (s.clauses ++ s.learned) lits (lits-apart n kept forward)
      (subst (λ (cs : List (List Lit)). Follows (s.clauses ++ s.learned ++ cs) []) (sym (units-kept n kept)) turned_so)

  -- what was learned follows from the question's clauses too
  pub following : EachFollows s.clauses s.learned → EachFollows (coding t kept pred want).clauses s.learned
  following each =
      follows-more s.clauses (coding t kept pred want).clauses s.learned
      (λ c h. subst (λ (cs : List (List Lit)). Contains cs c) (sym coded) (Contains-append_right (kept_pairs n kept) s.clauses c h)) each

  -- so no crash answers a question that is refuted
  pub no-crash :
      ((crash : Crash) → IsWitness t kept pred want crash → HasValues n crash (coding t kept pred want)) → EachFollows s.clauses s.learned
      → IsRefuted s t kept pred want → (crash : Crash) → IsWitness t kept pred want crash → ⊥
  no-crash complete each is crash shows =
      let (values, long, describes, all) = complete crash shows in
      derived-refuted (coding t kept pred want).clauses s.learned values (following each) is all

  -- values that make the series' clauses and the assumed literals true make the question's clauses true
  pub all-true : (values : List Bool) → MakesAllTrue values s.clauses → HasAll (is_true values) lits → MakesAllTrue values (coding t kept pred want).clauses
  all-true values all assumed =
      subst (MakesAllTrue values) (sym coded) (All-append (MakesTrue values) (kept_pairs n kept) s.clauses (kept-true n values kept assumed) all)

  -- the answer that is told of what a search ended with is one to the question
  pub next-answer :
      (old : Solving) (limit : ℕ) (found : Found) (answer : SeriesAnswer) → AreForward n kept
      → ((values : List Bool) (crash : Crash) → MakesAllTrue values (coding t kept pred want).clauses → IsDecoded n values crash → IsWitness t kept pred want crash)
      → ((crash : Crash) → IsWitness t kept pred want crash → HasValues n crash (coding t kept pred want)) → EachFollows s.clauses s.learned
      → IsFound old s lits limit found → IsTold n found answer → IsNextAnswer t kept pred want limit old s answer
  next-answer old limit (Values values) (Allowed crash) forward sound complete each (long, all, assumed) (decoded, ascends) =
      (sound values crash (all-true values all assumed) decoded, ascends)
  next-answer old limit Refuted Forbidden forward sound complete each found told = (no-crash complete each (refuted found), refuted found)
  next-answer old limit found.Spent answer.Spent forward sound complete each (full, undecided) told = (full, λ is. undecided (conflicting forward is))
  next-answer old limit (Values values) Forbidden forward sound complete each found told = absurd told
  next-answer old limit (Values values) answer.Spent forward sound complete each found told = absurd told
  next-answer old limit Refuted (Allowed crash) forward sound complete each found told = absurd told
  next-answer old limit Refuted answer.Spent forward sound complete each found told = absurd told
  next-answer old limit found.Spent (Allowed crash) forward sound complete each found told = absurd told
  next-answer old limit found.Spent Forbidden forward sound complete each found told = absurd told

  -- what was learned is a part of a log of the question
  pub part-under :
      (closed : Bool) (vars clauses : ℕ) (part : Derivation) → s.vars ≡ (coding t [] pred want).vars → vars ≡ s.vars
      → clauses ≡ length s.clauses + length kept → EachFollows s.clauses s.learned
      → part ≡ record { vars = vars; clauses = clauses; learned = s.learned; closed = closed } → IsPartUnder s t kept pred want closed part
  part-under closed vars clauses part of same count each is = record {
    of = record {
      vars = ap (λ (d : Derivation). d.vars) is ∙ same ∙ of;
      clauses = ap (λ (d : Derivation). d.clauses) is ∙ count ∙ sym coded-count;
    };
    learned = ap (λ (d : Derivation). d.learned) is;
    is_closed = ap (λ (d : Derivation). d.closed) is;
    follow =
        subst (λ (ls : List (List Lit)). EachFollows (coding t kept pred want).clauses ls) (sym (ap (λ (d : Derivation). d.learned) is)) (following each);
  }

-- the series' variables reach as far as those of the order
pub order-room : (t : Trace) (pred : Pred) (want : Bool) (s : Solving) → s.vars ≡ (coding t [] pred want).vars → order_vars (length t.events) ≤ s.vars
order-room t pred want s is =
    reach (order_vars (length t.events)) (last_vars (map (writers t.events) (cells t pred))) ((node_in t pred pred).below + 1) s.vars is
  where
    reach : (order last nodes vars : ℕ) → vars ≡ order + last + nodes → order ≤ vars
    reach order last nodes vars e = omega (arith, e)

-- a series whose variables and clauses stay is about the same question
pub about-stays :
    (old new : Solving) (t : Trace) (pred : Pred) (want : Bool) → new.vars ≡ old.vars → new.clauses ≡ old.clauses → IsAbout old t pred want → IsAbout new t pred want
about-stays old new t pred want vars clauses about = record { vars = vars ∙ about.vars; clauses = clauses ∙ about.clauses }
