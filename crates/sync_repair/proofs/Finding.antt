-- What was learned, as findings.
use Rattle.std.proofs.Common.{◌≡◌, ℕ, ◌+◌, ◌≤◌, Bool, true, false, List, [], ◌++◌, length, refl, sym, ◌∙◌, ap, subst}
use Rattle.litmus_syntax.specs.declared.pred.Pred.{Pred}
use Rattle.clause_store.specs.declared.Lit.{Lit}
use Rattle.clause_store.specs.Propagation.{Follows}
use Rattle.cdcl_core.specs.Answering.{Solving, AreLessons}
use Rattle.fer_events.specs.Pairs.{PairList}
use Rattle.fer_events.specs.Tables.{Trace}
use Rattle.predicate_coding.specs.Coding.{coding}
use Rattle.proof_log.specs.Logs.{Derivation}
use Rattle.question_series.specs.Series.{IsAbout, IsPartUnder, IsRefuted}
use Rattle.sync_repair.specs.declared.findings.Findings.{Findings}
use Rattle.sync_repair.specs.Findings.{AreFindings, AreClosed, AreOpen}
use Rattle.sync_repair.specs.Settings.{Setting, IsSetting, AreKeptIn, Asks, Refutes, IsSettled, IsLeftUndecided}
use Rattle.sync_repair.specs.Found.{IsFound}
use Rattle.sync_repair.proofs.Kepts.{one-list}
use Rattle.sync_repair.proofs.Asked.{about-in}

-- the part of a series about the setting
pub found-part : (s : Setting) (is : IsSetting s) (set : List Bool) (pairs : PairList) (kept : AreKeptIn s set pairs) (t : Trace) (same : t ≡ s.all)
    (before : ℕ) (closed : Bool) (series : Solving) (asks : Asks s series) (lessons : AreLessons series.clauses series.learned) (within : before ≤ length series.learned)
    (part : Derivation) (says : (pred : Pred) (want : Bool) → IsAbout series t pred want → IsPartUnder series t pairs.pairs pred want closed part)
    (copy : List Bool) → copy ≡ set → IsFound s set before closed series (record { set = copy; part = part; before = before })
found-part s is set pairs kept t same before closed series asks lessons within part says copy copied =
    let there = says s.litmus.pred s.litmus.want (about-in s t series same asks) in
    let here : IsPartUnder series s.all pairs.pairs s.litmus.pred s.litmus.want closed part =
    subst (λ (u : Trace). IsPartUnder series u pairs.pairs s.litmus.pred s.litmus.want closed part) same there in
    let given : AreLessons (coding s.all [] s.litmus.pred s.litmus.want).clauses series.learned =
    subst (λ (l : List (List Lit)). AreLessons l series.learned) asks.clauses lessons in
    record {
      kept = pairs;
      findings = record {
        resolved = is.resolved;
        kept_with = subst (λ (l : List Bool). AreKeptIn s l pairs) (sym copied) kept;
        of = here.of;
        follow = here.follow;
        lessons = subst (λ (l : List (List Lit)). AreLessons (coding s.all [] s.litmus.pred s.litmus.want).clauses l) (sym here.learned) given;
        within = subst (λ (l : List (List Lit)). before ≤ length l) (sym here.learned) within;
      };
      about = copied;
      since = refl;
      ends = here.is_closed;
      learned = here.learned;
    }

module _ (s : Setting) (set : List Bool) (before : ℕ) (closed : Bool) (series : Solving) (f : Findings) (found : IsFound s set before closed series f) where
  -- the findings have the pairs that are kept with the set
  same-pairs : (pairs : PairList) → AreKeptIn s set pairs → pairs ≡ found.kept
  same-pairs pairs kept =
      one-list s.litmus s.model s.sites set s.all pairs found.kept kept (subst (λ (l : List Bool). AreKeptIn s l found.kept) found.about found.findings.kept_with)

  refuted-by : (pairs : PairList) → AreKeptIn s set pairs → Refutes s series pairs
      → Follows ((coding s.all found.kept.pairs s.litmus.pred s.litmus.want).clauses ++ f.part.learned) []
  refuted-by pairs kept refuted =
      subst (λ (l : List (List Lit)). Follows ((coding s.all found.kept.pairs s.litmus.pred s.litmus.want).clauses ++ l) []) (sym found.learned)
      (subst (λ (p : PairList). Refutes s series p) (same-pairs pairs kept) refuted)

  refutes-so : (pairs : PairList) → AreKeptIn s set pairs → Follows ((coding s.all found.kept.pairs s.litmus.pred s.litmus.want).clauses ++ f.part.learned) []
      → Refutes s series pairs
  refutes-so pairs kept follows =
      subst (λ (p : PairList). Refutes s series p) (sym (same-pairs pairs kept))
      (subst (λ (l : List (List Lit)). Follows ((coding s.all found.kept.pairs s.litmus.pred s.litmus.want).clauses ++ l) []) found.learned follows)

  pub found-closed : closed ≡ true → IsSettled s set series → AreClosed s.litmus s.model s.sites f
  found-closed is settled = record {
    all = s.all;
    kept = found.kept;
    findings = found.findings;
    closed = found.ends ∙ is;
    refuted = refuted-by settled.kept settled.kept_with settled.refuted;
  }

  pub found-open : (limit : ℕ) → closed ≡ false → IsLeftUndecided s set series before limit → AreOpen s.litmus s.model s.sites limit f
  found-open limit is left = record {
    all = s.all;
    kept = found.kept;
    findings = found.findings;
    unclosed = found.ends ∙ is;
    undecided = λ follows. left.undecided (refutes-so left.kept left.kept_with follows);
    added = ap length found.learned ∙ left.added ∙ ap (λ (n : ℕ). n + limit) (sym found.since);
  }
