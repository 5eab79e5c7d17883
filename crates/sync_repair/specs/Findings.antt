-- What was learned of a question about some of the sites of a test.
use Rattle.std.specs.Prelude.{◌≡◌, ℕ, ◌+◌, ◌≤◌, true, false, List, [], ◌++◌, length}
use Rattle.litmus_syntax.specs.Test.{Test}
use Rattle.litmus_syntax.specs.declared.site.Site.{Site}
use Rattle.clause_store.specs.Clauses.{Formula}
use Rattle.clause_store.specs.Propagation.{Follows}
use Rattle.clause_store.specs.Derivations.{EachFollows}
use Rattle.cdcl_core.specs.Answering.{AreLessons}
use Rattle.fer_events.specs.Pairs.{PairList}
use Rattle.fer_events.specs.Tables.{Trace}
use Rattle.call_events.specs.Resolved.{HasEvents}
use Rattle.model_reader.specs.declared.model.Model.{Model}
use Rattle.predicate_coding.specs.Coding.{coding}
use Rattle.crash_question.specs.Answers.{IsPartOf}
use Rattle.sync_repair.specs.declared.findings.Findings.{Findings}
use Rattle.sync_repair.specs.Sets.{AreKeptWith}

-- the part is of a log of the formula that has the events with all sites and the pairs that are kept with those of the set: its
-- clauses follow one after the other. Each of them is new against the clauses that the formula has without kept pairs, and
-- so many of them were learned before the question about the set
pub record AreFindings (litmus : Test) (model : Model) (sites : List Site) (all : Trace) (kept : PairList) (f : Findings) : Type 0 where
  pub resolved : HasEvents litmus sites all
  pub kept_with : AreKeptWith litmus model sites f.set all kept
  pub of : IsPartOf (coding all kept.pairs litmus.pred litmus.want) f.part
  pub follow : EachFollows (coding all kept.pairs litmus.pred litmus.want).clauses f.part.learned
  pub lessons : AreLessons (coding all [] litmus.pred litmus.want).clauses f.part.learned
  pub within : f.before ≤ length f.part.learned

-- they refute the question about the set: the empty clause ends the part, and it follows
pub record AreClosed (litmus : Test) (model : Model) (sites : List Site) (f : Findings) : Type 0 where
  pub all : Trace
  pub kept : PairList
  pub findings : AreFindings litmus model sites all kept f
  pub closed : f.part.closed ≡ true
  pub refuted : Follows ((coding all kept.pairs litmus.pred litmus.want).clauses ++ f.part.learned) []

-- they leave it open: as many clauses as allowed were learned for it, and the empty clause doesn't follow
pub record AreOpen (litmus : Test) (model : Model) (sites : List Site) (limit : ℕ) (f : Findings) : Type 0 where
  pub all : Trace
  pub kept : PairList
  pub findings : AreFindings litmus model sites all kept f
  pub unclosed : f.part.closed ≡ false
  pub undecided : Follows ((coding all kept.pairs litmus.pred litmus.want).clauses ++ f.part.learned) [] → ⊥
  pub added : length f.part.learned ≡ f.before + limit
