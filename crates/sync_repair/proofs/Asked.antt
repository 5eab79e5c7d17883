-- What the answers to a question about all events say of the sites of a set.
use Rattle.std.proofs.Common.{◌≡◌, ℕ, ◌+◌, Bool, List, length, ◌++◌, refl, sym, ◌∙◌, ap, subst}
use Rattle.litmus_syntax.specs.declared.pred.Pred.{Pred}
use Rattle.cdcl_core.specs.Answering.{Solving}
use Rattle.fer_events.specs.declared.event.Crash.{Crash}
use Rattle.fer_events.specs.Orders.{AreForward}
use Rattle.fer_events.specs.Pairs.{PairList}
use Rattle.fer_events.specs.Tables.{Trace}
use Rattle.question_series.specs.Series.{IsAbout, IsNextAnswer}
use Rattle.question_series.specs.declared.series.SeriesAnswer.{SeriesAnswer}
use Rattle.question_series.specs.declared.series.SeriesAnswer.TheVariants.{Allowed, Forbidden, Spent}
use Rattle.sync_parts.specs.Parts.{crash_without}
use Rattle.sync_parts.specs.Sites.{sites_present, places_present}
use Rattle.sync_parts.specs.Reaching.{Reaches}
use Rattle.sync_repair.specs.Settings.{Setting, IsSetting, AreKeptIn, Asks, IsSettled, IsLeftUndecided}
use Rattle.sync_repair.proofs.Kepts.{kept-forth, kept-back, kept-forward}

pub about-in : (s : Setting) (t : Trace) (series : Solving) → t ≡ s.all → Asks s series → IsAbout series t s.litmus.pred s.litmus.want
about-in s t series same asks = subst (λ (u : Trace). IsAbout series u s.litmus.pred s.litmus.want) (sym same) asks

pub asks-about : (s : Setting) (t : Trace) (series : Solving) → t ≡ s.all → Asks s series → (pred : Pred) × (want : Bool) × IsAbout series t pred want
asks-about s t series same asks = (s.litmus.pred, s.litmus.want, about-in s t series same asks)

-- a series stays about the setting while its variables and clauses stay
pub still-about : (s : Setting) (old new : Solving) → new.vars ≡ old.vars → new.clauses ≡ old.clauses → Asks s old → Asks s new
still-about s old new vars clauses asks = record { vars = vars ∙ asks.vars; clauses = clauses ∙ asks.clauses }

module _ (s : Setting) (is : IsSetting s) (set : List Bool) (pairs : PairList) (kept : AreKeptIn s set pairs) (t : Trace) (same : t ≡ s.all) where
  pub pairs-size : pairs.n ≡ length t.events
  pairs-size = kept.lifted.counted ∙ ap (λ (u : Trace). length u.events) (sym same)

  pub pairs-forward : AreForward pairs.n pairs.pairs
  pairs-forward = subst (λ (n : ℕ). AreForward n pairs.pairs) (sym kept.lifted.counted) (kept-forward s.litmus s.model s.sites set s.all is.syncs is.outside is.resolved pairs kept)

  module _ (limit : ℕ) (old new : Solving) (answer : SeriesAnswer) (asks : Asks s old)
      (says : (pred : Pred) (want : Bool) → IsAbout old t pred want → IsNextAnswer t pairs.pairs pred want limit old new answer) where
    here : (other : SeriesAnswer) → answer ≡ other → IsNextAnswer s.all pairs.pairs s.litmus.pred s.litmus.want limit old new other
    here other is_other =
        let there = says s.litmus.pred s.litmus.want (about-in s t old same asks) in
        let now : IsNextAnswer s.all pairs.pairs s.litmus.pred s.litmus.want limit old new answer =
        subst (λ (u : Trace). IsNextAnswer u pairs.pairs s.litmus.pred s.litmus.want limit old new answer) same there in
        subst (λ (a : SeriesAnswer). IsNextAnswer s.all pairs.pairs s.litmus.pred s.litmus.want limit old new a) is_other now

    pub allowed-reaches : (crash less : Crash) → answer ≡ Allowed crash
        → less ≡ crash_without (places_present s.litmus.body s.sites set s.all.events) crash → Reaches s.litmus s.model (sites_present s.sites set) less
    allowed-reaches crash less allowed without =
        let found = here (Allowed crash) allowed in
        subst (λ (c : Crash). Reaches s.litmus s.model (sites_present s.sites set) c) (sym without)
        (kept-forth s.litmus s.model s.sites set s.all is.syncs is.outside is.resolved pairs kept crash found.0)

    pub forbidden-settles : answer ≡ Forbidden → IsSettled s set new
    forbidden-settles forbidden =
        let found = here Forbidden forbidden in
        record {
          kept = pairs;
          kept_with = kept;
          none = λ (less, r).
              let more = kept-back s.litmus s.model s.sites set s.all is.syncs is.outside is.resolved pairs kept less r in
              found.0 more.0 more.1;
          refuted = found.1;
        }

    pub spent-leaves : answer ≡ Spent → IsLeftUndecided s set new (length old.learned) limit
    spent-leaves spent =
        let found = here Spent spent in
        record { kept = pairs; kept_with = kept; undecided = found.1; added = found.0 }
