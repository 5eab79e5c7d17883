-- Each step of the work ends in one way, or it yields one thing.
use Rattle.std.proofs.Common.{◌≡◌, ◌<◌, ℕ, Bool, true, false, List, length, filter, Option, Some, None, IsSomeAnd, refl, sym, ◌∙◌, ap, subst, arith}
use Rattle.std.proofs.lemmas.List.Elements.{filter_agree}
use Rattle.fer_outside.specs.Held.{Held, held_under}
use Rattle.litmus_syntax.specs.Test.{Test}
use Rattle.litmus_syntax.specs.declared.pred.Pred.{Pred}
use Rattle.litmus_syntax.specs.declared.site.Site.{Site}
use Rattle.litmus_reader.specs.declared.fault.LitmusKind.{LitmusKind}
use Rattle.litmus_reader.specs.Kinds as litmus_kind
use Rattle.litmus_reader.specs.LitmusText.{IsLitmusText, IsLitmusRefused}
use Rattle.model_reader.specs.declared.model.Model.{Model}
use Rattle.model_reader.specs.declared.fault.ModelKind.{ModelKind}
use Rattle.model_reader.specs.Kinds as model_kind
use Rattle.model_reader.specs.ModelText.{IsModelText, IsModelRefused}
use Rattle.fer_events.specs.declared.event.Event.{Event}
use Rattle.fer_events.specs.declared.event.Crash.{Crash}
use Rattle.fer_events.specs.Pairs.{PairList, has_pair, square}
use Rattle.fer_events.specs.Tables.{Trace}
use Rattle.call_events.specs.declared.call_kind.CallKind.{CallKind}
use Rattle.call_events.specs.Refusals as call_kind
use Rattle.call_events.specs.Resolved.{HasEvents, IsCallRefused}
use Rattle.witness_replay.specs.declared.judgement.CrashJudgement.{CrashJudgement}
use Rattle.witness_replay.specs.CrashFiles.{IsCrashText}
use Rattle.witness_replay.specs.Judging.{IsJudged}
use Rattle.fer_events.proofs.PairLaws.{has_self, has_only}
use Rattle.report.specs.declared.outcome.Role.{Role}
use Rattle.report.specs.Answers.{Answer, LitmusRefused, ModelRefused, LogRefused}
use Rattle.ferrite_run.specs.Fetching.{IsUnfetched, IsFetched, most_bytes}
use Rattle.ferrite_run.specs.Fetching.IsUnfetched.{missing, unreadable, long}
use Rattle.litmus_syntax.specs.declared.site.SiteKind.{SiteKind}
use Rattle.clause_store.specs.Clauses.{Formula}
use Rattle.proof_log.specs.declared.fault.LogKind.{LogKind}
use Rattle.proof_log.specs.Kinds as log_kind
use Rattle.proof_log.specs.Logs.{Logged}
use Rattle.proof_log.specs.LogFiles.{IsLogText, IsLogRefused}
use Rattle.rup_checker.specs.declared.judgement.Judgement.{Judgement}
use Rattle.rup_checker.specs.Accepting as log_check
use Rattle.litmus_syntax.specs.declared.call.Step.{Step}
use Rattle.sync_sites.specs.SiteLists.{AreTooMany}
use Rattle.sync_repair.specs.Sets.{AreKept, AreKeptWith}
use Rattle.ferrite_run.specs.Reading.{IsNoLitmus, IsNoModel, IsNoCrash, IsNoLog}
use Rattle.ferrite_run.specs.Asking.{IsUnresolved}
use Rattle.ferrite_run.proofs.Rows.{IsOneStep}

some_bytes : (a b : List ℕ) → Some a ≡ Some b → a ≡ b
some_bytes a b e = cc

held_long : (limit : ℕ) (o : Option (List ℕ)) (bytes : List ℕ) → o ≡ Some bytes → IsSomeAnd o (λ b. limit < length b) → limit < length bytes
held_long limit o bytes e more = subst (λ (p : Option (List ℕ)). IsSomeAnd p (λ b. limit < length b)) e more

no_bytes_long : (limit : ℕ) (o : Option (List ℕ)) → o ≡ None → IsSomeAnd o (λ b. limit < length b) → ⊥
no_bytes_long limit o e more = subst (λ (p : Option (List ℕ)). IsSomeAnd p (λ b. limit < length b)) e more

no_bytes_held : (o : Option (List ℕ)) (bytes : List ℕ) → o ≡ None → o ≡ Some bytes → ⊥
no_bytes_held o bytes e f = let bad : None ≡ Some bytes = sym e ∙ f in cc

one_unfetched : (all : Held) (role : Role) (name : List ℕ) (a b : Answer) → IsUnfetched (Some all) ⊥ role name a → IsUnfetched (Some all) ⊥ role name b → a ≡ b
one_unfetched all role name a b (missing h e) (missing g f) = e ∙ sym f
one_unfetched all role name a b (missing h e) (unreadable g f) = absurd g
one_unfetched all role name a b (missing h e) (long g f) = absurd (no_bytes_long (most_bytes role) (held_under all name) h g)
one_unfetched all role name a b (unreadable h e) _ = absurd h
one_unfetched all role name a b (long h e) (missing g f) = absurd (no_bytes_long (most_bytes role) (held_under all name) g h)
one_unfetched all role name a b (long h e) (unreadable g f) = absurd g
one_unfetched all role name a b (long h e) (long g f) = e ∙ sym f

never_both : (all : Held) (role : Role) (name : List ℕ) (a : Answer) (bytes : List ℕ) → IsUnfetched (Some all) ⊥ role name a → IsFetched (Some all) role name bytes → ⊥
never_both all role name a bytes (missing h e) f = no_bytes_held (held_under all name) bytes h f.held
never_both all role name a bytes (unreadable h e) f = h
never_both all role name a bytes (long h e) f = omega (arith, held_long (most_bytes role) (held_under all name) bytes f.held h, f.within)

pub one_fetch : (all : Held) (role : Role) (name : List ℕ) → IsOneStep (List ℕ) (IsUnfetched (Some all) ⊥ role name) (IsFetched (Some all) role name)
one_fetch all role name = record {
  one_end = one_unfetched all role name;
  one_yield = λ x y f g. some_bytes x y (sym f.held ∙ g.held);
  apart = never_both all role name;
}

-- what the crates below say of one reading and of one outcome
pub record Laws : Type 0 where
  pub one_litmus : (bytes : List ℕ) (a b : Test) → IsLitmusText bytes a → IsLitmusText bytes b → a ≡ b
  pub one_litmus_refusal : (bytes : List ℕ) (i j : ℕ) (k m : LitmusKind) → IsLitmusRefused bytes i k → IsLitmusRefused bytes j m → (i ≡ j) × (k ≡ m)
  pub litmus_or_refused : (bytes : List ℕ) (a : Test) (i : ℕ) (k : LitmusKind) → IsLitmusText bytes a → IsLitmusRefused bytes i k → ⊥
  pub one_model : (bytes : List ℕ) (a b : Model) → IsModelText bytes a → IsModelText bytes b → a ≡ b
  pub one_model_refusal : (bytes : List ℕ) (i j : ℕ) (k m : ModelKind) → IsModelRefused bytes i k → IsModelRefused bytes j m → (i ≡ j) × (k ≡ m)
  pub model_or_refused : (bytes : List ℕ) (a : Model) (i : ℕ) (k : ModelKind) → IsModelText bytes a → IsModelRefused bytes i k → ⊥
  pub one_trace : (litmus : Test) (sites : List Site) (t u : Trace) → HasEvents litmus sites t → HasEvents litmus sites u → t ≡ u
  pub one_call : (litmus : Test) (sites : List Site) (i j : ℕ) (k m : CallKind) → IsCallRefused litmus sites i k → IsCallRefused litmus sites j m → (i ≡ j) × (k ≡ m)
  pub events_or_refused : (litmus : Test) (sites : List Site) (t : Trace) (i : ℕ) (k : CallKind) → HasEvents litmus sites t → IsCallRefused litmus sites i k → ⊥
  pub one_crash : (bytes : List ℕ) (a b : Crash) → IsCrashText bytes a → IsCrashText bytes b → a ≡ b
  pub one_judgement : (t : Trace) (kept : List (ℕ × ℕ)) (pred : Pred) (want : Bool) (crash : Crash) (x y : CrashJudgement)
      → IsJudged t kept pred want crash x → IsJudged t kept pred want crash y → x ≡ y
  pub one_log : (bytes : List ℕ) (a b : Logged) → IsLogText bytes a → IsLogText bytes b → a ≡ b
  pub one_log_refusal : (bytes : List ℕ) (i j : ℕ) (k m : LogKind) → IsLogRefused bytes i k → IsLogRefused bytes j m → (i ≡ j) × (k ≡ m)
  pub log_or_refused : (bytes : List ℕ) (a : Logged) (i : ℕ) (k : LogKind) → IsLogText bytes a → IsLogRefused bytes i k → ⊥
  pub one_check : (formula : Formula) (log : Logged) (a b : Judgement) → log_check.IsJudged formula log a → log_check.IsJudged formula log b → a ≡ b
  pub one_line : (kind : SiteKind) (body : List Step) (t : Trace) (i j : ℕ) → AreTooMany kind body t i → AreTooMany kind body t j → i ≡ j
  pub one_list : (litmus : Test) (model : Model) (sites : List Site) (set : List Bool) (all : Trace) (p q : PairList)
      → AreKeptWith litmus model sites set all p → AreKeptWith litmus model sites set all q → p ≡ q

pub one_refusal : (make : ℕ → ℕ → Answer) (i j k m : ℕ) → i ≡ j → k ≡ m → make i k ≡ make j m
one_refusal make i j k m e f = ap (λ (n : ℕ). make n k) e ∙ ap (make j) f

pub one_litmus_step : Laws → (bytes : List ℕ) → IsOneStep Test (IsNoLitmus bytes) (IsLitmusText bytes)
one_litmus_step laws bytes = record {
  one_end = λ a b (i, k, h, e) (j, m, g, f).
      let one = laws.one_litmus_refusal bytes i j k m h g in
      e ∙ one_refusal LitmusRefused i j (litmus_kind.kind_number k) (litmus_kind.kind_number m) one.0 (ap litmus_kind.kind_number one.1) ∙ sym f;
  one_yield = laws.one_litmus bytes;
  apart = λ a x (i, k, h, e) is. laws.litmus_or_refused bytes x i k is h;
}

pub one_model_step : Laws → (bytes : List ℕ) → IsOneStep Model (IsNoModel bytes) (IsModelText bytes)
one_model_step laws bytes = record {
  one_end = λ a b (i, k, h, e) (j, m, g, f).
      let one = laws.one_model_refusal bytes i j k m h g in
      e ∙ one_refusal ModelRefused i j (model_kind.kind_number k) (model_kind.kind_number m) one.0 (ap model_kind.kind_number one.1) ∙ sym f;
  one_yield = laws.one_model bytes;
  apart = λ a x (i, k, h, e) is. laws.model_or_refused bytes x i k is h;
}

pub one_crash_step : Laws → (bytes : List ℕ) → IsOneStep Crash (IsNoCrash bytes) (IsCrashText bytes)
one_crash_step laws bytes = record {
  one_end = λ a b (none, e) (never, f). e ∙ sym f;
  one_yield = laws.one_crash bytes;
  apart = λ a crash (none, e) is. none crash is;
}

pub one_log_step : Laws → (bytes : List ℕ) → IsOneStep Logged (IsNoLog bytes) (IsLogText bytes)
one_log_step laws bytes = record {
  one_end = λ a b (i, k, h, e) (j, m, g, f).
      let one = laws.one_log_refusal bytes i j k m h g in
      e ∙ one_refusal LogRefused i j (log_kind.kind_number k) (log_kind.kind_number m) one.0 (ap log_kind.kind_number one.1) ∙ sym f;
  one_yield = laws.one_log bytes;
  apart = λ a x (i, k, h, e) is. laws.log_or_refused bytes x i k is h;
}

pub one_resolving : Laws → (litmus : Test) (sites : List Site) → IsOneStep Trace (IsUnresolved litmus sites) (HasEvents litmus sites)
one_resolving laws litmus sites = record {
  one_end = λ a b (i, k, h, e) (j, m, g, f).
      let one = laws.one_call litmus sites i j k m h g in
      e ∙ one_refusal LitmusRefused i j (call_kind.kind_number k) (call_kind.kind_number m) one.0 (ap call_kind.kind_number one.1) ∙ sym f;
  one_yield = laws.one_trace litmus sites;
  apart = λ a x (i, k, h, e) has. laws.events_or_refused litmus sites x i k has h;
}

pub same_truth : (a b : Bool) → (a ≡ true → b ≡ true) → (b ≡ true → a ≡ true) → a ≡ b
same_truth true true f g = refl
same_truth true false f g = sym (f refl)
same_truth false true f g = g refl
same_truth false false f g = refl

-- the pairs that are kept are found in each list of them
also : (model : Model) (events : List Event) (p q : PairList) → AreKept model events p → AreKept model events q → (a b : ℕ) → has_pair p.pairs a b ≡ true → has_pair q.pairs a b ≡ true
also model events p q h g a b e = has_self q.pairs (a, b) ((g.exactly a b).1 ((h.exactly a b).0 (has_only p.pairs a b e)))

pub one_kept : (model : Model) (events : List Event) (p q : PairList) → AreKept model events p → AreKept model events q → p ≡ q
one_kept model events p q h g =
    let make : ℕ → List (ℕ × ℕ) → PairList = λ k l. record { n = k; pairs = l } in
    let n : p.n ≡ q.n = h.counted ∙ sym g.counted in
    let pairs : p.pairs ≡ q.pairs =
    h.listed ∙ ap (λ (k : ℕ). filter (λ r. has_pair p.pairs r.0 r.1) (square k)) n
    ∙ filter_agree (λ r. has_pair p.pairs r.0 r.1) (λ r. has_pair q.pairs r.0 r.1)
    (λ r. same_truth (has_pair p.pairs r.0 r.1) (has_pair q.pairs r.0 r.1) (also model events p q h g r.0 r.1) (also model events q p g h r.0 r.1)) (square q.n) ∙ sym g.listed in
    ap (λ (k : ℕ). make k p.pairs) n ∙ ap (make q.n) pairs

pub one_keeping : (model : Model) (events : List Event) → IsOneStep PairList (λ _. ⊥) (AreKept model events)
one_keeping model events = record {
  one_end = λ a b h g. absurd h;
  one_yield = one_kept model events;
  apart = λ a x h k. h;
}
