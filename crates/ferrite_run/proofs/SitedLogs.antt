-- What is kept of a repair is a log, and it is accepted or left open over the formula that it is about.
use Rattle.std.proofs.Common.{◌≡◌, ℕ, zero, suc, ◌+◌, ◌<◌, ◌≤◌, ◌^◌, List, [], ◌∷◌, Bool, true, false, length, All, Contains, Some, None, refl, sym, subst, arith}
use Rattle.std.specs.List.Sorted.{IsStrictlyIncreasing}
use Rattle.std.specs.Prelude.{slice_index}
use Rattle.std.proofs.lemmas.List.Elements.{All-nil, All-cons}
use Rattle.litmus_syntax.specs.Test.{Test}
use Rattle.litmus_syntax.specs.declared.site.Site.{Site}
use Rattle.litmus_syntax.specs.declared.site.SiteKind.{SiteKind}
use Rattle.clause_store.specs.declared.Lit.{Lit}
use Rattle.clause_store.specs.Clauses.{InVars}
use Rattle.clause_store.specs.Derivations.{EachIsNew}
use Rattle.model_reader.specs.declared.model.Model.{Model}
use Rattle.predicate_coding.specs.Coding.{coding}
use Rattle.proof_log.specs.Logs.{IsDerivation, IsLog}
use Rattle.rup_checker.specs.Accepting.{IsAccepted, IsOpenLog}
use Rattle.sync_shrink.specs.Sets.{things_from}
use Rattle.sync_repair.specs.declared.findings.Findings.{Findings}
use Rattle.sync_repair.specs.Findings.{AreClosed, AreOpen}
use Rattle.ferrite_run.specs.Repair.{sited_log}

-- the numbers of a set are those of its places
pub numbers_within : (low n from : ℕ) (s : List Bool) → low ≤ from → from + length s ≤ n → All (λ x. (low ≤ x) × (x < n)) (things_from from s)
numbers_within low n from [] up le = All-nil (λ x. (low ≤ x) × (x < n))
numbers_within low n from (true ∷ s) up le =
    All-cons (λ x. (low ≤ x) × (x < n)) from (things_from (from + 1) s) (up, omega (arith, le)) (numbers_within low n (from + 1) s (omega (arith, up)) (omega (arith, le)))
numbers_within low n from (false ∷ s) up le = numbers_within low n (from + 1) s (omega (arith, up)) (omega (arith, le))

-- a number below all numbers of an ascending list may stand before them
rise_cons : (x : ℕ) (xs : List ℕ) → ((k : ℕ) → k < length xs → x < slice_index xs k) → IsStrictlyIncreasing xs → IsStrictlyIncreasing (x ∷ xs)
rise_cons x xs less rise zero there = less 0 (omega (arith, there))
rise_cons x xs less rise (suc k) there =
    let e : suc k + 1 ≡ suc (k + 1) = omega arith in
    subst (λ (i : ℕ). slice_index xs k < slice_index (x ∷ xs) i) (sym e) (rise k (omega (arith, there)))

numbers_rise : (from : ℕ) (s : List Bool) → IsStrictlyIncreasing (things_from from s)
numbers_rise from [] = λ k there. absurd (omega (arith, there))
numbers_rise from (true ∷ s) =
    rise_cons from (things_from (from + 1) s)
    (λ k there. omega (arith, (numbers_within (from + 1) (from + 1 + length s) (from + 1) s (omega arith) (omega arith) k 0 there).0)) (numbers_rise (from + 1) s)
numbers_rise from (false ∷ s) = numbers_rise (from + 1) s

pub closed_log :
    (litmus : Test) (model : Model) (sites : List Site) (f : Findings) (kind : SiteKind) → (is : AreClosed litmus model sites f)
    → IsAccepted (coding is.all is.kept.pairs litmus.pred litmus.want) (sited_log kind f)
closed_log litmus model sites f kind is = record {
  made_for = (is.findings.of.vars, is.findings.of.clauses);
  follow = is.findings.follow;
  closed = is.closed;
  empty = is.refuted;
}

pub open_log :
    (litmus : Test) (model : Model) (sites : List Site) (limit : ℕ) (f : Findings) (kind : SiteKind) → (is : AreOpen litmus model sites limit f)
    → IsOpenLog (coding is.all is.kept.pairs litmus.pred litmus.want) (sited_log kind f)
open_log litmus model sites limit f kind is = record {
  made_for = (is.findings.of.vars, is.findings.of.clauses);
  follow = is.findings.follow;
  unclosed = is.unclosed;
  short = is.undecided;
}

pub few_learned :
    ((vars : ℕ) (given added : List (List Lit)) → EachIsNew given added → All (All (InVars vars)) added → (Contains added [] → ⊥) → length added < 4 ^ vars)
    → (litmus : Test) (model : Model) (sites : List Site) (limit : ℕ) (f : Findings) → IsDerivation f.part → (is : AreOpen litmus model sites limit f)
    → length f.part.learned < 4 ^ (coding is.all is.kept.pairs litmus.pred litmus.want).vars
few_learned few litmus model sites limit f rules is =
    subst (λ (v : ℕ). length f.part.learned < 4 ^ v) is.findings.of.vars
    (few f.part.vars (coding is.all [] litmus.pred litmus.want).clauses f.part.learned is.findings.lessons.new rules.named is.findings.lessons.some)

no_kind : (kind : SiteKind) → Some kind ≡ None → ⊥
no_kind kind e = cc

-- the log of a repair keeps the rules where its clauses do
pub sited_rules : (kind : SiteKind) (f : Findings) → IsDerivation f.part → length f.set ≤ 4294967295 → f.before ≤ length f.part.learned → IsLog (sited_log kind f)
sited_rules kind f rules few within = record {
  part = rules;
  ascending = numbers_rise 1 f.set;
  numbered = λ k d there.
      let has = numbers_within 1 (1 + length f.set) 1 f.set (omega arith) (omega arith) k d there in
      (has.0, omega (arith, has.1, few));
  none = λ e. absurd (no_kind kind e);
  asked = (within, refl);
}
