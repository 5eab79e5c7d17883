-- What is known of the oracle once a question that was left undecided is noted.
use Rattle.std.proofs.Common.{◌≡◌, ◌≢◌, ℕ, ◌+◌, ◌<◌, ◌≤◌, Bool, List, length, Option, Some, None, refl, sym, ◌∙◌, ap, subst, arith}
use Rattle.std.specs.Prelude.{option_map}
use Rattle.cdcl_core.specs.Answering.{Solving}
use Rattle.question_series.specs.declared.series.SeriesAnswer.{SeriesAnswer}
use Rattle.question_series.specs.declared.series.SeriesAnswer.TheVariants as answers
use Rattle.sync_shrink.specs.declared.asking.AskError.{AskError}
use Rattle.sync_shrink.specs.declared.asking.AskError.TheVariants.{Spent, OutOfMemory}
use Rattle.sync_repair.specs.declared.asking.SpentQuestion.{SpentQuestion}
use Rattle.sync_repair.specs.Settings.{Setting, IsSetting, Asks, IsSetAnswer, IsLeftUndecided, IsReady, Stays}
use Rattle.sync_repair.specs.Notes.{IsNoted}

-- an answer that leaves the question undecided
pub left-undecided : (s : Setting) (set : List Bool) (limit before : ℕ) (old new : Solving) (answer : SeriesAnswer) → IsSetAnswer s set limit old new answer → answer ≡ answers.Spent
    → before ≡ length old.learned → IsLeftUndecided s set new before limit
left-undecided s set limit before old new answer says spent count =
    subst (λ (n : ℕ). IsLeftUndecided s set new n limit) (sym count) (subst (λ (a : SeriesAnswer). IsSetAnswer s set limit old new a) spent says)

last-noted : (s : Setting) (series : Solving) (limit : ℕ) (set : List Bool) (before count later : ℕ) (spent : Option SpentQuestion) (e : AskError)
    → IsSetting s → Asks s series → IsLeftUndecided s set series before limit → IsNoted set before count later spent e → IsReady s series limit spent
last-noted s series limit set before count later spent Spent is asks left noted =
    subst (λ (o : Option SpentQuestion). IsReady s series limit o) (sym noted.1) (record { setting = is; about = asks; last = left })
last-noted s series limit set before count later spent OutOfMemory is asks left noted =
    subst (λ (o : Option SpentQuestion). IsReady s series limit o) (sym noted.1) (record { setting = is; about = asks; last = tt })

pub noted-ready : (s t : Setting) (series next : Solving) (limit same : ℕ) (set : List Bool) (before count later : ℕ) (spent : Option SpentQuestion) (e : AskError)
    → t ≡ s → next ≡ series → same ≡ limit
    → IsSetting s → Asks s series → IsLeftUndecided s set series before limit → IsNoted set before count later spent e → IsReady t next same spent
noted-ready s t series next limit same set before count later spent e setting solving limits is asks left noted =
    let ready : IsReady s series limit spent = last-noted s series limit set before count later spent e is asks left noted in
    let in_series : IsReady s next limit spent = subst (λ (x : Solving). IsReady s x limit spent) (sym solving) ready in
    let in_limit : IsReady s next same spent = subst (λ (n : ℕ). IsReady s next n spent) (sym limits) in_series in
    subst (λ (x : Setting). IsReady x next same spent) (sym setting) in_limit

noted-rises : (set : List Bool) (before count later : ℕ) (spent : Option SpentQuestion) (e : AskError) → IsNoted set before count later spent e → count ≤ later
noted-rises set before count later spent Spent noted = let more = noted.0 in omega (arith, more)
noted-rises set before count later spent OutOfMemory noted = let same = noted.0 in omega (arith, same)

pub noted-stays : (s t : Setting) (limit same : ℕ) (set : List Bool) (before count later : ℕ) (spent : Option SpentQuestion) (e : AskError)
    → t ≡ s → same ≡ limit → (limit ≡ 18446744073709551615 → ⊥) → IsNoted set before count later spent e → Stays s t limit same count later
noted-stays s t limit same set before count later spent e setting limits never noted = record {
  setting = sym setting;
  limited = sym limits;
  rises = noted-rises set before count later spent e noted;
  endless = λ h. absurd (never h);
}

pub noted-counted : (set : List Bool) (before count later : ℕ) (spent : Option SpentQuestion) (e : AskError) → IsNoted set before count later spent e → e ≡ Spent → count < later
noted-counted set before count later spent Spent noted is = let more = noted.0 in omega (arith, more)
noted-counted set before count later spent OutOfMemory noted is = absurd (let bad : ◌≡◌ {A = AskError} OutOfMemory Spent = is in cc)

pub noted-set : (set : List Bool) (before count later : ℕ) (spent : Option SpentQuestion) (e : AskError) → IsNoted set before count later spent e → e ≡ Spent
    → option_map (λ (q : SpentQuestion). q.set) spent ≡ Some set
noted-set set before count later spent Spent noted is = ap (option_map (λ (q : SpentQuestion). q.set)) noted.1
noted-set set before count later spent OutOfMemory noted is = absurd (let bad : ◌≡◌ {A = AskError} OutOfMemory Spent = is in cc)
