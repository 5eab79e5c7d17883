-- Private: what the steps of `work` may come to, some of which no generated test comes to.
use Rattle.std.specs.Prelude.{◌≡◌, ℕ, Bool, List}
use Rattle.litmus_syntax.specs.declared.site.Site.{Site}
use Rattle.fer_events.specs.declared.event.Crash.{Crash}
use Rattle.sync_parts.specs.Reaching.{Reaches, IsReachable}
use Rattle.sync_repair.specs.Sets.{IsLeft}
use Rattle.report.specs.Answers.{Answer, Work, NoneSuffice}
use Rattle.ferrite_run.specs.declared.question.Question.{Question}
use Rattle.litmus_syntax.specs.declared.site.SiteKind.TheVariants.{Sync}
use Rattle.model_library.specs.declared.texts.ShippedModel.TheVariants.{Ext4like}
use Rattle.model_library.specs.Generated.{generated}
use Rattle.model_library.specs.ShippedModels.{shipped_text}
use Rattle.ferrite_run.specs.Asking.{OnRead}
use Rattle.ferrite_run.specs.Done.{Done, Tells}
use Rattle.ferrite_run.specs.Reading.{ReadModel}
use Rattle.ferrite_run.specs.Sites.{repaired_by, ListSites}
use Rattle.ferrite_run.specs.Work.{summary_of}

-- the walk over the sites leaves a set, of which the summary says how large it is; or a crash still answers the question with
-- all of them
pub data IsWorkedBy (seed calls : ℕ) (q : Question) (sites : List Site) (answer : Answer) : Type 0 where
  worked :
      (IsReachable q.litmus q.model sites → ⊥) → (set : List Bool) → IsLeft q.litmus q.model sites set
      → answer ≡ Work (summary_of seed calls q sites set) → IsWorkedBy seed calls q sites answer
  none_suffice :
      (crash : Crash) → Reaches q.litmus q.model sites crash → answer ≡ NoneSuffice crash (repaired_by q.litmus sites)
      → IsWorkedBy seed calls q sites answer

-- the steps of `work`: the model is read, the generated test's calls become events, its sites are listed, and it is repaired
abbrev pub WorkSteps : ℕ → ℕ → Done → Type 0
WorkSteps seed calls done =
    ReadModel (shipped_text Ext4like)
    (λ model. OnRead (generated seed calls) model
    (λ q. ListSites q Sync (λ sites. Tells (IsWorkedBy seed calls q sites)))) done
