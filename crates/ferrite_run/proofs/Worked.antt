-- A generated test is never refused, and all syncs together repair it: so of what the steps of `work` may come to, one is left.
use Rattle.std.proofs.Common.{◌≡◌, ℕ, ◌<◌, ◌≤◌, inl, inr, List, [], length, refl, sym, subst}
use Rattle.litmus_syntax.specs.Test.{Test}
use Rattle.litmus_syntax.specs.declared.site.Site.{Site}
use Rattle.litmus_syntax.specs.declared.site.SiteKind.TheVariants.{Sync}
use Rattle.fer_events.specs.declared.event.Event.{Event}
use Rattle.fer_events.specs.declared.event.Kind.TheVariants as kind
use Rattle.fer_events.specs.Orders.{IsEvent}
use Rattle.fer_events.specs.Pairs.{PairList}
use Rattle.fer_events.specs.Tables.{Trace}
use Rattle.call_events.specs.declared.call_kind.CallKind.{CallKind}
use Rattle.call_events.specs.Resolved.{HasEvents, IsCallRefused}
use Rattle.model_reader.specs.declared.model.Model.{Model}
use Rattle.model_reader.specs.declared.fault.ModelKind.{ModelKind}
use Rattle.model_reader.specs.ModelText.{IsModelText, IsModelRefused}
use Rattle.model_library.specs.declared.texts.ShippedModel.TheVariants.{Ext4like}
use Rattle.model_library.specs.Generated.{generated}
use Rattle.model_library.specs.ShippedModels.{shipped_text}
use Rattle.event_relations.specs.Kept.{IsKept}
use Rattle.sync_sites.specs.SiteLists.{sites_of, AreTooMany}
use Rattle.sync_parts.specs.Reaching.{Reaches, IsReachable}
use Rattle.sync_repair.specs.Sets.{AreKept}
use Rattle.shipped_meaning.specs.Shipped.{shipped_model}
use Rattle.generated_repairs.specs.Keeping.{KeepsSyncs}
use Rattle.ferrite_run.specs.declared.question.Question.{Question}
use Rattle.ferrite_run.specs.Asking.{OnRead}
use Rattle.ferrite_run.specs.Done.{Done, Tells}
use Rattle.ferrite_run.specs.Sites.{ListSites, AreSitesOf}
use Rattle.ferrite_run.specs.Steps.Step.{ends, goes_on}
use Rattle.ferrite_run.specs.Work.{IsWorked}
use Rattle.ferrite_run.specs.Working.{IsWorkedBy, WorkSteps}
use Rattle.ferrite_run.specs.Working.IsWorkedBy.{worked, none_suffice}
use Rattle.ferrite_run.proofs.Asked.{on_read}

-- what lower crates say of generated tests and of `ext4like`
pub record WorkLaws : Type 0 where
  pub one_outcome : (litmus : Test) (sites : List Site) (t : Trace) (i : ℕ) (k : CallKind) → HasEvents litmus sites t → IsCallRefused litmus sites i k → ⊥
  pub never_refused : (line : ℕ) (k : ModelKind) → IsModelRefused (shipped_text Ext4like) line k → ⊥
  pub nothing_else : (a : Model) → IsModelText (shipped_text Ext4like) a → a ≡ shipped_model Ext4like
  pub before : (events : List Event) (a b : ℕ) (e f : Event) → a < b → IsEvent events a e → IsEvent events b f → f.kind ≡ kind.Sync → IsKept (shipped_model Ext4like) events a b
  pub behind : (events : List Event) (a b : ℕ) (e f : Event) → a < b → IsEvent events a e → IsEvent events b f → e.kind ≡ kind.Sync → IsKept (shipped_model Ext4like) events a b
  pub accepted : (seed calls : ℕ) → calls ≤ 32 → (t : Trace) × HasEvents (generated seed calls) [] t × (length t.events ≡ calls)
  pub never_too_many : (seed calls line : ℕ) (t : Trace) → calls ≤ 32 → HasEvents (generated seed calls) [] t → AreTooMany Sync (generated seed calls).body t line → ⊥
  pub repaired : (seed calls : ℕ) (model : Model) (t : Trace) → KeepsSyncs model → HasEvents (generated seed calls) [] t
      → IsReachable (generated seed calls) model (sites_of Sync (generated seed calls).body t) → ⊥

module _ (laws : WorkLaws) (seed calls : ℕ) (few : calls ≤ 32) where
  abbrev test : Test
  test = generated seed calls

  keeps_syncs : KeepsSyncs (shipped_model Ext4like)
  keeps_syncs events a b e f less is other (inl first) = laws.behind events a b e f less is other first
  keeps_syncs events a b e f less is other (inr second) = laws.before events a b e f less is other second

  of_sites :
      (model : Model) (t : Trace) (pairs : PairList) (done : Done) → IsModelText (shipped_text Ext4like) model → HasEvents test [] t → AreKept model t.events pairs
      → ListSites (record { litmus = test; model = model; events = t; pairs = pairs }) Sync
      (λ sites. Tells (IsWorkedBy seed calls (record { litmus = test; model = model; events = t; pairs = pairs }) sites)) done
      → Tells (IsWorked seed calls) done
  of_sites model t pairs done read has kept (ends ((line, many, e), none)) = absurd (laws.never_too_many seed calls line t few has many)
  of_sites model t pairs done read has kept (goes_on sites listed (worked never set left says, none)) = (
    record {
      question = record { litmus = test; model = model; events = t; pairs = pairs };
      model_read = read;
      asked = record { resolved = has; kept = kept; litmus = refl; model_of = refl };
      sites = sites;
      listed = listed;
      suffice = never;
      set = set;
      left = left;
      says = says;
    },
    none,
  )
  of_sites model t pairs done read has kept (goes_on sites listed (none_suffice crash reaches e, none)) =
      absurd (laws.repaired seed calls model t (subst KeepsSyncs (sym (laws.nothing_else model read)) keeps_syncs) has
      (crash, subst (λ (s : List Site). Reaches test model s crash) listed.listed reaches))

  of_events : (model : Model) (done : Done) → IsModelText (shipped_text Ext4like) model
      → OnRead test model (λ q. ListSites q Sync (λ sites. Tells (IsWorkedBy seed calls q sites))) done → Tells (IsWorked seed calls) done
  of_events model done read (ends ((line, k, refused, e), none)) =
      let found = laws.accepted seed calls few in absurd (laws.one_outcome test [] found.0 line k found.1 refused)
  of_events model done read (goes_on t has (ends (none, _))) = absurd none
  of_events model done read (goes_on t has (goes_on pairs kept h)) = of_sites model t pairs done read has kept h

  -- the steps come to a repair
  pub steps_worked : (done : Done) → WorkSteps seed calls done → Tells (IsWorked seed calls) done
  steps_worked done (ends ((line, k, refused, e), none)) = absurd (laws.never_refused line k refused)
  steps_worked done (goes_on model read h) = of_events model done read h

-- and a repair is what the steps come to
pub worked_steps : (seed calls : ℕ) (done : Done) → Tells (IsWorked seed calls) done → WorkSteps seed calls done
worked_steps seed calls done (w, none) =
    let Next : Question → Done → Type 0 = λ q. ListSites q Sync (λ sites. Tells (IsWorkedBy seed calls q sites)) in
    goes_on w.question.model w.model_read
    (on_read (generated seed calls) w.question.model Next w.question done w.asked (goes_on w.sites w.listed (worked w.suffice w.set w.left w.says, none)))
