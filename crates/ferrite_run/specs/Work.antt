-- What `work` answers.
use Rattle.std.specs.Prelude.{◌≡◌, ℕ, Bool, List, length}
use Rattle.litmus_syntax.specs.declared.site.Site.{Site}
use Rattle.litmus_syntax.specs.declared.site.SiteKind.TheVariants.{Sync}
use Rattle.model_library.specs.declared.texts.ShippedModel.TheVariants.{Ext4like}
use Rattle.model_library.specs.Generated.{generated}
use Rattle.model_library.specs.ShippedModels.{shipped_text}
use Rattle.model_reader.specs.ModelText.{IsModelText}
use Rattle.sync_parts.specs.Reaching.{IsReachable}
use Rattle.sync_shrink.specs.Sets.{things_in}
use Rattle.sync_repair.specs.Sets.{IsLeft}
use Rattle.report.specs.declared.outcome.Summary.{Summary}
use Rattle.report.specs.Answers.{Answer, Work}
use Rattle.ferrite_run.specs.declared.question.Question.{Question}
use Rattle.ferrite_run.specs.Sites.{AreSitesOf}
use Rattle.ferrite_run.specs.Yields.{IsAskedOf}

-- what is said of a repair that leaves this set of the sites: the seed, and how many calls, events, sites, kept pairs and kept
-- sites there are
abbrev pub summary_of : ℕ → ℕ → Question → List Site → List Bool → Summary
summary_of seed calls q sites set = record {
  seed = seed;
  calls = calls;
  events = length q.events.events;
  sites = length sites;
  pairs = length q.pairs.pairs;
  kept = length (things_in set);
}

-- the generated test is repaired by a `sync` behind each call under `ext4like`: all of them suffice, the walk over them leaves a
-- set, and the summary of it is said
pub record IsWorked (seed calls : ℕ) (answer : Answer) : Type 0 where
  pub question : Question
  pub model_read : IsModelText (shipped_text Ext4like) question.model
  pub asked : IsAskedOf (generated seed calls) question.model question
  pub sites : List Site
  pub listed : AreSitesOf question Sync sites
  pub suffice : IsReachable question.litmus question.model sites → ⊥
  pub set : List Bool
  pub left : IsLeft question.litmus question.model sites set
  pub says : answer ≡ Work (summary_of seed calls question sites set)
