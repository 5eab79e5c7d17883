-- Private: what is known of the sites of a question's test, and which of them are named.
use Rattle.std.specs.Prelude.{ℕ, Bool, ◌==◌, List}
use Rattle.std.specs.List.{list_any}
use Rattle.litmus_syntax.specs.declared.site.Site.{Site}
use Rattle.litmus_syntax.specs.Sites.{AreSyncs, StandOutside}
use Rattle.fer_events.specs.Tables.{Trace}
use Rattle.call_events.specs.Resolved.{HasEvents}
use Rattle.sync_parts.specs.Sites.{AreInOrder}
use Rattle.ferrite_run.specs.declared.question.Question.{Question}

-- they may be inserted: they are syncs behind calls outside of transactions, in the order of these, and the test has events with
-- all of them
pub record AreUsable (q : Question) (sites : List Site) : Type 0 where
  pub syncs : AreSyncs sites
  pub outside : StandOutside q.litmus.body sites
  pub in_order : AreInOrder q.litmus.body sites
  pub events : (t : Trace) × HasEvents q.litmus sites t

-- the number is one of these
abbrev pub is_named : List ℕ → ℕ → Bool
is_named numbers n = list_any (λ m. m == n) numbers
