-- Traces and questions that the examples are computed on. The file `/f` has slot 0.
use Rattle.std.specs.Prelude.{ℕ, [], ◌∷◌, codes, None}
use Rattle.litmus_syntax.specs.declared.pred.Pred.{Pred}
use Rattle.litmus_syntax.specs.declared.pred.Pred.TheVariants.{Exists, Seen, Not, And}
use Rattle.clause_store.specs.declared.Lit.{Lit}
use Rattle.clause_store.specs.Clauses.{negated}
use Rattle.fer_events.specs.declared.event.Event.{Event}
use Rattle.fer_events.specs.declared.event.Kind.TheVariants.{Mark}
use Rattle.fer_events.specs.declared.event.Effect.TheVariants.{See}
use Rattle.fer_events.specs.Tables.{Trace}
use Rattle.value_coding.specs.Examples.{link_event}
use Rattle.predicate_coding.specs.CellChoices.{yes_lit}

-- a mark of word 0
abbrev pub mark_event : ℕ → Event
mark_event call = record { kind = Mark; file = None; block = None; dir = None; slot = None; call = call; txn = call; effect = See 0 }

-- `create /f`, `mark done`
abbrev pub created : Trace
created = record {
  start = record { slots = None ∷ []; contents = [] ∷ []; attrs = [] };
  events = link_event 1 1 0 0 ∷ mark_event 2 ∷ [];
  dirs = [] ∷ [];
  slots = record { dir = 0; name = codes "f" } ∷ [];
  keys = [];
  words = codes "done" ∷ [];
}

-- no calls
abbrev pub nothing : Trace
nothing = record { start = record { slots = []; contents = []; attrs = [] }; events = []; dirs = [] ∷ []; slots = []; keys = []; words = [] }

-- `seen(done) and not exists(/f)`
abbrev pub seen_but_gone : Pred
seen_but_gone = And (Seen (codes "done")) (Not (Exists (codes "f" ∷ [])))

-- the variable, false
abbrev pub no_lit : ℕ → Lit
no_lit var = negated (yes_lit var)
