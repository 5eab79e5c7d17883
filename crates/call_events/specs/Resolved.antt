-- The events of a litmus test with sites, or the first line that is refused.
use Rattle.std.specs.Prelude.{◌≡◌, ℕ, ◌-◌, ⊤, List, [], ◌++◌, length, replicate, Option, None, Result, Ok, Err}
use Rattle.litmus_syntax.specs.Test.{Test}
use Rattle.litmus_syntax.specs.declared.site.Site.{Site}
use Rattle.litmus_syntax.specs.Sites.{with_sites}
use Rattle.fer_events.specs.declared.event.Event.{Event}
use Rattle.fer_events.specs.declared.tables.AttrValue.{AttrValue}
use Rattle.fer_events.specs.Tables.{Trace, Initial}
use Rattle.call_events.specs.declared.files.Files.{Files}
use Rattle.call_events.specs.declared.files.Progress.{Progress}
use Rattle.call_events.specs.declared.making.Sizes.{Sizes}
use Rattle.call_events.specs.declared.call_kind.CallKind.{CallKind}
use Rattle.call_events.specs.declared.call_kind.CallFault.{CallFault}
use Rattle.call_events.specs.declared.call_kind.CallFault.TheVariants.{Refused, OutOfMemory}
use Rattle.call_events.specs.Found.{no_files}
use Rattle.call_events.specs.Running.{unless_refused, run_setup, run_body, begun}
use Rattle.call_events.specs.Asking.{asked, question_refusal}

-- the state before a body that leaves the files `s`. A name that the body or the question uses first holds no file
-- before the body, and a file that the body creates is empty then
abbrev pub start_of : List (Option ℕ) → List (List ℕ) → List AttrValue → Files → Initial
start_of held contents attrs s = record {
  slots = held ++ replicate (length s.slots - length held) None;
  contents = contents ++ replicate (length s.contents - length contents) [];
  attrs = attrs;
}

-- events that leave the files `s`, with the state before them
abbrev pub trace_from : Initial → Files → List Event → Trace
trace_from start s events = record { start = start; events = events; dirs = s.dirs; slots = s.slots; keys = s.keys; words = s.words }

-- the events of a body on the files that a setup left
abbrev pub trace_of : Files → Files → List Event → Trace
trace_of setup s events = trace_from (start_of setup.held setup.contents setup.attrs s) s events

-- the blocks and sectors of a test
abbrev pub sizes_of : Test → Sizes
sizes_of litmus = record { block = litmus.block; sector = litmus.sector }

-- what a test gives whose body left this
abbrev pub asked_of : Test → Files → Result Progress CallFault → Result Trace CallFault
asked_of litmus setup (Err fault) = Err fault
asked_of litmus setup (Ok p) = unless_refused (question_refusal p.files litmus.pred) litmus.pred_line (Ok (trace_of setup (asked p.files litmus.pred) p.events))

-- what a test gives whose setup left this
abbrev pub body_of : Test → List Site → Result Files CallFault → Result Trace CallFault
body_of litmus sites (Err fault) = Err fault
body_of litmus sites (Ok setup) = asked_of litmus setup (run_body (sizes_of litmus) 1 (begun setup) (with_sites 1 litmus.body sites))

-- the events of a test with sites, or the first refusal: of the setup, of the body, of the question
unfoldable pub resolved : Test → List Site → Result Trace CallFault
resolved litmus sites = body_of litmus sites (run_setup no_files litmus.setup)

-- the test with the sites has these events
abbrev pub HasEvents : Test → List Site → Trace → Type 0
HasEvents litmus sites trace = resolved litmus sites ≡ Ok trace

-- the test with the sites is refused at this line with this kind
abbrev pub IsCallRefused : Test → List Site → ℕ → CallKind → Type 0
IsCallRefused litmus sites line kind = resolved litmus sites ≡ Err (Refused line kind)

-- a fault is a refusal of the test, or want of memory
abbrev pub IsFaultOf : Test → List Site → CallFault → Type 0
IsFaultOf litmus sites OutOfMemory = ⊤
IsFaultOf litmus sites (Refused line kind) = IsCallRefused litmus sites line kind

-- an answer is the right one, or want of memory
abbrev pub IsAnswerFor : {X : Type 0} → Result X CallFault → Result X CallFault → Type 0
IsAnswerFor right (Ok x) = right ≡ Ok x
IsAnswerFor right (Err OutOfMemory) = ⊤
IsAnswerFor right (Err (Refused line kind)) = right ≡ Err (Refused line kind)
