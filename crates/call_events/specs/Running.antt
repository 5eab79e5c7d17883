-- A file program run call after call: which files and events it leaves, or the first call that is refused.
use Rattle.std.specs.Prelude.{ℕ, ◌+◌, ◌-◌, List, [], ◌∷◌, ◌++◌, length, Option, Some, None, Result, Ok, Err, slice_get, is_some, unwrap_or}
use Rattle.std.specs.Option.{option_or, option_map_or}
use Rattle.litmus_syntax.specs.declared.call.Call.{Call}
use Rattle.litmus_syntax.specs.declared.call.Call.TheVariants.{Mark, Begin, Commit}
use Rattle.litmus_syntax.specs.declared.call.Step.{Step}
use Rattle.fer_events.specs.declared.event.Event.{Event}
use Rattle.call_events.specs.declared.files.Files.{Files}
use Rattle.call_events.specs.declared.files.Progress.{Progress}
use Rattle.call_events.specs.declared.making.Sizes.{Sizes}
use Rattle.call_events.specs.declared.making.Stamp.{Stamp}
use Rattle.call_events.specs.declared.call_kind.CallKind.{CallKind}
use Rattle.call_events.specs.declared.call_kind.CallFault.{CallFault}
use Rattle.call_events.specs.declared.call_kind.CallFault.TheVariants.{Refused}
use Rattle.call_events.specs.Refusals.{refusal, events_full}
use Rattle.call_events.specs.Changes.{with_names, files_after}
use Rattle.call_events.specs.CallEvents.{events_of}

-- what follows, unless the line is refused
abbrev pub unless_refused : {X : Type 0} → Option CallKind → ℕ → Result X CallFault → Result X CallFault
unless_refused None line next = next
unless_refused (Some kind) line next = Err (Refused line kind)

-- the files behind a call of the setup; nobody sees a mark of the setup
abbrev pub after_setup_call : Files → Call → Files
after_setup_call s (Mark word) = s
after_setup_call s call = files_after s call

-- the files behind a setup, or its first call that is refused
abbrev pub run_setup : Files → List Step → Result Files CallFault
run_setup s [] = Ok s
run_setup s (step ∷ steps) = unless_refused (refusal s step.call) step.line (run_setup (after_setup_call s step.call) steps)

-- the number of the last transaction, 0 where there is none
abbrev pub last_txn : List Event → ℕ
last_txn events = option_map_or (λ e. e.txn) (slice_get events (length events - 1)) 0

-- the stamp of a call's events: they are of the open transaction, or begin the next
abbrev pub stamp_of : ℕ → Progress → Stamp
stamp_of number p = record { call = number; txn = unwrap_or p.opened (last_txn p.events + 1); shared = is_some p.opened }

-- the events of a call behind others
abbrev pub events_next : Sizes → ℕ → Progress → Call → List Event
events_next sizes number p call = events_of sizes (stamp_of number p) (with_names p.files call) call

-- the transaction that is open behind a call: `begin` opens the next one, `commit` closes it
abbrev pub open_after : Progress → Call → Option ℕ
open_after p Begin = Some (last_txn p.events + 1)
open_after p Commit = None
open_after p call = p.opened

-- a body call leaves these files and events
abbrev pub after_call : Sizes → ℕ → Progress → Call → Progress
after_call sizes number p call =
    record { files = files_after p.files call; events = p.events ++ events_next sizes number p call; opened = open_after p call }

-- a body call is refused for what it finds, then for the limits on events
abbrev pub body_refusal : Sizes → ℕ → Progress → Call → Option CallKind
body_refusal sizes number p call = option_or (refusal p.files call) (events_full p.events (events_next sizes number p call))

-- what the calls of a body leave, the next having this number, or the first that is refused
abbrev pub run_body : Sizes → ℕ → Progress → List Step → Result Progress CallFault
run_body sizes number p [] = Ok p
run_body sizes number p (step ∷ steps) = unless_refused (body_refusal sizes number p step.call) step.line (run_body sizes (number + 1) (after_call sizes number p step.call) steps)

-- a body begins on these files
abbrev pub begun : Files → Progress
begun files = record { files = files; events = []; opened = None }
