use Rattle.std.proofs.Common.{◌≡◌, ℕ, Bool, List, ◌++◌, Option, sym, ◌∙◌, ap, arith}
use Rattle.fer_events.specs.declared.event.Event.{Event}
use Rattle.call_events.specs.declared.files.Files.{Files}
use Rattle.call_events.specs.declared.files.Progress.{Progress}
use Rattle.call_events.specs.declared.call_kind.CallKind.TheVariants.{TooManyEvents}
use Rattle.call_events.specs.Refusals.{kind_if, events_full}
use Rattle.call_events.specs.Changes.{changed, files_after}
use Rattle.call_events.specs.Running.{events_next}
use Rattle.call_events.specs.declared.making.Stamp.{Stamp}
use Rattle.call_events.proofs.Runs.{run_names, few_events, stamp_within}
use Rattle.call_events.proofs.Enough.{kind_is, after_is}
use Rattle.call_events.proofs.running.run_call.Goals as goal

pub events_of-requires-clause-small : goal.events_of-requires-clause-small
events_of-requires-clause-small c = run_names c.args.progress.now c.note_names.new.files c.args.call.now c.requires.run c.requires.accepted c.in_ok-note_names.ensures

pub events_of-requires-clause-txns : goal.events_of-requires-clause-txns
events_of-requires-clause-txns c =
    let same = ap (λ (s : Stamp). s.txn) c.stamp_of-stamp.ensures in
    let few = few_events c.args.progress.now.events c.requires.run.within in
    omega (arith, same, few.1, stamp_within c.args.number c.args.progress.now c.requires.run)

pub change-requires-clause-small : goal.change-requires-clause-small
change-requires-clause-small c = run_names c.args.progress.now c.note_names.new.files c.args.call.now c.requires.run c.requires.accepted c.in_ok-note_names.ensures

pub returns-clause-kind : goal.returns-clause-kind
returns-clause-kind c =
    kind_is c.args.sizes c.args.number c.args.progress.now c.args.call.now c.stamp_of-stamp.result c.note_names.new.files c.in_ok-more.more c.as_slice.result.now c.cause-kind.result
    c.stamp_of-stamp.ensures c.in_ok-note_names.ensures c.in_ok-more.ensures (c.as_slice.ensures ∙ c.in_ok-append.ensures)
    (c.cause-kind.ensures ∙ ap (λ (b : Bool). kind_if b TooManyEvents) c.too_many.ensures)

pub returns-clause-after : goal.returns-clause-after
returns-clause-after c = λ none.
    let p = c.args.progress.now in
    let call = c.args.call.now in
    let kind : c.cause-kind.result ≡ events_full p.events (events_next c.args.sizes c.args.number p call) =
    kind_is c.args.sizes c.args.number p call c.stamp_of-stamp.result c.note_names.new.files c.in_ok-more.more c.as_slice.result.now c.cause-kind.result
    c.stamp_of-stamp.ensures c.in_ok-note_names.ensures c.in_ok-more.ensures (c.as_slice.ensures ∙ c.in_ok-append.ensures)
    (c.cause-kind.ensures ∙ ap (λ (b : Bool). kind_if b TooManyEvents) c.too_many.ensures) in
    let events : c.append.new.events ≡ p.events ++ events_next c.args.sizes c.args.number p call =
    after_is c.args.sizes c.args.number p call c.stamp_of-stamp.result c.note_names.new.files c.in_ok-more.more c.append.new.events
    c.stamp_of-stamp.ensures c.in_ok-note_names.ensures c.in_ok-more.ensures c.in_ok-append.ensures (sym none ∙ kind) in
    let files : c.change.new.files ≡ files_after p.files call = c.in_ok-change.ensures ∙ ap (λ (f : Files). changed f call) c.in_ok-note_names.ensures in
    let made : Files → List Event → Option ℕ → Progress = λ f e o. record { files = f; events = e; opened = o } in
    ap (λ (f : Files). made f c.append.new.events c.open_after-opened.result) files
    ∙ ap (λ (e : List Event). made (files_after p.files call) e c.open_after-opened.result) events
    ∙ ap (λ (o : Option ℕ). made (files_after p.files call) (p.events ++ events_next c.args.sizes c.args.number p call) o) c.open_after-opened.ensures
