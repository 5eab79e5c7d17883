-- Private: the events that tests make, marks of one word. Only the contracts of tests cite it.
use Rattle.std.specs.Prelude.{ℕ, ◌-◌, None, nat_le, if◌then◌else◌}
use Rattle.fer_events.specs.declared.event.Event.{Event}
use Rattle.fer_events.specs.declared.event.Kind.TheVariants.{Mark}
use Rattle.fer_events.specs.declared.event.Effect.TheVariants.{See}

-- a mark of the first word
abbrev pub mark_event : ℕ → ℕ → Event
mark_event call txn = record {
  kind = Mark;
  file = None;
  block = None;
  dir = None;
  slot = None;
  call = call;
  txn = txn;
  effect = See 0;
}

-- the transaction of mark e, where mark `joined` shares one with the next
abbrev pub mark_txn : ℕ → ℕ → ℕ
mark_txn joined e = if nat_le e joined then e else e - 1
