use Rattle.std.proofs.Common.{◌≡◌, ◌+◌, ◌-◌, ◌≤◌, ◌++◌, length, take}
use Rattle.call_events.specs.CallEvents.{text_events}
use Rattle.call_events.proofs.making.text_events.Given as goal

-- the events so far and the first of those that the rest of the text makes are the first 65 of the whole text
abbrev pub invariant-loop-place : goal.invariant-loop-place
invariant-loop-place l = record {
  made : l.events ++ take (65 - l._place) (text_events l.sizes l.stamp l.file l.size l.at l.rest) ≡ take 65 (text_events l.sizes l.fn.stamp l.file l.size l.fn.at l.fn.text);
  room : l.at + length l.rest ≤ 65536;
  txns : l.stamp.txn ≤ 129 + l._place;
}
