use Rattle.std.proofs.Common.{◌≡◌, map, take}
use Rattle.litmus_syntax.specs.Texts.{path_text}
use Rattle.fer_events.specs.Paths.{slot_path}
use Rattle.sync_sites.proofs.names.name_texts.Given as goal

abbrev pub invariant-loop-slot : goal.invariant-loop-slot
invariant-loop-slot l = l.texts ≡ map (λ slot. path_text (slot_path l.events.dirs slot)) (take l.slot-index l.slot-items)
