use Rattle.call_events.proofs.Keeping.{names_small_at, names_room_at}
use Rattle.call_events.proofs.running.set_up_call.Goals as goal

pub change-requires : goal.change-requires
change-requires c = record {
  small = names_small_at c.args.files.now c.note_names.new.files c.args.call.now c.in_ok-note_names.ensures c.requires.small c.requires.accepted c.requires.unmarked;
  room = names_room_at c.args.files.now c.note_names.new.files c.args.call.now c.in_ok-note_names.ensures c.requires.accepted;
}
