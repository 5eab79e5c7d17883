use Rattle.std.proofs.Common.{[], ◌^◌, get_or}
use Rattle.event_relations.proofs.Rising.{AreRounds, room}
use Rattle.event_relations.proofs.rounds.define_least.Given as goal

abbrev pub invariant-loop-more : goal.invariant-loop-more
invariant-loop-more l = AreRounds l.events l.value l.fn.names l.names

abbrev pub decreases-loop-more : goal.decreases-loop-more
decreases-loop-more l = room (2 ^ 128) (get_or l.names l.own [])
