use Rattle.sync_repair.proofs.Lining.{need-below, need-fits, line-shown}
use Rattle.sync_repair.proofs.needs.need_line.Goals as goal

pub event_of_site-event-requires : goal.event_of_site-event-requires
event_of_site-event-requires c =
    let kept = c.requires.kept in
    record { there = need-below c.args.case.now c.args.kept.now kept.0 c.args.needs.now c.args.place kept.1 kept.2 c.requires.there }

pub raised-requires : goal.raised-requires
raised-requires c =
    let kept = c.requires.kept in
    record {
      fits = need-fits c.args.case.now c.keeps_rules.ensures c.args.kept.now kept.0 kept.1 c.args.needs.now kept.2 c.args.place c.requires.there
          c.index-needs-place.result c.index-needs-place.is c.events.result.now c.events.ensures c.keeps_rules-2.ensures.few_events;
    }

pub returns : goal.returns
returns c =
    let kept = c.requires.kept in
    line-shown c.args.case.now c.keeps_rules.ensures c.args.kept.now kept.0 kept.1 c.args.needs.now kept.2 c.args.place c.requires.there
    c.index-needs-place.result c.index-needs-place.is c.args.events.now c.event_of_site-event.result c.in_ok-crash.crash c.requires.resolved
    c.event_of_site-event.ensures c.in_ok-crash.ensures
