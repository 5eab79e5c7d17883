use Rattle.std.proofs.Common.{◌<◌, List, length, Some, refl, sym, ◌∙◌, ap, arith}
use Rattle.std.proofs.lemmas.Option.{slice_get-get_or}
use Rattle.litmus_syntax.specs.declared.call.Step.{Step}
use Rattle.litmus_syntax.specs.declared.site.Site.{Site}
use Rattle.fer_events.specs.declared.event.Event.{Event}
use Rattle.sync_sites.proofs.Steps.{open_more, sites_step, counted_more}
use Rattle.sync_sites.proofs.listing.list_sites.Goals as goal

pub returns-then-events-len-gt-MOST_EVENTS-clause-refused : goal.returns-then-events-len-gt-MOST_EVENTS-clause-refused
returns-then-events-len-gt-MOST_EVENTS-clause-refused c =
    let body = c.args.body.now in
    let i = c.loop-place.place in
    let there : i < length body = omega arith in
    let opened = open_more body i c.index-body-place.result c.loop-place.inside c.open_behind-inside.result there c.index-body-place.is c.loop-place.invariant.inside c.open_behind-inside.ensures in
    let behind = sites_step c.args.kind body c.args.events.now i c.open_behind-inside.result c.loop-place.sites c.push_behind.new.sites opened c.loop-place.invariant.sites c.in_ok-push_behind.ensures in
    record {
      before = i;
      step = c.index-body-place.result;
      there = slice_get-get_or body i c.index-body-place.result there ∙ ap (λ (s : Step). Some s) (sym c.index-body-place.is);
      at = refl;
      over = omega (arith, c.if-events-len-gt-MOST_EVENTS.true, c.len.ensures, ap (λ (es : List Event). length es) c.events.ensures, ap (λ (s : List Site). length s) behind);
      first = c.loop-place.invariant.first;
    }

pub loop-place-preserved : goal.loop-place-preserved
loop-place-preserved c =
    let body = c.args.body.now in
    let i = c.loop-place.place in
    let there : i < length body = omega arith in
    let opened = open_more body i c.index-body-place.result c.loop-place.inside c.open_behind-inside.result there c.index-body-place.is c.loop-place.invariant.inside c.open_behind-inside.ensures in
    let behind = sites_step c.args.kind body c.args.events.now i c.open_behind-inside.result c.loop-place.sites c.push_behind.new.sites opened c.loop-place.invariant.sites c.in_ok-push_behind.ensures in
    record {
      sites = behind;
      inside = opened;
      first =
          counted_more c.args.kind body c.args.events.now i c.loop-place.invariant.first
          (omega (arith, c.if-events-len-gt-MOST_EVENTS.false, c.len.ensures, ap (λ (es : List Event). length es) c.events.ensures, ap (λ (s : List Site). length s) behind));
    }
