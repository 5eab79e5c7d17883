use Rattle.std.proofs.Common.{rules, length, List, Bool, sym, ◌∙◌, ap, subst, refl}
use Rattle.std.specs.Prelude.{slice_index_or}
use Rattle.std.proofs.lemmas.List.{length-set}
use Rattle.std.proofs.Math.Seq.{map-set_same}
use Rattle.sync_shrink.specs.declared.walking.Need.{Need}
use Rattle.sync_shrink.specs.Walk.{IsNeed}
use Rattle.sync_shrink.specs.Steps.{IsEarlyNeed}
use Rattle.sync_shrink.proofs.Carried.{carried-none, carried-next, carried-more, carried-all}
use Rattle.sync_shrink.proofs.walking.carry_needs.Goals as goal

pub loop-place-init : goal.loop-place-init
loop-place-init g c = record {
  kept = refl;
  size = c.requires.size;
  count = refl;
  things = refl;
  carried = carried-none (g.O.Oracle.shows c.args.oracle.now) c.args.kept.now c.args.needs.now c.requires.early;
}

pub carry_need-requires-clause-early : goal.carry_need-requires-clause-early
carry_need-requires-clause-early g c =
    let i = c.loop-place.invariant in
    subst (λ (s : List Bool). IsEarlyNeed (g.O.Oracle.shows c.args.oracle.now) (length s) s (slice_index_or c.loop-place.needs c.loop-place.place c.index-needs-place.result)) (sym i.kept)
    (carried-next (g.O.Oracle.shows c.args.oracle.now) c.args.kept.now c.loop-place.place c.loop-place.needs c.index-needs-place.result (search rules) i.carried)

pub loop-place-preserved : goal.loop-place-preserved
loop-place-preserved g c =
    let i = c.loop-place.invariant in
    let need : IsNeed (g.O.Oracle.shows c.args.oracle.now) c.args.kept.now c.carry_need.new.need =
    subst (λ (s : List Bool). IsNeed (g.O.Oracle.shows c.args.oracle.now) s c.carry_need.new.need) i.kept c.carry_need.ensures.need in
    record {
      kept = c.carry_need.ensures.kept ∙ i.kept;
      size = c.carry_need.ensures.size ∙ i.size ∙ ap length (sym c.carry_need.ensures.kept);
      count = length-set c.loop-place.needs c.loop-place.place c.carry_need.new.need ∙ i.count;
      things = map-set_same (λ (need : Need). need.thing) c.loop-place.needs c.loop-place.place c.carry_need.new.need c.index-needs-place.result c.carry_need.ensures.thing ∙ i.things;
      carried = carried-more (g.O.Oracle.shows c.args.oracle.now) c.args.kept.now c.loop-place.place c.loop-place.needs c.carry_need.new.need i.carried need;
    }

pub returns-clause-needs : goal.returns-clause-needs
returns-clause-needs g c =
    let i = c.loop-place.invariant in
    carried-all (g.O.Oracle.shows c.args.oracle.now) c.args.kept.now c.loop-place.place c.loop-place.needs (search rules) i.carried
