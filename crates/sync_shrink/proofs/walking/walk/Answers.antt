use Rattle.std.proofs.Common.{rules, arith, ◌≡◌, ◌++◌, [], ◌∷◌, List, Bool, ◌+◌}
use Rattle.sync_shrink.specs.declared.walking.Need.{Need}
use Rattle.sync_shrink.specs.declared.walking.ShrinkError.TheVariants.{Spent}
use Rattle.sync_shrink.specs.Sets.{without, all_things}
use Rattle.sync_shrink.specs.Walk.{IsSpent}
use Rattle.sync_shrink.proofs.SetLaws.{trial-has}
use Rattle.sync_shrink.proofs.Under.{under-begin, under-dropped, under-needed, under-same, tried-some, tried-none, reply-fine, spent-all, spent-next}
use Rattle.sync_shrink.proofs.walking.walk.Goals as goal
use Rattle.sync_shrink.proofs.walking.walk.Goals.{in-Some+in_ok-push-in-Some, in-None}

pub returns-in_err-crash-clause-spent : goal.returns-in_err-crash-clause-spent
returns-in_err-crash-clause-spent g c =
    let told : c.in_err-crash.field-0.0 ≡ Spent → IsSpent (g.O.Oracle.bad c.args.oracle.now) c.args.count (g.O.Oracle.spent c.ask.new.oracle) =
    λ e. spent-all (g.O.Oracle.bad c.args.oracle.now) c.args.count c.args.present.now (g.O.Oracle.spent c.ask.new.oracle) c.requires.all (c.in_err-crash.ensures.spent e) in
    search rules

pub loop-thing-init : goal.loop-thing-init
loop-thing-init g c = record {
  ready = c.ask.ensures.ready;
  stays = c.ask.ensures.stays;
  way =
      let fine = reply-fine (g.O.Oracle.bad c.args.oracle.now) (g.O.Oracle.shows c.args.oracle.now) c.args.present.now (all_things c.args.count) c.in_ok-crash.field-0 c.in_ok-crash.ensures.answered c.in-Fine.is c.requires.all in
      under-same (g.O.Oracle.bad c.args.oracle.now) (g.O.Oracle.shows c.args.oracle.now) c.args.count 0 (all_things c.args.count) c.args.present.now [] c.args.needs.now.items
      (under-begin (g.O.Oracle.bad c.args.oracle.now) (g.O.Oracle.shows c.args.oracle.now) c.args.count fine) c.requires.all c.requires.none;
}

pub try_thing-requires-clause-has : goal.try_thing-requires-clause-has
try_thing-requires-clause-has g c =
    let way = c.loop-thing.invariant.way in
    trial-has c.loop-thing.present c.loop-thing.thing way.rest (omega (arith, way.full))

pub returns-in_err-crash-2-clause-spent : goal.returns-in_err-crash-2-clause-spent
returns-in_err-crash-2-clause-spent g c =
    let told : c.in_err-crash-2.field-0.0 ≡ Spent → IsSpent (g.O.Oracle.bad c.args.oracle.now) c.args.count (g.O.Oracle.spent c.try_thing.new.oracle) =
    λ e. spent-next (g.O.Oracle.bad c.args.oracle.now) c.args.count c.loop-thing.thing c.loop-thing.present (g.O.Oracle.spent c.try_thing.new.oracle)
    c.loop-thing-test.true c.loop-thing.invariant.way.walk (c.in_err-crash-2.ensures.spent e) in
    search rules

pub returns-in_err-push-in-Some-clause-stays : goal.returns-in_err-push-in-Some-clause-stays
returns-in_err-push-in-Some-clause-stays g c = g.met.O.Oracle.stays_on _ _ _ c.loop-thing.invariant.stays c.try_thing.ensures.stays

pub loop-thing-preserved : goal.loop-thing-preserved
loop-thing-preserved g c =
    let i = c.loop-thing.invariant in
    let stays = g.met.O.Oracle.stays_on _ _ _ i.stays c.try_thing.ensures.stays in
    let left : List Bool = without c.loop-thing.thing c.loop-thing.present in
    elim c.match-branch-4.branch [
      | in-Some+in_ok-push-in-Some w ↦
          let need : Need = record { thing = c.loop-thing.thing; crash = w.in-Some.crash } in
          let tried = tried-some (g.O.Oracle.bad c.loop-thing.oracle) (g.O.Oracle.shows c.loop-thing.oracle) c.loop-thing.thing c.loop-thing.present c.try_thing.new.present c.in_ok-crash-2.field-0 w.in-Some.crash c.in_ok-crash-2.ensures.tried w.in-Some.is in
          let shown = (g.met.O.Oracle.same_shows _ _ i.stays left w.in-Some.crash).1 tried.1 in
          let is = g.met.O.Oracle.shown_are_bad c.args.oracle.now left w.in-Some.crash shown in
          let more : c.match-branch-4.needs.items ≡ c.loop-thing.needs.items ++ need ∷ [] = search rules in
          record {
            ready = c.try_thing.ensures.ready;
            stays = stays;
            way = under-same (g.O.Oracle.bad c.args.oracle.now) (g.O.Oracle.shows c.args.oracle.now) c.args.count (c.loop-thing.thing + 1) c.loop-thing.present c.try_thing.new.present (c.loop-thing.needs.items ++ need ∷ []) c.match-branch-4.needs.items
                (under-needed (g.O.Oracle.bad c.args.oracle.now) (g.O.Oracle.shows c.args.oracle.now) c.args.count c.loop-thing.thing c.loop-thing.present c.loop-thing.needs.items w.in-Some.crash c.loop-thing-test.true i.way is shown)
                tried.0 more;
          }
      | in-None w ↦
          let tried = tried-none (g.O.Oracle.bad c.loop-thing.oracle) (g.O.Oracle.shows c.loop-thing.oracle) c.loop-thing.thing c.loop-thing.present c.try_thing.new.present c.in_ok-crash-2.field-0 c.in_ok-crash-2.ensures.tried w.in-None.is in
          let same : c.match-branch-4.needs.items ≡ c.loop-thing.needs.items = search rules in
          record {
            ready = c.try_thing.ensures.ready;
            stays = stays;
            way = under-same (g.O.Oracle.bad c.args.oracle.now) (g.O.Oracle.shows c.args.oracle.now) c.args.count (c.loop-thing.thing + 1) left c.try_thing.new.present c.loop-thing.needs.items c.match-branch-4.needs.items
                (under-dropped (g.O.Oracle.bad c.args.oracle.now) (g.O.Oracle.shows c.args.oracle.now) c.args.count c.loop-thing.thing c.loop-thing.present c.loop-thing.needs.items c.loop-thing-test.true i.way
                (λ b. tried.1 ((g.met.O.Oracle.same_bad _ _ i.stays left).0 b)))
                tried.0 same;
          }
    ]
