use Rattle.std.proofs.Common.{rules, arith, ◌≡◌, true, false}
use Rattle.std.proofs.lemmas.Option.{slice_get_within}
use Rattle.trail_core.proofs.GeneralPlaces.{contains-get, get-contained}
use Rattle.rup_checker.specs.Marks.{has}
use Rattle.rup_checker.proofs.Sets.{sound-forced, quiet-more}
use Rattle.rup_checker.proofs.rounds.go_through.Goals as goal
use Rattle.rup_checker.proofs.rounds.go_through.Goals.{in-Forced, in-Nothing}

pub loop-id-preserved : goal.loop-id-preserved
loop-id-preserved c =
    elim c.match-look.branch [
      | in-Forced w ↦ record {
        room = search rules;
        sound = λ start h.
            rw w.set-is
            (sound-forced c.args.store.now.clauses start c.clause.result.now w.in-Forced.l (has c.loop-id.set) (has w.mark.new.set)
            (contains-get _ _ _ c.clause.ensures.clause) w.in-Forced.ensures.0 w.in-Forced.ensures.2 w.mark.ensures.marked
            (c.loop-id.invariant.sound start h));
        kept = λ m h. rw w.set-is (w.mark.ensures.kept m (c.loop-id.invariant.kept m h));
        fewer = λ _. rw w.set-is (omega (arith, w.mark.ensures.fewer, c.loop-id.invariant.le));
        le = rw w.set-is (omega (arith, w.mark.ensures.fewer, c.loop-id.invariant.le));
        still = λ e. let bad : true ≡ false = cc in cc;
        quiet = λ e. let bad : true ≡ false = cc in cc;
      }
      | in-Nothing w ↦ record {
        room = search rules;
        sound = rw w.set-is c.loop-id.invariant.sound;
        kept = rw w.set-is c.loop-id.invariant.kept;
        fewer = rw (w.set-is, w.changed-is) c.loop-id.invariant.fewer;
        le = rw w.set-is c.loop-id.invariant.le;
        still = rw (w.set-is, w.changed-is) c.loop-id.invariant.still;
        quiet = rw (w.set-is, w.changed-is)
            (λ e. quiet-more c.args.store.now.clauses c.loop-id.id c.clause.result.now (has c.loop-id.set)
            (c.loop-id.invariant.quiet e) c.clause.ensures.clause w.in-Nothing.ensures);
      }
    ]

pub returns-else-changed-clause-is : goal.returns-else-changed-clause-is
returns-else-changed-clause-is c = (
  c.loop-id.invariant.still c.if-changed.false,
  λ cl has.
      let at = get-contained c.args.store.now.clauses cl has in
      c.loop-id.invariant.quiet c.if-changed.false at.0 cl (omega (arith, slice_get_within c.args.store.now.clauses at.0 cl at.1)) at.1,
)
