use Rattle.std.proofs.Common.{◌∙◌, ap, sym, subst}
use Rattle.watch_lists.specs.Watching.{Watching, AreWatches}
use Rattle.watch_lists.proofs.GeneralWatches.{empty, watches-more}
use Rattle.watch_lists.proofs.tests.watch_all.Goals as goal
use Rattle.watch_lists.proofs.tests.watch_all.Goals.{then-has_two+in_ok-attach, else-has_two}

pub loop-id-preserved : goal.loop-id-preserved
loop-id-preserved c =
    elim c.if-has_two.branch [
      | then-has_two+in_ok-attach w ↦
          let k = w.in_ok-attach.ensures.attached in
          let P : Watching → Type 0 = λ v. AreWatches c.args.store.now.clauses v.list in
          record {
            vars = ap (λ (v : Watching). v.vars) (w.watches-is ∙ k.1) ∙ c.loop-id.invariant.vars;
            watches = subst P (sym (w.watches-is ∙ k.1)) (watches-more c.args.store.now.clauses c.args.trail.now.entries c.loop-id.watches.list k.0 c.loop-id.invariant.watches k.3);
            in_step = empty c.if-has_two.watches.list c.args.trail.now c.requires.begins;
          }
      | else-has_two w ↦
          let P : Watching → Type 0 = λ v. AreWatches c.args.store.now.clauses v.list in
          record {
            vars = ap (λ (v : Watching). v.vars) w.watches-is ∙ c.loop-id.invariant.vars;
            watches = subst P (sym w.watches-is) c.loop-id.invariant.watches;
            in_step = empty c.if-has_two.watches.list c.args.trail.now c.requires.begins;
          }
    ]
