use Rattle.std.proofs.Common.{◌≡◌, ◌+◌, ◌++◌, length, take, sym, ◌∙◌, ap, arith, take-add, subst, List, ℕ}
use Rattle.fer_outside.specs.Causes.{Grew}
use Rattle.ferrite_run.proofs.Growth.{grew_more}
use Rattle.ferrite_run.proofs.writing.write_whole.Goals as goal

pub loop-done-preserved : goal.loop-done-preserved
loop-done-preserved g c =
    let text = c.args.text.now in
    let done = c.loop-done.done in
    let count = c.in-Ok.count in
    let piece = ap (take count) c.split_at.ensures.back in
    let both = grew_more _ _ _ _ _ c.loop-done.invariant.grew c.in-Ok.ensures.grew in
    let same : take done text ++ take count c.split_at.result.1.now ≡ take (done + count) text = ap (λ t. take done text ++ t) piece ∙ sym (take-add done count text) in
    record {
      within = omega (arith, c.in-Ok.ensures.within, ap length c.split_at.ensures.back, c.split_at.ensures.back_len);
      grew = let P : List ℕ → Type 0 = λ t. Grew (g.K.Sink.written c.args.out.now) (g.K.Sink.written c.write.new.self) t in subst P same both;
      later = omega (arith, c.in-Ok.ensures.never_falls, c.loop-done.invariant.later);
    }
