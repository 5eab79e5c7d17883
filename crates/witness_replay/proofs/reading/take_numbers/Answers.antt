use Rattle.std.proofs.Common.{ℕ, List, [], ◌∷◌, ◌++◌, sym, ◌∙◌, ap}
use Rattle.std.proofs.lemmas.List.{append_assoc, append-nil}
use Rattle.witness_replay.proofs.CrashNumbers.{has_none, has_more}
use Rattle.witness_replay.proofs.reading.take_numbers.Goals as goal

pub loop-number-init : goal.loop-number-init
loop-number-init c = ([], has_none c.args.bytes.now, sym (append-nil c.args.numbers.now.items))

pub loop-number-preserved : goal.loop-number-preserved
loop-number-preserved c =
    let old = c.args.numbers.now.items in
    let ns = c.loop-number.invariant.0 in
    let n = c.in-Some.number in (
      ns ++ n ∷ [],
      has_more c.args.bytes.now ns c.loop-number.rest.now n c.in-Some.behind.now c.loop-number.invariant.1 c.in-Some.ensures,
      c.in_ok-push.ensures.items ∙ ap (λ (l : List ℕ). l ++ n ∷ []) c.loop-number.invariant.2 ∙ append_assoc old ns (n ∷ []),
    )
