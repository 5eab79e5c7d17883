use Rattle.std.proofs.Common.{◌≡◌, ◌∙◌, ap, arith}
use Rattle.std.specs.Prelude.{◌==◌, ◌&&◌, ◌||◌}
use Rattle.fer_events.specs.Pairs.{PairList, has_pair}
use Rattle.fer_events.proofs.PairLaws.{pairs_of-set}
use Rattle.fer_events.proofs.pairs.Pairs.set.Goals as goal

pub returns-clause-pairs : goal.returns-clause-pairs
returns-clause-pairs c =
    let n : c.self.inside.n ≡ c.args.self.now.n = ap (λ (p : PairList). p.n) c.self.view_is in
    λ x y.
    pairs_of-set c.self.inside.n c.self.inside.rows c.args.a c.args.b x y
    c.requires.first.0 (omega arith) c.requires.second.0 (omega arith) c.self.invariant c.self.told
    ∙ ap (λ (p : PairList). ((c.args.a == x) && (c.args.b == y)) || has_pair p.pairs x y) c.self.view_is
