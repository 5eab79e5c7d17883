use Rattle.std.proofs.Common.{◌≡◌, ◌-◌, ◌∙◌, ℕ, ap, arith}
use Rattle.std.specs.Prelude.{◌==◌}
use Rattle.std.proofs.lemmas.Nat.Bits.{shr_and_one}
use Rattle.fer_events.specs.Pairs.{PairList, has_pair}
use Rattle.fer_events.proofs.PairLaws.{pairs_of-has}
use Rattle.fer_events.proofs.pairs.Pairs.has.Goals as goal

pub returns : goal.returns
returns c =
    let n : c.self.inside.n ≡ c.args.self.now.n = ap (λ (p : PairList). p.n) c.self.view_is in
    ap (λ (bit : ℕ). bit == 1) (shr_and_one _ (c.args.b - 1))
    ∙ pairs_of-has c.self.inside.n c.self.inside.rows c.args.a c.args.b c.requires.first.0 (omega arith) c.requires.second.0 (omega arith)
    ∙ ap (λ (p : PairList). has_pair p.pairs c.args.a c.args.b) c.self.view_is
