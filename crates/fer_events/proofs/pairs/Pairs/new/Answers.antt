use Rattle.std.proofs.Common.{ℕ, List, ap, refl, replicate}
use Rattle.fer_events.proofs.PairLaws.{pairs_of-zeros}
use Rattle.fer_events.proofs.pairs.Pairs.new.Goals as goal

pub returns : goal.returns
returns c = ap (λ (pairs : List (ℕ × ℕ)). record { n = c.args.n; pairs = pairs }) (pairs_of-zeros c.args.n (replicate 128 0) refl)
