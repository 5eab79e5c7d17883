-- What a litmus test is to its readers: its name, the size of a block, the calls of its setup and of its body with their
-- lines, its question, the version of the grammar that it is written in, and the size of a sector. `want` tells `exists:`
-- from `always:`.
use Rattle.std.specs.Prelude.{ℕ, Bool, List}
use Rattle.litmus_syntax.specs.declared.call.Step.{Step}
use Rattle.litmus_syntax.specs.declared.pred.Pred.{Pred}

pub record Test : Type 0 where
  pub name : List ℕ
  pub block : ℕ
  pub setup : List Step
  pub body : List Step
  pub want : Bool
  pub pred : Pred
  pub pred_line : ℕ
  pub version : ℕ
  pub sector : ℕ
