-- When two litmus tests are the same: in everything but the lines that they were written in.
use Rattle.std.specs.Prelude.{◌≡◌}
use Rattle.litmus_syntax.specs.Test.{Test}
use Rattle.litmus_syntax.specs.Transactions.{calls_of}

pub record IsSameTest (l m : Test) : Type 0 where
  pub name : l.name ≡ m.name
  pub block : l.block ≡ m.block
  pub setup : calls_of l.setup ≡ calls_of m.setup
  pub body : calls_of l.body ≡ calls_of m.body
  pub want : l.want ≡ m.want
  pub pred : l.pred ≡ m.pred
  pub version : l.version ≡ m.version
  pub sector : l.sector ≡ m.sector
