-- How tightly predicates bind: an `or` least, an `and` more, and everything else most.
use Rattle.std.specs.Prelude.{ℕ, Bool, nat_lt}
use Rattle.litmus_syntax.specs.declared.pred.Binding.{Binding}
use Rattle.litmus_syntax.specs.declared.pred.Binding.TheVariants.{Disjunction, Conjunction, Operand}

abbrev pub tightness : Binding → ℕ
tightness Disjunction = 0
tightness Conjunction = 1
tightness Operand = 2

-- the one binds less tightly than the other
abbrev pub is_looser : Binding → Binding → Bool
is_looser a b = nat_lt (tightness a) (tightness b)
