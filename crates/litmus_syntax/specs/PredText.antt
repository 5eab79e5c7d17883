-- How predicates are written, with parentheses only where they are needed.
use Rattle.std.specs.Prelude.{ℕ, List, [], ◌∷◌, ◌++◌, codes, decimal, if◌then◌else◌}
use Rattle.litmus_syntax.specs.declared.pred.Pred.{Pred, fold-Pred}
use Rattle.litmus_syntax.specs.declared.pred.Pred.TheOpen.{Pred-F}
use Rattle.litmus_syntax.specs.declared.pred.Pred.TheOpen as pred
use Rattle.litmus_syntax.specs.declared.pred.Binding.{Binding}
use Rattle.litmus_syntax.specs.declared.pred.Binding.TheVariants.{Disjunction, Conjunction, Operand}
use Rattle.litmus_syntax.specs.Bindings.{is_looser}
use Rattle.litmus_syntax.specs.Texts.{path_text, quoted}

-- a predicate as it is written, and how tightly it binds
pub record Written : Type 0 where
  pub text : List ℕ
  pub binding : Binding

-- an operand whose place asks for this binding: one that binds less tightly stands in parentheses
abbrev pub operand : Binding → Written → List ℕ
operand least part = if is_looser part.binding least then 40 ∷ part.text ++ 41 ∷ [] else part.text

-- an atom, `true` and `false` too
abbrev pub tight : List ℕ → Written
tight text = record { text = text; binding = Operand }

-- one atom, or a connective over its written operands; `and` and `or` group to the left
abbrev pub written_of : Pred-F Written → Written
written_of pred.True = tight (codes "true")
written_of pred.False = tight (codes "false")
written_of (pred.Exists path) = tight (codes "exists(" ++ path_text path ++ codes ")")
written_of (pred.Same left right) = tight (codes "same(" ++ path_text left ++ codes ", " ++ path_text right ++ codes ")")
written_of (pred.SizeIs path size) = tight (codes "size(" ++ path_text path ++ codes ") = " ++ decimal size)
written_of (pred.ContentIs path text) = tight (codes "content(" ++ path_text path ++ codes ") = " ++ quoted text)
written_of (pred.BytesAre path at text) = tight (codes "bytes(" ++ path_text path ++ codes ", " ++ decimal at ++ codes ") = " ++ quoted text)
written_of (pred.AttrIs path key value) = tight (codes "attr(" ++ path_text path ++ codes ", " ++ key ++ codes ") = " ++ decimal value)
written_of (pred.Seen word) = tight (codes "seen(" ++ word ++ codes ")")
written_of (pred.Not inner) = tight (codes "not " ++ operand Operand inner)
written_of (pred.And left right) = record { text = operand Conjunction left ++ codes " and " ++ operand Operand right; binding = Conjunction }
written_of (pred.Or left right) = record { text = operand Disjunction left ++ codes " or " ++ operand Conjunction right; binding = Disjunction }

abbrev pub written : Pred → Written
written = fold-Pred Written written_of

-- the text of a predicate
abbrev pub pred_text : Pred → List ℕ
pred_text p = (written p).text
