-- The canonical text says nothing of the lines of a test.
use Rattle.std.proofs.Common.{◌≡◌, ℕ, Bool, List, [], ◌∷◌, ◌++◌, codes, decimal, map, ◌==◌, if◌then◌else◌, refl, sym, ◌∙◌, ap}
use Rattle.std.specs.List.{flat_map}
use Rattle.litmus_syntax.specs.declared.call.Call.{Call}
use Rattle.litmus_syntax.specs.declared.call.Step.{Step}
use Rattle.litmus_syntax.specs.declared.pred.Pred.{Pred}
use Rattle.litmus_syntax.specs.Test.{Test}
use Rattle.litmus_syntax.specs.Same.{IsSameTest}
use Rattle.litmus_syntax.specs.CallText.{call_text}
use Rattle.litmus_syntax.specs.PredText.{pred_text}
use Rattle.litmus_syntax.specs.Transactions.{calls_of}
use Rattle.litmus_syntax.specs.LitmusText.{litmus_text, step_line, question_word}

abbrev call_line : Call → List ℕ
call_line c = codes "  " ++ call_text c ++ codes "\n"

by_calls : (steps : List Step) → flat_map step_line steps ≡ flat_map call_line (calls_of steps)
by_calls [] = refl
by_calls (step ∷ steps) = ap (λ (rest : List ℕ). step_line step ++ rest) (by_calls steps)

same_lines : (a b : List Step) → calls_of a ≡ calls_of b → flat_map step_line a ≡ flat_map step_line b
same_lines a b same = by_calls a ∙ ap (flat_map call_line) same ∙ sym (by_calls b)

-- a text put together of the parts that tests have in common
abbrev whole : List ℕ → ℕ → ℕ → ℕ → List ℕ → List ℕ → Bool → Pred → List ℕ
whole name version block sector setup body want pred =
    (codes "litmus " ++ name ++ (if version == 2 then codes " 2" else []) ++ codes "\n")
    ++ (codes "block " ++ decimal block ++ codes "\n" ++ (if version == 2 then codes "sector " ++ decimal sector ++ codes "\n" else []))
    ++ codes "setup:\n" ++ setup ++ codes "body:\n" ++ body
    ++ (question_word want ++ codes ": " ++ pred_text pred ++ codes "\n")

pub same_texts : (l m : Test) → IsSameTest l m → litmus_text l ≡ litmus_text m
same_texts l m same =
    ap (λ (name : List ℕ). whole name l.version l.block l.sector (flat_map step_line l.setup) (flat_map step_line l.body) l.want l.pred) same.name
    ∙ ap (λ (version : ℕ). whole m.name version l.block l.sector (flat_map step_line l.setup) (flat_map step_line l.body) l.want l.pred) same.version
    ∙ ap (λ (block : ℕ). whole m.name m.version block l.sector (flat_map step_line l.setup) (flat_map step_line l.body) l.want l.pred) same.block
    ∙ ap (λ (sector : ℕ). whole m.name m.version m.block sector (flat_map step_line l.setup) (flat_map step_line l.body) l.want l.pred) same.sector
    ∙ ap (λ (setup : List ℕ). whole m.name m.version m.block m.sector setup (flat_map step_line l.body) l.want l.pred) (same_lines l.setup m.setup same.setup)
    ∙ ap (λ (body : List ℕ). whole m.name m.version m.block m.sector (flat_map step_line m.setup) body l.want l.pred) (same_lines l.body m.body same.body)
    ∙ ap (λ (want : Bool). whole m.name m.version m.block m.sector (flat_map step_line m.setup) (flat_map step_line m.body) want l.pred) same.want
    ∙ ap (λ (pred : Pred). whole m.name m.version m.block m.sector (flat_map step_line m.setup) (flat_map step_line m.body) m.want pred) same.pred
