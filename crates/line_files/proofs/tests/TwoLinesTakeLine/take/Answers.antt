use Rattle.std.proofs.Common.{◌≡◌, ◌≤◌, [], ◌∷◌, length, ap, arith}
use Rattle.std.proofs.lemmas.List.{length-map}
use Rattle.std.proofs.lemmas.List.Elements.{All-nil}
use Rattle.line_files.specs.StatedLines.{statements}
use Rattle.line_files.specs.declared.tests.Kind.{Kind}
use Rattle.line_files.specs.declared.tests.Kind.TheVariants.{OneTooMany}
use Rattle.line_files.proofs.tests.TwoLinesTakeLine.take.Goals as goal

pub returns-then-self-ge2-clause-fault : goal.returns-then-self-ge2-clause-fault
returns-then-self-ge2-clause-fault c = λ kind e stated h.
    let same : OneTooMany ≡ kind = cc in
    let two = c.if-self-ge2.true in
    let many : 2 ≤ length (statements stated) = omega (arith, length-map stated (λ s. s.statement)) in
    ([], [], ap (λ (k : Kind). k ∷ []) same, All-nil (λ (k : Kind). 2 ≤ length (statements stated) → ⊥), many)
