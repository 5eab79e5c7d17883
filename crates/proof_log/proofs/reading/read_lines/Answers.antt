use Rattle.std.proofs.Common.{rules, ◌≡◌, ℕ, ◌+◌, List, [], ◌∷◌, ◌++◌, refl, sym, ◌∙◌, ap, subst, arith, false}
use Rattle.std.proofs.lemmas.List.{append_assoc, length-append}
use Rattle.text_scan.specs.Lines.{lines_of}
use Rattle.proof_log.specs.declared.fault.LogKind.TheVariants.{EndsEarly}
use Rattle.proof_log.specs.Stages.{Steps, IsLineFault}
use Rattle.proof_log.specs.Reading.{stage_of, TakesAs}
use Rattle.proof_log.proofs.Running.{joined}
use Rattle.proof_log.proofs.Failing.{fails_so, line_fails, end_fails, not_ended}
use Rattle.proof_log.proofs.reading.read_lines.Goals as goal

pub returns-in-Some-2-clause-refused : goal.returns-in-Some-2-clause-refused
returns-in-Some-2-clause-refused c = λ number kind e.
    let from = stage_of c.args.draft.now in
    let inv = c.loop-line.invariant in
    let fault : IsLineFault (stage_of c.loop-line.draft) c.in-Some.line.now c.in-Some-2.kind =
    subst (TakesAs (stage_of c.loop-line.draft) c.in-Some.line.now (stage_of c.take.new.self)) c.in-Some-2.is c.in_ok-kind.ensures.taken in
    fails_so from 3 (lines_of c.args.bytes.now) (c.loop-line.number + 1) c.in-Some-2.kind c.refused.result number kind c.refused.ensures e
    (line_fails from (stage_of c.loop-line.draft) 3 (lines_of c.args.bytes.now) inv.0 (lines_of c.loop-line.rest.now) c.in-Some.line.now (lines_of c.in-Some.behind.now)
    c.loop-line.number (c.loop-line.number + 1) c.in-Some-2.kind inv.1 c.in-Some.ensures.cut inv.3 inv.2 refl fault)

pub loop-line-preserved : goal.loop-line-preserved
loop-line-preserved c =
    let from = stage_of c.args.draft.now in
    let inv = c.loop-line.invariant in
    let line = c.in-Some.line.now in
    let step : Steps (stage_of c.loop-line.draft) line (stage_of c.take.new.self) =
    subst (TakesAs (stage_of c.loop-line.draft) line (stage_of c.take.new.self)) c.in_default-2.is c.in_ok-kind.ensures.taken in (
      inv.0 ++ line ∷ [],
      inv.1 ∙ ap (λ (x : List (List ℕ)). inv.0 ++ x) c.in-Some.ensures.cut ∙ sym (append_assoc inv.0 (line ∷ []) (lines_of c.in-Some.behind.now)),
      omega (arith, inv.2, length-append inv.0 (line ∷ [])),
      joined inv.0 (line ∷ []) from (stage_of c.loop-line.draft) (stage_of c.take.new.self) inv.3 (stage_of c.take.new.self, step, refl),
      c.in_ok-kind.ensures.draft,
      omega (arith, inv.5, length-append inv.0 (line ∷ []), c.in-Some.ensures.fewer),
    )

pub returns-then-not-draft-clause-refused : goal.returns-then-not-draft-clause-refused
returns-then-not-draft-clause-refused c = λ number kind e.
    let from = stage_of c.args.draft.now in
    let inv = c.loop-line.invariant in
    let open_still : c.loop-line.draft.ended ≡ false = search rules in
    fails_so from 3 (lines_of c.args.bytes.now) (c.loop-line.number + 1) EndsEarly c.refused-then-not-draft.result number kind c.refused-then-not-draft.ensures e
    (end_fails from (stage_of c.loop-line.draft) 3 (lines_of c.args.bytes.now) inv.0 c.loop-line.rest.now c.loop-line.number (c.loop-line.number + 1)
    inv.1 c.in_default.ensures.cut inv.3 inv.2 refl (not_ended c.loop-line.draft open_still))
