use Rattle.std.proofs.Common.{rules, ◌≡◌, ◌∙◌, ℕ, Option, ◌++◌, length, ap, sym, Some}
use Rattle.std.specs.Prelude.{codes, map, slice_range}
use Rattle.proof_log.specs.LogText.{clause_line, text_of, asked_lines}
use Rattle.proof_log.proofs.PrintedLearned.{learned_asked}
use Rattle.proof_log.proofs.printing.push_learned.Goals as goal

pub returns-in_ok-push_clauses-in-Some-2 : goal.returns-in_ok-push_clauses-in-Some-2
returns-in_ok-push_clauses-in-Some-2 c =
    let out = c.args.out.now.items in
    let cs = c.args.log.now.part.learned in
    let q = c.in-Some.place in
    let asked : c.args.log.now.question ≡ Some q = search rules in
    let all : c.push_clauses-in-Some-2.new.out.items
    ≡ ((out ++ text_of (map clause_line (slice_range cs 0 q))) ++ codes "question\n") ++ text_of (map clause_line (slice_range cs q (length cs))) = search rules in
    all ∙ learned_asked out cs q ∙ ap (λ (p : Option ℕ). out ++ text_of (asked_lines p (map clause_line cs))) (sym asked)
