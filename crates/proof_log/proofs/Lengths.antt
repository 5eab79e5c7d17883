-- How many lines the clauses of a log take.
use Rattle.std.proofs.Common.{◌≡◌, ℕ, ◌+◌, ◌<◌, ◌≤◌, List, [], ◌∷◌, ◌++◌, length, take, drop, map, Option, Some, None, sym, ◌∙◌, ap, arith, length-append, take-append-drop, codes}
use Rattle.std.proofs.lemmas.List.{length-map}
use Rattle.text_scan.specs.Lines.{lines_of}
use Rattle.proof_log.specs.Logs.{Logged}
use Rattle.proof_log.specs.LogText.{opening_lines, asked_lines, learned_lines, closing_lines, log_lines, clause_line}
use Rattle.proof_log.specs.LogFiles.{IsLogText}

abbrev asked_tail : ℕ → List (List ℕ) → List (List ℕ)
asked_tail q lines = codes "question" ∷ drop q lines

asked_tail_long : (q : ℕ) (lines : List (List ℕ)) → length (drop q lines) ≤ length (asked_tail q lines)
asked_tail_long q lines = omega arith

asked_long : (q : Option ℕ) (lines : List (List ℕ)) → length lines ≤ length (asked_lines q lines)
asked_long None lines = omega arith
asked_long (Some q) lines = omega (arith, ap length (take-append-drop q lines), length-append (take q lines) (drop q lines), length-append (take q lines) (asked_tail q lines), asked_tail_long q lines)

pub few_clauses :
    ((bytes : List ℕ) → length (lines_of bytes) ≤ length bytes) → (bytes : List ℕ) (l : Logged) → IsLogText bytes l → length l.part.learned ≤ 67108864
few_clauses few bytes l is =
    let lines = map clause_line l.part.learned in
    omega (
      arith,
      few bytes,
      is.short,
      ap length is.spelled,
      length-append (opening_lines l ++ learned_lines l) (closing_lines l.part.closed),
      length-append (opening_lines l) (learned_lines l),
      asked_long l.question lines,
      length-map l.part.learned clause_line,
    )
