use Rattle.std.proofs.Common.{◌≡◌, subst}
use Rattle.litmus_syntax.specs.LitmusText.{litmus_text}
use Rattle.litmus_syntax.specs.Same.{IsSameTest}
use Rattle.litmus_round_trip.proofs.Statements.{rewritten, same_rewritten, reads_as_written}
use Rattle.litmus_round_trip.proofs.laws.reads_back.Goals as goal

pub returns-clause-read : goal.returns-clause-read
returns-clause-read c = λ l within fits. (rewritten l, reads_as_written l within fits, same_rewritten l)

pub returns-clause-nothing_else : goal.returns-clause-nothing_else
returns-clause-nothing_else c = λ l m within read.
    let same : rewritten l ≡ m = c.one_reading.ensures.one_litmus (litmus_text l) (rewritten l) m (reads_as_written l within read.0) read in
    subst (IsSameTest l) same (same_rewritten l)

pub returns-clause-never_refused : goal.returns-clause-never_refused
returns-clause-never_refused c = λ l line kind within fits refused.
    c.one_reading.ensures.text_or_refused (litmus_text l) (rewritten l) line kind (reads_as_written l within fits) refused
