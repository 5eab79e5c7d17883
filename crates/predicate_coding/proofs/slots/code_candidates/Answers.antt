use Rattle.std.proofs.Common.{ℕ, List, All, sym, ◌∙◌, ap, subst}
use Rattle.std.specs.List.{flat_map}
use Rattle.std.proofs.lemmas.List.Elements.{All-filter}
use Rattle.clause_store.specs.declared.Lit.{Lit}
use Rattle.order_coding.specs.Growth.{joined}
use Rattle.value_coding.specs.declared.cell.CodedCell.{CodedCell}
use Rattle.predicate_coding.specs.Asking.{reads_file}
use Rattle.predicate_coding.specs.Fits.{fits_clauses}
use Rattle.predicate_coding.specs.Growing.{IsCoded, AreCoded}
use Rattle.predicate_coding.proofs.ReadCells.{candidates-read}
use Rattle.predicate_coding.proofs.slots.code_candidates.Goals as goal

pub code_each_candidate-requires-clause-coded : goal.code_each_candidate-requires-clause-coded
code_each_candidate-requires-clause-coded c =
    subst (AreCoded c.args.events.now c.args.store.now.vars) (sym (c.as_slice.ensures.value ∙ c.in_ok-read.ensures))
    (All-filter (λ cell. reads_file c.args.asked.now cell.cell) (IsCoded c.args.events.now c.args.store.now.vars) c.args.cells.now c.requires.coded)

pub returns : goal.returns
returns c =
    c.in_ok-code_each_candidate.ensures
    ∙ ap (λ (cells : List CodedCell). joined c.args.store.now (flat_map (fits_clauses c.args.events.now cells c.args.first c.args.asked.now c.args.slot) c.args.files.now))
    (c.as_slice.ensures.value ∙ c.in_ok-read.ensures)
    ∙ ap (joined c.args.store.now) (candidates-read c.args.events.now c.args.cells.now c.args.first c.args.asked.now c.args.slot c.args.files.now)
