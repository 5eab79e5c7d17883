use Rattle.std.proofs.Common.{◌∙◌, sym, ap, ap₂, List, length, Bool}
use Rattle.value_coding.specs.Marks.{marked_runs}
use Rattle.value_coding.proofs.MarkedRuns.{segments-agree}
use Rattle.value_coding.proofs.marking.segments.Goals as goal

pub returns : goal.returns
returns c =
    c.in_ok-cells.ensures
    ∙ ap₂ (λ (reads edges : List Bool). marked_runs reads edges c.args.file) c.as_slice.ensures.value c.as_slice-2.ensures.value
    ∙ segments-agree c.args.events.now c.args.parts.now c.args.file c.end_of-end.result c.in_ok-reads.reads.items c.in_ok-edges.edges.items
    c.end_of-end.ensures.within c.end_of-end.ensures.behind
    (ap length (sym c.as_slice.ensures.value) ∙ c.as_slice.ensures.len ∙ c.in_ok-reads.ensures.len) c.in_ok-reads.ensures.marks c.in_ok-edges.ensures.marks
