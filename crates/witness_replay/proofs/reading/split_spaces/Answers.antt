use Rattle.std.proofs.Common.{ℕ, Option, length, ◌∙◌, ap}
use Rattle.std.specs.Prelude.{unwrap_or}
use Rattle.witness_replay.specs.Spans.{is_space}
use Rattle.numerals.proofs.GeneralSpans.{span_by}
use Rattle.witness_replay.proofs.reading.split_spaces.Goals as goal

pub returns : goal.returns
returns c =
    span_by is_space c.args.bytes.now c.split_at.result.0.now c.split_at.result.1.now c.unwrap_or.result
    (c.unwrap_or.ensures ∙ ap (λ (p : Option ℕ). unwrap_or p (length c.args.bytes.now)) c.first_no_space.ensures) c.split_at.ensures.front c.split_at.ensures.back
