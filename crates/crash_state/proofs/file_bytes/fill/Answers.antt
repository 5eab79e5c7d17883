use Rattle.std.proofs.Common.{List, ℕ, length, ◌∙◌, ap}
use Rattle.fer_events.specs.States.{cleared}
use Rattle.crash_state.proofs.Bytes.{padded_by_parts}
use Rattle.crash_state.proofs.file_bytes.fill.Goals as goal

pub returns : goal.returns
returns c =
    c.clear_from.ensures
    ∙ ap (λ (bytes : List ℕ). cleared (length c.args.content.now) bytes) c.write_text.ensures
    ∙ padded_by_parts c.args.content.now c.args.bytes.now c.requires.room c.requires.fits
