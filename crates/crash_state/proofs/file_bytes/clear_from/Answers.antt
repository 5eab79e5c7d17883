use Rattle.std.proofs.Common.{ℕ, refl, ◌∙◌, ap, length, replicate, length-drop}
use Rattle.std.proofs.lemmas.List.{take_rest}
use Rattle.crash_state.proofs.Bytes.{cleared_by_part}
use Rattle.crash_state.proofs.file_bytes.clear_from.Goals as goal

pub returns : goal.returns
returns c =
    let bytes = c.args.bytes.now in
    cleared_by_part c.args.size _ bytes _ refl
    (c.fill.ensures.after (λ y h. h)
    ∙ ap (λ (n : ℕ). replicate n 0) (ap length (take_rest bytes c.args.size) ∙ length-drop c.args.size bytes))
