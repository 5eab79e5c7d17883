use Rattle.std.proofs.Common.{ℕ, ◌∷◌, ◌++◌, [], List, sym, ◌∙◌, ap, slice_get, append_assoc}
use Rattle.std.specs.Prelude.{unwrap_or}
use Rattle.std.specs.List.{flat_map}
use Rattle.report.proofs.PathTexts.{named_path}
use Rattle.report.proofs.event_table.push_slot_path.Goals as goal

pub returns : goal.returns
returns c =
    let out = c.args.out.now.items in
    let slot = c.args.slot.now in
    let parent : List (List ℕ) = unwrap_or (slice_get c.args.dirs.now slot.dir) [] in
    let front : List ℕ = flat_map (λ part. 47 ∷ part) parent in
    c.in_ok-extend_from_slice.ensures.items
    ∙ ap (λ (l : List ℕ). l ++ c.as_slice.result.now) c.in_ok-push.ensures.items
    ∙ ap (λ (l : List ℕ). (l ++ 47 ∷ []) ++ c.as_slice.result.now) c.in_ok-push_parent.ensures
    ∙ ap (λ (l : List ℕ). ((out ++ front) ++ 47 ∷ []) ++ l) c.as_slice.ensures
    ∙ append_assoc (out ++ front) (47 ∷ []) slot.name
    ∙ append_assoc out front (47 ∷ slot.name)
    ∙ ap (λ (l : List ℕ). out ++ l) (sym (named_path parent slot.name))
