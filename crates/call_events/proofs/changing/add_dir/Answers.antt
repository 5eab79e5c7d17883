use Rattle.std.proofs.Common.{◌≡◌, ℕ, Bool, List, [], ◌∷◌, ◌++◌, position, is_some, ◌∙◌, ap}
use Rattle.std.specs.Prelude.{if◌then◌else◌}
use Rattle.fer_events.specs.Paths.{same_path}
use Rattle.call_events.proofs.changing.add_dir.Goals as goal

pub returns : goal.returns
returns c =
    let old : List (List (List ℕ)) = c.args.files.now.dirs in
    let entry : c.into_vec.result.items ≡ c.args.path.now = c.into_vec.ensures ∙ c.in_ok-path.ensures ∙ c.as_slice.ensures in
    let new : c.note.new.self ≡ old ++ c.args.path.now ∷ [] =
    c.in_ok-note.ensures.ok
    ∙ ap (λ (e : List (List ℕ)). if is_some (position (λ dir. same_path dir e) old) then old else old ++ e ∷ []) entry
    ∙ ap (λ (t : Bool). if t then old else old ++ c.args.path.now ∷ []) c.requires in
    ap (λ (dirs : List (List (List ℕ))). record c.args.files.now { dirs = dirs }) new
