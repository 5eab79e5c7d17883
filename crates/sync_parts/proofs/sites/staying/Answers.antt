use Rattle.std.proofs.Common.{◌+◌, ◌++◌, [], ◌∷◌, Bool, true, List, drop, sym, ◌∙◌, ap, append_assoc}
use Rattle.sync_parts.specs.Sites.{present_at, calls_present}
use Rattle.sync_parts.proofs.Steps.{rest-calls}
use Rattle.sync_parts.proofs.sites.staying.Goals as goal

pub loop-place-preserved : goal.loop-place-preserved
loop-place-preserved c =
    let k = c.loop-place.place in
    let body = c.args.body.now in
    let sites = c.args.sites.now in
    let present = c.args.present.now in
    let items : List Bool = c.loop-place.stays.items in
    let behind : List Bool = present_at (k + 1) sites present in
    let later : List Bool = calls_present (k + 1 + 1) (drop (k + 1) body) sites present in
    ap (λ (l : List Bool). l ++ later) c.in_ok-push_behind.ensures ∙ ap (λ (l : List Bool). (l ++ behind) ++ later) c.in_ok-push.ensures.items
    ∙ append_assoc (items ++ true ∷ []) behind later ∙ append_assoc items (true ∷ []) (behind ++ later)
    ∙ ap (λ (l : List Bool). items ++ l) (sym (rest-calls body sites present k c.loop-place-test.true)) ∙ c.loop-place.invariant
