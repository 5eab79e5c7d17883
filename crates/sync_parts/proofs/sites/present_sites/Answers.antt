use Rattle.std.proofs.Common.{◌≡◌, ◌+◌, ◌++◌, ◌∷◌, [], Bool, false, cond, List, drop, sym, ◌∙◌, ap, append_assoc}
use Rattle.std.specs.Prelude.{slice_index_or}
use Rattle.litmus_syntax.specs.declared.call.Call.{Call}
use Rattle.litmus_syntax.specs.declared.site.Site.{Site}
use Rattle.sync_parts.specs.Sites.{sites_present}
use Rattle.sync_parts.proofs.Steps.{next-present}
use Rattle.sync_parts.proofs.sites.present_sites.Goals as goal
use Rattle.sync_parts.proofs.sites.present_sites.Goals.{then-is_present+in_ok-call+in_ok-push, else-is_present}

pub loop-place-preserved : goal.loop-place-preserved
loop-place-preserved c =
    let k = c.loop-place.place in
    let site = c.index-sites-place.result in
    let sites = c.args.sites.now in
    let present = c.args.present.now in
    let rest : List Site = sites_present (drop (k + 1) sites) (drop (k + 1) present) in
    let next = next-present sites present k site c.loop-place-test.true c.index-sites-place.is in
    let at : slice_index_or present k false ≡ c.is_present.result = sym c.is_present.ensures in
    elim c.if-is_present.branch [
      | then-is_present+in_ok-call+in_ok-push w ↦
          let copied : record { after = site.after; call = w.in_ok-call.call } ≡ site = ap (λ (c' : Call). record { after = site.after; call = c' }) w.in_ok-call.ensures in
          let pushed : c.if-is_present.some ≡ c.loop-place.some ++ site ∷ [] = w.some-is ∙ w.in_ok-push.ensures.ok ∙ ap (λ (s : Site). c.loop-place.some ++ s ∷ []) copied in
          rw pushed
          (append_assoc c.loop-place.some (site ∷ []) rest
          ∙ ap (λ (l : List Site). c.loop-place.some ++ l) (sym (next ∙ ap (λ (b : Bool). cond b (site ∷ rest) rest) (at ∙ w.if-is_present.true))) ∙ c.loop-place.invariant)
      | else-is_present w ↦
          rw w.some-is
          (ap (λ (l : List Site). c.loop-place.some ++ l) (sym (next ∙ ap (λ (b : Bool). cond b (site ∷ rest) rest) (at ∙ w.if-is_present.false))) ∙ c.loop-place.invariant)
    ]
