use Rattle.std.proofs.Common.{◌≡◌, ◌<◌, ◌≤◌, List, ℕ, ◌+◌, ◌-◌, ◌++◌, length, replicate, sym, ◌∙◌, ap, arith, length-append}
use Rattle.std.proofs.lemmas.List.{length-replicate}
use Rattle.std.proofs.lemmas.Grind.{common_steps}
use Rattle.call_events.proofs.FileContents.{filled_over, length-written, whole_kept}
use Rattle.call_events.proofs.contents.Content.overwrite.Goals as goal

pub returns : goal.returns
returns c =
    let at : ℕ = c.args.at in
    let text : List ℕ = c.args.text.now in
    let content : List ℕ = c.args.self.now in
    let bytes : List ℕ = c.as_mut_slice.result.now in
    let items : List ℕ = c.reach.new.bytes.items in
    let some : 0 < length text = grind (arith, common_steps) in
    let filled : bytes ≡ content ++ replicate (at + length text - length content) 0 =
    c.as_mut_slice.ensures.value ∙ c.in_ok-reach.ensures ∙ ap (λ (b : List ℕ). b ++ replicate (at + length text - length b) 0) c.self.view_is in
    let zeros : List ℕ = replicate (at + length text - length content) 0 in
    let count = ap length filled in
    let room : at + length text ≤ length bytes = omega (arith, count, length-append content zeros, length-replicate {A = ℕ} (at + length text - length content) 0) in
    let long : length c.write_over.new.bytes ≡ c.reach.new.bytes.len = ap length c.write_over.ensures ∙ length-written at text bytes room ∙ c.as_mut_slice.ensures.len in
    let same : length items ≡ c.reach.new.bytes.len = ap length (sym c.as_mut_slice.ensures.value) ∙ c.as_mut_slice.ensures.len in
    whole_kept c.reach.new.bytes.len c.write_over.new.bytes items long same ∙ c.write_over.ensures ∙ filled_over at content bytes text filled some
