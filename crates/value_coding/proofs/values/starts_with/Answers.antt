use Rattle.std.proofs.Common.{ℕ, List, ◌≤◌, length, sym, ◌∙◌, ap, subst}
use Rattle.value_coding.specs.TextPlaces.{has_from}
use Rattle.value_coding.proofs.StartValues.{start-text, content-of}
use Rattle.value_coding.proofs.values.starts_with.Goals as goal

pub returns : goal.returns
returns c =
    let there = content-of c.args.events.now c.contents.result.now c.start.result.now c.args.file c.index-contents-file.result c.start.ensures c.contents.ensures c.index-contents-file.is in
    c.has_at.ensures
    ∙ ap (λ (content : List ℕ). has_from content c.args.at c.args.text.now) c.as_slice.ensures
    ∙ sym (start-text c.args.events.now c.args.file c.args.at c.args.text.now c.index-contents-file.result c.requires.0 c.requires.1 there
    (subst (λ (content : List ℕ). length content ≤ 65536) (sym there) (c.keeps_rules.ensures.contents_fit c.args.file c.index-contents-file.result c.requires.0)))
