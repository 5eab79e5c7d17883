use Rattle.std.proofs.Common.{◌≡◌, ℕ, ◌∷◌, List, Some, ◌∙◌, ap, ap₂, sym}
use Rattle.text_scan.specs.Items.{escaped}
use Rattle.text_scan.proofs.Spelling.{plain_item, short_item, hex_match}
use Rattle.text_scan.proofs.items.first_item.Goals as goal

pub returns-then-is_plain : goal.returns-then-is_plain
returns-then-is_plain c =
    plain_item c.args.bytes.now c.in_ok-first.behind.now c.in_ok-first.first.now (sym c.if-is_plain.ensures) c.in_ok-first.ensures.cases.0

pub returns-then-second-eq120 : goal.returns-then-second-eq120
returns-then-second-eq120 c =
    let at : c.args.bytes.now ≡ 92 ∷ 120 ∷ c.in_ok-second.rest.now =
    c.in_ok-first.ensures.cases.0
    ∙ ap₂ (λ (b : ℕ) (l : List ℕ). b ∷ l) c.if-first-ne92.false (c.in_ok-second.ensures.cases.0 ∙ ap (λ (b : ℕ). b ∷ c.in_ok-second.rest.now) c.if-second-eq120.true) in
    hex_match c.args.bytes.now c.in_ok-second.rest.now c.hex_item.result at c.hex_item.ensures

pub returns : goal.returns
returns c =
    let at : c.args.bytes.now ≡ 92 ∷ c.in_ok-second.second.now ∷ c.in_ok-second.rest.now =
    c.in_ok-first.ensures.cases.0 ∙ ap₂ (λ (b : ℕ) (l : List ℕ). b ∷ l) c.if-first-ne92.false c.in_ok-second.ensures.cases.0 in
    let means : escaped c.in_ok-second.second.now ≡ Some c.in_ok-byte.byte = sym c.in_ok-byte.ensures in
    short_item c.args.bytes.now c.in_ok-second.rest.now c.in_ok-second.second.now c.in_ok-byte.byte means at
