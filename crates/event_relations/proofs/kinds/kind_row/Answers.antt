use Rattle.std.proofs.Common.{◌≡◌, sym, ◌∙◌, ap}
use Rattle.std.specs.Int.{bit_at}
use Rattle.std.proofs.lemmas.Nat.Bits.{shr_and_one}
use Rattle.event_relations.specs.Words.{kind_place}
use Rattle.event_relations.proofs.Diagonals.{only_bit}
use Rattle.event_relations.proofs.kinds.kind_row.Goals as goal

pub returns-then-bits-place_of-eq1 : goal.returns-then-bits-place_of-eq1
returns-then-bits-place_of-eq1 c b =
    let place : bit_at c.args.bits (kind_place c.args.kind) ≡ 1 =
    ap (bit_at c.args.bits) (sym c.place_of.ensures.place) ∙ sym (shr_and_one c.args.bits c.place_of.result) ∙ c.if-bits-place_of-eq1.true in
    let only = only_bit c.args.a b c.requires.few in
    (λ h. (only.0 h, place), λ h. only.1 h.0)
