use Rattle.std.proofs.Common.{rules, ◌≡◌, ℕ, suc, ◌+◌, ◌<◌, List, ◌∷◌, length, drop, get_or, arith, sym, ◌∙◌, ap, ap₂}
use Rattle.lexeme_reader.proofs.Names.{parts, parts_at}
use Rattle.lexeme_reader.proofs.reading.first_name.Goals as goal

pub returns-then-byte-eq47 : goal.returns-then-byte-eq47
returns-then-byte-eq47 c =
    let below : c.loop-i.i < length c.args.names.now = search rules in
    let here : get_or c.args.names.now c.loop-i.i 0 ≡ 47 = search rules in
    let next : c.loop-i.i + 1 ≡ suc c.loop-i.i = omega arith in
    let cut = parts_at c.args.names.now c.loop-i.i below c.loop-i.invariant here in
    let back = c.split_at-then-byte-eq47.ensures.back ∙ ap (λ (k : ℕ). drop k c.args.names.now) next in
    (cut ∙ ap₂ (λ (x y : List ℕ). x ∷ parts y) (sym c.split_at.ensures.front) (sym back), omega (arith, c.split_at-then-byte-eq47.ensures.back_len, below))
