use Rattle.std.proofs.Common.{length, refl, sym, arith}
use Rattle.std.proofs.lemmas.Option.{slice_get_read}
use Rattle.trail_core.proofs.GeneralTrails.{levels-along, level-at-most, decided-first, decided-above, level-number}
use Rattle.trail_core.proofs.laws.levels_never_fall.Goals as goal

pub returns-clause-along : goal.returns-clause-along
returns-clause-along c t i j e f k le here there = levels-along 0 t.entries t.level i j e f k.rises le here there

pub returns-clause-present : goal.returns-clause-present
returns-clause-present c t e k has = level-at-most 0 t.entries t.level e k.rises has

pub returns-clause-opened : goal.returns-clause-opened
returns-clause-opened c t i j e f k lt here there none = decided-first 0 t.entries t.level i j e f k.rises lt here there none

pub returns-clause-above_zero : goal.returns-clause-above_zero
returns-clause-above_zero c t e k has none =
    let at = slice_get_read t.entries (length t.entries) has.0 e refl has.1 (sym has.2) in
    omega (arith, decided-above 0 t.entries t.level has.0 e k.rises at none)

pub returns-clause-number : goal.returns-clause-number
returns-clause-number c t k = omega (arith, level-number 0 t.entries t.level k.rises)
