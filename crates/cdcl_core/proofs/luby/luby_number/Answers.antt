use Rattle.std.proofs.Common.{ℕ, ◌≡◌, ◌+◌, ◌≤◌, ◌<◌, ◌-◌, ◌/◌, suc, length, get_or, sym, ◌∙◌, ap, subst, arith}
use Rattle.cdcl_core.specs.Luby.{luby_turn, luby}
use Rattle.cdcl_core.proofs.Pacing.{turn-length, longer-turn, in-turn, first-half, second-half, last-number, step-lower}
use Rattle.cdcl_core.proofs.luby.luby_number.Goals as goal
use Rattle.cdcl_core.proofs.luby.luby_number.Goals.{then-place-turn+else-place-turn-2, else-place-turn}

pub turn-init : goal.turn-init
turn-init c =
    let long : 18446744073709551615 ≡ length (luby_turn 64) = omega (arith, turn-length 64) in
    (64, long, omega (arith, c.ranges.place.fits), in-turn 65 c.args.place (omega (arith, c.ranges.place.fits, long, longer-turn 64)))

-- the number at the end of a turn
end-number : (k place n : ℕ) → length (luby_turn k) + length (luby_turn k) ≡ place → get_or (luby_turn (suc k)) place 0 ≡ n → suc (length (luby_turn k)) ≡ n
end-number k place n end at =
    turn-length k ∙ sym (last-number k) ∙ ap (λ (m : ℕ). get_or (luby_turn (suc k)) m 0) end ∙ at

pub returns-then-place-turn-2 : goal.returns-then-place-turn-2
returns-then-place-turn-2 c =
    let i = c.turn.invariant in
    let end : length (luby_turn i.0) + length (luby_turn i.0) ≡ c.turn.place = omega (arith, i.1, c.if-place-turn.true, c.if-place-turn-2.true) in
    record { number = omega (arith, i.1, end-number i.0 c.turn.place (luby c.args.place) end i.3) }

lower : (k turn place n : ℕ) → turn ≡ length (luby_turn k) → turn ≤ place → place - turn < turn → get_or (luby_turn (suc k)) place 0 ≡ n → get_or (luby_turn k) (place - turn) 0 ≡ n
lower k turn place n is le lt at =
    let same : length (luby_turn k) + (place - turn) ≡ place = omega (arith, is, le) in
    sym (second-half k (place - turn) (omega (arith, is, lt))) ∙ ap (λ (m : ℕ). get_or (luby_turn (suc k)) m 0) same ∙ at

pub turn-preserved : goal.turn-preserved
turn-preserved c =
    let i = c.turn.invariant in
    elim c.if-place-turn.branch [
      | then-place-turn+else-place-turn-2 w ↦
          let lt : c.turn.place - c.turn.turn < c.turn.turn = omega (arith, i.2, w.if-place-turn.true, w.if-place-turn-2.false) in
          subst (λ (p : ℕ). (j : ℕ) × (c.turn.turn / 2 ≡ length (luby_turn j)) × (p < suc (c.turn.turn / 2 + c.turn.turn / 2)) × (get_or (luby_turn (suc j)) p 0 ≡ luby c.args.place)) (sym w.place-is)
          (step-lower i.0 c.turn.turn (c.turn.place - c.turn.turn) (luby c.args.place) i.1 c.turn-test.true lt (lower i.0 c.turn.turn c.turn.place (luby c.args.place) i.1 w.if-place-turn.true lt i.3))
      | else-place-turn w ↦
          let lt : c.turn.place < c.turn.turn = w.if-place-turn.false in
          subst (λ (p : ℕ). (j : ℕ) × (c.turn.turn / 2 ≡ length (luby_turn j)) × (p < suc (c.turn.turn / 2 + c.turn.turn / 2)) × (get_or (luby_turn (suc j)) p 0 ≡ luby c.args.place)) (sym w.place-is)
          (step-lower i.0 c.turn.turn c.turn.place (luby c.args.place) i.1 c.turn-test.true lt (sym (first-half i.0 c.turn.place (omega (arith, lt, i.1))) ∙ i.3))
    ]

pub returns : goal.returns
returns c =
    let i = c.turn.invariant in
    let end : length (luby_turn i.0) + length (luby_turn i.0) ≡ c.turn.place = omega (arith, i.1, i.2, c.turn-test.false) in
    record { number = omega (arith, i.1, c.turn-test.false, end-number i.0 c.turn.place (luby c.args.place) end i.3) }
