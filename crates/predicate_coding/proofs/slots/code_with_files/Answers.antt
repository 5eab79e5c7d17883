use Rattle.std.proofs.Common.{ℕ, length, ◌-◌, sym, ◌∙◌, ap, arith}
use Rattle.std.specs.List.{flat_map}
use Rattle.clause_store.specs.declared.Lit.{Lit}
use Rattle.order_coding.specs.Growth.{joined}
use Rattle.predicate_coding.specs.Growing.{if_slot}
use Rattle.predicate_coding.proofs.CodeSlots.{node_made}
use Rattle.predicate_coding.proofs.slots.code_with_files.Goals as goal

pub returns : goal.returns
returns c =
    node_made c.args.events.now c.args.cells.now c.args.asked.now c.args.slot c.args.files.now c.args.store.now c.add_vars.new.store c.code_candidates.new.store c.code_slots.new.store
    (c.in_ok-own.own - length c.args.files.now) c.in_ok-own.own c.requires.files
    (omega (arith, c.in_ok-own.ensures.last)) c.in_ok-own.ensures.last
    (c.in_ok-own.ensures.added ∙ ap (λ (k : ℕ). record c.args.store.now { vars = k }) (sym c.in_ok-own.ensures.last))
    c.in_ok-code_candidates.ensures
    (c.in_ok-code_slots.ensures
    ∙ ap (λ (l : Lit). joined c.code_candidates.new.store (flat_map (if_slot c.args.events.now c.args.slot (c.in_ok-own.own - length c.args.files.now) l) c.args.cells.now)) c.lit.ensures)
