use Rattle.std.proofs.Common.{ℕ, [], length, get_or, ap, ◌∙◌, subst, arith}
use Rattle.clause_store.proofs.GeneralLists.{Contains-head}
use Rattle.watch_lists.specs.Links.{In, Moves, Chained}
use Rattle.watch_lists.specs.Going.{code}
use Rattle.watch_lists.proofs.Basics.{first-parts}
use Rattle.watch_lists.proofs.Arms.{length-shifted}
use Rattle.watch_lists.proofs.Rounds.{no-first, chained-back, chained-rest}
use Rattle.watch_lists.proofs.put_back.Goals as goal

pub returns-in-None-clause-chained : goal.returns-in-None-clause-chained
returns-in-None-clause-chained c = λ list ch.
    chained-rest (code c.args.l) c.back.chains.lists list (no-first (get_or c.back.chains.lists 0 []) c.in-None.ensures) (c.back.invariant.chained list ch)

pub back-preserved : goal.back-preserved
back-preserved c =
    let parts = first-parts (get_or c.back.chains.lists 0 []) c.in-Some.field-0 c.in-Some.ensures in
    let there : In c.back.chains.lists 0 c.in-Some.field-0 = (omega (arith, c.back.invariant.len, c.requires), rw parts.1 (Contains-head c.in-Some.field-0 parts.0)) in
    let P : ℕ → Type 0 = λ k. Moves c.back.chains.lists c.shift.new.self.lists c.in-Some.field-0 k in
    let mv = subst P c.code_of.ensures (c.shift.ensures.moves c.in-Some.field-0 parts.0 parts.1) in
    record {
      chained = λ list ch. chained-back (code c.args.l) c.back.chains.lists c.shift.new.self.lists list c.in-Some.field-0 there mv (c.back.invariant.chained list ch);
      lits = ap (λ (x : Chained). x.lits) c.shift.ensures.lists ∙ c.back.invariant.lits;
      len = ap (λ (x : Chained). length x.lists) c.shift.ensures.lists ∙ length-shifted 0 c.code_of.result c.back.chains.lists ∙ c.back.invariant.len;
    }
