use Rattle.std.proofs.Common.{ap, sym, ◌∙◌, subst, inl, inr}
use Rattle.clause_store.specs.declared.Lit.{Lit}
use Rattle.trail_core.specs.Course.{HasNoValue, decided}
use Rattle.trail_core.proofs.GeneralTrails.{one-of-three}
use Rattle.rup_checker.proofs.GeneralTrials.{follows-conflict, follows-implied, beside-negation, sound-decided, denials-spread, fails-spread}
use Rattle.rup_checker.proofs.trials.deny.Goals as goal

pub decide-requires-clause-free : goal.decide-requires-clause-free
decide-requires-clause-free c = (let P : Lit → Type 0 = λ l. HasNoValue c.args.trail.now.entries l.var in subst P (sym c.negated.ensures) c.if-is_open.ensures)

pub spread-requires : goal.spread-requires
spread-requires c =
    sound-decided c.args.store.now c.args.watches.now c.args.trail.now c.decide.new.self c.args.lit c.requires.trying.sound c.requires.trying.seen c.requires.there c.if-is_open.ensures
    (c.decide.ensures ∙ ap (λ l. decided c.args.trail.now l) c.negated.ensures)

pub returns-in-Some-clause-ended : goal.returns-in-Some-clause-ended
returns-in-Some-clause-ended c =
    follows-conflict c.args.store.now.clauses c.spread.new.trail.entries c.args.clause.now c.in-Some.id c.spread.ensures.sound.search.reasons
    (denials-spread c.args.trail.now c.decide.new.self c.spread.new.trail c.args.clause.now c.args.lit c.requires.trying.denials c.requires.has
    (c.decide.ensures ∙ ap (λ l. decided c.args.trail.now l) c.negated.ensures) c.spread.ensures.spreads)
    c.in-Some.ensures.conflict

pub returns-in-None-clause-on : goal.returns-in-None-clause-on
returns-in-None-clause-on c = record {
  sound = c.spread.ensures.sound;
  seen = c.in-None.ensures.seen;
  denials = denials-spread c.args.trail.now c.decide.new.self c.spread.new.trail c.args.clause.now c.args.lit c.requires.trying.denials c.requires.has
      (c.decide.ensures ∙ ap (λ l. decided c.args.trail.now l) c.negated.ensures) c.spread.ensures.spreads;
}

pub returns-in-None-clause-fails : goal.returns-in-None-clause-fails
returns-in-None-clause-fails c =
    fails-spread c.args.trail.now c.decide.new.self c.spread.new.trail c.args.lit (c.decide.ensures ∙ ap (λ l. decided c.args.trail.now l) c.negated.ensures) c.spread.ensures.spreads

pub returns-then-not-holds-clause-fails : goal.returns-then-not-holds-clause-fails
returns-then-not-holds-clause-fails c = elim (one-of-three c.args.trail.now.entries c.args.lit) [
  | inl t ↦ absurd (c.if-not-holds.ensures t)
  | inr (inl f) ↦ f
  | inr (inr free) ↦ absurd (c.if-is_open.ensures free)
]

pub returns-in-Some-reason_of-clause-ended : goal.returns-in-Some-reason_of-clause-ended
returns-in-Some-reason_of-clause-ended c =
    let h = c.if-not-holds.ensures in
    follows-implied c.args.store.now.clauses c.args.trail.now.entries c.args.clause.now c.args.lit c.in-Some-reason_of.id c.requires.trying.sound.search.reasons c.requires.trying.denials c.requires.has
    h (sym (c.reason_of.ensures h.0 h.1 (ap (λ (l : Lit). l.var) h.2)) ∙ c.in-Some-reason_of.is)

pub returns-in-None-reason_of-clause-ended : goal.returns-in-None-reason_of-clause-ended
returns-in-None-reason_of-clause-ended c =
    let h = c.if-not-holds.ensures in
    beside-negation c.args.trail.now.entries c.args.clause.now c.args.lit c.requires.trying.denials c.requires.has
    h (sym (c.reason_of.ensures h.0 h.1 (ap (λ (l : Lit). l.var) h.2)) ∙ c.in-None-reason_of.is)
