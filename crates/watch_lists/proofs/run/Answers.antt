use Rattle.std.proofs.Common.{◌≡◌, ℕ, ◌+◌, ◌<◌, Some, slice_get, refl, sym, ap, subst, ◌∙◌, arith, length}
use Rattle.trail_core.specs.Course.{Course}
use Rattle.watch_lists.specs.Watching.{UnseenArePresent}
use Rattle.watch_lists.specs.Propagated.{Advances}
use Rattle.watch_lists.specs.Going.{IsPrepared, AreAnswered, watches_of}
use Rattle.clause_store.specs.declared.Lit.{Lit}
use Rattle.clause_store.specs.Clauses.{negated}
use Rattle.std.proofs.lemmas.Option.{slice_get_within}
use Rattle.watch_lists.proofs.Arms.{advances-none}
use Rattle.watch_lists.proofs.Rounds.{Advances-trans}
use Rattle.watch_lists.proofs.Closing.{next-fails, unseen-grown, grown-get, ready-seen, unseen-seen}
use Rattle.watch_lists.proofs.run.Goals as goal
use Rattle.watch_lists.proofs.run.Goals.{After-follow}

pub round-init : goal.round-init
round-init c = record {
  ready = c.requires.ready;
  unseen = c.requires.unseen;
  advances = advances-none c.args.store.now.clauses c.args.ids.now c.args.trail.now;
}

pub follow-requires-clause-false_lit : goal.follow-requires-clause-false_lit
follow-requires-clause-false_lit c =
    let n = c.in-Some.ensures.next in
    next-fails c.round.trail.entries n.0 c.round.trail.seen c.in-Some.l n.1 n.2

pub returns-in-Some-follow-clause-unseen : goal.returns-in-Some-follow-clause-unseen
returns-in-Some-follow-clause-unseen c =
    unseen-grown c.args.store.now.clauses c.args.ids.now c.round.trail c.follow.new.trail c.follow.ensures.advances c.follow.ensures.seen c.round.invariant.ready.ready.course.seen_in c.round.invariant.unseen

pub returns-in-Some-follow-clause-advances : goal.returns-in-Some-follow-clause-advances
returns-in-Some-follow-clause-advances c =
    Advances-trans c.args.store.now.clauses c.args.ids.now c.args.ids.now c.args.trail.now c.round.trail c.follow.new.trail refl c.round.invariant.advances c.follow.ensures.advances

-- the entry that is seen, in the trail that has grown
still-there : (c : After-follow) → slice_get c.follow.new.trail.entries c.follow.new.trail.seen ≡ Some c.in-Some.ensures.next.0
still-there c =
    let n = c.in-Some.ensures.next in
    let P : ℕ → Type 0 = λ k. slice_get c.follow.new.trail.entries k ≡ Some n.0 in
    subst P (sym c.follow.ensures.seen)
    (grown-get c.args.store.now.clauses c.args.ids.now c.round.trail.level c.round.trail.entries c.follow.new.trail.entries c.round.trail.seen n.0 c.follow.ensures.advances.grows n.1)

still-unseen : (c : After-follow) → UnseenArePresent c.follow.new.trail
still-unseen c =
    unseen-grown c.args.store.now.clauses c.args.ids.now c.round.trail c.follow.new.trail c.follow.ensures.advances c.follow.ensures.seen c.round.invariant.ready.ready.course.seen_in c.round.invariant.unseen

pub see-requires : goal.see-requires
see-requires c =
    slice_get_within c.follow.new.trail.entries c.follow.new.trail.seen c.in-Some.ensures.next.0 (still-there (goal.at.see-requires c).After-follow)

pub round-smaller : goal.round-smaller
round-smaller c =
    let n = c.in-Some.ensures.next in
    let within : c.round.trail.seen < length c.round.trail.entries = slice_get_within c.round.trail.entries c.round.trail.seen n.0 n.1 in
    let vars : c.see.new.self.vars ≡ c.round.trail.vars = ap (λ (t : Course). t.vars) c.see.ensures ∙ c.follow.ensures.advances.vars in
    let seen : c.see.new.self.seen ≡ c.round.trail.seen + 1 = ap (λ (t : Course). t.seen) c.see.ensures ∙ ap (λ (k : ℕ). k + 1) c.follow.ensures.seen in
    omega (arith, within, vars, seen, c.in-Some.ensures.short)

pub round-preserved : goal.round-preserved
round-preserved c =
    let b = (goal.at.round-preserved c).After-follow in
    let n = c.in-Some.ensures.next in
    let t = c.follow.new.trail in
    let answered : AreAnswered t.entries (watches_of c.args.ids.now c.follow.new.chains.lits) (negated n.0.lit) = (let P : Lit → Type 0 = λ l. AreAnswered t.entries (watches_of c.args.ids.now c.follow.new.chains.lits) l in subst P n.2 c.in_default.ensures.answered) in
    let R : Course → Type 0 = λ u. IsPrepared c.args.store.now.clauses u c.args.ids.now c.follow.new.chains in
    let A : Course → Type 0 = λ u. Advances c.args.store.now.clauses c.args.ids.now c.args.trail.now u in
    let advances = Advances-trans c.args.store.now.clauses c.args.ids.now c.args.ids.now c.args.trail.now c.round.trail t refl c.round.invariant.advances c.follow.ensures.advances in
    record {
      ready = subst R (sym c.see.ensures) (record { pairs = c.follow.ensures.ready.pairs; ready = ready-seen c.args.store.now.clauses t (watches_of c.args.ids.now c.follow.new.chains.lits) c.follow.new.chains.lists c.follow.ensures.ready.ready (still-unseen b) n.0 (still-there b) answered });
      unseen = subst UnseenArePresent (sym c.see.ensures) (unseen-seen c.args.store.now.clauses t (watches_of c.args.ids.now c.follow.new.chains.lits) c.follow.new.chains.lists c.follow.ensures.ready.ready (still-unseen b) n.0 (still-there b) answered);
      advances = subst A (sym c.see.ensures) (record { vars = advances.vars; level = advances.level; grows = advances.grows });
    }
