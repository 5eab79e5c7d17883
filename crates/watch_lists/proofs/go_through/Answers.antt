use Rattle.std.proofs.Common.{[], get_or, refl, ◌∙◌}
use Rattle.watch_lists.proofs.Arms.{advances-none}
use Rattle.watch_lists.proofs.Rounds.{no-first, Advances-trans}
use Rattle.watch_lists.proofs.go_through.Goals as goal

pub chain-init : goal.chain-init
chain-init c = record {
  going = c.requires;
  advances = advances-none c.args.store.now.clauses c.args.ids.now c.args.trail.now;
  seen = refl;
}

pub returns-in-None-clause-done : goal.returns-in-None-clause-done
returns-in-None-clause-done c = no-first (get_or c.chain.chains.lists 0 []) c.in-None.ensures

pub returns-in-Some-visit-clause-advances : goal.returns-in-Some-visit-clause-advances
returns-in-Some-visit-clause-advances c =
    Advances-trans c.args.store.now.clauses c.args.ids.now c.args.ids.now c.args.trail.now c.chain.trail c.visit.new.trail refl c.chain.invariant.advances c.visit.ensures.advances

pub chain-preserved : goal.chain-preserved
chain-preserved c = record {
  going = c.visit.ensures.going;
  advances = Advances-trans c.args.store.now.clauses c.args.ids.now c.args.ids.now c.args.trail.now c.chain.trail c.visit.new.trail refl c.chain.invariant.advances c.visit.ensures.advances;
  seen = c.visit.ensures.seen ∙ c.chain.invariant.seen;
}
