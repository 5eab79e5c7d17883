use Rattle.sync_repair.proofs.Walks.{fresh-ready}
use Rattle.sync_repair.proofs.repairing.repair.Goals as goal

pub walk-requires : goal.walk-requires
walk-requires c = λ d. record {
  ready =
      fresh-ready (record { litmus = d.args.litmus.now; model = d.args.model.now; sites = d.args.sites.now; all = d.args.events.now }) d.new-case.result
      d.in_ok-series.series d.args.limit d.pred.result.now d.want.result
      (record { syncs = d.requires.syncs; outside = d.requires.outside; in_order = d.requires.in_order; resolved = d.requires.resolved })
      d.new-case.ensures d.pred.ensures d.want.ensures d.in_ok-series.ensures.about;
}
