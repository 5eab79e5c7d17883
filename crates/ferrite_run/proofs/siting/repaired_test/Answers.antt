use Rattle.std.proofs.Common.{List, ◌∙◌, sym, subst}
use Rattle.litmus_syntax.specs.declared.site.Site.{Site}
use Rattle.litmus_syntax.specs.Sites.{AreSyncs, StandOutside}
use Rattle.sync_repair.proofs.Kepts.{some-syncs, some-outside}
use Rattle.ferrite_run.proofs.siting.repaired_test.Goals as goal

pub insert-requires-clause-syncs : goal.insert-requires-clause-syncs
insert-requires-clause-syncs c = some-syncs c.args.sites.now c.as_slice.result.now c.args.set.now (c.as_slice.ensures ∙ c.in_ok-present.ensures) c.requires.syncs

pub insert-requires-clause-outside : goal.insert-requires-clause-outside
insert-requires-clause-outside c = some-outside c.args.litmus.now c.args.sites.now c.as_slice.result.now c.args.set.now (c.as_slice.ensures ∙ c.in_ok-present.ensures) c.requires.outside
