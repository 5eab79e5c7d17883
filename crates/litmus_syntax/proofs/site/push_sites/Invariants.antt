use Rattle.std.proofs.Common.{◌≡◌, ◌++◌, take}
use Rattle.litmus_syntax.specs.Sites.{inserted_at}
use Rattle.litmus_syntax.proofs.site.push_sites.Given as goal

abbrev pub invariant-loop-site : goal.invariant-loop-site
invariant-loop-site l = l.body ≡ l.initial.body ++ inserted_at l.number l.line (take l.site-index l.sites)
