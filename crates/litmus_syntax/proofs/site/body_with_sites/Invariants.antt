use Rattle.std.proofs.Common.{◌≡◌, ◌+◌, ◌++◌, drop}
use Rattle.litmus_syntax.specs.Sites.{with_sites}
use Rattle.litmus_syntax.proofs.site.body_with_sites.Given as goal

abbrev pub invariant-loop-place : goal.invariant-loop-place
invariant-loop-place l = l.steps ++ with_sites (l.place + 1) (drop l.place l.body) l.sites ≡ with_sites 1 l.body l.sites
