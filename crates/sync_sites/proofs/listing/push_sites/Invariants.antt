use Rattle.std.proofs.Common.{◌≡◌, ◌++◌, map}
use Rattle.sync_sites.proofs.listing.push_sites.Given as goal

abbrev pub invariant-loop-call : goal.invariant-loop-call
invariant-loop-call l = l.sites ≡ l.initial.sites ++ map (λ call. record { after = l.after; call = call }) l.yielded
