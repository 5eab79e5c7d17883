use Rattle.std.proofs.Common.{◌≡◌, ℕ, ◌≤◌, take}
use Rattle.litmus_syntax.specs.Transactions.{calls_of, is_open}
use Rattle.sync_sites.specs.SiteLists.{sites_upto, events_with_sites}
use Rattle.sync_sites.proofs.listing.list_sites.Given as goal

abbrev pub invariant-loop-place : goal.invariant-loop-place
invariant-loop-place l = record {
  sites : l.sites ≡ sites_upto l.kind l.body l.events l.place;
  inside : l.inside ≡ is_open (take l.place (calls_of l.body));
  first : (k : ℕ) → k ≤ l.place → events_with_sites l.kind l.body l.events k ≤ 128;
}
