use Rattle.std.proofs.Common.{◌≡◌, ◌<◌, length, None, IfSome}
use Rattle.std.specs.Prelude.{filter, slice_index_or}
use Rattle.std.specs.List.{range_with_len}
use Rattle.sync_sites.specs.SiteLists.{is_number, least}
use Rattle.sync_sites.proofs.names.least_name.Given as goal

abbrev pub invariant-loop-slot : goal.invariant-loop-slot
invariant-loop-slot l = record {
  least : l.least ≡ least l.texts (filter (λ slot. is_number (slice_index_or l.held slot None) l.file) (range_with_len 0 l.slot));
  there : IfSome l.least (λ s. s < length l.texts);
}
