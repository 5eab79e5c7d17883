-- One meaning of calls: the files that the calls of a test leave are what their events leave, one after another.
use Rattle.std.specs.Prelude.{◌≡◌, ◌-◌, true, List, ◌++◌, length, map, replicate, None, Ok}
use Rattle.std.specs.List.{range_with_len}
use Rattle.litmus_syntax.specs.Test.{Test}
use Rattle.litmus_syntax.specs.Sites.{with_sites}
use Rattle.litmus_syntax.specs.declared.site.Site.{Site}
use Rattle.fer_events.specs.Tables.{Trace, file_count}
use Rattle.fer_events.specs.States.{State, padded, value_set}
use Rattle.call_events.specs.declared.files.Files.{Files}
use Rattle.call_events.specs.declared.files.Progress.{Progress}
use Rattle.call_events.specs.Found.{no_files}
use Rattle.call_events.specs.Running.{run_setup, run_body, begun}
use Rattle.call_events.specs.Resolved.{sizes_of}

-- the setup of a test leaves `setup`, and its body with the sites these files
pub record Leaves (litmus : Test) (sites : List Site) (files : Files) : Type 0 where
  pub setup : Files
  pub begins : run_setup no_files litmus.setup ≡ Ok setup
  pub behind : Progress
  pub ends : run_body (sizes_of litmus) 1 (begun setup) (with_sites 1 litmus.body sites) ≡ Ok behind
  pub left : behind.files ≡ files

-- the state of a disk with these files, among the names of a trace: a name that no call uses holds nothing, and every word
-- was seen
abbrev pub state_of : Trace → Files → State
state_of t s = record {
  slots = s.held ++ replicate (length t.slots - length s.held) None;
  sizes = map (λ content. length content) s.contents;
  bytes = map padded s.contents;
  attrs = map (λ key. map (λ file. value_set s.attrs file key) (range_with_len 0 (file_count t))) (range_with_len 0 (length t.keys));
  seen = replicate (length t.words) true;
}
