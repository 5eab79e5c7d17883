-- Private: the limits that hold for the files of every run.
use Rattle.std.specs.Prelude.{◌≡◌, false, ⊤, ◌+◌, ◌<◌, ◌≤◌, length, All, IfSome}
use Rattle.litmus_syntax.specs.declared.call.Call.{Call}
use Rattle.litmus_syntax.specs.declared.call.Call.TheVariants.{Mkdir, Create, Write, Append, Truncate}
use Rattle.call_events.specs.declared.files.Files.{Files}
use Rattle.call_events.specs.declared.making.Sizes.{Sizes}
use Rattle.call_events.specs.Found.{is_dir, file_of, size_of}

-- how many directories, names, files, keys and words there are, how long a file is, and that names hold files
pub record IsSmall (s : Files) : Type 0 where
  pub dirs : length s.dirs ≤ 16
  pub slots : length s.slots ≤ 64
  pub held : length s.held ≡ length s.slots
  pub files : length s.contents ≤ 32
  pub files_there : All (λ held. IfSome held (λ f. f < length s.contents)) s.held
  pub contents : All (λ content. length content ≤ 65536) s.contents
  pub keys : length s.keys ≤ 16
  pub words : length s.words ≤ 128

-- blocks and sectors have bytes, at most 65,536
abbrev pub IsCutting : Sizes → Type 0
IsCutting sizes = (0 < sizes.block) × (sizes.block ≤ 65536) × (0 < sizes.sector) × (sizes.sector ≤ 65536)

-- the files can take what a call makes: there is room for its directory and its file, the directory is a new one, and what
-- it writes ends at byte 65,536 at most
abbrev pub CanTake : Files → Call → Type 0
CanTake s (Mkdir path) = (length s.dirs < 16) × (is_dir s path ≡ false)
CanTake s (Create path) = 0 < length s.contents
CanTake s (Write path at text) = at + length text ≤ 65536
CanTake s (Append path text) = size_of s (file_of s path) + length text ≤ 65536
CanTake s (Truncate path size) = size ≤ 65536
CanTake s call = ⊤
