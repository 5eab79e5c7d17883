-- The events of a file program with the names that their numbers stand for, and with the state that the setup left.
use Rattle.std.specs.Prelude.{◌≡◌, ◌≢◌, ℕ, ◌+◌, ◌<◌, ◌≤◌, ⊤, Bool, true, false, List, length, Option, Some, is_some, IfSome, slice_get, option_map, All, AllPairs, IsTrue}
use Rattle.std.specs.List.Sorted.{IsNonDecreasingBy}
use Rattle.text_scan.specs.Forms.{is_word, is_component}
use Rattle.litmus_syntax.specs.Forms.{is_formed_path}
use Rattle.fer_events.specs.declared.event.Event.{Event}
use Rattle.fer_events.specs.declared.event.Kind.{Kind}
use Rattle.fer_events.specs.declared.event.Kind.TheVariants.{Write, Extend, Trunc, Attr, Link, Unlink, Fsync, FsyncDir, Sync, Mark}
use Rattle.fer_events.specs.declared.event.Effect.{Effect}
use Rattle.fer_events.specs.declared.event.Effect.TheVariants.{Bytes, Grow, Cut, SetAttr, PutName, ClearName, See, Nothing}
use Rattle.fer_events.specs.declared.tables.AttrValue.{AttrValue}
use Rattle.fer_events.specs.declared.tables.SlotName.{SlotName}

-- what the setup left: the file that each slot holds, each file's content, and the attributes that files have
pub record Initial : Type 0 where
  pub slots : List (Option ℕ)
  pub contents : List (List ℕ)
  pub attrs : List AttrValue

-- the events in program order; `dirs` has the path of each directory, `slots` each name in a directory
pub record Trace : Type 0 where
  pub start : Initial
  pub events : List Event
  pub dirs : List (List (List ℕ))
  pub slots : List SlotName
  pub keys : List (List ℕ)
  pub words : List (List ℕ)

-- how many files there are
abbrev pub file_count : Trace → ℕ
file_count t = length t.start.contents

-- which of a file, a block, a directory and a slot an event carries
pub record Carried : Type 0 where
  pub file : Bool
  pub block : Bool
  pub dir : Bool
  pub slot : Bool

abbrev pub carried_by : Kind → Carried
carried_by Write = record { file = true; block = true; dir = false; slot = false }
carried_by Extend = record { file = true; block = true; dir = false; slot = false }
carried_by Trunc = record { file = true; block = false; dir = false; slot = false }
carried_by Attr = record { file = true; block = false; dir = false; slot = false }
carried_by Link = record { file = true; block = false; dir = true; slot = true }
carried_by Unlink = record { file = true; block = false; dir = true; slot = true }
carried_by Fsync = record { file = true; block = false; dir = false; slot = false }
carried_by FsyncDir = record { file = false; block = false; dir = true; slot = false }
carried_by Sync = record { file = false; block = false; dir = false; slot = false }
carried_by Mark = record { file = false; block = false; dir = false; slot = false }

-- an event of the kind has this effect; a file ends at byte 65,536
abbrev pub HasEffect : Trace → Kind → Effect → Type 0
HasEffect t Write (Bytes at text) = at + length text ≤ 65536
HasEffect t Extend (Grow at text size) = (at + length text ≡ size) × (size ≤ 65536)
HasEffect t Trunc (Cut size) = size ≤ 65536
HasEffect t Attr (SetAttr key value) = key < length t.keys
HasEffect t Link PutName = ⊤
HasEffect t Unlink ClearName = ⊤
HasEffect t Fsync Nothing = ⊤
HasEffect t FsyncDir Nothing = ⊤
HasEffect t Sync Nothing = ⊤
HasEffect t Mark (See word) = word < length t.words
HasEffect t kind effect = ⊥

-- the event carries what its kind carries, its numbers name things that are there, and its effect is one of its kind
pub record IsEventOf (t : Trace) (e : Event) : Type 0 where
  pub carries : record { file = is_some e.file; block = is_some e.block; dir = is_some e.dir; slot = is_some e.slot } ≡ carried_by e.kind
  pub file_there : IfSome e.file (λ f. f < file_count t)
  pub dir_there : IfSome e.dir (λ d. d < length t.dirs)
  pub slot_there : IfSome e.slot (λ s. option_map (λ n. Some n.dir) (slice_get t.slots s) ≡ Some e.dir)
  pub effect : HasEffect t e.kind e.effect

-- the rules of a trace: every number names a thing that is there, names have their forms, nothing is named twice, calls and
-- transactions never fall, and the limits on events, files, directories, names and keys hold
pub record IsTrace (t : Trace) : Type 0 where
  pub slots_held : length t.start.slots ≡ length t.slots
  pub files_there : All (λ held. IfSome held (λ f. f < file_count t)) t.start.slots
  pub contents_fit : All (λ content. length content ≤ 65536) t.start.contents
  pub attrs_there : All (λ a. (a.file < file_count t) × (a.key < length t.keys)) t.start.attrs
  pub attrs_once : AllPairs (λ a b. a.file ≡ b.file → a.key ≢ b.key) t.start.attrs
  pub dirs_there : All (λ s. s.dir < length t.dirs) t.slots
  pub dirs_formed : All (λ dir. IsTrue (is_formed_path dir)) t.dirs
  pub slots_formed : All (λ s. IsTrue (is_component s.name)) t.slots
  pub keys_formed : All (λ key. IsTrue (is_word key)) t.keys
  pub words_formed : All (λ word. IsTrue (is_word word)) t.words
  pub dirs_once : AllPairs (λ a b. a ≢ b) t.dirs
  pub slots_once : AllPairs (λ a b. a ≢ b) t.slots
  pub keys_once : AllPairs (λ a b. a ≢ b) t.keys
  pub words_once : AllPairs (λ a b. a ≢ b) t.words
  pub events_fit : All (IsEventOf t) t.events
  pub calls_rise : IsNonDecreasingBy (λ e. e.call) t.events
  pub txns_rise : IsNonDecreasingBy (λ e. e.txn) t.events
  pub few_events : length t.events ≤ 128
  pub few_files : file_count t ≤ 32
  pub few_dirs : length t.dirs ≤ 16
  pub few_slots : length t.slots ≤ 64
  pub few_keys : length t.keys ≤ 16
  pub few_words : length t.words ≤ 128
