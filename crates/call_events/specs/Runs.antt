-- Private: what holds of what the accepted calls of a body left, for every run.
use Rattle.std.specs.Prelude.{◌≡◌, ◌≢◌, ◌<◌, ◌≤◌, ◌+◌, ℕ, Bool, true, false, not, [], length, count_by, All, AllPairs, IsTrue, IfSome, Some, slice_get}
use Rattle.text_scan.specs.Forms.{is_word, is_component}
use Rattle.litmus_syntax.specs.Forms.{is_formed_path}
use Rattle.fer_events.specs.declared.event.Event.{Event}
use Rattle.fer_events.specs.declared.tables.SlotName.{SlotName}
use Rattle.call_events.specs.declared.files.Files.{Files}
use Rattle.call_events.specs.declared.files.Progress.{Progress}
use Rattle.call_events.specs.Found.{is_dir}
use Rattle.call_events.specs.Refusals.{is_sync, too_many}
use Rattle.call_events.specs.Resolved.{trace_from}
use Rattle.call_events.specs.Small.{IsSmall}
use Rattle.std.specs.List.Sorted.{IsNonDecreasingBy}
use Rattle.fer_events.specs.Tables.{Trace, IsEventOf}

abbrev pub isnt_sync : Event → Bool
isnt_sync e = not (is_sync e.kind)

-- nothing is named twice, and what slots and attributes number is there
pub record IsConsistent (s : Files) : Type 0 where
  pub attrs_there : All (λ a. (a.file < length s.contents) × (a.key < length s.keys)) s.attrs
  pub attrs_once : AllPairs (λ a b. a.file ≡ b.file → a.key ≢ b.key) s.attrs
  pub dirs_there : All (λ slot. slot.dir < length s.dirs) s.slots
  pub dirs_once : AllPairs (λ a b. a ≢ b) s.dirs
  pub slots_once : AllPairs (λ a b. a ≢ b) s.slots
  pub keys_once : AllPairs (λ a b. a ≢ b) s.keys
  pub words_once : AllPairs (λ a b. a ≢ b) s.words
  pub root : is_dir s [] ≡ true

-- what has a number in `s` has it in `t`
pub record Grows (s t : Files) : Type 0 where
  pub files : length s.contents ≤ length t.contents
  pub dirs : length s.dirs ≤ length t.dirs
  pub keys : length s.keys ≤ length t.keys
  pub words : length s.words ≤ length t.words
  pub count : length s.slots ≤ length t.slots
  pub slots : (k : ℕ) (n : SlotName) → slice_get s.slots k ≡ Some n → slice_get t.slots k ≡ Some n

-- the limits hold, each word was marked by an event, and transactions are numbered from 1 without gaps
pub record IsRun (p : Progress) : Type 0 where
  pub small : IsSmall p.files
  pub within : too_many p.events ≡ false
  pub words : length p.files.words ≤ count_by isnt_sync p.events
  pub txns : All (λ e. e.txn ≤ length p.events) p.events
  pub opened : IfSome p.opened (λ txn. txn ≤ length p.events + 1)

-- the files as a trace without events
abbrev pub now : Files → Trace
now s = trace_from (record { slots = s.held; contents = s.contents; attrs = s.attrs }) s []

-- what is named has the form of names
pub record AreFormed (s : Files) : Type 0 where
  pub dirs : All (λ dir. IsTrue (is_formed_path dir)) s.dirs
  pub slots : All (λ slot. IsTrue (is_component slot.name)) s.slots
  pub keys : All (λ key. IsTrue (is_word key)) s.keys
  pub words : All (λ word. IsTrue (is_word word)) s.words

-- the files have grown from those of the setup, and the events fit them; calls and transactions never fall, and no event
-- is of a later transaction than the open one
pub record IsTraced (setup : Files) (p : Progress) : Type 0 where
  pub whole : IsConsistent p.files
  pub grown : Grows setup p.files
  pub fits : All (IsEventOf (now p.files)) p.events
  pub calls_rise : IsNonDecreasingBy (λ e. e.call) p.events
  pub txns_rise : IsNonDecreasingBy (λ e. e.txn) p.events
  pub opened : IfSome p.opened (λ txn. All (λ e. e.txn ≤ txn) p.events)
  pub formed : AreFormed p.files
