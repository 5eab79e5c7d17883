-- The sites of a litmus test: the syncs that a repair may put behind the calls of its body.
use Rattle.std.specs.Prelude.{◌≡◌, ℕ, ◌+◌, ◌<◌, ◌≤◌, Bool, false, ◌&&◌, ◌==◌, nat_le, if◌then◌else◌, List, [], ◌∷◌, ◌++◌, length, map, filter, take, fold, Option, Some, None, slice_get, slice_index_or}
use Rattle.std.specs.List.{flat_map, list_any, range_with_len}
use Rattle.std.specs.Cmp.Lexicographic.{slice_cmp}
use Rattle.std.specs.Ordering.{nat_cmp, is_lt}
use Rattle.litmus_syntax.specs.declared.call.Call.{Call}
use Rattle.litmus_syntax.specs.declared.call.Call.TheVariants as call
use Rattle.litmus_syntax.specs.declared.call.Step.{Step}
use Rattle.litmus_syntax.specs.declared.site.Site.{Site}
use Rattle.litmus_syntax.specs.declared.site.SiteKind.{SiteKind}
use Rattle.litmus_syntax.specs.declared.site.SiteKind.TheVariants.{Fsync, Sync, All}
use Rattle.litmus_syntax.specs.Texts.{path_text}
use Rattle.litmus_syntax.specs.Transactions.{calls_of, is_open}
use Rattle.fer_events.specs.declared.event.Event.{Event}
use Rattle.fer_events.specs.declared.tables.SlotName.{SlotName}
use Rattle.fer_events.specs.Truth.{item_at}
use Rattle.fer_events.specs.Orders.{numbers}
use Rattle.fer_events.specs.Paths.{slot_path}
use Rattle.fer_events.specs.Tables.{Trace, file_count}
use Rattle.fer_events.specs.States.{start_state, after_event}

-- the events of the first k calls
abbrev pub events_upto : ℕ → Trace → List Event
events_upto k t = filter (λ e. nat_le e.call k) t.events

-- the file that each slot holds behind the first k calls, all their events being on the disk in program order
abbrev pub held_behind : ℕ → Trace → List (Option ℕ)
held_behind k t = (fold after_event (start_state t) (events_upto k t)).slots

-- there is a number, and it is this one
abbrev pub is_number : Option ℕ → ℕ → Bool
is_number None b = false
is_number (Some a) b = a == b

-- an event of the first k calls carries the file, or the directory
abbrev pub touches_file : ℕ → Trace → ℕ → Bool
touches_file k t file = list_any (λ e. nat_le e.call k && is_number e.file file) t.events

abbrev pub touches_dir : ℕ → Trace → ℕ → Bool
touches_dir k t dir = list_any (λ e. nat_le e.call k && is_number e.dir dir) t.events

-- the slots that hold a file
abbrev pub names_of : List (Option ℕ) → ℕ → List ℕ
names_of held file = filter (λ slot. is_number (slice_index_or held slot None) file) (range_with_len 0 (length held))

-- the text of each slot's path
abbrev pub name_texts : Trace → List (List ℕ)
name_texts t = map (λ slot. path_text (slot_path t.dirs slot)) t.slots

-- the one slot's path has the lesser text, byte by byte
abbrev pub is_lesser : List (List ℕ) → ℕ → ℕ → Bool
is_lesser texts a b = is_lt (slice_cmp nat_cmp (slice_index_or texts a []) (slice_index_or texts b []))

-- the lesser of a slot and the least of others
abbrev pub lesser : List (List ℕ) → Option ℕ → ℕ → Option ℕ
lesser texts None slot = Some slot
lesser texts (Some least) slot = Some (if is_lesser texts slot least then slot else least)

-- the slot among these whose path has the least text
abbrev pub least : List (List ℕ) → List ℕ → Option ℕ
least texts slots = fold (lesser texts) None slots

-- the sync of a file by the name that a slot is
abbrev pub sync_by : Trace → Option SlotName → List Call
sync_by t None = []
sync_by t (Some name) = call.Fsync (slot_path t.dirs name) ∷ []

-- the sync of a file behind the first k calls: by its least path, if these calls touched it and it has a name then
abbrev pub file_sync : ℕ → Trace → ℕ → List Call
file_sync k t file = if touches_file k t file then sync_by t (item_at t.slots (least (name_texts t) (names_of (held_behind k t) file))) else []

-- the sync of a directory, if the first k calls touched it
abbrev pub dir_sync : ℕ → Trace → ℕ → List Call
dir_sync k t dir = if touches_dir k t dir then call.FsyncDir (slice_index_or t.dirs dir []) ∷ [] else []

-- the syncs of files, then those of directories, each in the order of their numbers
abbrev pub single_syncs : ℕ → Trace → List Call
single_syncs k t = flat_map (file_sync k t) (range_with_len 0 (file_count t)) ++ flat_map (dir_sync k t) (range_with_len 0 (length t.dirs))

-- the syncs of a kind behind the first k calls
abbrev pub syncs_behind : SiteKind → ℕ → Trace → List Call
syncs_behind Fsync k t = single_syncs k t
syncs_behind Sync k t = call.Sync ∷ []
syncs_behind All k t = single_syncs k t ++ call.Sync ∷ []

-- the sites behind call k: none where a transaction is open
abbrev pub sites_behind : SiteKind → List Step → Trace → ℕ → List Site
sites_behind kind body t k = if is_open (take k (calls_of body)) then [] else map (λ call. record { after = k; call = call }) (syncs_behind kind k t)

-- the sites behind the first k calls
abbrev pub sites_upto : SiteKind → List Step → Trace → ℕ → List Site
sites_upto kind body t k = flat_map (sites_behind kind body t) (numbers k)

-- the sites of a body
abbrev pub sites_of : SiteKind → List Step → Trace → List Site
sites_of kind body t = sites_upto kind body t (length body)

-- with the sites behind the first k calls there are so many events
abbrev pub events_with_sites : SiteKind → List Step → Trace → ℕ → ℕ
events_with_sites kind body t k = length t.events + length (sites_upto kind body t k)

-- with the sites there are more than 128 events: this first holds behind the call in this line
pub record AreTooMany (kind : SiteKind) (body : List Step) (t : Trace) (line : ℕ) : Type 0 where
  pub before : ℕ
  pub step : Step
  pub there : slice_get body before ≡ Some step
  pub at : step.line ≡ line
  pub over : 128 < events_with_sites kind body t (before + 1)
  pub first : (k : ℕ) → k ≤ before → events_with_sites kind body t k ≤ 128
