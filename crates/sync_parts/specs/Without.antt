-- Private: when a list of events is another without some syncs, and what this says of their crashes.
use Rattle.std.specs.Prelude.{◌≡◌, ◌↔◌, ℕ, ◌<◌, ◌≤◌, ◌==◌, Bool, false, not, if◌then◌else◌, List, ◌++◌, length, map, filter, slice_index, All, AllPairs, Contains}
use Rattle.litmus_syntax.specs.declared.site.Site.{Site}
use Rattle.litmus_syntax.specs.declared.call.Step.{Step}
use Rattle.fer_events.specs.declared.event.Event.{Event}
use Rattle.fer_events.specs.declared.event.Effect.TheVariants.{Nothing}
use Rattle.fer_events.specs.declared.event.Crash.{Crash}
use Rattle.fer_events.specs.Orders.{numbers, IsEvent, SameTransaction}
use Rattle.fer_events.specs.Lifting.{lifted}
use Rattle.sync_parts.specs.Parts.{stays, lowered}
use Rattle.sync_parts.specs.Sites.{calls_present, call_stays, places_from}

abbrev pub is_left_out : List ℕ → ℕ → Bool
is_left_out places x = not (stays places x)

-- a crash of those that stay as one of all n events: those that were left out stand behind all others
abbrev pub crash_among : List ℕ → ℕ → Crash → Crash
crash_among places n crash = record { order = map (lifted places) crash.order ++ filter (is_left_out places) (numbers n); cut = crash.cut }

-- the same event, but for the numbers of its call and of its transaction
abbrev pub IsRenumbered : Event → Event → Type 0
IsRenumbered e f = record e { call = f.call; txn = f.txn } ≡ f

-- `small` is `large` without some syncs, and `places` has the numbers of the events that stay. The events of one
-- transaction stay of one, and what is left out does nothing and is a transaction by itself
pub record IsWithout (places : List ℕ) (large small : List Event) : Type 0 where
  pub ascending : AllPairs (λ x y. x < y) places
  pub within : All (λ x. (0 < x) × (x ≤ length large)) places
  pub each : length small ≡ length places
  pub alike : (a : ℕ) (e f : Event) → IsEvent small a e → IsEvent large (lifted places a) f → IsRenumbered e f
  pub together : (a b : ℕ) → 0 < a → 0 < b → SameTransaction small a b ↔ SameTransaction large (lifted places a) (lifted places b)
  pub idle : (x : ℕ) (f : Event) → IsEvent large x f → stays places x ≡ false → f.effect ≡ Nothing
  pub alone : (x y : ℕ) → SameTransaction large x y → stays places x ≡ false → x ≡ y

-- the pairs are pairs of the numbers from 1 to n
abbrev pub ArePairsOf : ℕ → List (ℕ × ℕ) → Type 0
ArePairsOf n pairs = (a b : ℕ) → Contains pairs (a, b) → (0 < a) × (a ≤ n) × (0 < b) × (b ≤ n)

-- what the small list keeps the large one keeps too
abbrev pub KeepsAll : List ℕ → List (ℕ × ℕ) → List (ℕ × ℕ) → Type 0
KeepsAll places kept_small kept_large = (a b : ℕ) → Contains kept_small (a, b) → Contains kept_large (lifted places a, lifted places b)

-- a and b are numbers of events of one call
abbrev pub SameCall : List Event → ℕ → ℕ → Type 0
SameCall events a b = (e : Event) × (f : Event) × IsEvent events a e × IsEvent events b f × (e.call ≡ f.call)

-- the events of one call stay of one
abbrev pub KeepsCalls : List ℕ → List Event → List Event → Type 0
KeepsCalls places large small = (a b : ℕ) → 0 < a → 0 < b → SameCall small a b ↔ SameCall large (lifted places a) (lifted places b)

-- the number of an event among those that stay, 0 for one that is left out
abbrev pub new_number : List ℕ → ℕ → ℕ
new_number places x = if stays places x then lowered places x else 0

-- an order by a table of new numbers, in which those that are left out have 0
abbrev pub renumbered : List ℕ → List ℕ → List ℕ
renumbered numbers order = filter (λ x. not (x == 0)) (map (slice_index numbers) order)

-- the events of a test with all sites that stay where only those of `from` are present
abbrev pub events_present : List Step → List Site → List Bool → List Event → List Event
events_present body sites from events = filter (λ e. call_stays (calls_present 1 body sites from) e.call) events

-- the places, among the events with the sites of `from`, of those with the sites of `to`
abbrev pub places_between : List Step → List Site → List Bool → List Bool → List Event → List ℕ
places_between body sites from to events = places_from 1 (call_stays (calls_present 1 body sites to)) (events_present body sites from events)
