-- A list of events of which some are left out: under which numbers the others stay, and what becomes of a crash. `places`
-- has, for each event that stays, its number among all, ascending.
use Rattle.std.specs.Prelude.{ℕ, Bool, ◌==◌, nat_le, List, map, filter, count_by}
use Rattle.std.specs.List.{list_any}
use Rattle.fer_events.specs.declared.event.Crash.{Crash}
use Rattle.fer_events.specs.Orders.{before_cut}

-- the event of this number stays
abbrev pub stays : List ℕ → ℕ → Bool
stays places x = list_any (λ place. place == x) places

-- its number among those that stay: how many of them stand up to it
abbrev pub lowered : List ℕ → ℕ → ℕ
lowered places x = count_by (λ place. nat_le place x) places

-- an order without the events that are left out, the others numbered anew
abbrev pub without : List ℕ → List ℕ → List ℕ
without places order = map (lowered places) (filter (stays places) order)

-- a crash without the events that are left out: of the others the same stand before the cut
abbrev pub crash_without : List ℕ → Crash → Crash
crash_without places crash = record { order = without places crash.order; cut = count_by (stays places) (before_cut crash) }
