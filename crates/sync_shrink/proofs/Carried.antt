-- Needs whose crashes are carried down, one after another.
use Rattle.std.proofs.Common.{add-one, ℕ, zero, suc, ◌+◌, ◌<◌, ◌≤◌, List, [], ◌∷◌, Bool, length, set, arith}
use Rattle.std.specs.Prelude.{All, slice_index_or}
use Rattle.std.proofs.lemmas.List.Elements.{All-nil, All-cons, All-head, All-tail}
use Rattle.fer_events.specs.declared.event.Crash.{Crash}
use Rattle.sync_shrink.specs.declared.walking.Need.{Need}
use Rattle.sync_shrink.specs.Walk.{IsNeed}
use Rattle.sync_shrink.specs.Steps.{IsEarlyNeed, AreCarried}

-- none is carried yet
pub carried-none : (shows : List Bool → Crash → Type 0) (s : List Bool) (needs : List Need) → All (IsEarlyNeed shows (length s) s) needs → AreCarried shows s 0 needs
carried-none shows s [] h = tt
carried-none shows s (need ∷ needs) h =
    (All-head (IsEarlyNeed shows (length s) s) need needs h, carried-none shows s needs (All-tail (IsEarlyNeed shows (length s) s) need needs h))

-- the next one isn't
pub carried-next : (shows : List Bool → Crash → Type 0) (s : List Bool) (place : ℕ) (needs : List Need) (d : Need) → place < length needs
    → AreCarried shows s place needs → IsEarlyNeed shows (length s) s (slice_index_or needs place d)
carried-next shows s place [] d l h = absurd (omega arith)
carried-next shows s zero (need ∷ needs) d l h = h.0
carried-next shows s (suc place) (need ∷ needs) d l h = carried-next shows s place needs d (omega arith) h.1

-- it is carried
carry : (shows : List Bool → Crash → Type 0) (s : List Bool) (place : ℕ) (needs : List Need) (new : Need)
    → AreCarried shows s place needs → IsNeed shows s new → AreCarried shows s (suc place) (set needs place new)
carry shows s place [] new h i = tt
carry shows s zero (need ∷ needs) new h i = (i, h.1)
carry shows s (suc place) (need ∷ needs) new h i = (h.0, carry shows s place needs new h.1 i)

pub carried-more : (shows : List Bool → Crash → Type 0) (s : List Bool) (place : ℕ) (needs : List Need) (new : Need)
    → AreCarried shows s place needs → IsNeed shows s new → AreCarried shows s (place + 1) (set needs place new)
carried-more shows s place needs new h i = rw add-one (carry shows s place needs new h i)

-- all are
pub carried-all : (shows : List Bool → Crash → Type 0) (s : List Bool) (place : ℕ) (needs : List Need) → length needs ≤ place
    → AreCarried shows s place needs → All (IsNeed shows s) needs
carried-all shows s place [] l h = All-nil (IsNeed shows s)
carried-all shows s zero (need ∷ needs) l h = absurd (omega arith)
carried-all shows s (suc place) (need ∷ needs) l h =
    All-cons (IsNeed shows s) need needs h.0 (carried-all shows s place needs (omega arith) h.1)
