-- When a call on a library or a sink may answer what, by what it holds and by its count of faults.
use Rattle.std.specs.Prelude.{◌≡◌, ◌≢◌, ℕ, ◌+◌, ◌-◌, ◌^◌, ◌≤◌, min, List, ◌++◌, Option, Some, None, IfSome, option_map, ⊤}
use Rattle.fer_outside.specs.Held.{Held, held_under, with_held, HoldsMore}

-- a count of faults after one more fault: it stands still at the end of its type, an unsigned number of 64 bits
abbrev pub one_more : ℕ → ℕ
one_more count = min (count + 1) (2 ^ 64 - 1)

-- a count of faults rose, or stands at the end of its type
abbrev pub Rose : ℕ → ℕ → Type 0
Rose before now = one_more before ≤ now

-- nothing is held under the name; where it isn't told what is held, the count of faults rose
abbrev pub IsMissing : Option Held → List ℕ → Type 0 → Type 0
IsMissing None name rose = rose
IsMissing (Some held) name rose = held_under held name ≡ None

-- more bytes than the limit are held under the name, where it is told what is held
abbrev pub IsTooLong : Option Held → List ℕ → ℕ → Type 0
IsTooLong told name limit = IfSome told (λ held. HoldsMore held name limit)

-- exactly these bytes are held under the name, where it is told what is held
abbrev pub IsHeld : Option Held → List ℕ → List ℕ → Type 0
IsHeld told name bytes = IfSome told (λ held. held_under held name ≡ Some bytes)

-- what was written grew by these bytes, where it is told what was written
abbrev pub Grew : Option (List ℕ) → Option (List ℕ) → List ℕ → Type 0
Grew before now bytes = now ≡ option_map (λ written. written ++ bytes) before

-- the name came to hold exactly these bytes, and all other names hold what they held, where it is told what is held
abbrev pub Keeps : Option Held → Option Held → List ℕ → List ℕ → Type 0
Keeps before now name bytes = now ≡ option_map (λ held. with_held held name bytes) before

-- all names but this one hold what they held, where it is told what is held
abbrev pub IsOpenAt : Option Held → Option Held → List ℕ → Type 0
IsOpenAt (Some before) (Some now) name = (other : List ℕ) → other ≢ name → held_under now other ≡ held_under before other
IsOpenAt None None name = ⊤
IsOpenAt before now name = ⊥
