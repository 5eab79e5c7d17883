-- Private: what comes of keeping and writing what is said.
use Rattle.std.specs.Prelude.{◌≡◌, ℕ, List, Option}
use Rattle.fer_outside.specs.Held.{Held}
use Rattle.fer_outside.specs.Causes.{Grew}
use Rattle.ferrite_run.specs.declared.saying.Said.{Said}
use Rattle.ferrite_run.specs.Done.{held_after}
use Rattle.ferrite_run.specs.Saying.{kept_in}
use Rattle.ferrite_run.specs.Delivering.{IsProperFront, IsUnkept}

pub data IsDelivered (told after : Option Held) (rose : List ℕ → Type 0) (before now : Option (List ℕ)) (write_fault untouched : Type 0) (said : Said) (status : ℕ) : Type 0 where
  whole :
      status ≡ said.status → Grew before now said.text.items → after ≡ held_after told (kept_in said.kept)
      → IsDelivered told after rose before now write_fault untouched said status
  unwritten :
      status ≡ 8 → (front : List ℕ) → IsProperFront front said.text.items → Grew before now front → write_fault
      → after ≡ held_after told (kept_in said.kept) → IsDelivered told after rose before now write_fault untouched said status
  unkept :
      status ≡ 8 → IsUnkept told after rose (kept_in said.kept) → now ≡ before
      → IsDelivered told after rose before now write_fault untouched said status
  wanting : status ≡ 9 → after ≡ told → untouched → IsDelivered told after rose before now write_fault untouched said status
