-- What is read of a file, asked of the readings themselves.
use Rattle.std.proofs.Common.{◌≡◌, ℕ, ◌&&◌, ◌||◌, Bool, true, false, List, [], ◌∷◌, cond, map, filter, refl, ◌∙◌, ap}
use Rattle.std.specs.List.{list_any}
use Rattle.fer_events.specs.Tables.{Trace}
use Rattle.value_coding.specs.declared.reading.Part.{Part}
use Rattle.value_coding.specs.Readings.{may_hold, read_of}

any-kept :
    (b : Bool) (p : Part → Bool) (r : ℕ × Part) (rs : List (ℕ × Part))
    → list_any p (map (λ r. r.1) (cond b (r ∷ rs) rs)) ≡ ((b && p r.1) || list_any p (map (λ r. r.1) rs))
any-kept true p r rs = refl
any-kept false p r rs = refl

pub any_read :
    (t : Trace) (p : Part → Bool) (file : ℕ) (readings : List (ℕ × Part))
    → list_any p (read_of t readings file) ≡ list_any (λ r. may_hold t r.0 file && p r.1) readings
any_read t p file [] = refl
any_read t p file (r ∷ rs) =
    any-kept (may_hold t r.0 file) p r (filter (λ r. may_hold t r.0 file) rs)
    ∙ ap (λ (b : Bool). (may_hold t r.0 file && p r.1) || b) (any_read t p file rs)
