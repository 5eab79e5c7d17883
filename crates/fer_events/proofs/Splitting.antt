-- Laws of paths that are split at their last component.
use Rattle.std.proofs.Common.{◌≡◌, List, [], ◌∷◌, ◌++◌, Some, refl, ap}
use Rattle.fer_events.specs.Paths.{split_last, put_front}

-- a list with a last item is split there
pub split_at_last : {X : Type 0} (front : List X) (last : X) → split_last (front ++ last ∷ []) ≡ Some (front, last)
split_at_last [] last = refl
split_at_last (x ∷ front) last = ap (put_front x) (split_at_last front last)
