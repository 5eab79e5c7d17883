-- What a sink wrote, piece by piece.
use Rattle.std.proofs.Common.{ℕ, List, [], ◌++◌, Option, Some, None, option_map, refl, sym, ◌∙◌, ap, append_assoc}
use Rattle.std.proofs.lemmas.List.{append-nil}
use Rattle.fer_outside.specs.Causes.{Grew}

-- one piece after another
pub grew_more : (a b c : Option (List ℕ)) (xs ys : List ℕ) → Grew a b xs → Grew b c ys → Grew a c (xs ++ ys)
grew_more None b c xs ys h k = k ∙ ap (option_map (λ (w : List ℕ). w ++ ys)) h
grew_more (Some w) b c xs ys h k = k ∙ ap (option_map (λ (v : List ℕ). v ++ ys)) h ∙ ap Some (append_assoc w xs ys)

-- nothing written
pub grew_none : (a : Option (List ℕ)) → Grew a a []
grew_none None = refl
grew_none (Some w) = ap Some (sym (append-nil w))
