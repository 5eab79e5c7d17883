-- Where the numbers of tokens are in range, so are those of the tokens behind their first one, and back.
use Rattle.std.proofs.Common.{◌≡◌, ◌⊎◌, inl, inr, List, [], ◌∷◌, None, length, zero, suc, refl, arith}
use Rattle.std.specs.List.{Contains}
use Rattle.std.proofs.lemmas.List.Elements.{Contains-append_cases, Contains-append_right}
use Rattle.lexeme_reader.specs.declared.reading.Lexeme.{Lexeme}
use Rattle.lexeme_reader.specs.declared.reading.Lexeme.TheVariants.{Number}
use Rattle.predicate_reader.specs.Predicates.{AreInRange}

pub range_behind : (tokens : List Lexeme) (first : Lexeme) (rest : List Lexeme) → tokens ≡ first ∷ rest → AreInRange tokens → AreInRange rest
range_behind tokens first rest is small c = small (rw is (Contains-append_right (first ∷ []) rest (Number None) c))

pub no_range : (tokens rest : List Lexeme) → tokens ≡ Number None ∷ rest → AreInRange tokens → ⊥
no_range tokens rest is small = small (rw is (0, omega arith, refl))

pub range_nothing : (tokens : List Lexeme) → length tokens ≡ 0 → AreInRange tokens
range_nothing tokens none c = omega (arith, none, c.1)

-- a list of one token has that token alone
only_one : (first x : Lexeme) → Contains (first ∷ []) x → first ≡ x
only_one first x (zero, there, is) = is
only_one first x (suc k, there, is) = absurd (omega (arith, there))

pub range_with : (first : Lexeme) (tokens rest : List Lexeme) → tokens ≡ first ∷ rest → (first ≡ Number None → ⊥) → AreInRange rest → AreInRange tokens
range_with first tokens rest is narrow others c = go (Contains-append_cases (first ∷ []) rest (Number None) (rw is at c))
  where
    go : Contains (first ∷ []) (Number None) ⊎ Contains rest (Number None) → ⊥
    go (inl alone) = narrow (only_one first (Number None) alone)
    go (inr there) = others there
