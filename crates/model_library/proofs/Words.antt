-- Words of a generator, one after another.
use Rattle.std.proofs.Common.{◌≡◌, ℕ, zero, suc, ◌+◌, [], ◌∷◌, ◌++◌, refl, ap, ◌∙◌, add-one}
use Rattle.rand_pcg.specs.Lcg.{Lcg}
use Rattle.rand_pcg.specs.Pcg.{pcg32}
use Rattle.model_library.specs.Generated.{words_of}
use Rattle.model_library.specs.Drawing.{after}

-- behind the first word there is one word less
shift : (g : Lcg) (n : ℕ) → after (pcg32 g).1 n ≡ after g (suc n)
unfolding after
shift g zero = refl
shift g (suc n) = ap (λ h. (pcg32 h).1) (shift g n)

more : (g : Lcg) (n : ℕ) → words_of g (suc n) ≡ words_of g n ++ (pcg32 (after g n)).0 ∷ []
unfolding words_of after
more g zero = refl
more g (suc n) =
    ap (λ ws. (pcg32 g).0 ∷ ws) (more (pcg32 g).1 n ∙ ap (λ h. words_of (pcg32 g).1 n ++ (pcg32 h).0 ∷ []) (shift g n))

-- one word more
pub words_more : (g : Lcg) (n : ℕ) → words_of g (n + 1) ≡ words_of g n ++ (pcg32 (after g n)).0 ∷ []
words_more g n = rw add-one (more g n)

pub after_more : (g : Lcg) (n : ℕ) → after g (n + 1) ≡ (pcg32 (after g n)).1
unfolding after
after_more g n = rw add-one refl
