-- Private: the generator behind its first words.
use Rattle.std.specs.Prelude.{ℕ, zero, suc}
use Rattle.rand_pcg.specs.Lcg.{Lcg}
use Rattle.rand_pcg.specs.Pcg.{pcg32}

-- the generator behind its first n words
unfoldable pub after : Lcg → ℕ → Lcg
after g zero = g
after g (suc n) = (pcg32 (after g n)).1
