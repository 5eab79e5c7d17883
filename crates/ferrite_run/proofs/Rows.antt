-- Steps: what follows may be weakened, and one end follows from one yield.
use Rattle.std.proofs.Common.{◌≡◌, ℕ, List, Option, None, refl, ◌∙◌, sym, subst, ap}
use Rattle.report.specs.Answers.{Answer}
use Rattle.ferrite_run.specs.Agreeing.{Agree}
use Rattle.ferrite_run.specs.Agreeing.Agree.{same}
use Rattle.ferrite_run.specs.Done.{Done, only}
use Rattle.ferrite_run.specs.Steps.{Step}
use Rattle.ferrite_run.specs.Steps.Step.{ends, goes_on}

-- a step with weaker parts
pub step_more :
    (X : Type 0) (Ends Other : Answer → Type 0) (Yields Gives : X → Type 0) (Next Then : X → Done → Type 0) (done : Done)
    → (Ends done.answer → Other done.answer) → ((x : X) → Yields x → Gives x) → ((x : X) → Next x done → Then x done)
    → Step X Ends Yields Next done → Step X Other Gives Then done
step_more X Ends Other Yields Gives Next Then done e y n (ends (h, nothing)) = ends (e h, nothing)
step_more X Ends Other Yields Gives Next Then done e y n (goes_on x yields next) = goes_on x (y x yields) (n x next)

-- what is answered without anything kept
pub is_only : (done : Done) (answer : Answer) → done.answer ≡ answer → done.kept ≡ None → done ≡ only answer
is_only done answer e nothing =
    let make : Answer → Option (List ℕ × List ℕ) → Done = λ a k. record { answer = a; kept = k } in
    ap (λ a. make a done.kept) e ∙ ap (make answer) nothing

-- two ends that answer one thing
pub one_told : (x y : Done) → x.answer ≡ y.answer → x.kept ≡ None → y.kept ≡ None → x ≡ y
one_told x y e none nothing = is_only x y.answer e none ∙ sym (is_only y y.answer refl nothing)

-- a step ends in one way, or it yields one thing, and not both
pub record IsOneStep (X : Type 0) (Ends : Answer → Type 0) (Yields : X → Type 0) : Type 0 where
  pub one_end : (a b : Answer) → Ends a → Ends b → a ≡ b
  pub one_yield : (x y : X) → Yields x → Yields y → x ≡ y
  pub apart : (a : Answer) (x : X) → Ends a → Yields x → ⊥

-- such a step comes to one thing where what follows does
pub one_step :
    (X : Type 0) (Ends : Answer → Type 0) (Yields : X → Type 0) (Next : X → Done → Type 0) → IsOneStep X Ends Yields
    → ((x : X) (a b : Done) → Next x a → Next x b → Agree a b)
    → (a b : Done) → Step X Ends Yields Next a → Step X Ends Yields Next b → Agree a b
one_step X Ends Yields Next one next a b (ends (h, none)) (ends (g, nothing)) = same (one_told a b (one.one_end a.answer b.answer h g) none nothing)
one_step X Ends Yields Next one next a b (ends (h, none)) (goes_on y yields rest) = absurd (one.apart a.answer y h yields)
one_step X Ends Yields Next one next a b (goes_on x yields rest) (ends (g, nothing)) = absurd (one.apart b.answer x g yields)
one_step X Ends Yields Next one next a b (goes_on x yields rest) (goes_on y gives other) =
    next x a b rest (subst (λ (z : X). Next z b) (one.one_yield y x gives yields) other)
