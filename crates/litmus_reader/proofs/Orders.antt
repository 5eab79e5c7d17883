-- Which form of a line may stand behind which others, told stage by stage.
use Rattle.std.proofs.Common.{◌≡◌, ℕ, zero, suc, List, [], ◌∷◌, ◌++◌, Option, Some, None, refl, sym, ◌∙◌, ap, inl, inr, append_assoc}
use Rattle.std.proofs.Math.ListN.{replicate}
use Rattle.std.specs.Option.{option_and_then}
use Rattle.std.proofs.lemmas.Option.{none-some}
use Rattle.litmus_reader.specs.declared.statements.Form.{Form}
use Rattle.litmus_reader.specs.declared.statements.Form.TheVariants as form
use Rattle.litmus_reader.specs.declared.stages.Stage.{Stage}
use Rattle.litmus_reader.specs.declared.stages.Stage.TheVariants.{Start, BehindHead, BehindBlock, BehindSector, InSetup, InBody, End}
use Rattle.litmus_reader.specs.Places.{IsOneAtMost, IsSetupPart, IsOrder, MayStand}
use Rattle.litmus_reader.specs.Stages.{stage_behind, run}

-- what may follow a stage, up to the end of the file
abbrev IsRest : Stage → List Form → Type 0
IsRest Start fs = IsOrder fs
IsRest BehindHead fs = (block sector setup : List Form) × (calls : ℕ) × IsOneAtMost form.Block block × IsOneAtMost form.Sector sector × IsSetupPart setup
    × (fs ≡ block ++ sector ++ setup ++ form.Body ∷ replicate calls form.Call ++ form.Question ∷ [])
IsRest BehindBlock fs = (sector setup : List Form) × (calls : ℕ) × IsOneAtMost form.Sector sector × IsSetupPart setup
    × (fs ≡ sector ++ setup ++ form.Body ∷ replicate calls form.Call ++ form.Question ∷ [])
IsRest BehindSector fs = (setup : List Form) × (calls : ℕ) × IsSetupPart setup × (fs ≡ setup ++ form.Body ∷ replicate calls form.Call ++ form.Question ∷ [])
IsRest InSetup fs = (made calls : ℕ) × (fs ≡ replicate made form.Call ++ form.Body ∷ replicate calls form.Call ++ form.Question ∷ [])
IsRest InBody fs = (calls : ℕ) × (fs ≡ replicate calls form.Call ++ form.Question ∷ [])
IsRest End fs = fs ≡ []

abbrev before : Form → List Form → List Form
before f fs = f ∷ fs

completed : (p : Stage) (fs : List Form) → run p fs ≡ Some End → IsRest p fs
completed Start [] e = absurd cc
completed Start (form.Head ∷ fs) e =
    let (block, sector, setup, calls, b, t, s, is) = completed BehindHead fs e in
    (block, sector, setup, calls, b, t, s, ap (before form.Head) is)
completed Start (f ∷ fs) e = absurd (none-some End e)
completed BehindHead [] e = absurd cc
completed BehindHead (form.Block ∷ fs) e =
    let (sector, setup, calls, t, s, is) = completed BehindBlock fs e in
    (form.Block ∷ [], sector, setup, calls, inr refl, t, s, ap (before form.Block) is)
completed BehindHead (form.Sector ∷ fs) e =
    let (setup, calls, s, is) = completed BehindSector fs e in
    ([], form.Sector ∷ [], setup, calls, inl refl, inr refl, s, ap (before form.Sector) is)
completed BehindHead (form.Setup ∷ fs) e =
    let (made, calls, is) = completed InSetup fs e in
    ([], [], form.Setup ∷ replicate made form.Call, calls, inl refl, inl refl, inr (made, refl), ap (before form.Setup) is)
completed BehindHead (form.Body ∷ fs) e =
    let (calls, is) = completed InBody fs e in
    ([], [], [], calls, inl refl, inl refl, inl refl, ap (before form.Body) is)
completed BehindHead (f ∷ fs) e = absurd (none-some End e)
completed BehindBlock [] e = absurd cc
completed BehindBlock (form.Sector ∷ fs) e =
    let (setup, calls, s, is) = completed BehindSector fs e in
    (form.Sector ∷ [], setup, calls, inr refl, s, ap (before form.Sector) is)
completed BehindBlock (form.Setup ∷ fs) e =
    let (made, calls, is) = completed InSetup fs e in
    ([], form.Setup ∷ replicate made form.Call, calls, inl refl, inr (made, refl), ap (before form.Setup) is)
completed BehindBlock (form.Body ∷ fs) e =
    let (calls, is) = completed InBody fs e in
    ([], [], calls, inl refl, inl refl, ap (before form.Body) is)
completed BehindBlock (f ∷ fs) e = absurd (none-some End e)
completed BehindSector [] e = absurd cc
completed BehindSector (form.Setup ∷ fs) e =
    let (made, calls, is) = completed InSetup fs e in
    (form.Setup ∷ replicate made form.Call, calls, inr (made, refl), ap (before form.Setup) is)
completed BehindSector (form.Body ∷ fs) e =
    let (calls, is) = completed InBody fs e in
    ([], calls, inl refl, ap (before form.Body) is)
completed BehindSector (f ∷ fs) e = absurd (none-some End e)
completed InSetup [] e = absurd cc
completed InSetup (form.Call ∷ fs) e =
    let (made, calls, is) = completed InSetup fs e in
    (suc made, calls, ap (before form.Call) is)
completed InSetup (form.Body ∷ fs) e =
    let (calls, is) = completed InBody fs e in
    (zero, calls, ap (before form.Body) is)
completed InSetup (f ∷ fs) e = absurd (none-some End e)
completed InBody [] e = absurd cc
completed InBody (form.Call ∷ fs) e =
    let (calls, is) = completed InBody fs e in
    (suc calls, ap (before form.Call) is)
completed InBody (form.Question ∷ fs) e =
    let is = completed End fs e in
    (zero, ap (before form.Question) is)
completed InBody (f ∷ fs) e = absurd (none-some End e)
completed End [] e = refl
completed End (f ∷ fs) e = absurd (none-some End e)

pub ordered_from_run : (fs : List Form) → run Start fs ≡ Some End → IsOrder fs
ordered_from_run fs e = completed Start fs e

run_body : (calls : ℕ) (fs : List Form) → run InBody (replicate calls form.Call ++ fs) ≡ run InBody fs
run_body zero fs = refl
run_body (suc calls) fs = run_body calls fs

run_setup : (calls : ℕ) (fs : List Form) → run InSetup (replicate calls form.Call ++ fs) ≡ run InSetup fs
run_setup zero fs = refl
run_setup (suc calls) fs = run_setup calls fs

setup_tail : (made calls : ℕ) → run InSetup (replicate made form.Call ++ form.Body ∷ replicate calls form.Call ++ form.Question ∷ []) ≡ Some End
setup_tail made calls =
    ap (run InSetup) (append_assoc (replicate made form.Call) (form.Body ∷ replicate calls form.Call) (form.Question ∷ []))
    ∙ run_setup made (form.Body ∷ (replicate calls form.Call ++ form.Question ∷ [])) ∙ run_body calls (form.Question ∷ [])

-- behind the lines before the setup
abbrev IsFront : Stage → Type 0
IsFront p = (stage_behind p form.Setup ≡ Some InSetup) × (stage_behind p form.Body ≡ Some InBody)

front_tail : (p : Stage) (setup : List Form) (calls : ℕ) → IsFront p → IsSetupPart setup
    → run p (setup ++ form.Body ∷ replicate calls form.Call ++ form.Question ∷ []) ≡ Some End
front_tail p setup calls front (inl none) =
    ap (λ (s : List Form). run p (s ++ form.Body ∷ replicate calls form.Call ++ form.Question ∷ [])) none
    ∙ ap (option_and_then (λ q. run q (replicate calls form.Call ++ form.Question ∷ []))) front.1 ∙ run_body calls (form.Question ∷ [])
front_tail p setup calls front (inr (made, some)) =
    ap (λ (s : List Form). run p (s ++ form.Body ∷ replicate calls form.Call ++ form.Question ∷ [])) some
    ∙ ap (option_and_then (λ q. run q (replicate made form.Call ++ form.Body ∷ replicate calls form.Call ++ form.Question ∷ []))) front.0 ∙ setup_tail made calls

-- behind the block line too, or without one
abbrev IsSized : Stage → Type 0
IsSized p = IsFront p × (stage_behind p form.Sector ≡ Some BehindSector)

sector_tail : (p : Stage) (sector setup : List Form) (calls : ℕ) → IsSized p → IsOneAtMost form.Sector sector → IsSetupPart setup
    → run p (sector ++ setup ++ form.Body ∷ replicate calls form.Call ++ form.Question ∷ []) ≡ Some End
sector_tail p sector setup calls sized (inl none) s =
    ap (λ (t : List Form). run p (t ++ setup ++ form.Body ∷ replicate calls form.Call ++ form.Question ∷ [])) none ∙ front_tail p setup calls sized.0 s
sector_tail p sector setup calls sized (inr some) s =
    ap (λ (t : List Form). run p (t ++ setup ++ form.Body ∷ replicate calls form.Call ++ form.Question ∷ [])) some
    ∙ ap (option_and_then (λ q. run q (setup ++ form.Body ∷ replicate calls form.Call ++ form.Question ∷ []))) sized.1
    ∙ front_tail BehindSector setup calls (refl, refl) s

-- the forms of a whole file lead to its end
pub run_ordered : (fs : List Form) → IsOrder fs → run Start fs ≡ Some End
run_ordered fs (block, sector, setup, calls, inl none, t, s, is) =
    ap (run Start) (is ∙ ap (λ (b : List Form). form.Head ∷ b ++ sector ++ setup ++ form.Body ∷ replicate calls form.Call ++ form.Question ∷ []) none)
    ∙ sector_tail BehindHead sector setup calls ((refl, refl), refl) t s
run_ordered fs (block, sector, setup, calls, inr some, t, s, is) =
    ap (run Start) (is ∙ ap (λ (b : List Form). form.Head ∷ b ++ sector ++ setup ++ form.Body ∷ replicate calls form.Call ++ form.Question ∷ []) some)
    ∙ sector_tail BehindBlock sector setup calls ((refl, refl), refl) t s

run_append_at : (o : Option Stage) (xs ys : List Form) → ((p : Stage) → run p (xs ++ ys) ≡ option_and_then (λ q. run q ys) (run p xs))
    → option_and_then (λ q. run q (xs ++ ys)) o ≡ option_and_then (λ q. run q ys) (option_and_then (λ q. run q xs) o)
run_append_at None xs ys each = refl
run_append_at (Some p) xs ys each = each p

pub run_append : (p : Stage) (xs ys : List Form) → run p (xs ++ ys) ≡ option_and_then (λ q. run q ys) (run p xs)
run_append p [] ys = refl
run_append p (x ∷ xs) ys = run_append_at (stage_behind p x) xs ys (λ q. run_append q xs ys)

completion : Stage → List Form
completion Start = form.Head ∷ form.Body ∷ form.Question ∷ []
completion BehindHead = form.Body ∷ form.Question ∷ []
completion BehindBlock = form.Body ∷ form.Question ∷ []
completion BehindSector = form.Body ∷ form.Question ∷ []
completion InSetup = form.Body ∷ form.Question ∷ []
completion InBody = form.Question ∷ []
completion End = []

run_completion : (p : Stage) → run p (completion p) ≡ Some End
unfolding completion
run_completion Start = refl
run_completion BehindHead = refl
run_completion BehindBlock = refl
run_completion BehindSector = refl
run_completion InSetup = refl
run_completion InBody = refl
run_completion End = refl

run_through : (front : List Form) (f : Form) (fs : List Form) (p : Stage) → run Start front ≡ Some p
    → run Start (front ++ f ∷ fs) ≡ option_and_then (λ q. run q fs) (stage_behind p f)
run_through front f fs p at = run_append Start front (f ∷ fs) ∙ ap (option_and_then (λ q. run q (f ∷ fs))) at

-- a line that leads to a stage may stand there
pub may_stand : (front : List Form) (f : Form) (p q : Stage) → run Start front ≡ Some p → stage_behind p f ≡ Some q → MayStand front f
may_stand front f p q at next = (
  completion q,
  completed Start (front ++ f ∷ completion q)
      (run_through front f (completion q) p at ∙ ap (option_and_then (λ r. run r (completion q))) next ∙ run_completion q),
)

-- a line that leads to no stage may not
pub may_not_stand : (front : List Form) (f : Form) (p : Stage) → run Start front ≡ Some p → stage_behind p f ≡ None → MayStand front f → ⊥
may_not_stand front f p at none (behind, order) =
    none-some End (sym (run_through front f behind p at ∙ ap (option_and_then (λ r. run r behind)) none) ∙ run_ordered (front ++ f ∷ behind) order)

-- one more line
pub run_more : (front : List Form) (f : Form) (p q : Stage) → run Start front ≡ Some p → stage_behind p f ≡ Some q → run Start (front ++ f ∷ []) ≡ Some q
run_more front f p q at next = run_through front f [] p at ∙ ap (option_and_then (λ r. run r [])) next
