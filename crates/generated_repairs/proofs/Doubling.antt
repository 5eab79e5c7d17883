-- A list of calls with a sync behind each: at which places the calls stand, and at which the syncs.
use Rattle.std.proofs.Common.{◌≡◌, ◌⊎◌, inl, inr, ℕ, zero, suc, ◌+◌, ◌*◌, ◌<◌, ◌≤◌, ◌==◌, Bool, true, false, cond, List, [], ◌∷◌, ◌++◌, length, map, Some, None, slice_get, refl, sym, ◌∙◌, ap, arith}
use Rattle.std.specs.Prelude.{filter}
use Rattle.std.specs.List.{range_with_len}
use Rattle.std.proofs.lemmas.Bool.{cases_eq}
use Rattle.std.proofs.lemmas.Option.{same_Some}
use Rattle.std.proofs.lemmas.Bool.Decides.{nat_tests}
use Rattle.litmus_syntax.specs.declared.call.Call.TheVariants.{Sync}
use Rattle.litmus_syntax.specs.declared.call.Step.{Step}
use Rattle.litmus_syntax.specs.declared.site.Site.{Site}
use Rattle.litmus_syntax.specs.Sites.{inserted_at, with_sites}
use Rattle.fer_events.specs.Orders.{numbers}

-- the site of a sync behind a call
abbrev pub sync_site : ℕ → Site
sync_site k = record { after = k; call = Sync }

-- a sync in a line
abbrev pub sync_step : ℕ → Step
sync_step line = record { line = line; call = Sync }

-- the calls with a sync behind each
abbrev pub synced : List Step → List Step
synced [] = []
synced (step ∷ steps) = step ∷ sync_step step.line ∷ synced steps

abbrev is_behind : ℕ → Site → Bool
is_behind k site = site.after == k

-- a call has no site among those of later calls, and one among those of all
none_behind : (k low n : ℕ) → k < low → filter (is_behind k) (map sync_site (range_with_len low n)) ≡ []
none_behind k low zero before = refl
none_behind k low (suc n) before =
    let other : (low == k) ≡ false = grind (arith, nat_tests) in
    let rest : List Site = filter (is_behind k) (map sync_site (range_with_len (low + 1) n)) in
    ap (λ (b : Bool). cond b (sync_site low ∷ rest) rest) other ∙ none_behind k (low + 1) n (omega arith)

one_behind : (k low n : ℕ) → low ≤ k → k < low + n → filter (is_behind k) (map sync_site (range_with_len low n)) ≡ sync_site k ∷ []
one_behind k low zero above below = absurd (omega arith)
one_behind k low (suc n) above below = elim (cases_eq low k) [
  | inl here ↦
      let same : (low == k) ≡ true = grind (arith, nat_tests) in
      let rest : List Site = filter (is_behind k) (map sync_site (range_with_len (low + 1) n)) in
      ap (λ (b : Bool). cond b (sync_site low ∷ rest) rest) same ∙ ap (λ (l : List Site). sync_site low ∷ l) (none_behind k (low + 1) n (omega arith))
      ∙ ap (λ (i : ℕ). sync_site i ∷ []) here
  | inr apart ↦
      let other : (low == k) ≡ false = grind (arith, nat_tests) in
      let rest : List Site = filter (is_behind k) (map sync_site (range_with_len (low + 1) n)) in
      ap (λ (b : Bool). cond b (sync_site low ∷ rest) rest) other ∙ one_behind k (low + 1) n (omega arith) (omega arith)
]

-- with a site behind each call, a sync stands behind each
pub with_all_sites : (n number : ℕ) (steps : List Step) → 1 ≤ number → number + length steps ≤ 1 + n → with_sites number steps (map sync_site (numbers n)) ≡ synced steps
with_all_sites n number [] from upto = refl
with_all_sites n number (step ∷ steps) from upto =
    let sites : List Site = map sync_site (numbers n) in
    let here : inserted_at number step.line sites ≡ sync_step step.line ∷ [] =
    ap (λ (l : List Site). map (λ site. record { line = step.line; call = site.call }) l) (one_behind number 1 n from (omega (arith, upto))) in
    ap (λ (l : List Step). step ∷ l ++ with_sites (number + 1) steps sites) here
    ∙ ap (λ (l : List Step). step ∷ sync_step step.line ∷ l) (with_all_sites n (number + 1) steps (omega arith) (omega (arith, upto)))

-- twice a number
abbrev pub double : ℕ → ℕ
double zero = zero
double (suc j) = suc (suc (double j))

pub double_is : (j : ℕ) → double j ≡ 2 * j
double_is zero = refl
double_is (suc j) = omega (arith, double_is j)

-- a number is twice another, or one more than that
pub halves : (x : ℕ) → (j : ℕ) × ((x ≡ double j) ⊎ (x ≡ suc (double j)))
halves zero = (zero, inl refl)
halves (suc zero) = (zero, inr refl)
halves (suc (suc x)) = let (j, cases) = halves x in (suc j, elim cases [ inl even ↦ inl (ap (λ (y : ℕ). suc (suc y)) even) | inr odd ↦ inr (ap (λ (y : ℕ). suc (suc y)) odd) ])

pub length-synced : (steps : List Step) → length (synced steps) ≡ double (length steps)
length-synced [] = refl
length-synced (step ∷ steps) = ap (λ (n : ℕ). suc (suc n)) (length-synced steps)

-- at twice a place stands the call
pub call_at : (steps : List Step) (j : ℕ) → slice_get (synced steps) (double j) ≡ slice_get steps j
call_at [] zero = refl
call_at [] (suc j) = refl
call_at (step ∷ steps) zero = refl
call_at (step ∷ steps) (suc j) = call_at steps j

-- and next to it a sync
pub sync_at : (steps : List Step) (j : ℕ) (step : Step) → slice_get (synced steps) (suc (double j)) ≡ Some step → step.call ≡ Sync
sync_at [] zero step h = absurd (let bad : None ≡ Some step = h in cc)
sync_at [] (suc j) step h = absurd (let bad : None ≡ Some step = h in cc)
sync_at (first ∷ steps) zero step h = let same : sync_step first.line ≡ step = same_Some _ _ h in ap (λ (s : Step). s.call) (sym same)
sync_at (first ∷ steps) (suc j) step h = sync_at steps j step h
