-- Steps of the loops over sites, calls and orders.
use Rattle.std.proofs.Common.{◌≡◌, ℕ, zero, suc, ◌+◌, ◌-◌, ◌<◌, ◌≤◌, ◌==◌, inl, inr, Bool, true, false, not, cond, List, [], ◌∷◌, ◌++◌, length, take, drop, get_or, refl, sym, ◌∙◌, ap, arith, append_assoc}
use Rattle.std.specs.Prelude.{count_by, slice_index, slice_index_or, slice_set}
use Rattle.std.proofs.lemmas.Bool.{cases_lt}
use Rattle.std.proofs.lemmas.Bool.Decides.{nat_tests}
use Rattle.std.proofs.lemmas.List.{get_or_append_left, get_or-append_right, take_more_set, drop-set-lt}
use Rattle.std.proofs.Math.Seq.{drop-cons}
use Rattle.std.proofs.Math.ListN.{get_or-eq_default}
use Rattle.std.proofs.lemmas.List.Sums.{sum_by-cons}
use Rattle.litmus_syntax.specs.declared.site.Site.{Site}
use Rattle.litmus_syntax.specs.declared.call.Step.{Step}
use Rattle.sync_parts.specs.Sites.{sites_present, present_at, calls_present}
use Rattle.sync_parts.specs.Without.{renumbered}
use Rattle.sync_parts.proofs.Members.{test-cases}

-- the rest of a list at a place that it has, and at one that it lacks
pub rest-there : {A : Type 0} (xs : List A) (k : ℕ) (d : A) → k < length xs → drop k xs ≡ get_or xs k d ∷ drop (k + 1) xs
rest-there xs k d h = let next : suc k ≡ k + 1 = omega arith in drop-cons xs k d h ∙ ap (λ n. get_or xs k d ∷ drop n xs) next

pub rest-past : {A : Type 0} (xs : List A) (k : ℕ) → length xs ≤ k → drop k xs ≡ []
rest-past [] zero h = refl
rest-past [] (suc k) h = refl
rest-past (x ∷ xs) zero h = absurd (omega arith)
rest-past (x ∷ xs) (suc k) h = rest-past xs k (omega arith)

none-present : (sites : List Site) → sites_present sites [] ≡ []
none-present [] = refl
none-present (site ∷ sites) = refl

-- the next site is present, or isn't
pub next-present : (sites : List Site) (present : List Bool) (k : ℕ) (site : Site) → k < length sites → site ≡ get_or sites k site
    → sites_present (drop k sites) (drop k present)
    ≡ cond (slice_index_or present k false) (site ∷ sites_present (drop (k + 1) sites) (drop (k + 1) present)) (sites_present (drop (k + 1) sites) (drop (k + 1) present))
next-present sites present k site there is = elim (cases_lt k (length present)) [
  | inl here ↦
      ap (λ (l : List Site). sites_present l (drop k present)) (rest-there sites k site there ∙ ap (λ (s : Site). s ∷ drop (k + 1) sites) (sym is))
      ∙ ap (λ (l : List Bool). sites_present (site ∷ drop (k + 1) sites) l) (rest-there present k false here)
  | inr past ↦
      let none : drop k present ≡ [] = rest-past present k past in
      let later : drop (k + 1) present ≡ [] = rest-past present (k + 1) (omega (arith, past)) in
      let out : slice_index_or present k false ≡ false = get_or-eq_default present false past in
      ap (λ (l : List Site). sites_present l (drop k present)) (rest-there sites k site there ∙ ap (λ (s : Site). s ∷ drop (k + 1) sites) (sym is))
      ∙ ap (λ (l : List Bool). sites_present (site ∷ drop (k + 1) sites) l) none
      ∙ sym (none-present (drop (k + 1) sites)) ∙ ap (sites_present (drop (k + 1) sites)) (sym later)
      ∙ ap (λ (b : Bool). cond b (site ∷ sites_present (drop (k + 1) sites) (drop (k + 1) present)) (sites_present (drop (k + 1) sites) (drop (k + 1) present))) (sym out)
]

-- the next site, of those behind a call
pub next-behind : (number : ℕ) (sites : List Site) (present : List Bool) (k : ℕ) (site : Site) → k < length sites → site ≡ get_or sites k site
    → present_at number (drop k sites) (drop k present)
    ≡ cond (site.after == number) (slice_index_or present k false ∷ present_at number (drop (k + 1) sites) (drop (k + 1) present)) (present_at number (drop (k + 1) sites) (drop (k + 1) present))
next-behind number sites present k site there is = elim (cases_lt k (length present)) [
  | inl here ↦
      ap (λ (l : List Site). present_at number l (drop k present)) (rest-there sites k site there ∙ ap (λ (s : Site). s ∷ drop (k + 1) sites) (sym is))
      ∙ ap (λ (l : List Bool). present_at number (site ∷ drop (k + 1) sites) l) (rest-there present k false here)
  | inr past ↦
      let none : drop k present ≡ [] = rest-past present k past in
      let later : drop (k + 1) present ≡ [] = rest-past present (k + 1) (omega (arith, past)) in
      let out : slice_index_or present k false ≡ false = get_or-eq_default present false past in
      ap (λ (l : List Site). present_at number l (drop k present)) (rest-there sites k site there ∙ ap (λ (s : Site). s ∷ drop (k + 1) sites) (sym is))
      ∙ ap (λ (l : List Bool). present_at number (site ∷ drop (k + 1) sites) l) none
      ∙ ap (λ (l : List Bool). cond (site.after == number) (false ∷ present_at number (drop (k + 1) sites) l) (present_at number (drop (k + 1) sites) l)) (sym later)
      ∙ ap (λ (b : Bool). cond (site.after == number) (b ∷ present_at number (drop (k + 1) sites) (drop (k + 1) present)) (present_at number (drop (k + 1) sites) (drop (k + 1) present))) (sym out)
]

one-more : (number : ℕ) (site : Site) (sites : List Site) → (site.after == number) ≡ true
    → count_by (λ s. s.after == number) (site ∷ sites) ≡ 1 + count_by (λ s. s.after == number) sites
one-more number site sites here =
    let bit : ◌≡◌ {A = ℕ} (cond (site.after == number) 1 0) 1 = ap (λ (b : Bool). cond {A = ℕ} b 1 0) here in
    sum_by-cons (λ (s : Site). cond {A = ℕ} (s.after == number) 1 0) site sites ∙ ap (λ (n : ℕ). n + count_by (λ (s : Site). s.after == number) sites) bit

no-more : (number : ℕ) (site : Site) (sites : List Site) → (site.after == number) ≡ false
    → count_by (λ s. s.after == number) (site ∷ sites) ≡ 0 + count_by (λ s. s.after == number) sites
no-more number site sites other =
    let bit : ◌≡◌ {A = ℕ} (cond (site.after == number) 1 0) 0 = ap (λ (b : Bool). cond {A = ℕ} b 1 0) other in
    sum_by-cons (λ (s : Site). cond {A = ℕ} (s.after == number) 1 0) site sites ∙ ap (λ (n : ℕ). n + count_by (λ (s : Site). s.after == number) sites) bit

count-more : (number : ℕ) (site : Site) (sites : List Site) (p : Bool) (rest : List Bool) → length rest ≡ count_by (λ s. s.after == number) sites
    → length (cond (site.after == number) (p ∷ rest) rest) ≡ count_by (λ s. s.after == number) (site ∷ sites)
count-more number site sites p rest same = elim (test-cases (site.after == number)) [
  | inl here ↦ ap (λ (b : Bool). length (cond b (p ∷ rest) rest)) here ∙ omega (arith, same, one-more number site sites here)
  | inr other ↦ ap (λ (b : Bool). length (cond b (p ∷ rest) rest)) other ∙ omega (arith, same, no-more number site sites other)
]

-- as many as stand behind the call
pub count-behind : (number : ℕ) (sites : List Site) (present : List Bool) → length (present_at number sites present) ≡ count_by (λ site. site.after == number) sites
count-behind number [] present = refl
count-behind number (site ∷ sites) [] = count-more number site sites false (present_at number sites []) (count-behind number sites [])
count-behind number (site ∷ sites) (p ∷ present) = count-more number site sites p (present_at number sites present) (count-behind number sites present)

next-step : (k : ℕ) (body : List Step) → k < length body → (step : Step) × (drop k body ≡ step ∷ drop (k + 1) body)
next-step k [] h = absurd (omega arith)
next-step zero (x ∷ xs) h = (x, refl)
next-step (suc k) (x ∷ xs) h =
    let found = next-step k xs (omega arith) in
    let next : suc k + 1 ≡ suc (k + 1) = omega arith in
    (found.0, found.1 ∙ ap (λ n. found.0 ∷ drop n (x ∷ xs)) (sym next))

-- of those behind a call, the next is passed
pub pass-behind : (number : ℕ) (sites : List Site) (present : List Bool) (k left : ℕ) (site : Site) → k < length sites → site ≡ get_or sites k site
    → site.after ≡ number → (left ≡ 0 → ⊥)
    → slice_index_or (present_at number (drop (k + 1) sites) (drop (k + 1) present)) (left - 1) false ≡ slice_index_or (present_at number (drop k sites) (drop k present)) left false
pass-behind number sites present k left site there is here some =
    let rest : List Bool = present_at number (drop (k + 1) sites) (drop (k + 1) present) in
    let p : Bool = slice_index_or present k false in
    let same : (site.after == number) ≡ true = grind (arith, nat_tests) in
    let next = next-behind number sites present k site there is ∙ ap (λ (b : Bool). cond b (p ∷ rest) rest) same in
    let more : suc (left - 1) ≡ left = grind (arith, some) in
    ap (λ (n : ℕ). slice_index_or (p ∷ rest) n false) more ∙ sym (ap (λ (l : List Bool). slice_index_or l left false) next)

pub pass-other : (number : ℕ) (sites : List Site) (present : List Bool) (k left : ℕ) (site : Site) → k < length sites → site ≡ get_or sites k site
    → (site.after ≡ number → ⊥)
    → slice_index_or (present_at number (drop (k + 1) sites) (drop (k + 1) present)) left false ≡ slice_index_or (present_at number (drop k sites) (drop k present)) left false
pass-other number sites present k left site there is other =
    let rest : List Bool = present_at number (drop (k + 1) sites) (drop (k + 1) present) in
    let p : Bool = slice_index_or present k false in
    let apart : (site.after == number) ≡ false = grind (arith, nat_tests) in
    let next = next-behind number sites present k site there is ∙ ap (λ (b : Bool). cond b (p ∷ rest) rest) apart in
    sym (ap (λ (l : List Bool). slice_index_or l left false) next)

module _ (body : List Step) (sites : List Site) (present : List Bool) (k : ℕ) (there : k < length body) where
  abbrev behind : List Bool
  behind = present_at (k + 1) sites present

  abbrev later : List Bool
  later = calls_present (k + 1 + 1) (drop (k + 1) body) sites present

  -- the calls from one of the body on
  pub rest-calls : calls_present (k + 1) (drop k body) sites present ≡ true ∷ behind ++ later
  rest-calls = first-call (drop k body) (drop (k + 1) body) (next-step k body there)
    where
      first-call : (rest others : List Step) → (step : Step) × (rest ≡ step ∷ others)
          → calls_present (k + 1) rest sites present ≡ true ∷ behind ++ calls_present (k + 1 + 1) others sites present
      first-call rest others (step, is) = ap (λ (l : List Step). calls_present (k + 1) l sites present) is

  -- the call of the body stays
  pub own-call : slice_index_or (calls_present (k + 1) (drop k body) sites present) 0 false ≡ true
  own-call = ap (λ (l : List Bool). slice_index_or l 0 false) rest-calls

  past-own : (left : ℕ) → 0 < left → slice_index_or (calls_present (k + 1) (drop k body) sites present) left false ≡ slice_index_or (behind ++ later) (left - 1) false
  past-own left some =
      let next : left ≡ suc (left - 1) = omega (arith, some) in
      ap (λ (l : List Bool). slice_index_or l left false) rest-calls ∙ ap (λ (n : ℕ). slice_index_or (true ∷ behind ++ later) n false) next

  -- a call behind it stays where its site is present
  pub site-call : (left : ℕ) → 0 < left → left - 1 < count_by (λ site. site.after == k + 1) sites
      → slice_index_or (calls_present (k + 1) (drop k body) sites present) left false ≡ slice_index_or behind (left - 1) false
  site-call left some few = past-own left some ∙ get_or_append_left behind later false (left - 1) (omega (arith, few, count-behind (k + 1) sites present))

  pub later-call : (left : ℕ) → 0 < left → count_by (λ site. site.after == k + 1) sites ≤ left - 1
      → slice_index_or (calls_present (k + 1) (drop k body) sites present) left false ≡ slice_index_or later (left - 1 - count_by (λ site. site.after == k + 1) sites) false
  later-call left some many =
      past-own left some ∙ get_or-append_right behind later (count_by (λ site. site.after == k + 1) sites) (left - 1) false (count-behind (k + 1) sites present) many

-- an order without the events that have no number
module _ (numbers order : List ℕ) (kept place x : ℕ) (there : place < length order) (behind : kept ≤ place) (is : x ≡ slice_index numbers (slice_index_or order place 0)) where
  rest-order : renumbered numbers (drop place order) ≡ cond (not (x == 0)) (x ∷ renumbered numbers (drop (place + 1) order)) (renumbered numbers (drop (place + 1) order))
  rest-order =
      ap (renumbered numbers) (rest-there order place 0 there)
      ∙ ap (λ (y : ℕ). cond (not (y == 0)) (y ∷ renumbered numbers (drop (place + 1) order)) (renumbered numbers (drop (place + 1) order))) (sym is)

  pub put-number : (not (x == 0)) ≡ true
      → take (kept + 1) (slice_set order kept x) ++ renumbered numbers (drop (place + 1) (slice_set order kept x)) ≡ take kept order ++ renumbered numbers (drop place order)
  put-number some =
      let front : take (kept + 1) (slice_set order kept x) ≡ take kept order ++ x ∷ [] = take_more_set order kept x (omega (arith, there, behind)) in
      let back : drop (place + 1) (slice_set order kept x) ≡ drop (place + 1) order = drop-set-lt (place + 1) order kept x (omega (arith, behind)) in
      let rest : renumbered numbers (drop place order) ≡ x ∷ renumbered numbers (drop (place + 1) order) =
      rest-order ∙ ap (λ (b : Bool). cond b (x ∷ renumbered numbers (drop (place + 1) order)) (renumbered numbers (drop (place + 1) order))) some in
      ap (λ (l : List ℕ). l ++ renumbered numbers (drop (place + 1) (slice_set order kept x))) front
      ∙ ap (λ (l : List ℕ). (take kept order ++ x ∷ []) ++ renumbered numbers l) back
      ∙ append_assoc (take kept order) (x ∷ []) (renumbered numbers (drop (place + 1) order))
      ∙ ap (λ (l : List ℕ). take kept order ++ l) (sym rest)

  pub pass-number : (not (x == 0)) ≡ false → renumbered numbers (drop (place + 1) order) ≡ renumbered numbers (drop place order)
  pass-number none =
      sym (rest-order ∙ ap (λ (b : Bool). cond b (x ∷ renumbered numbers (drop (place + 1) order)) (renumbered numbers (drop (place + 1) order))) none)
