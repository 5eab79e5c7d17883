-- One more number of a range: what a count, a filter and a map gain.
use Rattle.std.proofs.Common.{◌≡◌, ℕ, ◌+◌, ◌-◌, ◌<◌, ◌≤◌, List, [], ◌∷◌, ◌++◌, length, map, filter, cond, count_by, get_or, Bool, true, false, not, if◌then◌else◌, refl, sym, ◌∙◌, ap, arith, append_assoc}
use Rattle.std.specs.List.{range_with_len, Contains}
use Rattle.std.proofs.Math.Bool.{beq}
use Rattle.std.specs.List.Sorted.{IsNonDecreasingBy}
use Rattle.std.proofs.lemmas.List.{map-append}
use Rattle.std.proofs.lemmas.List.Elements.{filter-append, Contains-get_or}
use Rattle.std.proofs.lemmas.List.FromFn.{get_or-map-range_with_len}
use Rattle.std.proofs.lemmas.List.Sums.{length-filter}
use Rattle.std.proofs.lemmas.List.{length-append}
use Rattle.fer_events.specs.Orders.{numbers}
use Rattle.order_coding.specs.Variables.{IsNumber}
use Rattle.order_coding.proofs.GeneralLists.{range_more}
use Rattle.order_coding.proofs.GeneralGrowth.{append-nil}

range-next : (k : ℕ) → 1 ≤ k → range_with_len 1 (k + 1 - 1) ≡ range_with_len 1 (k - 1) ++ k ∷ []
range-next k h =
    let e : k + 1 - 1 ≡ k - 1 + 1 = omega arith in
    let at : 1 + (k - 1) ≡ k = omega arith in
    ap (range_with_len 1) e ∙ range_more 1 (k - 1) ∙ ap (λ i. range_with_len 1 (k - 1) ++ i ∷ []) at

pub filter-next :
    (p : ℕ → Bool) (k : ℕ) → 1 ≤ k
    → filter p (range_with_len 1 (k + 1 - 1)) ≡ filter p (range_with_len 1 (k - 1)) ++ cond (p k) (k ∷ []) []
filter-next p k h = ap (filter p) (range-next k h) ∙ filter-append p (range_with_len 1 (k - 1)) (k ∷ [])

pub map-next :
    {A : Type 0} (f : ℕ → A) (k : ℕ) → 1 ≤ k
    → map f (range_with_len 1 (k + 1 - 1)) ≡ map f (range_with_len 1 (k - 1)) ++ f k ∷ []
map-next f k h = ap (map f) (range-next k h) ∙ map-append f (range_with_len 1 (k - 1)) (k ∷ [])

bit-length : (b : Bool) (k : ℕ) → length (cond b (k ∷ []) []) ≡ cond b 1 0
bit-length true k = refl
bit-length false k = refl

pub count-next :
    (p : ℕ → Bool) (k : ℕ) → 1 ≤ k
    → count_by p (range_with_len 1 (k + 1 - 1)) ≡ count_by p (range_with_len 1 (k - 1)) + cond (p k) 1 0
count-next p k h =
    sym (length-filter p (range_with_len 1 (k + 1 - 1))) ∙ ap length (filter-next p k h)
    ∙ length-append (filter p (range_with_len 1 (k - 1))) (cond (p k) (k ∷ []) [])
    ∙ ap (λ m. length (filter p (range_with_len 1 (k - 1))) + m) (bit-length (p k) k)
    ∙ ap (λ m. m + cond (p k) 1 0) (length-filter p (range_with_len 1 (k - 1)))

-- the entry of an event in a list that has one of each
pub entry-of : (f : ℕ → ℕ) (n e : ℕ) → IsNumber n e → get_or (map f (numbers n)) (e - 1) 0 ≡ f e
entry-of f n e is = get_or-map-range_with_len f 1 n (e - 1) e 0 (omega (arith, is.0, is.1)) (omega (arith, is.0))

pub count-yes :
    (p : ℕ → Bool) (k m : ℕ) → 1 ≤ k → m ≡ count_by p (range_with_len 1 (k - 1)) → p k ≡ true
    → m + 1 ≡ count_by p (range_with_len 1 (k + 1 - 1))
count-yes p k m h e t = let bit : ◌≡◌ {A = ℕ} (cond (p k) 1 0) 1 = ap (λ (b : Bool). cond {A = ℕ} b 1 0) t in omega (arith, count-next p k h)

pub count-no :
    (p : ℕ → Bool) (k m : ℕ) → 1 ≤ k → m ≡ count_by p (range_with_len 1 (k - 1)) → p k ≡ false
    → m ≡ count_by p (range_with_len 1 (k + 1 - 1))
count-no p k m h e t = let bit : ◌≡◌ {A = ℕ} (cond (p k) 1 0) 0 = ap (λ (b : Bool). cond {A = ℕ} b 1 0) t in omega (arith, count-next p k h)

pub filter-yes :
    (p : ℕ → Bool) (k : ℕ) (old xs : List ℕ) → 1 ≤ k → xs ≡ old ++ filter p (range_with_len 1 (k - 1))
    → p k ≡ true → xs ++ k ∷ [] ≡ old ++ filter p (range_with_len 1 (k + 1 - 1))
filter-yes p k old xs h e t =
    let more : filter p (range_with_len 1 (k + 1 - 1)) ≡ filter p (range_with_len 1 (k - 1)) ++ k ∷ [] = filter-next p k h ∙ ap (λ b. filter p (range_with_len 1 (k - 1)) ++ cond b (k ∷ []) []) t in
    ap (λ l. l ++ k ∷ []) e ∙ append_assoc old (filter p (range_with_len 1 (k - 1))) (k ∷ []) ∙ ap (λ l. old ++ l) (sym more)

pub filter-no :
    (p : ℕ → Bool) (k : ℕ) (old xs : List ℕ) → 1 ≤ k → xs ≡ old ++ filter p (range_with_len 1 (k - 1))
    → p k ≡ false → xs ≡ old ++ filter p (range_with_len 1 (k + 1 - 1))
filter-no p k old xs h e t =
    let more : filter p (range_with_len 1 (k + 1 - 1)) ≡ filter p (range_with_len 1 (k - 1)) ++ [] = filter-next p k h ∙ ap (λ b. filter p (range_with_len 1 (k - 1)) ++ cond b (k ∷ []) []) t in
    e ∙ ap (λ l. old ++ l) (sym (more ∙ append-nil (filter p (range_with_len 1 (k - 1)))))

-- a test that was answered as wanted, and one that wasn't
pub wanted :
    (inside is answer : Bool) → answer ≡ is → beq answer inside ≡ true → (if inside then is else not is) ≡ true
wanted true is true e t = sym e
wanted true is false e t = let bad : false ≡ true = t in cc
wanted false is true e t = let bad : false ≡ true = t in cc
wanted false is false e t = ap not (sym e)

pub unwanted :
    (inside is answer : Bool) → answer ≡ is → beq answer inside ≡ false
    → (if inside then is else not is) ≡ false
unwanted true is true e t = let bad : true ≡ false = t in cc
unwanted true is false e t = sym e
unwanted false is true e t = ap not (sym e)
unwanted false is false e t = let bad : true ≡ false = t in cc

-- sorted by entries of a list that has the key of each event
pub sorted-by :
    (f : ℕ → ℕ) (n : ℕ) (entries xs : List ℕ) → entries ≡ map f (numbers n)
    → ((e : ℕ) → Contains xs e → IsNumber n e) → IsNonDecreasingBy (λ e. get_or entries (e - 1) 0) xs
    → IsNonDecreasingBy f xs
sorted-by f n entries xs is all rise = λ i j d l h.
    let at : (k : ℕ) → k < length xs → get_or entries (get_or xs k d - 1) 0 ≡ f (get_or xs k d) =
    λ k short. ap (λ es. get_or es (get_or xs k d - 1) 0) is ∙ entry-of f n (get_or xs k d) (all (get_or xs k d) (Contains-get_or xs k d short)) in
    let up = rise i j d l h in
    omega (arith, at i (omega arith), at j h, up)
