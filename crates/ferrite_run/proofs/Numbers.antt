-- The numbers of the sites of a set.
use Rattle.std.proofs.Common.{◌≡◌, ◌⊎◌, ℕ, zero, suc, ◌+◌, ◌<◌, ◌≤◌, ◌==◌, Bool, true, false, ◌&&◌, ◌||◌, nat_le, List, [], ◌∷◌, ◌++◌, length, map, take, get_or, refl, sym, ◌∙◌, ap, arith, subst, inl, inr}
use Rattle.std.specs.Prelude.{slice_index}
use Rattle.std.specs.List.{All, Contains, list_all, range_with_len}
use Rattle.std.specs.List.Sorted.{IsStrictlyIncreasing}
use Rattle.std.proofs.lemmas.Bool.{cases_eq}
use Rattle.std.proofs.lemmas.Bool.Decides.{leb_tells, nat_tests}
use Rattle.std.proofs.lemmas.List.{take_more, map-append}
use Rattle.std.proofs.lemmas.List.FromFn.{length-map-range_with_len}
use Rattle.std.proofs.lemmas.List.Elements.{All-nil, All-cons, All-head, All-tail, All-weaker}
use Rattle.clause_store.proofs.GeneralLists.{Contains-head, Contains-tail}
use Rattle.fer_events.proofs.Ranges.{range_split}
use Rattle.sync_shrink.specs.Sets.{things_from}
use Rattle.sync_shrink.proofs.SetLaws.{things-keep, things-drop, take-length}
use Rattle.ferrite_run.specs.Repair.{site_numbers}
use Rattle.ferrite_run.specs.Usable.{is_named}

-- the least number of a set whose first truth value is that of `from`
first_from : (from : ℕ) (s : List Bool) → 0 < length (things_from from s) → from ≤ slice_index (things_from from s) 0
first_from from [] some = absurd (omega (arith, some))
first_from from (true ∷ s) some = omega arith
first_from from (false ∷ s) some = let up = first_from (from + 1) s some in omega (arith, up)

ascends_from : (from : ℕ) (s : List Bool) → IsStrictlyIncreasing (things_from from s)
ascends_from from [] k there = absurd (omega (arith, there))
ascends_from from (false ∷ s) k there = ascends_from (from + 1) s k there
ascends_from from (true ∷ s) zero there = let up = first_from (from + 1) s (omega (arith, there)) in omega (arith, up)
ascends_from from (true ∷ s) (suc k) there =
    let rest : List ℕ = things_from (from + 1) s in
    let e : suc (k + 1) ≡ suc k + 1 = omega arith in
    subst (λ (j : ℕ). slice_index (from ∷ rest) (suc k) < slice_index (from ∷ rest) j) e (ascends_from (from + 1) s k (omega (arith, there)))

within_from : (from top : ℕ) (s : List Bool) → from + length s ≤ top → All (λ n. (from ≤ n) × (n < top)) (things_from from s)
within_from from top [] le = All-nil (λ n. (from ≤ n) × (n < top))
within_from from top (true ∷ s) le =
    All-cons (λ n. (from ≤ n) × (n < top)) from (things_from (from + 1) s) (omega arith, omega (arith, le))
    (All-weaker (λ n. (from + 1 ≤ n) × (n < top)) (λ n. (from ≤ n) × (n < top)) (λ n both. (let up = both.0 in omega (arith, up), both.1)) (things_from (from + 1) s)
    (within_from (from + 1) top s (omega (arith, le))))
within_from from top (false ∷ s) le =
    All-weaker (λ n. (from + 1 ≤ n) × (n < top)) (λ n. (from ≤ n) × (n < top)) (λ n both. (let up = both.0 in omega (arith, up), both.1)) (things_from (from + 1) s)
    (within_from (from + 1) top s (omega (arith, le)))

few_from : (from : ℕ) (s : List Bool) → length (things_from from s) ≤ length s
few_from from [] = omega arith
few_from from (true ∷ s) = let few = few_from (from + 1) s in omega (arith, few)
few_from from (false ∷ s) = let few = few_from (from + 1) s in omega (arith, few)

-- the numbers ascend
pub numbers_ascend : (set : List Bool) (numbers : List ℕ) → numbers ≡ site_numbers set → IsStrictlyIncreasing numbers
numbers_ascend set numbers is = subst IsStrictlyIncreasing (sym is) (ascends_from 1 set)

-- they count from 1, up to how many sites there are
pub numbers_within : (set : List Bool) (numbers : List ℕ) → numbers ≡ site_numbers set → All (λ n. (1 ≤ n) × (n < 1 + length set)) numbers
numbers_within set numbers is = subst (λ (l : List ℕ). All (λ n. (1 ≤ n) × (n < 1 + length set)) l) (sym is) (within_from 1 (1 + length set) set (omega arith))

pub numbers_from_1 : (set : List Bool) (numbers : List ℕ) → numbers ≡ site_numbers set → All (λ n. 1 ≤ n) numbers
numbers_from_1 set numbers is =
    All-weaker (λ n. (1 ≤ n) × (n < 1 + length set)) (λ n. 1 ≤ n) (λ n both. both.0) numbers (numbers_within set numbers is)

-- and there are no more of them than sites
pub numbers_few : (set : List Bool) (numbers : List ℕ) → numbers ≡ site_numbers set → length numbers ≤ length set
numbers_few set numbers is = subst (λ (l : List ℕ). length l ≤ length set) (sym is) (few_from 1 set)

-- one truth value more
pub numbers_next : (set : List Bool) (k : ℕ) (d : Bool) → k < length set → get_or set k d ≡ true → site_numbers (take (k + 1) set) ≡ site_numbers (take k set) ++ (k + 1) ∷ []
numbers_next set k d there is =
    let long : length (take k set) ≡ k = take-length set k there in
    let e : 1 + length (take k set) ≡ k + 1 = omega (arith, long) in
    ap site_numbers (take_more set k d there ∙ ap (λ (b : Bool). take k set ++ b ∷ []) is) ∙ things-keep (take k set) 1 ∙ ap (λ (n : ℕ). site_numbers (take k set) ++ n ∷ []) e

pub numbers_same : (set : List Bool) (k : ℕ) (d : Bool) → k < length set → get_or set k d ≡ false → site_numbers (take (k + 1) set) ≡ site_numbers (take k set)
numbers_same set k d there is = ap site_numbers (take_more set k d there ∙ ap (λ (b : Bool). take k set ++ b ∷ []) is) ∙ things-drop (take k set) 1

-- numbers that ascend, from `low` on
abbrev Rising : ℕ → List ℕ → Type 0
Rising low [] = Unit {0}
Rising low (x ∷ xs) = (low ≤ x) × Rising (x + 1) xs

rising_from : (low : ℕ) (xs : List ℕ) → IsStrictlyIncreasing xs → (0 < length xs → low ≤ slice_index xs 0) → Rising low xs
rising_from low [] up first = tt
rising_from low (x ∷ xs) up first = (
  first (omega arith),
  rising_from (x + 1) xs
      (λ k there. let e : suc k + 1 ≡ suc (k + 1) = omega arith in subst (λ (j : ℕ). slice_index (x ∷ xs) (suc k) < slice_index (x ∷ xs) j) e (up (suc k) (omega (arith, there))))
      (λ some. let next = up zero (omega (arith, some)) in omega (arith, next)),
)

rising_later : (low later : ℕ) (xs : List ℕ) → later ≤ low → Rising low xs → Rising later xs
rising_later low later [] le up = tt
rising_later low later (x ∷ xs) le up = (let first = up.0 in omega (arith, first, le), up.1)

other : (x n : ℕ) → (x ≡ n → ⊥) → (x == n) ≡ false
other x n ne = grind (arith, nat_tests, ne)

same_number : (x n : ℕ) → x ≡ n → (x == n) ≡ true
same_number x n e = grind (arith, nat_tests, e)

-- a number below all others isn't among them
not_named : (low n : ℕ) (xs : List ℕ) → n < low → Rising low xs → is_named xs n ≡ false
not_named low n [] below up = refl
not_named low n (x ∷ xs) below up =
    let first = up.0 in
    ap (λ (b : Bool). b || is_named xs n) (other x n (λ e. omega (arith, first, below, e))) ∙ not_named (x + 1) n xs (omega (arith, first, below)) up.1

-- the set that has these numbers, among `count` from `low` on
abbrev set_with : List ℕ → ℕ → ℕ → List Bool
set_with numbers low count = map (is_named numbers) (range_with_len low count)

-- a number below all of them changes nothing
without_first : (x low count : ℕ) (xs : List ℕ) → x < low → set_with (x ∷ xs) low count ≡ set_with xs low count
without_first x low zero xs below = refl
without_first x low (suc count) xs below =
    ap (λ (b : Bool). (b || is_named xs low) ∷ set_with (x ∷ xs) (low + 1) count) (other x low (λ e. omega (arith, below, e)))
    ∙ ap (λ (l : List Bool). is_named xs low ∷ l) (without_first x (low + 1) count xs (omega (arith, below)))

none_with : (low count from : ℕ) → things_from from (set_with [] low count) ≡ []
none_with low zero from = refl
none_with low (suc count) from = none_with (low + 1) count (from + 1)

things_with : (low count : ℕ) (xs : List ℕ) → Rising low xs → All (λ n. n < low + count) xs → things_from low (set_with xs low count) ≡ xs
things_with low count [] up within = none_with low count low
things_with low zero (x ∷ xs) up within =
    let first = up.0 in let below = All-head (λ n. n < low + zero) x xs within in absurd (omega (arith, first, below))
things_with low (suc count) (x ∷ xs) up within = elim (cases_eq x low) [
  | inl is ↦
      let rest : Rising (low + 1) xs = subst (λ (n : ℕ). Rising (n + 1) xs) is up.1 in
      let inside : All (λ n. n < low + 1 + count) xs = All-weaker (λ n. n < low + suc count) (λ n. n < low + 1 + count) (λ n h. omega (arith, h)) xs (All-tail (λ n. n < low + suc count) x xs within) in
      ap (λ (b : Bool). things_from low ((b || is_named xs low) ∷ set_with (x ∷ xs) (low + 1) count)) (same_number x low is)
      ∙ ap (λ (l : List Bool). low ∷ things_from (low + 1) l) (without_first x (low + 1) count xs (omega (arith, is)))
      ∙ ap (λ (l : List ℕ). low ∷ l) (things_with (low + 1) count xs rest inside)
      ∙ ap (λ (n : ℕ). n ∷ xs) (sym is)
  | inr ne ↦
      let first = up.0 in
      let later : Rising (low + 1) (x ∷ xs) = (omega (arith, first, (λ (e : x ≡ low). ne e)), up.1) in
      let inside : All (λ n. n < low + 1 + count) (x ∷ xs) = All-weaker (λ n. n < low + suc count) (λ n. n < low + 1 + count) (λ n h. omega (arith, h)) (x ∷ xs) within in
      ap (λ (b : Bool). things_from low (b ∷ set_with (x ∷ xs) (low + 1) count)) (not_named (low + 1) low (x ∷ xs) (omega arith) later)
      ∙ things_with (low + 1) count (x ∷ xs) later inside
]

-- the set of the numbers has them
pub named_numbers : (count : ℕ) (numbers : List ℕ) (set : List Bool) → IsStrictlyIncreasing numbers → All (λ n. (1 ≤ n) × (n ≤ 4294967295)) numbers → All (λ n. n ≤ count) numbers
    → set ≡ map (is_named numbers) (range_with_len 1 count) → numbers ≡ site_numbers set
named_numbers count numbers set up some within is =
    let rising : Rising 1 numbers = rising_from 1 numbers up (λ there. (some 0 0 there).0) in
    sym (ap site_numbers is ∙ things_with 1 count numbers rising (All-weaker (λ n. n ≤ count) (λ n. n < 1 + count) (λ n h. omega (arith, h)) numbers within))

pub named_size : (count : ℕ) (numbers : List ℕ) (set : List Bool) → set ≡ map (is_named numbers) (range_with_len 1 count) → length set ≡ count
named_size count numbers set is = ap (λ (l : List Bool). length l) is ∙ length-map-range_with_len (is_named numbers) 1 count

-- one number more
pub named_next : (numbers : List ℕ) (k : ℕ) (set : List Bool) → set ≡ map (is_named numbers) (range_with_len 1 k)
    → set ++ is_named numbers (k + 1) ∷ [] ≡ map (is_named numbers) (range_with_len 1 (k + 1))
named_next numbers k set is =
    let e : 1 + k ≡ k + 1 = omega arith in
    ap (λ (l : List Bool). l ++ is_named numbers (k + 1) ∷ []) is
    ∙ sym (ap (map (is_named numbers)) (range_split 1 k 1) ∙ map-append (is_named numbers) (range_with_len 1 k) (range_with_len (1 + k) 1) ∙ ap (λ (n : ℕ). map (is_named numbers) (range_with_len 1 k) ++ is_named numbers n ∷ []) e)

le_or_not : (n count : ℕ) → ((nat_le n count ≡ true) × (n ≤ count)) ⊎ ((nat_le n count ≡ false) × (count < n))
le_or_not n count = leb_tells n count

-- whether there are as many sites as each number says
pub all_there : (count : ℕ) (numbers : List ℕ) → list_all (λ n. nat_le n count) numbers ≡ true → All (λ n. n ≤ count) numbers
all_there count [] is = All-nil (λ n. n ≤ count)
all_there count (x ∷ xs) is = elim (le_or_not x count) [
  | inl (yes_le, le) ↦ All-cons (λ n. n ≤ count) x xs le (all_there count xs (sym (ap (λ (b : Bool). b && list_all (λ n. nat_le n count) xs) yes_le) ∙ is))
  | inr (no_le, more) ↦ absurd (let bad : false ≡ true = sym (ap (λ (b : Bool). b && list_all (λ n. nat_le n count) xs) no_le) ∙ is in cc)
]

pub some_missing : (count : ℕ) (numbers : List ℕ) → list_all (λ n. nat_le n count) numbers ≡ false → (n : ℕ) × Contains numbers n × (count < n)
some_missing count [] is = absurd (let bad : true ≡ false = is in cc)
some_missing count (x ∷ xs) is = elim (le_or_not x count) [
  | inl (yes_le, le) ↦
      let (n, among, more) = some_missing count xs (sym (ap (λ (b : Bool). b && list_all (λ n. nat_le n count) xs) yes_le) ∙ is) in
      (n, Contains-tail x xs n among, more)
  | inr (no_le, more) ↦ (x, Contains-head x xs, more)
]
