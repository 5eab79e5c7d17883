-- What `decode` puts together is the crash that the values say.
use Rattle.std.proofs.Common.{◌≡◌, ℕ, ◌≤◌, List, [], ◌++◌, Contains, length, take, filter, IsPermutation, count_by, Bool, not, sym, ◌∙◌, ap, arith}
use Rattle.std.specs.List.Sorted.{IsNonDecreasingBy}
use Rattle.std.proofs.lemmas.List.{take-append-le}
use Rattle.std.proofs.Math.Seq.{take-length}
use Rattle.std.proofs.lemmas.List.FromFn.{length-range_with_len}
use Rattle.std.proofs.lemmas.List.Sums.{length-filter, count_by-le-length}
use Rattle.std.proofs.lemmas.List.Sorted.{length_permutation, Contains-permutation, IsPermutation-sym}
use Rattle.fer_events.specs.Orders.{numbers}
use Rattle.clause_store.proofs.GeneralLists.{Contains-from_filter}
use Rattle.order_coding.specs.Variables.{IsNumber}
use Rattle.order_coding.specs.Decoded.{is_in, predecessors, IsDecoded}
use Rattle.order_coding.proofs.GeneralOrders.{numbers-within}

pub length-inside :
    (n : ℕ) (v : List Bool) (inside : List ℕ) → IsPermutation (filter (is_in v) (numbers n)) inside
    → length inside ≡ count_by (is_in v) (numbers n)
length-inside n v inside p = length_permutation (filter (is_in v) (numbers n)) inside p ∙ length-filter (is_in v) (numbers n)

pub inside-few :
    (n : ℕ) (v : List Bool) (inside : List ℕ) → IsPermutation (filter (is_in v) (numbers n)) inside
    → length inside ≤ n
inside-few n v inside p = omega (arith, length-inside n v inside p, count_by-le-length (is_in v) (numbers n), length-range_with_len 1 n)

take-first : (xs ys : List ℕ) → take (length xs) (xs ++ ys) ≡ xs
take-first xs ys = let h : length xs ≤ length xs = omega arith in take-append-le (length xs) xs ys h ∙ take-length xs

pub decoded-is :
    (n count cut : ℕ) (v : List Bool) (inside order : List ℕ) → n ≡ count → IsPermutation (filter (is_in v) (numbers n)) inside
    → IsNonDecreasingBy (predecessors n v) inside → order ≡ inside ++ filter (λ e. not (is_in v e)) (numbers n)
    → cut ≡ length inside → IsDecoded count v (record { order = order; cut = cut })
decoded-is n count cut v inside order same p rise whole is =
    let first : inside ≡ take cut order = sym (ap (λ k. take k order) is ∙ ap (take (length inside)) whole ∙ take-first inside (filter (λ e. not (is_in v e)) (numbers n))) in
    rw (← same)
    (record {
      cut = is ∙ length-inside n v inside p;
      inside = rw (← first) p;
      by_place = rw (← first) rise;
      order = rw (← first) whole;
    })

-- what is sorted are numbers of events
pub sorted-number :
    (n : ℕ) (v : List Bool) (old xs ys : List ℕ) → IsPermutation xs ys
    → xs ≡ old ++ filter (is_in v) (numbers n) → old ≡ [] → (e : ℕ) → Contains ys e → IsNumber n e
sorted-number n v old xs ys p is none e h =
    let whole : xs ≡ filter (is_in v) (numbers n) = is ∙ ap (λ l. l ++ filter (is_in v) (numbers n)) none in
    let back : Contains xs e = Contains-permutation ys xs e (IsPermutation-sym xs ys p) h in
    numbers-within n e (Contains-from_filter (is_in v) (numbers n) e (rw (← whole) back)).0
