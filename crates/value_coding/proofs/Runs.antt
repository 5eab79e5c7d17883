-- What the runs of places are: all read, no edge inside, none longer; and each read place is in one.
use Rattle.std.proofs.Common.{◌≡◌, ◌⊎◌, inl, inr, ℕ, zero, suc, ◌+◌, ◌-◌, ◌<◌, ◌≤◌, Bool, true, false, not, ◌&&◌, ◌||◌, eqb, List, filter, Contains, refl, sym, ◌∙◌, ap, subst, arith}
use Rattle.std.specs.List.{list_any, prefix_len, range_with_len}
use Rattle.std.proofs.lemmas.Bool.{cases_eq, eq-eqb}
use Rattle.std.proofs.lemmas.Bool.Decides.{nat_tests}
use Rattle.std.proofs.lemmas.List.FromFn.{length-range_with_len, get_or-range_with_len}
use Rattle.std.proofs.lemmas.List.Sums.{prefix_len_passes, prefix_len_stops, prefix_len-le-length}
use Rattle.std.proofs.lemmas.List.Folds.{list_any_at}
use Rattle.clause_store.proofs.GeneralLists.{Contains-map, Contains-from_map, Contains-filter, Contains-from_filter}
use Rattle.order_coding.proofs.GeneralLists.{range_contains, range_within}
use Rattle.order_coding.proofs.GeneralLists.{bit_cases, true_false}
use Rattle.value_coding.specs.Runs.{is_edge, begins, goes_on, run_length, runs, IsRun}

pub any-here : {X : Type 0} (p : X → Bool) (xs : List X) (x : X) → Contains xs x → p x ≡ true → list_any p xs ≡ true
any-here p xs x (k, l, e) t = list_any_at p xs k x l (ap p e ∙ t)

pub edge-is : (edges : List ℕ) (edge : ℕ) → Contains edges edge → is_edge edges edge ≡ true
edge-is edges edge h = any-here (λ e. eqb e edge) edges edge h (eq-eqb edge edge refl)

first-of : (a b : Bool) → (a && b) ≡ true → a ≡ true
first-of a b e = grind arith

second-of : (a b : Bool) → (a && b) ≡ true → b ≡ true
second-of true b e = e
second-of false b e = cc

not-true : (b : Bool) → not b ≡ true → b ≡ false
not-true true e = cc
not-true false e = refl

first-place : (r e : Bool) → r ≡ true → (r && (e || true || not r)) ≡ true
first-place true true t = refl
first-place true false t = refl
first-place false e t = cc

later-place : (r e z p : Bool) → r ≡ true → z ≡ false → (r && (e || z || not p)) ≡ false → (e ≡ false) × (p ≡ true)
later-place true true z p t f b = absurd (true_false true refl b)
later-place true false true p t f b = absurd (true_false true refl f)
later-place true false false true t f b = (refl, refl)
later-place true false false false t f b = absurd (true_false true refl b)
later-place false e z p t f b = absurd (true_false false t refl)

place-cases : (place end : ℕ) → (place < end) ⊎ (end ≤ place)
place-cases place end = grind arith

goes-on-is : (r e : Bool) → r ≡ true → e ≡ false → (r && not e) ≡ true
goes-on-is true false t f = refl
goes-on-is true true t f = absurd (true_false true refl f)
goes-on-is false e t f = absurd (true_false false t refl)

zero-not : (k : ℕ) → eqb (suc k) 0 ≡ false
zero-not k = grind (arith, nat_tests)

edge-place : (low high edge : ℕ) → ((edge ≤ low) ⊎ (high ≤ edge)) ⊎ ((low < edge) × (edge < high))
edge-place low high edge = grind arith

module _ (reads : ℕ → Bool) (edges : List ℕ) (n : ℕ) where
  abbrev rest : ℕ → List ℕ
  rest at = range_with_len (at + 1) (n - (at + 1))

  abbrev goes : ℕ → ℕ
  goes at = prefix_len (goes_on reads edges) (rest at)

  goes-short : (at : ℕ) → goes at ≤ n - (at + 1)
  goes-short at = omega (arith, prefix_len-le-length (goes_on reads edges) (rest at), length-range_with_len (at + 1) (n - (at + 1)))

  -- the places behind the first go on with the run
  further : (at k : ℕ) → k < goes at → goes_on reads edges (at + 1 + k) ≡ true
  further at k h =
      ap (goes_on reads edges) (sym (get_or-range_with_len (at + 1) (n - (at + 1)) k 0 (omega (arith, goes-short at))))
      ∙ prefix_len_passes (goes_on reads edges) (rest at) k 0 h

  stops : (at : ℕ) → at + run_length reads edges n at < n → goes_on reads edges (at + run_length reads edges n at) ≡ false
  stops at h =
      let short : goes at < n - (at + 1) = omega arith in
      let e : at + run_length reads edges n at ≡ at + 1 + goes at = omega arith in
      ap (goes_on reads edges) (e ∙ sym (get_or-range_with_len (at + 1) (n - (at + 1)) (goes at) 0 short))
      ∙ prefix_len_stops (goes_on reads edges) (rest at) 0 (omega (arith, length-range_with_len (at + 1) (n - (at + 1))))

  inside : (at place : ℕ) → at < place → place < at + run_length reads edges n at → goes_on reads edges place ≡ true
  inside at place h l =
      let e : at + 1 + (place - (at + 1)) ≡ place = omega arith in
      ap (goes_on reads edges) (sym e) ∙ further at (place - (at + 1)) (omega arith)

  is-run : (at : ℕ) → at < n → begins reads edges at ≡ true → IsRun reads edges n at (run_length reads edges n at)
  is-run at h b = record {
    some = omega arith;
    within = omega (arith, goes-short at);
    read = λ place low high. elim (cases_eq at place) [
      | inl same ↦ ap reads (sym same) ∙ first-of (reads at) _ b
      | inr ne ↦ first-of (reads place) _ (inside at place (omega arith) high)
    ];
    no_edge = λ edge c. elim (edge-place at (at + run_length reads edges n at) edge) [
      | inl out ↦ out
      | inr between ↦
          let free = not-true (is_edge edges edge) (second-of (reads edge) (not (is_edge edges edge)) (inside at edge between.0 between.1)) in
          true_false (is_edge edges edge) (edge-is edges edge c) free
    ];
    begins = b;
    ends = stops at;
  }

  pub run-is : (run : ℕ × ℕ) → Contains (runs reads edges n) run → IsRun reads edges n run.0 run.1
  run-is run h =
      let found = Contains-from_map (λ place. (place, run_length reads edges n place)) (filter (begins reads edges) (range_with_len 0 n)) run h in
      let kept = Contains-from_filter (begins reads edges) (range_with_len 0 n) found.0 found.1 in
      let low = range_within 0 n found.0 kept.0 in
      subst (λ (r : ℕ × ℕ). IsRun reads edges n r.0 r.1) found.2 (is-run found.0 (omega (arith, low.1)) kept.1)

  -- each place that is read is in a run
  in-run : (place : ℕ) → place < n → reads place ≡ true → (at : ℕ) × (at < n) × (begins reads edges at ≡ true) × (at ≤ place) × (place < at + run_length reads edges n at)
  in-run zero h t = (0, h, first-place (reads 0) (is_edge edges 0) t, omega arith, omega arith)
  in-run (suc place) h t = elim (bit_cases (begins reads edges (suc place))) [
    | inl b ↦ (suc place, h, b, omega arith, omega arith)
    | inr b ↦
        let e : suc place - 1 ≡ place = omega arith in
        let goes = later-place (reads (suc place)) (is_edge edges (suc place)) (eqb (suc place) 0) (reads (suc place - 1)) t (zero-not place) b in
        let (at, low, is, before, behind) = in-run place (omega arith) (ap reads (sym e) ∙ goes.1) in
        elim (place-cases (suc place) (at + run_length reads edges n at)) [
          | inl inside_it ↦ (at, low, is, omega arith, inside_it)
          | inr past ↦
              let end : at + run_length reads edges n at ≡ suc place = omega arith in
              let on : goes_on reads edges (suc place) ≡ true = goes-on-is (reads (suc place)) (is_edge edges (suc place)) t goes.0 in
              let off : goes_on reads edges (suc place) ≡ false = subst (λ (k : ℕ). goes_on reads edges k ≡ false) end (stops at (omega arith)) in
              true_false (goes_on reads edges (suc place)) on off
        ]
  ]

  pub run-of : (place : ℕ) → place < n → reads place ≡ true → (run : ℕ × ℕ) × Contains (runs reads edges n) run × (run.0 ≤ place) × (place < run.0 + run.1)
  run-of place h t =
      let (at, low, is, before, behind) = in-run place h t in (
        (at, run_length reads edges n at),
        Contains-map (λ p. (p, run_length reads edges n p)) (filter (begins reads edges) (range_with_len 0 n)) at
            (Contains-filter (begins reads edges) (range_with_len 0 n) at (range_contains 0 n at (omega arith) (omega arith)) is),
        before,
        behind,
      )
