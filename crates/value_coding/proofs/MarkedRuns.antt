-- Runs that are found by marks are those of the places that are read.
use Rattle.std.proofs.Common.{◌≡◌, ℕ, zero, suc, ◌+◌, ◌-◌, ◌<◌, ◌≤◌, Bool, false, not, ◌&&◌, ◌||◌, cond, eqb, List, [], ◌∷◌, length, map, filter, Contains, refl, sym, ◌∙◌, ap, ap₂, arith}
use Rattle.std.specs.List.{prefix_len, range_with_len}
use Rattle.clause_store.proofs.GeneralLists.{Contains-head, Contains-tail, Contains-from_filter}
use Rattle.order_coding.proofs.GeneralLists.{range_within}
use Rattle.fer_events.specs.declared.event.Event.{Event}
use Rattle.value_coding.specs.declared.cell.Cell.TheVariants.{Segment}
use Rattle.value_coding.specs.declared.reading.Part.{Part}
use Rattle.value_coding.specs.Runs.{is_edge, begins, goes_on, run_length, runs}
use Rattle.value_coding.specs.Segments.{is_in_part, edges_in, file_places, cut_places}
use Rattle.value_coding.specs.Marks.{marked, begins_marked, goes_on_marked, marked_run, marked_runs}
use Rattle.value_coding.specs.CellLists.{segments_of}
use Rattle.value_coding.proofs.GeneralRuns.{map-agree, runs-end}

filter-agree : (p q : ℕ → Bool) (xs : List ℕ) → ((x : ℕ) → Contains xs x → p x ≡ q x) → filter p xs ≡ filter q xs
filter-agree p q [] h = refl
filter-agree p q (x ∷ xs) h =
    ap (λ (b : Bool). cond b (x ∷ filter p xs) (filter p xs)) (h x (Contains-head x xs))
    ∙ ap (λ (ys : List ℕ). cond (q x) (x ∷ ys) ys) (filter-agree p q xs (λ y c. h y (Contains-tail x xs y c)))

map-twice : {A B C : Type 0} (f : A → B) (g : B → C) (xs : List A) → map g (map f xs) ≡ map (λ x. g (f x)) xs
map-twice f g [] = refl
map-twice {A} {B} {C} f g (x ∷ xs) = ap (λ (ys : List C). g (f x) ∷ ys) (map-twice f g xs)

prefix-agree :
    (p q : ℕ → Bool) (low n : ℕ) → ((k : ℕ) → low ≤ k → k < low + n → p k ≡ q k)
    → prefix_len p (range_with_len low n) ≡ prefix_len q (range_with_len low n)
prefix-agree p q low zero h = refl
prefix-agree p q low (suc n) h =
    ap (λ (b : Bool). cond b (1 + prefix_len p (range_with_len (low + 1) n)) 0) (h low (omega arith) (omega arith))
    ∙ ap (λ (k : ℕ). cond (q low) (1 + k) 0) (prefix-agree p q (low + 1) n (λ k l m. h k (omega arith) (omega arith)))

module _
    (reads edges : List Bool) (r : ℕ → Bool) (es : List ℕ) (n : ℕ) (long : length reads ≡ n)
    (is_read : (place : ℕ) → place < n → marked reads place ≡ r place)
    (is_cut : (place : ℕ) → place < n → marked edges place ≡ is_edge es place) where
  begins-agree : (place : ℕ) → place < n → begins_marked reads edges place ≡ begins r es place
  begins-agree place l =
      ap₂ (λ (a b : Bool). a && (b || eqb place 0 || not (marked reads (place - 1)))) (is_read place l) (is_cut place l)
      ∙ ap (λ (b : Bool). r place && (is_edge es place || eqb place 0 || not b)) (is_read (place - 1) (omega arith))

  goes-agree : (place : ℕ) → place < n → goes_on_marked reads edges place ≡ goes_on r es place
  goes-agree place l = ap₂ (λ (a b : Bool). a && not b) (is_read place l) (is_cut place l)

  run-agree : (file place : ℕ) → place < n → marked_run reads edges file place ≡ Segment file place (run_length r es n place)
  run-agree file place l =
      ap (λ (k : ℕ). Segment file place (1 + prefix_len (goes_on_marked reads edges) (range_with_len (place + 1) (k - (place + 1))))) long
      ∙ ap (λ (k : ℕ). Segment file place (1 + k))
      (prefix-agree (goes_on_marked reads edges) (goes_on r es) (place + 1) (n - (place + 1)) (λ k low high. goes-agree k (omega arith)))

  pub runs-agree : (file : ℕ) → marked_runs reads edges file ≡ map (λ run. Segment file run.0 run.1) (runs r es n)
  runs-agree file =
      ap (λ (k : ℕ). map (marked_run reads edges file) (filter (begins_marked reads edges) (range_with_len 0 k))) long
      ∙ ap (map (marked_run reads edges file))
      (filter-agree (begins_marked reads edges) (begins r es) (range_with_len 0 n) (λ place c. begins-agree place (omega (arith, (range_within 0 n place c).1))))
      ∙ map-agree (marked_run reads edges file) (λ place. Segment file place (run_length r es n place)) (filter (begins r es) (range_with_len 0 n))
      (λ place c. run-agree file place (omega (arith, (range_within 0 n place (Contains-from_filter (begins r es) (range_with_len 0 n) place c).0).1)))
      ∙ sym (map-twice (λ place. (place, run_length r es n place)) (λ (run : ℕ × ℕ). Segment file run.0 run.1) (filter (begins r es) (range_with_len 0 n)))

-- no place behind the last one that is read needs a mark
pub segments-agree :
    (events : List Event) (parts : List Part) (file n : ℕ) (reads edges : List Bool) → n ≤ 65536
    → ((place : ℕ) → n ≤ place → place < 65536 → is_in_part parts place ≡ false) → length reads ≡ n
    → ((place : ℕ) → place < n → marked reads place ≡ is_in_part parts place)
    → ((place : ℕ) → place < n → marked edges place ≡ is_edge (edges_in events parts file) place)
    → marked_runs reads edges file ≡ segments_of events parts file
unfolding cut_places file_places
segments-agree events parts file n reads edges l none long is_read is_cut =
    runs-agree reads edges (is_in_part parts) (edges_in events parts file) n long is_read is_cut file
    ∙ ap (map (λ run. Segment file run.0 run.1)) (sym (runs-end (is_in_part parts) (edges_in events parts file) n 65536 l none))
