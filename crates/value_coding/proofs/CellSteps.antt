-- What a turn of a loop over files or cells adds.
use Rattle.std.proofs.Common.{◌≡◌, ℕ, ◌+◌, ◌<◌, List, [], ◌∷◌, ◌++◌, length, map, take, get_or, sym, ◌∙◌, ap, ap₂, arith, append_assoc}
use Rattle.std.specs.List.{flat_map, range_with_len}
use Rattle.std.proofs.lemmas.List.{take_more}
use Rattle.std.proofs.lemmas.Grind.{flat_map-append}
use Rattle.order_coding.proofs.GeneralLists.{range_more}
use Rattle.order_coding.proofs.GeneralGrowth.{append-nil}
use Rattle.fer_events.specs.declared.event.Event.{Event}
use Rattle.value_coding.specs.declared.cell.Cell.{Cell}
use Rattle.value_coding.specs.declared.cell.CodedCell.{CodedCell}
use Rattle.value_coding.specs.Writers.{writers}
use Rattle.value_coding.specs.LastClauses.{last_vars}
use Rattle.value_coding.specs.CodedCells.{coded_cells}

pub flat_none : {A : Type 0} (f : ℕ → List A) (old : List A) → old ≡ old ++ flat_map f (range_with_len 0 0)
flat_none f old = sym (append-nil old)

pub flat_more :
    {A : Type 0} (f : ℕ → List A) (k : ℕ) (old mid new : List A) → mid ≡ old ++ flat_map f (range_with_len 0 k)
    → new ≡ mid ++ f k → new ≡ old ++ flat_map f (range_with_len 0 (k + 1))
flat_more {A} f k old mid new e h =
    let zero_is : 0 + k ≡ k = omega arith in
    let more : flat_map f (range_with_len 0 (k + 1)) ≡ flat_map f (range_with_len 0 k) ++ f k =
    ap (flat_map f) (range_more 0 k ∙ ap (λ (n : ℕ). range_with_len 0 k ++ n ∷ []) zero_is) ∙ flat_map-append f (range_with_len 0 k) (k ∷ [])
    ∙ ap (λ (ys : List A). flat_map f (range_with_len 0 k) ++ ys) (append-nil (f k)) in
    h ∙ ap (λ (ys : List A). ys ++ f k) e ∙ append_assoc old (flat_map f (range_with_len 0 k)) (f k)
    ∙ ap (λ (ys : List A). old ++ ys) (sym more)

coded-append :
    (events : List Event) (xs : List Cell) (cell : Cell) (first : ℕ)
    → coded_cells events first (xs ++ cell ∷ [])
    ≡ coded_cells events first xs ++ record { cell = cell; first = first + last_vars (map (writers events) xs); writers = writers events cell } ∷ []
coded-append events [] cell first =
    let e : first ≡ first + 0 = omega arith in
    ap (λ (k : ℕ). record { cell = cell; first = k; writers = writers events cell } ∷ []) e
coded-append events (x ∷ xs) cell first =
    let e : first + (length (writers events x) + 1) + last_vars (map (writers events) xs) ≡ first + (length (writers events x) + 1 + last_vars (map (writers events) xs)) = omega arith in
    ap (λ (ys : List CodedCell). record { cell = x; first = first; writers = writers events x } ∷ ys)
    (coded-append events xs cell (first + (length (writers events x) + 1))
    ∙ ap (λ (k : ℕ). coded_cells events (first + (length (writers events x) + 1)) xs ++ record { cell = cell; first = k; writers = writers events cell } ∷ []) e)

vars-append :
    (events : List Event) (xs : List Cell) (cell : Cell)
    → last_vars (map (writers events) (xs ++ cell ∷ [])) ≡ last_vars (map (writers events) xs) + (length (writers events cell) + 1)
vars-append events [] cell = omega arith
vars-append events (x ∷ xs) cell = omega (arith, vars-append events xs cell)

pub coded_more :
    (events : List Event) (xs : List Cell) (i first next : ℕ) (d : Cell) (coded new : List CodedCell) → i < length xs
    → coded ≡ coded_cells events first (take i xs) → next ≡ first + last_vars (map (writers events) (take i xs))
    → new ≡ coded ++ record { cell = get_or xs i d; first = next; writers = writers events (get_or xs i d) } ∷ []
    → new ≡ coded_cells events first (take (i + 1) xs)
coded_more events xs i first next d coded new l e f h =
    h
    ∙ ap₂ (λ (cs : List CodedCell) (k : ℕ). cs ++ record { cell = get_or xs i d; first = k; writers = writers events (get_or xs i d) } ∷ []) e f
    ∙ sym (coded-append events (take i xs) (get_or xs i d) first)
    ∙ ap (coded_cells events first) (sym (take_more xs i d l))

pub vars_more :
    (events : List Event) (xs : List Cell) (i : ℕ) (d : Cell) → i < length xs
    → last_vars (map (writers events) (take (i + 1) xs)) ≡ last_vars (map (writers events) (take i xs)) + (length (writers events (get_or xs i d)) + 1)
vars_more events xs i d l =
    ap (λ (ys : List Cell). last_vars (map (writers events) ys)) (take_more xs i d l) ∙ vars-append events (take i xs) (get_or xs i d)

pub cell_coded :
    (events es : List Event) (xs : List Cell) (i first next : ℕ) (d : Cell) (ws : List ℕ) (coded new : List CodedCell) → i < length xs
    → es ≡ events → ws ≡ writers es (get_or xs i d)
    → coded ≡ coded_cells events first (take i xs) → next ≡ first + last_vars (map (writers events) (take i xs))
    → new ≡ coded ++ record { cell = get_or xs i d; first = next; writers = ws } ∷ []
    → new ≡ coded_cells events first (take (i + 1) xs)
cell_coded events es xs i first next d ws coded new l same found e f h =
    coded_more events xs i first next d coded new l e f
    (h ∙ ap (λ (w : List ℕ). coded ++ record { cell = get_or xs i d; first = next; writers = w } ∷ []) (found ∙ ap (λ (all : List Event). writers all (get_or xs i d)) same))

pub cell_counted :
    (events es : List Event) (xs : List Cell) (i first next later : ℕ) (d : Cell) (ws : List ℕ) → i < length xs
    → es ≡ events → ws ≡ writers es (get_or xs i d) → next ≡ first + last_vars (map (writers events) (take i xs))
    → later ≡ next + (length ws + 1) → later ≡ first + last_vars (map (writers events) (take (i + 1) xs))
cell_counted events es xs i first next later d ws l same found e h =
    omega (arith, e, h, ap length (found ∙ ap (λ (all : List Event). writers all (get_or xs i d)) same), vars_more events xs i d l)
