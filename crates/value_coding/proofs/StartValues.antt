-- What the start gives attributes and bytes.
use Rattle.std.proofs.Common.{◌≡◌, ℕ, zero, suc, ◌+◌, ◌-◌, ◌<◌, ◌≤◌, Bool, ◌&&◌, eqb, List, [], ◌∷◌, ◌++◌, length, map, take, drop, get_or, replicate, bytes_eq, Option, Some, slice_get, unwrap_or, option_and_then, refl, sym, ◌∙◌, ap, ap₂, arith, add-one, drop-cons, length-append}
use Rattle.std.specs.List.{list_all, range_with_len}
use Rattle.std.proofs.lemmas.Bool.Decides.{nat_tests}
use Rattle.std.proofs.lemmas.List.{length-replicate}
use Rattle.std.proofs.lemmas.List.FromFn.{length-map-range_with_len, get_or-map-range_with_len}
use Rattle.std.proofs.lemmas.Option.{slice_get-get_or, unwrap_or-slice_get}
use Rattle.fer_events.specs.Tables.{Trace, Initial, file_count}
use Rattle.fer_events.specs.States.{start_state, value_set, padded}
use Rattle.value_coding.specs.Cells.{attr_of, bytes_of}
use Rattle.value_coding.specs.TextPlaces.{has_from}

pub start-attr :
    (t : Trace) (file key : ℕ) → file < file_count t → key < length t.keys → attr_of (start_state t) file key ≡ value_set t.start.attrs file key
start-attr t file key f k =
    let row : ℕ → List (Option ℕ) = λ n. map (λ x. value_set t.start.attrs x n) (range_with_len 0 (file_count t)) in
    let read : unwrap_or (slice_get (map row (range_with_len 0 (length t.keys))) key) [] ≡ row key =
    unwrap_or-slice_get (map row (range_with_len 0 (length t.keys))) key [] ∙ get_or-map-range_with_len row 0 (length t.keys) key key [] k (omega arith) in
    let value = value_set t.start.attrs file key in
    ap (λ (xs : List (Option ℕ)). option_and_then (λ v. v) (slice_get xs file)) read
    ∙ ap (λ (o : Option (Option ℕ)). option_and_then (λ v. v) o)
    (slice_get-get_or (row key) file value (omega (arith, length-map-range_with_len (λ x. value_set t.start.attrs x key) 0 (file_count t)))
    ∙ ap (λ (v : Option ℕ). Some v) (get_or-map-range_with_len (λ x. value_set t.start.attrs x key) 0 (file_count t) file file value f (omega arith)))

pub zeros : (text : List ℕ) → bytes_eq (replicate (length text) 0) text ≡ list_all (λ b. eqb b 0) text
zeros [] = refl
zeros (b ∷ text) =
    let turned : eqb 0 b ≡ eqb b 0 = grind (arith, nat_tests) in
    ap₂ (λ (x y : Bool). x && y) turned (zeros text)

pub has-all : (row : List ℕ) (text : List ℕ) (at : ℕ) → at + length text ≤ length row → bytes_eq (take (length text) (drop at row)) text ≡ has_from row at text
has-all row [] at h = refl
has-all row (b ∷ text) at h =
    let cut : drop at row ≡ get_or row at 0 ∷ drop (at + 1) row = drop-cons row at 0 (omega arith) ∙ ap (λ (k : ℕ). get_or row at 0 ∷ drop k row) (sym (add-one at)) in
    ap (λ (xs : List ℕ). bytes_eq (take (suc (length text)) xs) (b ∷ text)) cut
    ∙ ap (λ (x : Bool). eqb (get_or row at 0) b && x) (has-all row text (at + 1) (omega arith))

has-same : (row other text : List ℕ) (at : ℕ) → ((k : ℕ) → get_or row k 0 ≡ get_or other k 0) → has_from row at text ≡ has_from other at text
has-same row other [] at h = refl
has-same row other (b ∷ text) at h = ap₂ (λ (k : ℕ) (x : Bool). eqb k b && x) (h at) (has-same row other text (at + 1) h)

zero-read : (n k : ℕ) → ◌≡◌ {A = ℕ} (get_or (replicate n 0) k 0) 0
zero-read zero k = refl
zero-read (suc n) zero = refl
zero-read (suc n) (suc k) = zero-read n k

-- behind a content there are zeros, and there are none to read behind them
append-zeros : (xs : List ℕ) (n k : ℕ) → get_or (xs ++ replicate n 0) k 0 ≡ get_or xs k 0
append-zeros [] n k = zero-read n k
append-zeros (x ∷ xs) n zero = refl
append-zeros (x ∷ xs) n (suc k) = append-zeros xs n k

padded-read : (content : List ℕ) (k : ℕ) → get_or (padded content) k 0 ≡ get_or content k 0
unfolding padded
padded-read content k = append-zeros content (65536 - length content) k

padded-long : (content : List ℕ) → length content ≤ 65536 → length (padded content) ≡ 65536
unfolding padded
padded-long content h = omega (arith, length-append content (replicate (65536 - length content) 0), length-replicate {A = ℕ} (65536 - length content) 0)

row-at : (contents : List (List ℕ)) (file : ℕ) (content : List ℕ) → file < length contents → content ≡ get_or contents file content → unwrap_or (slice_get (map padded contents) file) [] ≡ padded content
row-at [] file content h e = absurd (omega arith)
row-at (x ∷ xs) zero content h e = ap padded (sym e)
row-at (x ∷ xs) (suc file) content h e = row-at xs file content (omega arith) e

pub start-text :
    (t : Trace) (file at : ℕ) (text content : List ℕ) → file < file_count t → at + length text ≤ 65536 → content ≡ get_or t.start.contents file content → length content ≤ 65536
    → bytes_eq (bytes_of (start_state t) file at (length text)) text ≡ has_from content at text
start-text t file at text content h room e fits =
    ap (λ (row : List ℕ). bytes_eq (take (length text) (drop at row)) text) (row-at t.start.contents file content h e)
    ∙ has-all (padded content) text at (omega (arith, padded-long content fits))
    ∙ has-same (padded content) content text at (padded-read content)

-- a turn of the loop over the text
pub from-step : (content text : List ℕ) (at i d : ℕ) → i < length text → has_from content (at + i) (drop i text) ≡ (eqb (get_or content (at + i) 0) (get_or text i d) && has_from content (at + (i + 1)) (drop (i + 1) text))
from-step content text at i d h =
    let cut : drop i text ≡ get_or text i d ∷ drop (i + 1) text = drop-cons text i d h ∙ ap (λ (k : ℕ). get_or text i d ∷ drop k text) (sym (add-one i)) in
    let next : at + i + 1 ≡ at + (i + 1) = omega arith in
    ap (has_from content (at + i)) cut
    ∙ ap (λ (k : ℕ). eqb (get_or content (at + i) 0) (get_or text i d) && has_from content k (drop (i + 1) text)) next

pub content-of :
    (t : Trace) (contents : List (List ℕ)) (start : Initial) (file : ℕ) (content : List ℕ) → start ≡ t.start → contents ≡ start.contents
    → content ≡ get_or contents file content → content ≡ get_or t.start.contents file content
content-of t contents start file content e f h =
    h ∙ ap (λ (cs : List (List ℕ)). get_or cs file content) (f ∙ ap (λ (s : Initial). s.contents) e)
