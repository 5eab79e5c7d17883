-- The lines of a table, one by one.
use Rattle.std.proofs.Common.{◌≡◌, ℕ, suc, ◌+◌, ◌<◌, List, [], ◌∷◌, ◌++◌, length, take, get_or, sym, ◌∙◌, ap, append_assoc, arith}
use Rattle.std.specs.List.{flat_map}
use Rattle.std.proofs.lemmas.Grind.{flat_map-append}
use Rattle.std.proofs.lemmas.List.{append-nil, take_more, length-take}
use Rattle.fer_events.specs.declared.event.Event.{Event}
use Rattle.fer_events.specs.Tables.{Trace}
use Rattle.report.specs.EventTable.{event_line, event_lines, keep_line}

lines_append : (t : Trace) (n : ℕ) (xs ys : List Event) → event_lines t n (xs ++ ys) ≡ event_lines t n xs ++ event_lines t (n + length xs) ys
lines_append t n [] ys = let e : n ≡ n + 0 = omega arith in ap (λ (k : ℕ). event_lines t k ys) e
lines_append t n (x ∷ xs) ys =
    let e : n + 1 + length xs ≡ n + suc (length xs) = omega arith in
    ap (λ (l : List ℕ). event_line t n x ++ l) (lines_append t (n + 1) xs ys ∙ ap (λ (k : ℕ). event_lines t (n + 1) xs ++ event_lines t k ys) e)
    ∙ sym (append_assoc (event_line t n x) (event_lines t (n + 1) xs) (event_lines t (n + suc (length xs)) ys))

-- one event more
pub lines_more : (t : Trace) (es : List Event) (k : ℕ) (e : Event) → k < length es → e ≡ get_or es k e
    → event_lines t 1 (take k es) ++ event_line t (k + 1) e ≡ event_lines t 1 (take (k + 1) es)
lines_more t es k e there is =
    let long : length (take k es) ≡ k = omega (arith, length-take k es) in
    let next : 1 + length (take k es) ≡ k + 1 = omega arith in
    sym (
    ap (event_lines t 1) (take_more es k e there ∙ ap (λ (x : Event). take k es ++ x ∷ []) (sym is))
    ∙ lines_append t 1 (take k es) (e ∷ [])
    ∙ ap (λ (j : ℕ). event_lines t 1 (take k es) ++ event_lines t j (e ∷ [])) next
    ∙ ap (λ (l : List ℕ). event_lines t 1 (take k es) ++ l) (append-nil (event_line t (k + 1) e))
    )

-- some pairs more
pub pairs_more : (out now : List ℕ) (before more all : List (ℕ × ℕ)) → now ≡ out ++ flat_map keep_line before → all ≡ before ++ more
    → now ++ flat_map keep_line more ≡ out ++ flat_map keep_line all
pairs_more out now before more all printed joined =
    ap (λ (l : List ℕ). l ++ flat_map keep_line more) printed
    ∙ append_assoc out (flat_map keep_line before) (flat_map keep_line more)
    ∙ ap (λ (l : List ℕ). out ++ l) (sym (ap (flat_map keep_line) joined ∙ flat_map-append keep_line before more))
