-- What is printed of a log is read as that log.
use Rattle.std.proofs.Common.{◌≡◌, ℕ, ◌^◌, ◌<◌, ◌≤◌, Bool, true, false, List, [], ◌∷◌, ◌++◌, length, take, drop, refl, sym, ◌∙◌, ap, subst, arith, Option, None, Some}
use Rattle.std.specs.Prelude.{codes, decimal, map, is_some}
use Rattle.std.specs.List.{All}
use Rattle.std.proofs.lemmas.Fmt.{decimal_is_IsNumeral}
use Rattle.std.proofs.lemmas.List.{append_assoc, take-append-drop}
use Rattle.std.proofs.lemmas.List.Concat.{flat_map-cons}
use Rattle.std.proofs.lemmas.List.Elements.{All-nil, All-cons, All-append, All-head, All-tail}
use Rattle.litmus_syntax.specs.declared.site.SiteKind.{SiteKind}
use Rattle.litmus_syntax.specs.declared.site.SiteKind.TheVariants.{Fsync, Sync, All as Each}
use Rattle.numerals.specs.Numbers.{numbers_text}
use Rattle.numerals.proofs.VisibleLines.{Visible, Narrow, cut_line, seen_both, seen_digits, seen_numbers}
use Rattle.clause_store.specs.declared.Lit.{Lit}
use Rattle.clause_store.specs.Clauses.{InVars}
use Rattle.text_scan.specs.Lines.{lines_of}
use Rattle.proof_log.specs.Logs.{Logged, IsLog}
use Rattle.proof_log.specs.LogText.{sign, literal_text, literals_text, clause_line, kind_word, head_line, sites_line, formula_line, opening_lines, asked_lines, learned_lines, closing_lines, log_lines, text_of, log_text}
use Rattle.proof_log.specs.LogFiles.{IsLogText}
use Rattle.proof_log.proofs.Fronts.{All-left, All-right}
use Rattle.proof_log.proofs.OneWay.{two_narrow}
use Rattle.proof_log.proofs.Running.{narrow}

-- visible lines are the lines of their text
lines_back : (lines : List (List ℕ)) → All Visible lines → lines_of (text_of lines) ≡ lines
lines_back [] all = refl
lines_back (line ∷ lines) all =
    ap lines_of (flat_map-cons (λ (l : List ℕ). l ++ codes "\n") line lines ∙ append_assoc line (codes "\n") (text_of lines))
    ∙ cut_line line (text_of lines) (All-head Visible line lines all)
    ∙ ap (λ (l : List (List ℕ)). line ∷ l) (lines_back lines (All-tail Visible line lines all))

seen_sign : (p : Bool) → Visible (sign p)
seen_sign true = refl
seen_sign false = refl

seen_literals : (vars : ℕ) (lits : List Lit) → vars ≤ 4294967295 → All (InVars vars) lits → Visible (literals_text lits)
seen_literals vars [] small all = refl
seen_literals vars (l ∷ ls) small all =
    let wide : l.var < 2 ^ 64 = omega (arith, small, (All-head (InVars vars) l ls all).1) in
    subst Visible (sym (flat_map-cons (λ (m : Lit). literal_text m ++ codes " ") l ls))
    (seen_both (literal_text l ++ codes " ") (literals_text ls)
    (seen_both (literal_text l) (codes " ") (seen_both (sign l.positive) (decimal l.var) (seen_sign l.positive) (seen_digits (decimal l.var) (decimal_is_IsNumeral l.var wide).0.1)) refl)
    (seen_literals vars ls small (All-tail (InVars vars) l ls all)))

seen_clauses : (vars : ℕ) (cs : List (List Lit)) → vars ≤ 4294967295 → All (All (InVars vars)) cs → All Visible (map clause_line cs)
seen_clauses vars [] small all = All-nil Visible
seen_clauses vars (c ∷ cs) small all =
    All-cons Visible (clause_line c) (map clause_line cs)
    (seen_both (literals_text c) (codes "0") (seen_literals vars c small (All-head (All (InVars vars)) c cs all)) refl)
    (seen_clauses vars cs small (All-tail (All (InVars vars)) c cs all))

seen_asked : (q : Option ℕ) (xs : List (List ℕ)) → All Visible xs → All Visible (asked_lines q xs)
seen_asked None xs all = all
seen_asked (Some n) xs all =
    let both = subst (All Visible) (sym (take-append-drop n xs)) all in
    All-append Visible (take n xs) (codes "question" ∷ drop n xs) (All-left Visible (take n xs) (drop n xs) both)
    (All-cons Visible (codes "question") (drop n xs) refl (All-right Visible (take n xs) (drop n xs) both))

seen_head : (second : Bool) → Visible (head_line second)
seen_head true = refl
seen_head false = refl

seen_word : (k : SiteKind) → Visible (kind_word k)
seen_word Fsync = refl
seen_word Sync = refl
seen_word Each = refl

seen_sites : (k : Option SiteKind) (ns : List ℕ) → Narrow ns → Visible (sites_line k ns)
seen_sites None ns small = refl
seen_sites (Some k) ns small = seen_both (codes "sites " ++ kind_word k) (numbers_text ns) (seen_both (codes "sites ") (kind_word k) refl (seen_word k)) (seen_numbers ns small)

seen_closing : (closed : Bool) → All Visible (closing_lines closed)
seen_closing true = All-cons Visible (clause_line []) (codes "end" ∷ []) refl (All-cons Visible (codes "end") [] refl (All-nil Visible))
seen_closing false = All-cons Visible (codes "end") [] refl (All-nil Visible)

seen_log : (l : Logged) → IsLog l → All Visible (log_lines l)
seen_log l is =
    let part = is.part in
    let head = head_line (is_some l.question) in
    let made = sites_line l.kind l.sites in
    let formula = formula_line l.part.vars l.part.clauses in
    All-append Visible (opening_lines l ++ learned_lines l) (closing_lines l.part.closed)
    (All-append Visible (opening_lines l) (learned_lines l)
    (All-cons Visible head (made ∷ formula ∷ []) (seen_head (is_some l.question))
    (All-cons Visible made (formula ∷ []) (seen_sites l.kind l.sites (narrow l.sites (is.ascending, is.numbered)))
    (All-cons Visible formula []
    (seen_both (codes "formula") (numbers_text (l.part.vars ∷ l.part.clauses ∷ [])) refl
    (seen_numbers (l.part.vars ∷ l.part.clauses ∷ []) (two_narrow l.part.vars l.part.clauses part.few_vars part.few_clauses)))
    (All-nil Visible))))
    (seen_asked l.question (map clause_line l.part.learned) (seen_clauses l.part.vars l.part.learned part.few_vars part.named)))
    (seen_closing l.part.closed)

pub printed_read : (l : Logged) → IsLog l → length (log_text l) ≤ 67108864 → IsLogText (log_text l) l
printed_read l is short = record { log = is; short = short; spelled = lines_back (log_lines l) (seen_log l is) }
