-- The literals of a clause line are read in one way.
use Rattle.std.proofs.Common.{◌≡◌, ℕ, ◌<◌, ◌≤◌, Bool, List, [], ◌∷◌, ◌++◌, length, refl, sym, ◌∙◌, ap, ap₂, subst, arith}
use Rattle.std.specs.Prelude.{decimal, codes}
use Rattle.std.specs.List.{All}
use Rattle.std.specs.Str.Parse.{digits_value}
use Rattle.std.proofs.lemmas.List.{append_assoc, length-append}
use Rattle.std.proofs.lemmas.List.Concat.{flat_map-cons}
use Rattle.std.proofs.lemmas.List.Elements.{All-head, All-tail}
use Rattle.clause_store.specs.declared.Lit.{Lit}
use Rattle.clause_store.specs.Clauses.{InVars}
use Rattle.proof_log.specs.LogText.{sign, literal_text, literals_text}
use Rattle.proof_log.specs.LogFiles.{IsNumber, AreLiterals}
use Rattle.proof_log.specs.LogFiles.AreLiterals.{none, more}
use Rattle.proof_log.specs.Tokens.{BeginsLiteral}
use Rattle.proof_log.proofs.Numbering.{number_decimal, decimal_is, one_literal}

-- one literal more behind others
pub literals_more : (text : List ℕ) (lits : List Lit) (l : Lit) (digits : List ℕ) → AreLiterals text lits → IsNumber digits l.var
    → AreLiterals (text ++ (sign l.positive ++ digits ++ 32 ∷ [])) (lits ++ l ∷ [])
literals_more text lits l digits none number = more l digits [] [] number none
literals_more text lits l digits (more m d r ms n rs) number =
    subst (λ (t : List ℕ). AreLiterals t (m ∷ (ms ++ l ∷ []))) (sym (append_assoc (sign m.positive ++ d) (32 ∷ r) (sign l.positive ++ digits ++ 32 ∷ [])))
    (more m d (r ++ (sign l.positive ++ digits ++ 32 ∷ [])) (ms ++ l ∷ []) n (literals_more r ms l digits rs number))

long : (s d r : List ℕ) → 0 < length d → 1 < length (s ++ d ++ 32 ∷ r)
long s d r some = omega (arith, length-append (s ++ d) (32 ∷ r), length-append s d, some)

-- a single byte begins no literal
pub no_literal : (b : ℕ) (l : Lit) (digits rest : List ℕ) → BeginsLiteral (b ∷ []) l digits rest → ⊥
no_literal b l digits rest begins =
    omega (arith, long (sign l.positive) digits rest begins.number.0.0, ap (λ (l : List ℕ). length l) begins.spelled)

-- literals up to where none begins are all of those before a closing 0
pub whole : (done : List ℕ) (lits : List Lit) (rest text : List ℕ) (others : List Lit) → AreLiterals done lits → AreLiterals text others
    → done ++ rest ≡ text ++ codes "0" → ((l : Lit) (digits behind : List ℕ) → BeginsLiteral rest l digits behind → ⊥)
    → (lits ≡ others) × (rest ≡ codes "0")
whole done lits rest text others none none e nothing = (refl, e)
whole done lits rest text others none (more l d r ls n rs) e nothing =
    absurd (nothing l d (r ++ codes "0") (record { spelled = e ∙ append_assoc (sign l.positive ++ d) (32 ∷ r) (codes "0"); number = n }))
whole done lits rest text others (more l d r ls n rs) none e nothing =
    absurd (omega (arith, long (sign l.positive) d r n.0.0, length-append (sign l.positive ++ d ++ 32 ∷ r) rest, ap (λ (l : List ℕ). length l) e))
whole done lits rest text others (more l d r ls n rs) (more l' d' r' ls' n' rs') e nothing =
    let cut : sign l.positive ++ d ++ 32 ∷ (r ++ rest) ≡ sign l'.positive ++ d' ++ 32 ∷ (r' ++ codes "0") =
    sym (append_assoc (sign l.positive ++ d) (32 ∷ r) rest) ∙ e ∙ append_assoc (sign l'.positive ++ d') (32 ∷ r') (codes "0") in
    let first = one_literal l.positive l'.positive d (r ++ rest) d' (r' ++ codes "0") n.0 n'.0 cut in
    let same_var : l.var ≡ l'.var = sym n.1 ∙ ap (λ (x : List ℕ). digits_value 10 x) first.1 ∙ n'.1 in
    let same : l ≡ l' = ap₂ (λ (v : ℕ) (p : Bool). record { var = v; positive = p }) same_var first.0 in
    let later = whole r ls rest r' ls' rs rs' first.2 nothing in
    (ap₂ (λ (x : Lit) (xs : List Lit). x ∷ xs) same later.0, later.1)

-- a line closes one list of literals
pub one_list : (text : List ℕ) (lits : List Lit) (text' : List ℕ) (others : List Lit) → AreLiterals text lits → AreLiterals text' others
    → text ++ codes "0" ≡ text' ++ codes "0" → lits ≡ others
one_list text lits text' others are are' e = (whole text lits (codes "0") text' others are are' e (no_literal 48)).0

-- literals of variables that are there, as they are printed
pub printed_literals : (vars : ℕ) (lits : List Lit) → vars ≤ 4294967295 → All (InVars vars) lits → AreLiterals (literals_text lits) lits
printed_literals vars [] small all = none
printed_literals vars (l ∷ ls) small all =
    let here = All-head (InVars vars) l ls all in
    let e : literals_text (l ∷ ls) ≡ sign l.positive ++ decimal l.var ++ 32 ∷ literals_text ls =
    flat_map-cons (λ (m : Lit). literal_text m ++ codes " ") l ls ∙ append_assoc (literal_text l) (codes " ") (literals_text ls) in
    subst (λ (t : List ℕ). AreLiterals t (l ∷ ls)) (sym e)
    (more l (decimal l.var) (literals_text ls) ls (number_decimal l.var (omega (arith, here.1, small))) (printed_literals vars ls small (All-tail (InVars vars) l ls all)))

-- and there are no others of them
pub literals_are : (vars : ℕ) (text : List ℕ) (lits : List Lit) → vars ≤ 4294967295 → All (InVars vars) lits → AreLiterals text lits → text ≡ literals_text lits
literals_are vars text lits small all none = refl
literals_are vars text lits small all (more l d r ls n rs) =
    let here = All-head (InVars vars) l ls all in
    let e : literals_text (l ∷ ls) ≡ sign l.positive ++ decimal l.var ++ 32 ∷ literals_text ls =
    flat_map-cons (λ (m : Lit). literal_text m ++ codes " ") l ls ∙ append_assoc (literal_text l) (codes " ") (literals_text ls) in
    ap₂ (λ (x y : List ℕ). sign l.positive ++ x ++ 32 ∷ y) (sym (decimal_is d l.var n (omega (arith, here.1, small)))) (literals_are vars r ls small (All-tail (InVars vars) l ls all) rs)
    ∙ sym e
