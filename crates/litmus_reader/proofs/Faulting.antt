-- Which fault of a statement is answered, and when there is none.
use Rattle.std.proofs.Common.{◌≡◌, ◌⊎◌, ℕ, zero, suc, Bool, true, List, [], ◌∷◌, map, Some, None, refl, sym, ◌∙◌, ap, subst, inl, inr, arith}
use Rattle.std.specs.List.{Contains}
use Rattle.std.proofs.lemmas.Bool.{false≢true}
use Rattle.std.proofs.lemmas.List.Elements.{All-nil, All-cons}
use Rattle.litmus_syntax.specs.declared.call.Call.TheVariants as call
use Rattle.lexeme_reader.specs.declared.reading.Lexeme.{Lexeme}
use Rattle.lexeme_reader.specs.declared.reading.Lexeme.TheVariants.{Number}
use Rattle.predicate_reader.specs.Predicates.{AreInRange}
use Rattle.litmus_reader.specs.declared.fault.LitmusKind.{LitmusKind}
use Rattle.litmus_reader.specs.declared.fault.LitmusKind.TheVariants.{BadByte, BadToken, BadLine, OutOfOrder, NumberRange, NotHere, BadPredicate, EndsEarly, TooLong}
use Rattle.litmus_reader.specs.declared.statements.Form.{Form}
use Rattle.litmus_reader.specs.Places.{MayStand}
use Rattle.litmus_reader.specs.Statements.{Statement, Head, Block, Sector, Setup, Body, Called, Question, statement_lexemes, form_of}
use Rattle.litmus_reader.specs.Calls.{begins_body, body_calls}
use Rattle.litmus_syntax.specs.Transactions.{is_open}
use Rattle.litmus_reader.specs.Versions.{version_of, version_has}
use Rattle.litmus_reader.specs.Faults.{pairs, HasWide, IsBadSize, IsNotHere, IsTooLong, AsksNothing, Has}
use Rattle.litmus_reader.specs.Read.{numberless}
use Rattle.litmus_reader.specs.TakenLines.{IsFaultless, IsFirstKind}

-- it may stand here
abbrev pub Stands : List Statement → Statement → Type 0
Stands before s = MayStand (map form_of before) (form_of s)

abbrev pub Lacks : List Statement → Statement → LitmusKind → Type 0
Lacks before s kind = Has before s kind → ⊥

pub faultless : (before : List Statement) (s : Statement) → Lacks before s BadLine → Lacks before s OutOfOrder → Lacks before s NumberRange
    → Lacks before s NotHere → Lacks before s TooLong → Lacks before s BadPredicate → IsFaultless before s
faultless before s known order range here long asks BadByte h = h
faultless before s known order range here long asks BadToken h = h
faultless before s known order range here long asks EndsEarly h = h
faultless before s known order range here long asks BadLine h = known h
faultless before s known order range here long asks OutOfOrder h = order h
faultless before s known order range here long asks NumberRange h = range h
faultless before s known order range here long asks NotHere h = here h
faultless before s known order range here long asks TooLong h = long h
faultless before s known order range here long asks BadPredicate h = asks h

-- a file of this version has the statement
pub known : (before : List Statement) (s : Statement) → version_has (version_of before) s ≡ true → Lacks before s BadLine
known before s has none = false≢true (sym none ∙ has)

-- it may stand here, and transactions allow it
pub ordered : (before : List Statement) (s : Statement) → Stands before s → (begins_body before ≡ true → pairs (is_open (body_calls before)) s ≡ true)
    → Lacks before s OutOfOrder
ordered before s may paired (inl out) = out may
ordered before s may paired (inr (begun, unpaired)) = false≢true (sym unpaired ∙ paired begun)

-- numbers in range, and a size that may be had
pub ranges : (before : List Statement) (s : Statement) → AreInRange (statement_lexemes s) → (IsBadSize before s → ⊥) → Lacks before s NumberRange
ranges before s small size (inl wide) = small wide
ranges before s small size (inr bad) = size bad

pub fault_foreign : (before : List Statement) (s : Statement) → Has before s BadLine → IsFirstKind before s BadLine
fault_foreign before s h = ([], OutOfOrder ∷ NumberRange ∷ NotHere ∷ TooLong ∷ BadPredicate ∷ [], refl, All-nil (Lacks before s), h)

pub fault_order : (before : List Statement) (s : Statement) → Lacks before s BadLine → Has before s OutOfOrder → IsFirstKind before s OutOfOrder
fault_order before s has h =
    (BadLine ∷ [], NumberRange ∷ NotHere ∷ TooLong ∷ BadPredicate ∷ [], refl, All-cons (Lacks before s) BadLine [] has (All-nil (Lacks before s)), h)

pub fault_range : (before : List Statement) (s : Statement) → Lacks before s BadLine → Lacks before s OutOfOrder → Has before s NumberRange
    → IsFirstKind before s NumberRange
fault_range before s has order h =
    let P = Lacks before s in (
      BadLine ∷ OutOfOrder ∷ [],
      NotHere ∷ TooLong ∷ BadPredicate ∷ [],
      refl,
      All-cons P BadLine (OutOfOrder ∷ []) has (All-cons P OutOfOrder [] order (All-nil P)),
      h,
    )

pub fault_here : (before : List Statement) (s : Statement) → Lacks before s BadLine → Lacks before s OutOfOrder → Lacks before s NumberRange
    → Has before s NotHere → IsFirstKind before s NotHere
fault_here before s has order range h =
    let P = Lacks before s in (
      BadLine ∷ OutOfOrder ∷ NumberRange ∷ [],
      TooLong ∷ BadPredicate ∷ [],
      refl,
      All-cons P BadLine (OutOfOrder ∷ NumberRange ∷ []) has (All-cons P OutOfOrder (NumberRange ∷ []) order (All-cons P NumberRange [] range (All-nil P))),
      h,
    )

pub fault_long : (before : List Statement) (s : Statement) → Lacks before s BadLine → Lacks before s OutOfOrder → Lacks before s NumberRange
    → Lacks before s NotHere → Has before s TooLong → IsFirstKind before s TooLong
fault_long before s has order range here h =
    let P = Lacks before s in (
      BadLine ∷ OutOfOrder ∷ NumberRange ∷ NotHere ∷ [],
      BadPredicate ∷ [],
      refl,
      All-cons P BadLine (OutOfOrder ∷ NumberRange ∷ NotHere ∷ []) has (All-cons P OutOfOrder (NumberRange ∷ NotHere ∷ []) order
          (All-cons P NumberRange (NotHere ∷ []) range (All-cons P NotHere [] here (All-nil P)))),
      h,
    )

pub fault_asks : (before : List Statement) (s : Statement) → Lacks before s BadLine → Lacks before s OutOfOrder → Lacks before s NumberRange
    → Lacks before s NotHere → Lacks before s TooLong → Has before s BadPredicate → IsFirstKind before s BadPredicate
fault_asks before s has order range here long h =
    let P = Lacks before s in (
      BadLine ∷ OutOfOrder ∷ NumberRange ∷ NotHere ∷ TooLong ∷ [],
      [],
      refl,
      All-cons P BadLine (OutOfOrder ∷ NumberRange ∷ NotHere ∷ TooLong ∷ []) has
          (All-cons P OutOfOrder (NumberRange ∷ NotHere ∷ TooLong ∷ []) order (All-cons P NumberRange (NotHere ∷ TooLong ∷ []) range
          (All-cons P NotHere (TooLong ∷ []) here (All-cons P TooLong [] long (All-nil P))))),
      h,
    )

contains_cases : (x : Lexeme) (xs : List Lexeme) (y : Lexeme) → Contains (x ∷ xs) y → (x ≡ y) ⊎ Contains xs y
contains_cases x xs y (zero, within, at) = inl at
contains_cases x xs y (suc k, within, at) = inr (k, omega arith, at)

contains_later : (x : Lexeme) (xs : List Lexeme) (y : Lexeme) → Contains xs y → Contains (x ∷ xs) y
contains_later x xs y (k, within, at) = (suc k, omega arith, at)

one_wide : (l : Lexeme) → (l ≡ Number None) ⊎ (l ≡ Number None → ⊥)
one_wide (Number None) = inl refl
one_wide l = inr (λ e. absurd cc)

-- numbers are in range, or one isn't
pub wide_or_small : (lexemes : List Lexeme) → Contains lexemes (Number None) ⊎ AreInRange lexemes
wide_or_small [] = inr (λ there. absurd (let within = there.1 in omega arith))
wide_or_small (l ∷ ls) = elim (one_wide l) [
  | inl here ↦ inl (0, omega arith, here)
  | inr small ↦ elim (wide_or_small ls) [
    | inl there ↦ inl (contains_later l ls (Number None) there)
    | inr others ↦ inr (λ there. elim (contains_cases l ls (Number None) there) [ inl here ↦ small here | inr later ↦ others later ])
  ]
]

-- the tokens of a statement have a number above 2^32 - 1
pub wide : (lexemes : List Lexeme) (s : Statement) → lexemes ≡ statement_lexemes s → (AreInRange lexemes → ⊥) → HasWide s
wide lexemes s e none = elim (wide_or_small lexemes) [
  | inl there ↦ subst (λ (ls : List Lexeme). Contains ls (Number None)) e there
  | inr small ↦ absurd (none small)
]

-- what is asked of a statement but its numbers is asked of it without them
same_version : (version : ℕ) (s : Statement) → version_has version s ≡ version_has version (numberless s)
same_version version (Head name None) = refl
same_version version (Head name (Some named)) = refl
same_version version (Called (call.Write path at text)) = refl
same_version version (Called (call.Truncate path size)) = refl
same_version version (Called (call.Attr path key value)) = refl
same_version version (Called c) = refl
same_version version s = refl

-- statements that are alike but for their numbers are of the same versions
pub alike_version : (version : ℕ) (s t : Statement) → numberless s ≡ numberless t → version_has version s ≡ version_has version t
alike_version version s t e = same_version version s ∙ ap (version_has version) e ∙ sym (same_version version t)

pub alike_form : (s t : Statement) → numberless s ≡ numberless t → form_of s ≡ form_of t
alike_form s t e = same_form s ∙ ap form_of e ∙ sym (same_form t)
  where
    same_form : (u : Statement) → form_of u ≡ form_of (numberless u)
    same_form (Block size) = refl
    same_form (Sector size) = refl
    same_form (Called c) = refl
    same_form (Head name version) = refl
    same_form Setup = refl
    same_form Body = refl
    same_form (Question want asked) = refl

pub alike_pairs : (inside : Bool) (s t : Statement) → numberless s ≡ numberless t → pairs inside s ≡ pairs inside t
alike_pairs inside s t e = same_pairs s ∙ ap (pairs inside) e ∙ sym (same_pairs t)
  where
    same_pairs : (u : Statement) → pairs inside u ≡ pairs inside (numberless u)
    same_pairs (Called (call.Write path at text)) = refl
    same_pairs (Called (call.Truncate path size)) = refl
    same_pairs (Called (call.Attr path key value)) = refl
    same_pairs (Called c) = refl
    same_pairs u = refl

-- whether a call stands where it may, and what is counted or asked, doesn't depend on numbers
no_numbers : (before : List Statement) (u : Statement) → (IsNotHere before u → IsNotHere before (numberless u)) × (IsNotHere before (numberless u) → IsNotHere before u)
    × (IsTooLong before u → IsTooLong before (numberless u)) × (IsTooLong before (numberless u) → IsTooLong before u)
    × (AsksNothing u → AsksNothing (numberless u)) × (AsksNothing (numberless u) → AsksNothing u)
no_numbers before (Head name version) = (λ x. x, λ x. x, λ x. x, λ x. x, λ x. x, λ x. x)
no_numbers before (Block size) = (λ x. x, λ x. x, λ x. x, λ x. x, λ x. x, λ x. x)
no_numbers before (Sector size) = (λ x. x, λ x. x, λ x. x, λ x. x, λ x. x, λ x. x)
no_numbers before Setup = (λ x. x, λ x. x, λ x. x, λ x. x, λ x. x, λ x. x)
no_numbers before Body = (λ x. x, λ x. x, λ x. x, λ x. x, λ x. x, λ x. x)
no_numbers before (Called (call.Write path at text)) = (λ x. x, λ x. x, λ x. x, λ x. x, λ x. x, λ x. x)
no_numbers before (Called (call.Truncate path size)) = (λ x. x, λ x. x, λ x. x, λ x. x, λ x. x, λ x. x)
no_numbers before (Called (call.Attr path key value)) = (λ x. x, λ x. x, λ x. x, λ x. x, λ x. x, λ x. x)
no_numbers before (Called c) = (λ x. x, λ x. x, λ x. x, λ x. x, λ x. x, λ x. x)
no_numbers before (Question want asked) = (λ x. x, λ x. x, λ x. x, λ x. x, λ x. x, λ x. x)

pub alike_has : (before : List Statement) (s t : Statement) → numberless s ≡ numberless t → HasWide t → (kind : LitmusKind) → Has before s kind → Has before t kind
alike_has before s t e large BadByte h = h
alike_has before s t e large BadToken h = h
alike_has before s t e large EndsEarly h = h
alike_has before s t e large BadLine h = sym (alike_version (version_of before) s t e) ∙ h
alike_has before s t e large OutOfOrder (inl out) =
    inl (λ may. out (subst (λ (f : Form). MayStand (map form_of before) f) (sym (alike_form s t e)) may))
alike_has before s t e large OutOfOrder (inr (begun, unpaired)) = inr (begun, sym (alike_pairs (is_open (body_calls before)) s t e) ∙ unpaired)
alike_has before s t e large NumberRange h = inl large
alike_has before s t e large NotHere h =
    (no_numbers before t).1 (subst (λ (u : Statement). IsNotHere before u) e ((no_numbers before s).0 h))
alike_has before s t e large TooLong h =
    (no_numbers before t).3 (subst (λ (u : Statement). IsTooLong before u) e ((no_numbers before s).2 h))
alike_has before s t e large BadPredicate h =
    (no_numbers before t).5 (subst (λ (u : Statement). AsksNothing u) e ((no_numbers before s).4 h))
