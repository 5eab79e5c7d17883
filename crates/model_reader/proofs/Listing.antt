-- What statements define and keep where there are more of them.
use Rattle.std.proofs.Common.{◌≡◌, ℕ, ◌+◌, List, [], ◌∷◌, ◌++◌, refl, sym, ◌∙◌, ap, ap₂, subst, append_assoc, append-nil, arith}
use Rattle.std.proofs.lemmas.List.{map-append}
use Rattle.line_files.specs.StatedLines.{Stated, stated_in, statements}
use Rattle.model_reader.specs.declared.expr.Expr.{Expr}
use Rattle.model_reader.specs.declared.model.Definition.{Definition}
use Rattle.model_reader.specs.Statements.{Statement, Head, Let, Keep, End, names_in, keeps_in}
use Rattle.model_reader.specs.ModelText.{AreRules}
use Rattle.model_reader.proofs.Meanings.{one_meaning}
use Rattle.model_reader.specs.declared.words.Vocabulary.TheVariants.{KnownWords}
use Rattle.model_reader.specs.Faults.{names_for}

pub names_append : (xs ys : List Statement) → names_in (xs ++ ys) ≡ names_in xs ++ names_in ys
names_append [] ys = refl
names_append (Head n v ∷ xs) ys = names_append xs ys
names_append (Let r n v ∷ xs) ys = ap (λ (ns : List (List ℕ)). n ∷ ns) (names_append xs ys)
names_append (Keep v ∷ xs) ys = names_append xs ys
names_append (End ∷ xs) ys = names_append xs ys

pub keeps_append : (xs ys : List Statement) → keeps_in (xs ++ ys) ≡ keeps_in xs + keeps_in ys
keeps_append [] ys = let zero : keeps_in ys ≡ 0 + keeps_in ys = omega arith in zero
keeps_append (Head n v ∷ xs) ys = keeps_append xs ys
keeps_append (Let r n v ∷ xs) ys = keeps_append xs ys
keeps_append (Keep v ∷ xs) ys = let more = keeps_append xs ys in omega (arith, more)
keeps_append (End ∷ xs) ys = keeps_append xs ys

pub statements-more : (stated : List (Stated Statement)) (line : ℕ) (s : Statement) → statements (stated ++ stated_in line s ∷ []) ≡ statements stated ++ s ∷ []
statements-more stated line s = map-append (λ (t : Stated Statement). t.statement) stated (stated_in line s ∷ [])

-- the rules of statements, and those of others behind them
pub rules_append : (names : List (List ℕ)) (kept : ℕ) (ss ts : List Statement) (lets more : List Definition) (keeps further : List Expr)
    → AreRules names kept ss lets keeps → AreRules (names ++ names_in ss) (kept + keeps_in ss) ts more further
    → AreRules names kept (ss ++ ts) (lets ++ more) (keeps ++ further)
rules_append names kept [] ts lets more keeps further (none, nothing) h =
    let zero : kept + 0 ≡ kept = omega arith in
    subst (λ (ls : List Definition). AreRules names kept ts (ls ++ more) (keeps ++ further)) (sym none)
    (subst (λ (es : List Expr). AreRules names kept ts more (es ++ further)) (sym nothing)
    (subst (λ (n : ℕ). AreRules names n ts more further) zero (subst (λ (ns : List (List ℕ)). AreRules ns (kept + 0) ts more further) (append-nil names) h)))
rules_append names kept (Head n v ∷ ss) ts lets more keeps further g h = rules_append names kept ss ts lets more keeps further g h
rules_append names kept (Let r n v ∷ ss) ts lets more keeps further (e, others, means, is, g) h = (
  e,
  others ++ more,
  means,
  ap (λ (ls : List Definition). ls ++ more) is,
  rules_append (names ++ n ∷ []) kept ss ts others more keeps further g
      (subst (λ (ns : List (List ℕ)). AreRules ns (kept + keeps_in ss) ts more further) (sym (append_assoc names (n ∷ []) (names_in ss))) h),
)
rules_append names kept (Keep v ∷ ss) ts lets more keeps further (e, others, means, is, g) h =
    let same : kept + (1 + keeps_in ss) ≡ kept + 1 + keeps_in ss = omega arith in (
      e,
      others ++ further,
      means,
      ap (λ (es : List Expr). es ++ further) is,
      rules_append names (kept + 1) ss ts lets more others further g (subst (λ (n : ℕ). AreRules (names ++ names_in ss) n ts more further) same h),
    )
rules_append names kept (End ∷ ss) ts lets more keeps further g h = rules_append names kept ss ts lets more keeps further g h

-- statements have one list of definitions, and one of kept expressions
pub one_rules : (names : List (List ℕ)) (kept : ℕ) (ss : List Statement) (lets more : List Definition) (keeps further : List Expr)
    → AreRules names kept ss lets keeps → AreRules names kept ss more further → (lets ≡ more) × (keeps ≡ further)
one_rules names kept [] lets more keeps further (none, nothing) (empty, void) = (none ∙ sym empty, nothing ∙ sym void)
one_rules names kept (Head n v ∷ ss) lets more keeps further g h = one_rules names kept ss lets more keeps further g h
one_rules names kept (Let r n v ∷ ss) lets more keeps further (e, others, means, is, g) (f, rest, mean, at, h) =
    let (same, alike) = one_rules (names ++ n ∷ []) kept ss others rest keeps further g h in
    let one = one_meaning KnownWords (names_for names r n) v e f means mean in
    (is ∙ ap₂ (λ (x : Expr) (ls : List Definition). record { value = x; before = kept; recursive = r } ∷ ls) one same ∙ sym at, alike)
one_rules names kept (Keep v ∷ ss) lets more keeps further (e, others, means, is, g) (f, rest, mean, at, h) =
    let (same, alike) = one_rules names (kept + 1) ss lets more others rest g h in
    let one = one_meaning KnownWords names v e f means mean in
    (same, is ∙ ap₂ (λ (x : Expr) (es : List Expr). x ∷ es) one alike ∙ sym at)
one_rules names kept (End ∷ ss) lets more keeps further g h = one_rules names kept ss lets more keeps further g h
