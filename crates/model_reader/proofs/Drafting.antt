-- A draft takes a statement, or the statement has a first fault.
use Rattle.std.proofs.Common.{◌≡◌, ◌≢◌, ◌⊎◌, ℕ, ◌+◌, ◌<◌, Bool, true, false, List, [], ◌∷◌, ◌++◌, length, Option, Some, None, refl, sym, ◌∙◌, ap, subst, inl, inr, append-nil, length-append, arith}
use Rattle.std.specs.List.{All}
use Rattle.std.proofs.lemmas.Bool.{true≢false}
use Rattle.std.proofs.lemmas.Option.{none-some}
use Rattle.std.proofs.lemmas.List.Elements.{All-nil, All-cons, All-push, All-same}
use Rattle.lexeme_reader.specs.declared.reading.Lexeme.{Lexeme}
use Rattle.line_files.specs.StatedLines.{Stated, stated_in, statements}
use Rattle.model_reader.specs.declared.expr.Expr.{Expr}
use Rattle.model_reader.specs.declared.model.Definition.{Definition}
use Rattle.model_reader.specs.declared.fault.ModelKind.{ModelKind}
use Rattle.model_reader.specs.declared.fault.ModelKind.TheVariants.{BadByte, BadToken, BadLine, UnknownName, NameTaken, UnknownKind, TooDeep, EndsEarly, TooMany, TooLong}
use Rattle.model_reader.specs.declared.words.Vocabulary.TheVariants.{KnownNames}
use Rattle.model_reader.specs.declared.draft.Stage.{Stage}
use Rattle.model_reader.specs.declared.draft.Stage.TheVariants as stage
use Rattle.model_reader.specs.declared.draft.Draft.{Draft}
use Rattle.model_reader.specs.Words.{word_of}
use Rattle.model_reader.specs.Statements.{Statement, Head, Let, Keep, End, version_named, names_in, keeps_in}
use Rattle.model_reader.specs.Faults.{names_for, IsFormless, Has}
use Rattle.model_reader.specs.ModelText.{AreRules}
use Rattle.model_reader.specs.Drafts.{IsValue, IsValueFault, HasHead, StandsAt, IsDraft, IsFirstKind, IsTaken, is_barred}
use Rattle.model_reader.proofs.Listing.{names_append, keeps_append, statements-more, rules_append}
use Rattle.model_reader.proofs.Placing.{stays}

abbrev pub Lacks : List Statement → Statement → ModelKind → Type 0
Lacks before s kind = Has before s kind → ⊥

-- a statement that lacks each kind of fault
pub faultless : (before : List Statement) (s : Statement) → Lacks before s BadLine → Lacks before s UnknownName → Lacks before s UnknownKind
    → Lacks before s NameTaken → (kind : ModelKind) → Lacks before s kind
faultless before s line names kinds taken BadLine h = line h
faultless before s line names kinds taken UnknownName h = names h
faultless before s line names kinds taken UnknownKind h = kinds h
faultless before s line names kinds taken NameTaken h = taken h
faultless before s line names kinds taken BadByte h = h
faultless before s line names kinds taken BadToken h = h
faultless before s line names kinds taken TooDeep h = h
faultless before s line names kinds taken EndsEarly h = h
faultless before s line names kinds taken TooMany h = h
faultless before s line names kinds taken TooLong h = h

-- the first kind of fault
pub fault_line : (before : List Statement) (s : Statement) → Has before s BadLine → IsFirstKind before s BadLine
fault_line before s h = ([], UnknownName ∷ UnknownKind ∷ NameTaken ∷ [], refl, All-nil (Lacks before s), h)

pub fault_name : (before : List Statement) (s : Statement) → Lacks before s BadLine → Has before s UnknownName → IsFirstKind before s UnknownName
fault_name before s line h = (BadLine ∷ [], UnknownKind ∷ NameTaken ∷ [], refl, All-cons (Lacks before s) BadLine [] line (All-nil (Lacks before s)), h)

pub fault_kind : (before : List Statement) (s : Statement) → Lacks before s BadLine → Lacks before s UnknownName → Has before s UnknownKind
    → IsFirstKind before s UnknownKind
fault_kind before s line name h =
    let P = Lacks before s in
    (BadLine ∷ UnknownName ∷ [], NameTaken ∷ [], refl, All-cons P BadLine (UnknownName ∷ []) line (All-cons P UnknownName [] name (All-nil P)), h)

pub fault_taken : (before : List Statement) (s : Statement) → Lacks before s BadLine → Lacks before s UnknownName → Lacks before s UnknownKind
    → Has before s NameTaken → IsFirstKind before s NameTaken
fault_taken before s line name kind h =
    let P = Lacks before s in (
      BadLine ∷ UnknownName ∷ UnknownKind ∷ [],
      [],
      refl,
      All-cons P BadLine (UnknownName ∷ UnknownKind ∷ []) line (All-cons P UnknownName (UnknownKind ∷ []) name (All-cons P UnknownKind [] kind (All-nil P))),
      h,
    )

-- at which stage a statement may stand
before_head : (p : Stage) (v : ℕ) (name : List ℕ) (number : Option ℕ) → is_barred p v (Head name number) ≡ false → p ≡ stage.BeforeHead
before_head stage.BeforeHead v name number fits = refl
before_head stage.Rules v name number fits = absurd (true≢false fits)
before_head stage.BehindEnd v name number fits = absurd (true≢false fits)

let_stage : (p : Stage) (v : ℕ) (r : Bool) (name : List ℕ) (value : List Lexeme) → is_barred p v (Let r name value) ≡ false → p ≡ stage.Rules
let_stage stage.BeforeHead v r name value fits = absurd (true≢false fits)
let_stage stage.Rules v r name value fits = refl
let_stage stage.BehindEnd v true name value fits = absurd (true≢false fits)
let_stage stage.BehindEnd v false name value fits = absurd (true≢false fits)

keep_stage : (p : Stage) (v : ℕ) (value : List Lexeme) → is_barred p v (Keep value) ≡ false → p ≡ stage.Rules
keep_stage stage.BeforeHead v value fits = absurd (true≢false fits)
keep_stage stage.Rules v value fits = refl
keep_stage stage.BehindEnd v value fits = absurd (true≢false fits)

end_stage : (p : Stage) (v : ℕ) → is_barred p v End ≡ false → p ≡ stage.Rules
end_stage stage.BeforeHead v fits = absurd (true≢false fits)
end_stage stage.Rules v fits = refl
end_stage stage.BehindEnd v fits = absurd (true≢false fits)

module _ (stated : List (Stated Statement)) (d : Draft) (h : IsDraft stated d) where
  abbrev before : List Statement
  before = statements stated

  line_of : (line : ℕ) (s : Statement) → statements (stated ++ stated_in line s ∷ []) ≡ before ++ s ∷ []
  line_of line s = statements-more stated line s

  head_more : (line : ℕ) (s : Statement) → HasHead stated d → HasHead (stated ++ stated_in line s ∷ []) d
  head_more line s (at, number, behind, is, version) =
      (at, number, behind ++ stated_in line s ∷ [], ap (λ (st : List (Stated Statement)). st ++ stated_in line s ∷ []) is, version)

  still_more : (line : ℕ) (s : Statement) → s ≢ End → All (λ (t : Statement). t ≢ End) before → All (λ (t : Statement). t ≢ End) (statements (stated ++ stated_in line s ∷ []))
  still_more line s other all = All-same (λ (t : Statement). t ≢ End) _ _ (line_of line s) (All-push (λ (t : Statement). t ≢ End) before s all other)

  names_more : (line : ℕ) (s : Statement) → d.names ++ names_in (s ∷ []) ≡ names_in (statements (stated ++ stated_in line s ∷ []))
  names_more line s =
      ap (λ (ns : List (List ℕ)). ns ++ names_in (s ∷ [])) h.names ∙ sym (names_append before (s ∷ [])) ∙ sym (ap names_in (line_of line s))

  keeps_more : (line : ℕ) (s : Statement) → length d.keeps + keeps_in (s ∷ []) ≡ keeps_in (statements (stated ++ stated_in line s ∷ []))
  keeps_more line s =
      ap (λ (n : ℕ). n + keeps_in (s ∷ [])) h.keeps ∙ sym (keeps_append before (s ∷ [])) ∙ sym (ap keeps_in (line_of line s))

  rules_more : (line : ℕ) (s : Statement) (more : List Definition) (further : List Expr) → AreRules d.names (length d.keeps) (s ∷ []) more further
      → AreRules [] 0 (statements (stated ++ stated_in line s ∷ [])) (d.lets ++ more) (d.keeps ++ further)
  rules_more line s more further rules =
      let kept : length d.keeps ≡ 0 + keeps_in before = omega (arith, h.keeps) in
      subst (λ (ss : List Statement). AreRules [] 0 ss (d.lets ++ more) (d.keeps ++ further)) (sym (line_of line s))
      (rules_append [] 0 before (s ∷ []) d.lets more d.keeps further h.rules
      (subst (λ (ns : List (List ℕ)). AreRules ns (0 + keeps_in before) (s ∷ []) more further) h.names
      (subst (λ (n : ℕ). AreRules d.names n (s ∷ []) more further) kept rules)))

  -- a statement that may stand here, and has the form of an expression where one is asked for, is a line of the file
  lacks_line : (s : Statement) → is_barred d.stage d.version s ≡ false → (IsFormless s → ⊥) → Lacks before s BadLine
  lacks_line s fits formed (inl misplaced) = (stays stated d s h fits).0 misplaced
  lacks_line s fits formed (inr (inl foreign)) = (stays stated d s h fits).1 foreign
  lacks_line s fits formed (inr (inr formless)) = formed formless

  -- a head was taken
  pub head_taken : (line : ℕ) (name : List ℕ) (number : Option ℕ) (e : Draft) → is_barred d.stage d.version (Head name number) ≡ false
      → e ≡ record d { stage = stage.Rules; name = name; version = version_named number } → IsTaken stated line (Head name number) e
  head_taken line name number e fits is =
      let s = Head name number in
      let none = subst (λ (p : Stage). StandsAt p stated d) (before_head d.stage d.version name number fits) h.stands in
      subst (λ (y : Draft). IsTaken stated line s y) (sym is) (record {
        faultless = faultless before s (lacks_line s fits (λ b. b)) (λ b. b) (λ b. b) (λ b. b);
        kept = record {
          stands = (
            (line, number, [], ap (λ (st : List (Stated Statement)). st ++ stated_in line s ∷ []) none.0, refl),
            still_more line s (λ e. absurd cc) (All-same (λ (t : Statement). t ≢ End) _ [] (ap (λ (st : List (Stated Statement)). statements st) none.0) (All-nil (λ (t : Statement). t ≢ End))),
          );
          names = sym (append-nil d.names) ∙ names_more line s;
          few_names = h.few_names;
          keeps = omega (arith, keeps_more line s);
          few_keeps = h.few_keeps;
          rules =
              subst (λ (ls : List Definition). AreRules [] 0 (statements (stated ++ stated_in line s ∷ [])) ls d.keeps) (append-nil d.lets)
              (subst (λ (es : List Expr). AreRules [] 0 (statements (stated ++ stated_in line s ∷ [])) (d.lets ++ []) es) (append-nil d.keeps)
              (rules_more line s [] [] (refl, refl)));
        };
      })

  -- the end was taken
  pub end_taken : (line : ℕ) (e : Draft) → is_barred d.stage d.version End ≡ false → e ≡ record d { stage = stage.BehindEnd } → IsTaken stated line End e
  end_taken line e fits is =
      let here = subst (λ (p : Stage). StandsAt p stated d) (end_stage d.stage d.version fits) h.stands in
      subst (λ (y : Draft). IsTaken stated line End y) (sym is) (record {
        faultless = faultless before End (lacks_line End fits (λ b. b)) (λ b. b) (λ b. b) (λ b. b);
        kept = record {
          stands = (head_more line End here.0, stated, line, refl);
          names = sym (append-nil d.names) ∙ names_more line End;
          few_names = h.few_names;
          keeps = omega (arith, keeps_more line End);
          few_keeps = h.few_keeps;
          rules =
              subst (λ (ls : List Definition). AreRules [] 0 (statements (stated ++ stated_in line End ∷ [])) ls d.keeps) (append-nil d.lets)
              (subst (λ (es : List Expr). AreRules [] 0 (statements (stated ++ stated_in line End ∷ [])) (d.lets ++ []) es) (append-nil d.keeps)
              (rules_more line End [] [] (refl, refl)));
        };
      })

  -- a definition was taken
  pub let_taken : (line : ℕ) (r : Bool) (name : List ℕ) (value : List Lexeme) (x : Expr) (e : Draft) → is_barred d.stage d.version (Let r name value) ≡ false
      → length d.names < 256 → IsValue (names_for d.names r name) value x → word_of KnownNames d.names name ≡ None
      → e ≡ record d { names = d.names ++ name ∷ []; lets = d.lets ++ record { value = x; before = length d.keeps; recursive = r } ∷ [] }
      → IsTaken stated line (Let r name value) e
  let_taken line r name value x e fits room is_value free is =
      let s = Let r name value in
      let p = let_stage d.stage d.version r name value fits in
      let here = subst (λ (p : Stage). StandsAt p stated d) p h.stands in
      let known = subst (λ (ns : List (List ℕ)). IsValue (names_for ns r name) value x) h.names is_value in
      subst (λ (y : Draft). IsTaken stated line s y) (sym is) (record {
        faultless = faultless before s (lacks_line (Let r name value) fits known.form) known.named (λ none. none x known.means)
            (λ taken. none-some taken.0 (sym free ∙ ap (λ (ns : List (List ℕ)). word_of KnownNames ns name) h.names ∙ taken.1));
        kept = record {
          stands = subst (λ (p : Stage). StandsAt p (stated ++ stated_in line s ∷ []) (record d { names = d.names ++ name ∷ []; lets = d.lets ++ record { value = x; before = length d.keeps; recursive = r } ∷ [] })) (sym p) (head_more line s here.0, still_more line s (λ e. absurd cc) here.1);
          names = names_more line s;
          few_names = omega (arith, length-append d.names (name ∷ []));
          keeps = omega (arith, keeps_more line s);
          few_keeps = h.few_keeps;
          rules =
              subst (λ (es : List Expr). AreRules [] 0 (statements (stated ++ stated_in line s ∷ [])) (d.lets ++ record { value = x; before = length d.keeps; recursive = r } ∷ []) es) (append-nil d.keeps)
              (rules_more line s (record { value = x; before = length d.keeps; recursive = r } ∷ []) [] (x, [], is_value.means, refl, (refl, refl)));
        };
      })

  -- a kept expression was taken
  pub keep_taken : (line : ℕ) (value : List Lexeme) (x : Expr) (e : Draft) → is_barred d.stage d.version (Keep value) ≡ false → length d.keeps < 256
      → IsValue d.names value x → e ≡ record d { keeps = d.keeps ++ x ∷ [] } → IsTaken stated line (Keep value) e
  keep_taken line value x e fits room is_value is =
      let s = Keep value in
      let p = keep_stage d.stage d.version value fits in
      let here = subst (λ (p : Stage). StandsAt p stated d) p h.stands in
      let known = subst (λ (ns : List (List ℕ)). IsValue ns value x) h.names is_value in
      subst (λ (y : Draft). IsTaken stated line s y) (sym is) (record {
        faultless = faultless before s (lacks_line (Keep value) fits known.form) known.named (λ none. none x known.means) (λ b. b);
        kept = record {
          stands = subst (λ (p : Stage). StandsAt p (stated ++ stated_in line s ∷ []) (record d { keeps = d.keeps ++ x ∷ [] })) (sym p) (head_more line s here.0, still_more line s (λ e. absurd cc) here.1);
          names = sym (append-nil d.names) ∙ names_more line s;
          few_names = h.few_names;
          keeps = length-append d.keeps (x ∷ []) ∙ keeps_more line s;
          few_keeps = omega (arith, length-append d.keeps (x ∷ []));
          rules =
              subst (λ (ls : List Definition). AreRules [] 0 (statements (stated ++ stated_in line s ∷ [])) ls (d.keeps ++ x ∷ [])) (append-nil d.lets)
              (rules_more line s [] (x ∷ []) (x, [], is_value.means, refl, (refl, refl)));
        };
      })

  -- what is wrong with tokens that have to be an expression is wrong with the statement
  pub let_fault : (r : Bool) (name : List ℕ) (value : List Lexeme) (kind : ModelKind) → is_barred d.stage d.version (Let r name value) ≡ false
      → IsValueFault (names_for d.names r name) value kind
      ⊎ ((kind ≡ NameTaken) × ((x : Expr) × IsValue (names_for d.names r name) value x) × ((x : Expr) × (word_of KnownNames d.names name ≡ Some x)))
      → IsFirstKind before (Let r name value) kind
  let_fault r name value kind fits (inl bad) = value_bad (subst (λ (ns : List (List ℕ)). IsValueFault (names_for ns r name) value kind) h.names bad)
    where
      value_bad : IsValueFault (names_for (names_in before) r name) value kind → IsFirstKind before (Let r name value) kind
      value_bad (inl (is, formless)) = subst (IsFirstKind before (Let r name value)) (sym is) (fault_line before (Let r name value) (inr (inr formless)))
      value_bad (inr (inl (is, form, nameless))) = subst (IsFirstKind before (Let r name value)) (sym is) (fault_name before (Let r name value) (lacks_line (Let r name value) fits form) nameless)
      value_bad (inr (inr (is, form, named, kindless))) = subst (IsFirstKind before (Let r name value)) (sym is) (fault_kind before (Let r name value) (lacks_line (Let r name value) fits form) named kindless)
  let_fault r name value kind fits (inr (is, (x, value_is), (y, taken))) =
      let s = Let r name value in
      let known = subst (λ (ns : List (List ℕ)). IsValue (names_for ns r name) value x) h.names value_is in
      subst (IsFirstKind before s) (sym is)
      (fault_taken before s (lacks_line (Let r name value) fits known.form) known.named (λ none. none x known.means)
      (y, sym (ap (λ (ns : List (List ℕ)). word_of KnownNames ns name) h.names) ∙ taken))

  pub keep_fault : (value : List Lexeme) (kind : ModelKind) → is_barred d.stage d.version (Keep value) ≡ false → IsValueFault d.names value kind
      → IsFirstKind before (Keep value) kind
  keep_fault value kind fits bad = value_bad (subst (λ (ns : List (List ℕ)). IsValueFault ns value kind) h.names bad)
    where
      value_bad : IsValueFault (names_in before) value kind → IsFirstKind before (Keep value) kind
      value_bad (inl (is, formless)) = subst (IsFirstKind before (Keep value)) (sym is) (fault_line before (Keep value) (inr (inr formless)))
      value_bad (inr (inl (is, form, nameless))) = subst (IsFirstKind before (Keep value)) (sym is) (fault_name before (Keep value) (lacks_line (Keep value) fits form) nameless)
      value_bad (inr (inr (is, form, named, kindless))) = subst (IsFirstKind before (Keep value)) (sym is) (fault_kind before (Keep value) (lacks_line (Keep value) fits form) named kindless)
