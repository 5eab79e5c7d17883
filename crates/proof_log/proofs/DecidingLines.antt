-- Each line leads on or has a fault, whatever it is; so bytes are a log or are refused.
use Rattle.std.proofs.Common.{◌≡◌, ◌≢◌, ◌⊎◌, ℕ, zero, suc, ◌+◌, ◌-◌, ◌<◌, ◌≤◌, inl, inr, Bool, true, false, List, [], ◌∷◌, ◌++◌, length, get_or, refl, sym, ◌∙◌, ap, ap₂, subst, arith, Option, None, Some}
use Rattle.std.specs.Prelude.{⊤, codes, decimal, IsSome, is_some}
use Rattle.std.specs.List.{All, Contains}
use Rattle.std.specs.List.Sorted.{IsStrictlyIncreasing}
use Rattle.std.specs.Str.Parse.{digits_value}
use Rattle.std.proofs.lemmas.Bool.{cases_Bool}
use Rattle.std.proofs.lemmas.List.{append_assoc, append-nil, append_cancel_left, length-append}
use Rattle.std.proofs.lemmas.List.Concat.{flat_map-cons}
use Rattle.std.proofs.lemmas.List.Elements.{All-nil, All-cons, All-head, All-tail, All-contains, Contains-append_right}
use Rattle.litmus_syntax.specs.declared.site.SiteKind.{SiteKind}
use Rattle.litmus_syntax.specs.declared.site.SiteKind.TheVariants.{Fsync, Sync, All as Each}
use Rattle.numerals.specs.Numbers.{numbers_text}
use Rattle.numerals.proofs.VisibleLines.{Narrow}
use Rattle.clause_store.specs.declared.Lit.{Lit}
use Rattle.clause_store.specs.Clauses.{InVars}
use Rattle.clause_store.proofs.GeneralLists.{Contains-head}
use Rattle.text_scan.specs.Lines.{lines_of}
use Rattle.proof_log.specs.declared.draft.Draft.{Draft}
use Rattle.proof_log.specs.declared.fault.LogKind.{LogKind}
use Rattle.proof_log.specs.declared.fault.LogKind.TheVariants.{BadLine, BadLiteral, EndsEarly, TooLong}
use Rattle.proof_log.specs.Logs.{Logged}
use Rattle.proof_log.specs.LogText.{sign, clause_line, literals_text, kind_word, head_line, sites_line, formula_line}
use Rattle.proof_log.specs.LogFiles.{IsNumber, AreLiterals, HasBadLiteral, IsLogText, IsLogRefused}
use Rattle.proof_log.specs.LogFiles.AreLiterals.{none, more}
use Rattle.proof_log.specs.LogFiles.IsLogRefused.{too_long}
use Rattle.proof_log.specs.Tokens.{BeginsLiteral, BeginsNumber}
use Rattle.proof_log.specs.Reading.{IsGoodClause, IsReadAs}
use Rattle.proof_log.specs.Stages.{Stage, AreSites, MayBeMadeWith, begun, with_clause, with_question, with_end, IsAsked, Adds, Steps, Runs, IsLineFault, Fails}
use Rattle.proof_log.specs.Stages.Stage.{fresh, headed, sited, within, ended}
use Rattle.proof_log.specs.Stages.Adds.{clause, question, closing, end}
use Rattle.proof_log.specs.Stages.Fails.{early}
use Rattle.proof_log.proofs.Numbering.{one_literal}
use Rattle.proof_log.proofs.OneWay.{one_numbers, numbers_end, one_word, no_kind, word_behind, no_question, no_end}
use Rattle.proof_log.proofs.Running.{narrow, differs}
use Rattle.proof_log.proofs.Literals.{no_literal, one_list, printed_literals, literals_are}
use Rattle.proof_log.proofs.TokenSpans.{literal_span, no_second, no_third}
use Rattle.proof_log.proofs.Refusing.{fails_refused, run_text}
use Rattle.proof_log.proofs.Failing.{fails_first, one_behind}
use Rattle.proof_log.proofs.DraftSteps.{closed_fault, unasked_fault, clause_fault, clause_step}
use Rattle.proof_log.proofs.Deciding.{Told, both, below, strip, same_bytes, span, is_number, number_is, next_number, AreNumbers, numbers}

-- a literal at the front
abbrev HasLiteral : List ℕ → Type 0
HasLiteral line = (l : Lit) × (digits : List ℕ) × (rest : List ℕ) × BeginsLiteral line l digits rest

literal_behind : (line unsigned : List ℕ) (p : Bool) → line ≡ sign p ++ unsigned → (p ≡ true → (x : List ℕ) → line ≡ sign false ++ x → ⊥) → Told (HasLiteral line)
literal_behind line unsigned p e positive =
    let cut = span unsigned in
    elim (is_number cut.0 cut.2.passes) [
      | inr absent ↦ inr (λ (l, d, r, begins).
          let s = literal_span line unsigned cut.0 cut.1 p l d r e positive cut.2 begins in
          absent (number_is cut.0 l.var (subst (λ (x : List ℕ). IsNumber x l.var) (sym s.0) begins.number)))
      | inl is ↦ elim (strip (codes " ") cut.1) [
        | inr missing ↦ inr (λ (l, d, r, begins). missing (r, (literal_span line unsigned cut.0 cut.1 p l d r e positive cut.2 begins).1))
        | inl (rest, e2) ↦ inl (
          record { var = digits_value 10 cut.0; positive = p },
          cut.0,
          rest,
          record {
            spelled = e ∙ ap (λ (x : List ℕ). sign p ++ x) (cut.2.spelled ∙ ap (λ (x : List ℕ). cut.0 ++ x) e2) ∙ sym (append_assoc (sign p) cut.0 (32 ∷ rest));
            number = is;
          },
        )
      ]
    ]

next_literal : (line : List ℕ) → Told (HasLiteral line)
next_literal line = elim (strip (codes "-") line) [
  | inl (unsigned, e) ↦ literal_behind line unsigned false e (λ t. absurd cc)
  | inr missing ↦ literal_behind line line true refl (λ t x e. missing (x, e))
]

-- literals and a closing 0
abbrev IsClosed : List ℕ → Type 0
IsClosed line = (text : List ℕ) × (lits : List Lit) × (line ≡ text ++ codes "0") × AreLiterals text lits

begun_so : (line text : List ℕ) (lits : List Lit) → line ≡ text ++ codes "0" → AreLiterals text lits → (line ≡ codes "0") ⊎ HasLiteral line
begun_so line text lits e none = inl e
begun_so line text lits e (more l d r ls n rs) = inr (l, d, r ++ codes "0", record { spelled = e ∙ append_assoc (sign l.positive ++ d) (32 ∷ r) (codes "0"); number = n })

closed_behind : (line text : List ℕ) (lits : List Lit) (l : Lit) (d rest : List ℕ) → line ≡ text ++ codes "0" → AreLiterals text lits → BeginsLiteral line l d rest → IsClosed rest
closed_behind line text lits l d rest e none begins = absurd (no_literal 48 l d rest (subst (λ (x : List ℕ). BeginsLiteral x l d rest) e begins))
closed_behind line text lits l d rest e (more m d' r ls n rs) begins =
    let same = one_literal l.positive m.positive d rest d' (r ++ codes "0") begins.number.0 n.0 (sym begins.spelled ∙ e ∙ append_assoc (sign m.positive ++ d') (32 ∷ r) (codes "0")) in
    (r, ls, same.2, rs)

shorter : (line : List ℕ) (l : Lit) (d rest : List ℕ) → BeginsLiteral line l d rest → length rest < length line
shorter line l d rest begins = omega (arith, ap (λ (x : List ℕ). length x) begins.spelled, length-append (sign l.positive ++ d) (32 ∷ rest))

literals : (fuel : ℕ) (line : List ℕ) → length line < fuel → Told (IsClosed line)
literals zero line short = absurd (omega (arith, short))
literals (suc fuel) line short = elim (next_literal line) [
  | inr absent ↦ elim (same_bytes line (codes "0")) [
    | inl e ↦ inl ([], [], e, none)
    | inr other ↦ inr (λ (text, lits, e, are). elim (begun_so line text lits e are) [
      | inl zero_alone ↦ other zero_alone
      | inr literal ↦ absent literal
    ])
  ]
  | inl (l, d, rest, begins) ↦ elim (literals fuel rest (omega (arith, short, shorter line l d rest begins))) [
    | inl (text, lits, e, are) ↦ inl (
      sign l.positive ++ d ++ 32 ∷ text,
      l ∷ lits,
      begins.spelled ∙ ap (λ (x : List ℕ). sign l.positive ++ d ++ 32 ∷ x) e ∙ sym (append_assoc (sign l.positive ++ d) (32 ∷ text) (codes "0")),
      more l d text lits begins.number are,
    )
    | inr missing ↦ inr (λ (text, lits, e, are). missing (closed_behind line text lits l d rest e are begins))
  ]
]

-- all literals are there, or one isn't
all_there : (vars : ℕ) (lits : List Lit) → (All (InVars vars) lits) ⊎ ((l : Lit) × Contains lits l × (InVars vars l → ⊥))
all_there vars [] = inl (All-nil (InVars vars))
all_there vars (l ∷ ls) = elim (both (1 ≤ l.var) (l.var ≤ vars) (below 1 l.var) (below l.var vars)) [
  | inr out ↦ inr (l, Contains-head l ls, out)
  | inl there ↦ elim (all_there vars ls) [
    | inl all ↦ inl (All-cons (InVars vars) l ls there all)
    | inr (m, has, out) ↦ inr (m, Contains-append_right (l ∷ []) ls m has, out)
  ]
]

clause_told : (vars : ℕ) (line : List ℕ) → vars ≤ 4294967295 → ((lits : List Lit) × IsGoodClause vars line lits) ⊎ ((kind : LogKind) × IsReadAs vars line [] (Some kind))
clause_told vars line small = elim (literals (suc (length line)) line (omega arith)) [
  | inr missing ↦ inr (
    BadLine,
    (
      λ others good. missing (literals_text others, others, good.0, printed_literals vars others small good.1),
      inl (refl, λ (text, lits, l, e, are, has, out). missing (text, lits, e, are)),
    ),
  )
  | inl (text, lits, e, are) ↦ elim (all_there vars lits) [
    | inl all ↦ inl (lits, (e ∙ ap (λ (x : List ℕ). x ++ codes "0") (literals_are vars text lits small all are), all))
    | inr (l, has, out) ↦ inr (
      BadLiteral,
      (
        λ others good.
            let same = one_list text lits (literals_text others) others are (printed_literals vars others small good.1) (sym e ∙ good.0) in
            out (All-contains (InVars vars) others l good.1 (subst (λ (x : List Lit). Contains x l) same has)),
        inr (refl, (text, lits, l, e, are, has, out)),
      ),
    )
  ]
]

-- the numbers of syncs
shift : (x : ℕ) (xs : List ℕ) (k : ℕ) → get_or (x ∷ xs) (suc k + 1) 0 ≡ get_or xs (k + 1) 0
shift x xs k = let on : suc k + 1 ≡ suc (k + 1) = omega arith in ap (λ (i : ℕ). get_or (x ∷ xs) i 0) on

increasing : (ns : List ℕ) → Told (IsStrictlyIncreasing ns)
increasing [] = inl (λ k low. absurd (omega (arith, low)))
increasing (x ∷ []) = inl (λ k low. absurd (omega (arith, low)))
increasing (x ∷ y ∷ ys) = elim (below (suc x) y) [
  | inr out ↦ inr (λ h. out (let first = h 0 (omega arith) in omega (arith, first)))
  | inl less ↦ elim (increasing (y ∷ ys)) [
    | inl is ↦ inl (λ k low. at less is k low)
    | inr fails ↦ inr (λ h. fails (λ k low. let there = h (suc k) (omega (arith, low)) in omega (arith, there, shift x (y ∷ ys) k)))
  ]
]
  where
    at : suc x ≤ y → IsStrictlyIncreasing (y ∷ ys) → (k : ℕ) → k + 1 < length (x ∷ y ∷ ys) → get_or (x ∷ y ∷ ys) k 0 < get_or (x ∷ y ∷ ys) (k + 1) 0
    at less is zero low = omega (arith, less)
    at less is (suc k) low = let there = is k (omega (arith, low)) in omega (arith, there, shift x (y ∷ ys) k)

numbered : (ns : List ℕ) → Told (All (λ n. (1 ≤ n) × (n ≤ 4294967295)) ns)
numbered [] = inl (All-nil (λ n. (1 ≤ n) × (n ≤ 4294967295)))
numbered (n ∷ ns) = elim (both (1 ≤ n) (n ≤ 4294967295) (below 1 n) (below n 4294967295)) [
  | inr out ↦ inr (λ all. out (All-head (λ k. (1 ≤ k) × (k ≤ 4294967295)) n ns all))
  | inl here ↦ elim (numbered ns) [
    | inl all ↦ inl (All-cons (λ k. (1 ≤ k) × (k ≤ 4294967295)) n ns here all)
    | inr fails ↦ inr (λ all. fails (All-tail (λ k. (1 ≤ k) × (k ≤ 4294967295)) n ns all))
  ]
]

pub kind_told : (word : List ℕ) → Told ((k : SiteKind) × (rest : List ℕ) × (word ≡ kind_word k ++ rest))
kind_told word = elim (strip (codes "fsync") word) [
  | inl (rest, e) ↦ inl (Fsync, rest, e)
  | inr a ↦ elim (strip (codes "sync") word) [
    | inl (rest, e) ↦ inl (Sync, rest, e)
    | inr b ↦ elim (strip (codes "all") word) [
      | inl (rest, e) ↦ inl (Each, rest, e)
      | inr d ↦ inr (λ (k, rest, e). no_word a b d k rest e)
    ]
  ]
]
  where
    no_word : ((rest : List ℕ) × (word ≡ codes "fsync" ++ rest) → ⊥) → ((rest : List ℕ) × (word ≡ codes "sync" ++ rest) → ⊥) → ((rest : List ℕ) × (word ≡ codes "all" ++ rest) → ⊥)
        → (k : SiteKind) (rest : List ℕ) → word ≡ kind_word k ++ rest → ⊥
    no_word a b d Fsync rest e = a (rest, e)
    no_word a b d Sync rest e = b (rest, e)
    no_word a b d Each rest e = d (rest, e)

-- the line of the syncs
abbrev NamesSites : Bool → List ℕ → Type 0
NamesSites second line = (kind : Option SiteKind) × (sites : List ℕ) × MayBeMadeWith second kind sites × (line ≡ sites_line kind sites)

no_sites : AreSites []
no_sites = (λ k low. absurd (omega (arith, low)), All-nil (λ n. (1 ≤ n) × (n ≤ 4294967295)))

none_named : (second : Bool) (line : List ℕ) → line ≡ codes "sites none" → Told (NamesSites second line)
none_named false line e = inl (None, [], (no_sites, λ n. refl, λ t. absurd cc), e)
none_named true line e = inr (λ (kind, sites, may, e'). named kind sites may e')
  where
    named : (kind : Option SiteKind) (sites : List ℕ) → MayBeMadeWith true kind sites → line ≡ sites_line kind sites → ⊥
    named None sites may e' = let bad = may.2 refl in absurd cc
    named (Some k) sites may e' = no_kind k (numbers_text sites) (append_cancel_left (codes "sites ") (kind_word k ++ numbers_text sites) (codes "none") (sym (word_behind k sites) ∙ sym e' ∙ e))

some_named : (second : Bool) (line word : List ℕ) → line ≢ codes "sites none" → line ≡ codes "sites " ++ word → Told (NamesSites second line)
some_named second line word other e = elim (kind_told word) [
  | inr missing ↦ inr (λ (kind, sites, may, e'). missing (let s = split kind sites e' in (s.0, numbers_text sites, s.1)))
  | inl (k, rest, e2) ↦ elim (numbers (length rest) rest (omega arith)) [
    | inr missing ↦ inr (λ (kind, sites, may, e'). missing (let s = split kind sites e' in (sites, narrow sites may.0, (one_word k s.0 rest (numbers_text sites) (sym e2 ∙ s.1)).1)))
    | inl (ns, small, e3) ↦ elim (both (IsStrictlyIncreasing ns) (All (λ n. (1 ≤ n) × (n ≤ 4294967295)) ns) (increasing ns) (numbered ns)) [
      | inl are ↦ inl (
        Some k,
        ns,
        (are, λ n. absurd cc, λ t. refl),
        e ∙ ap (λ (x : List ℕ). codes "sites " ++ x) (e2 ∙ ap (λ (x : List ℕ). kind_word k ++ x) e3) ∙ sym (word_behind k ns),
      )
      | inr fails ↦ inr (λ (kind, sites, may, e').
          let s = split kind sites e' in
          let same = one_numbers sites ns (narrow sites may.0) small (sym (one_word k s.0 rest (numbers_text sites) (sym e2 ∙ s.1)).1 ∙ e3) in
          fails (subst AreSites same may.0))
    ]
  ]
]
  where
    split : (kind : Option SiteKind) (sites : List ℕ) → line ≡ sites_line kind sites → (k : SiteKind) × (word ≡ kind_word k ++ numbers_text sites)
    split None sites e' = absurd (other e')
    split (Some k) sites e' = (k, append_cancel_left (codes "sites ") word (kind_word k ++ numbers_text sites) (sym e ∙ e' ∙ word_behind k sites))

sites_told : (second : Bool) (line : List ℕ) → Told (NamesSites second line)
sites_told second line = elim (same_bytes line (codes "sites none")) [
  | inl e ↦ none_named second line e
  | inr other ↦ elim (strip (codes "sites ") line) [
    | inl (word, e) ↦ some_named second line word other e
    | inr missing ↦ inr (λ (kind, sites, may, e). named kind sites other missing e)
  ]
]
  where
    named : (kind : Option SiteKind) (sites : List ℕ) → line ≢ codes "sites none" → ((rest : List ℕ) × (line ≡ codes "sites " ++ rest) → ⊥) → line ≡ sites_line kind sites → ⊥
    named None sites other missing e = other e
    named (Some k) sites other missing e = missing (kind_word k ++ numbers_text sites, e ∙ word_behind k sites)

-- the line of the formula
abbrev NamesFormula : List ℕ → Type 0
NamesFormula line = (v c : ℕ) × (v ≤ 4294967295) × (c ≤ 4294967295) × (line ≡ formula_line v c)

first_begins : (bytes : List ℕ) (v c : ℕ) → v ≤ 4294967295 → bytes ≡ numbers_text (v ∷ c ∷ []) → (n : ℕ) × (rest : List ℕ) × BeginsNumber bytes n rest
first_begins bytes v c small e = (v, numbers_text (c ∷ []), record { spelled = e ∙ flat_map-cons (λ k. 32 ∷ decimal k) v (c ∷ []); narrow = small; ends = numbers_end (c ∷ []) })

formula_told : (line : List ℕ) → Told (NamesFormula line)
formula_told line = elim (strip (codes "formula") line) [
  | inr missing ↦ inr (λ (v, c, a, b, e). missing (numbers_text (v ∷ c ∷ []), e))
  | inl (bytes, e) ↦ elim (next_number bytes) [
    | inr absent ↦ inr (λ (v, c, a, b, e'). absent (first_begins bytes v c a (append_cancel_left (codes "formula") bytes (numbers_text (v ∷ c ∷ [])) (sym e ∙ e'))))
    | inl (v, rest, begins) ↦ elim (next_number rest) [
      | inr absent ↦ inr (λ (w, d, a, b, e'). no_second line bytes v rest e begins (λ n r x. absent (n, r, x)) w d a b e')
      | inl (c, [], others) ↦ inl (
        v,
        c,
        begins.narrow,
        others.narrow,
        e ∙ ap (λ (x : List ℕ). codes "formula" ++ x)
            (begins.spelled ∙ ap (λ (x : List ℕ). 32 ∷ decimal v ++ x) (others.spelled ∙ sym (flat_map-cons (λ k. 32 ∷ decimal k) c [])) ∙ sym (flat_map-cons (λ k. 32 ∷ decimal k) v (c ∷ []))),
      )
      | inl (c, z ∷ zs, others) ↦ inr (λ (w, d, a, b, e'). no_third line bytes v rest c (z ∷ zs) e begins others (omega arith) w d a b e')
    ]
  ]
]

-- each line leads on, or has a fault
abbrev Fine : Stage → Type 0
Fine (within second l) = l.part.vars ≤ 4294967295
Fine fresh = ⊤
Fine (headed second) = ⊤
Fine (sited second kind sites) = ⊤
Fine (ended l) = ⊤

abbrev Leads : Stage → List ℕ → Type 0
Leads s line = ((t : Stage) × Steps s line t × Fine t) ⊎ ((kind : LogKind) × IsLineFault s line kind)

asked_told : (second : Bool) (q : Option ℕ) → (second ≡ true → IsSome q) ⊎ ((second ≡ true) × (q ≡ None))
asked_told false q = inl (λ t. absurd cc)
asked_told true None = inr (refl, refl)
asked_told true (Some n) = inl (λ t. refl)

asked_none : (q : Option ℕ) → is_some q ≡ true → q ≡ None → ⊥
asked_none q s n = let bad : false ≡ true = ap is_some (sym n) ∙ s in absurd cc

end_leads : (second : Bool) (l : Logged) → Leads (within second l) (codes "end")
end_leads second l = elim (asked_told second l.question) [
  | inl asked ↦ inl (ended l, end asked refl refl, tt)
  | inr (is, unasked) ↦ inr (BadLine, (λ next step. nowhere is unasked next step, inl (refl, λ b. no_end b.1.0 (sym b.1.3))))
]
  where
    nowhere : second ≡ true → l.question ≡ None → (next : Stage) → Adds second l (codes "end") next → ⊥
    nowhere is unasked next (clause lits unshut good e n) = no_end (literals_text lits) (sym e)
    nowhere is unasked next (question unshut s q e n) = let bad : 3 ≡ 8 = differs (codes "end") (codes "question") e in omega (arith, bad)
    nowhere is unasked next (closing unshut a e n) = let bad : 3 ≡ 1 = differs (codes "end") (codes "0") e in omega (arith, bad)
    nowhere is unasked next (end a e n) = asked_none l.question (a is) unasked

question_leads : (second : Bool) (l : Logged) → l.part.closed ≡ false → l.part.vars ≤ 4294967295 → Leads (within second l) (codes "question")
question_leads second l unshut small = elim (asked_told second l.question) [
  | inr (is, unasked) ↦ inl (within second (with_question l), question unshut is unasked refl refl, small)
  | inl asked ↦ inr (BadLine, (λ next step. nowhere asked next step, inl (refl, λ b. no_question b.1.0 (sym b.1.3))))
]
  where
    nowhere : (second ≡ true → IsSome l.question) → (next : Stage) → Adds second l (codes "question") next → ⊥
    nowhere asked next (clause lits unshut good e n) = no_question (literals_text lits) (sym e)
    nowhere asked next (question unshut s q e n) = asked_none l.question (asked s) q
    nowhere asked next (closing unshut a e n) = let bad : 8 ≡ 1 = differs (codes "question") (codes "0") e in omega (arith, bad)
    nowhere asked next (end a e n) = let bad : 8 ≡ 3 = differs (codes "question") (codes "end") e in omega (arith, bad)

clause_leads : (second : Bool) (l : Logged) (line : List ℕ) → l.part.closed ≡ false → l.part.vars ≤ 4294967295 → line ≢ codes "end" → line ≢ codes "question" → Leads (within second l) line
clause_leads second l line unshut small other_end other_question = elim (same_bytes line (clause_line [])) [
  | inl e ↦ subst (Leads (within second l)) (sym e) (elim (asked_told second l.question) [
    | inl asked ↦ inl (within second (with_end l), closing unshut asked refl refl, small)
    | inr (is, unasked) ↦ inr (BadLine, unasked_fault (record { second = second; log = l; ended = false }) refl is unasked)
  ])
  | inr other ↦ elim (clause_told l.part.vars line small) [
    | inl (lits, good) ↦ inl (within second (with_clause l lits), clause_step (record { second = second; log = l; ended = false }) line lits refl unshut small other good, small)
    | inr (kind, read) ↦ inr (kind, clause_fault (record { second = second; log = l; ended = false }) line [] kind refl unshut other_end other_question other read)
  ]
]

within_leads : (second : Bool) (l : Logged) (line : List ℕ) → l.part.vars ≤ 4294967295 → Leads (within second l) line
within_leads second l line small = elim (same_bytes line (codes "end")) [
  | inl e ↦ subst (Leads (within second l)) (sym e) (end_leads second l)
  | inr other ↦ elim (cases_Bool l.part.closed) [
    | inl shut ↦ inr (BadLine, closed_fault (record { second = second; log = l; ended = false }) line refl shut other)
    | inr unshut ↦ elim (same_bytes line (codes "question")) [
      | inl e ↦ subst (Leads (within second l)) (sym e) (question_leads second l unshut small)
      | inr no_such ↦ clause_leads second l line unshut small other no_such
    ]
  ]
]

leads : (s : Stage) (line : List ℕ) → Fine s → Leads s line
leads fresh line fine = elim (same_bytes line (head_line true)) [
  | inl e ↦ inl (headed true, (true, e, refl), tt)
  | inr a ↦ elim (same_bytes line (head_line false)) [
    | inl e ↦ inl (headed false, (false, e, refl), tt)
    | inr b ↦ inr (BadLine, (λ next step. neither a b step.0 step.1, inl (refl, λ x. x)))
  ]
]
  where
    neither : (line ≡ head_line true → ⊥) → (line ≡ head_line false → ⊥) → (second : Bool) → line ≡ head_line second → ⊥
    neither a b true e = a e
    neither a b false e = b e
leads (headed second) line fine = elim (sites_told second line) [
  | inl (kind, sites, may, e) ↦ inl (sited second kind sites, (kind, sites, may, e, refl), tt)
  | inr missing ↦ inr (BadLine, (λ next step. missing (step.0, step.1, step.2, step.3), inl (refl, λ x. x)))
]
leads (sited second kind sites) line fine = elim (formula_told line) [
  | inl (v, c, a, b, e) ↦ inl (within second (begun kind sites v c), (v, c, a, b, e, refl), a)
  | inr missing ↦ inr (BadLine, (λ next step. missing (step.0, step.1, step.2, step.3, step.4), inl (refl, λ x. x)))
]
leads (within second l) line fine = within_leads second l line fine
leads (ended l) line fine = inr (BadLine, (λ next step. step, inl (refl, λ x. x)))

abbrev Settles : Stage → ℕ → List (List ℕ) → Type 0
Settles s count lines = ((l : Logged) × Runs s lines (ended l)) ⊎ ((number : ℕ) × (kind : LogKind) × Fails s count lines number kind)

settled_here : (s : Stage) (count : ℕ) → Settles s count []
settled_here (ended l) count = inl (l, refl)
settled_here fresh count = inr (count + 1, EndsEarly, early fresh refl (λ h. absurd cc) (omega arith) refl)
settled_here (headed second) count = inr (count + 1, EndsEarly, early (headed second) refl (λ h. absurd cc) (omega arith) refl)
settled_here (sited second kind sites) count = inr (count + 1, EndsEarly, early (sited second kind sites) refl (λ h. absurd cc) (omega arith) refl)
settled_here (within second l) count = inr (count + 1, EndsEarly, early (within second l) refl (λ h. absurd cc) (omega arith) refl)

settled : (lines : List (List ℕ)) (s : Stage) (count : ℕ) → Fine s → Settles s count lines
settled [] s count fine = settled_here s count
settled (line ∷ lines) s count fine = elim (leads s line fine) [
  | inr (kind, fault) ↦ inr (count + 1, kind, fails_first s count (line ∷ lines) line lines kind refl fault)
  | inl (t, step, fine') ↦ elim (settled lines t (count + 1) fine') [
    | inl (l, run) ↦ inl (l, (t, step, run))
    | inr (number, kind, fails) ↦ inr (number, kind, one_behind s t count (line ∷ lines) line lines number kind refl step fails)
  ]
]

over : (a b : ℕ) → (b ≤ a → ⊥) → a < b
over a zero out = absurd (out (omega arith))
over zero (suc b) out = omega arith
over (suc a) (suc b) out = let rest = over a b (λ le. out (omega (arith, le))) in omega (arith, rest)

pub log_or_refused : (bytes : List ℕ) → ((l : Logged) × IsLogText bytes l) ⊎ ((line : ℕ) × (kind : LogKind) × IsLogRefused bytes line kind)
log_or_refused bytes = elim (below (length bytes) 67108864) [
  | inr long ↦ inr (0, TooLong, too_long (over 67108864 (length bytes) long) refl)
  | inl short ↦ elim (settled (lines_of bytes) fresh 0 tt) [
    | inl (l, run) ↦ inl (l, run_text bytes l short run)
    | inr (number, kind, fails) ↦ inr (number, kind, fails_refused bytes number kind short fails)
  ]
]
