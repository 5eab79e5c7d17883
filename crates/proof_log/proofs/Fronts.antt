-- The lines of a log lead to its end, and what leads from the beginning is the front of a log.
use Rattle.std.proofs.Common.{◌≡◌, ℕ, ◌<◌, ◌≤◌, Bool, true, false, List, [], ◌∷◌, ◌++◌, length, take, drop, refl, sym, ◌∙◌, ap, ap₂, subst, arith, Option, None, Some}
use Rattle.std.specs.Prelude.{codes, map, IsSome, is_some, IfSome, if◌then◌else◌}
use Rattle.std.specs.List.{All}
use Rattle.std.proofs.Math.Seq.{take-length, drop-length}
use Rattle.std.proofs.lemmas.List.{append_assoc, append-nil, length-append, length-map, length-take-le, map-append, take-map, drop-map, take-append-le, drop-append-le, take-append-drop}
use Rattle.std.proofs.lemmas.List.Elements.{All-nil, All-cons, All-append, All-head, All-tail}
use Rattle.litmus_syntax.specs.declared.site.SiteKind.{SiteKind}
use Rattle.clause_store.specs.declared.Lit.{Lit}
use Rattle.clause_store.specs.Clauses.{InVars}
use Rattle.proof_log.specs.Logs.{Logged, IsLog}
use Rattle.proof_log.specs.LogText.{clause_line, head_line, sites_line, formula_line, opening_lines, asked_lines, learned_lines, closing_lines, log_lines}
use Rattle.proof_log.specs.LogFiles.{IsFront}
use Rattle.proof_log.specs.Stages.{Stage, MayBeMadeWith, begun, with_clause, with_question, with_end, IsAsked, Adds, Steps, Runs}
use Rattle.proof_log.specs.Stages.Stage.{fresh, headed, sited, within, ended}
use Rattle.proof_log.specs.Stages.Adds.{clause, question, closing, end}
use Rattle.proof_log.proofs.Running.{joined, parted}

-- the log of these parts
abbrev pub made : Option SiteKind → List ℕ → ℕ → ℕ → List (List Lit) → Bool → Option ℕ → Logged
made kind sites vars clauses learned closed q = record { kind = kind; sites = sites; part = record { vars = vars; clauses = clauses; learned = learned; closed = closed }; question = q }

pub All-left : {A : Type 0} (P : A → Type 0) (xs ys : List A) → All P (xs ++ ys) → All P xs
All-left P [] ys all = All-nil P
All-left P (x ∷ xs) ys all = All-cons P x xs (All-head P x (xs ++ ys) all) (All-left P xs ys (All-tail P x (xs ++ ys) all))

pub All-right : {A : Type 0} (P : A → Type 0) (xs ys : List A) → All P (xs ++ ys) → All P ys
All-right P [] ys all = all
All-right P (x ∷ xs) ys all = All-right P xs ys (All-tail P x (xs ++ ys) all)

-- clauses lead on
clauses_run : (second : Bool) (kind : Option SiteKind) (sites : List ℕ) (v c : ℕ) (q : Option ℕ) (ls cs : List (List Lit)) → v ≤ 4294967295
    → All (All (InVars v)) cs → All (λ clause. 0 < length clause) cs
    → Runs (within second (made kind sites v c ls false q)) (map clause_line cs) (within second (made kind sites v c (ls ++ cs) false q))
clauses_run second kind sites v c q ls [] small named filled =
    ap (λ (l : List (List Lit)). within second (made kind sites v c l false q)) (sym (append-nil ls))
clauses_run second kind sites v c q ls (x ∷ cs) small named filled = (
  within second (made kind sites v c (ls ++ x ∷ []) false q),
  clause x refl (small, All-head (λ clause. 0 < length clause) x cs filled, All-head (All (InVars v)) x cs named) refl refl,
  subst (λ (l : List (List Lit)). Runs (within second (made kind sites v c (ls ++ x ∷ []) false q)) (map clause_line cs) (within second (made kind sites v c l false q)))
      (append_assoc ls (x ∷ []) cs)
      (clauses_run second kind sites v c q (ls ++ x ∷ []) cs small (All-tail (All (InVars v)) x cs named) (All-tail (λ clause. 0 < length clause) x cs filled)),
)

-- a question in a list of clauses
asked_run : (kind : Option SiteKind) (sites : List ℕ) (v c : ℕ) (cs : List (List Lit)) (q : Option ℕ) → v ≤ 4294967295
    → All (All (InVars v)) cs → All (λ clause. 0 < length clause) cs → IfSome q (λ n. (n ≤ length cs) × IsSome kind)
    → Runs (within (is_some q) (begun kind sites v c)) (asked_lines q (map clause_line cs)) (within (is_some q) (made kind sites v c cs false q))
asked_run kind sites v c cs None small named filled asked = clauses_run false kind sites v c None [] cs small named filled
asked_run kind sites v c cs (Some n) small named filled asked =
    let whole : take n cs ++ drop n cs ≡ cs = take-append-drop n cs in
    let named' = subst (λ (l : List (List Lit)). All (All (InVars v)) l) (sym whole) named in
    let filled' = subst (λ (l : List (List Lit)). All (λ clause. 0 < length clause) l) (sym whole) filled in
    let first = clauses_run true kind sites v c None [] (take n cs) small (All-left (All (InVars v)) (take n cs) (drop n cs) named') (All-left (λ clause. 0 < length clause) (take n cs) (drop n cs) filled') in
    let second = clauses_run true kind sites v c (Some n) (take n cs) (drop n cs) small (All-right (All (InVars v)) (take n cs) (drop n cs) named') (All-right (λ clause. 0 < length clause) (take n cs) (drop n cs) filled') in
    let second' = subst (λ (l : List (List Lit)). Runs (within true (made kind sites v c (take n cs) false (Some n))) (map clause_line (drop n cs)) (within true (made kind sites v c l false (Some n)))) whole second in
    let place : Some (length (take n cs)) ≡ Some n = ap (λ (k : ℕ). Some k) (length-take-le n cs asked.0) in
    let step : Adds true (made kind sites v c (take n cs) false None) (codes "question") (within true (made kind sites v c (take n cs) false (Some n))) =
    question refl refl refl refl (ap (λ (p : Option ℕ). within true (made kind sites v c (take n cs) false p)) (sym place)) in
    let all = joined (map clause_line (take n cs)) (codes "question" ∷ map clause_line (drop n cs)) (within true (begun kind sites v c)) (within true (made kind sites v c (take n cs) false None))
    (within true (made kind sites v c cs false (Some n))) first (within true (made kind sites v c (take n cs) false (Some n)), step, second') in
    subst (λ (l : List (List ℕ)). Runs (within true (begun kind sites v c)) l (within true (made kind sites v c cs false (Some n))))
    (ap₂ (λ (xs ys : List (List ℕ)). xs ++ codes "question" ∷ ys) (sym (take-map clause_line n cs)) (sym (drop-map clause_line n cs))) all

asked_some : (q : Option ℕ) → is_some q ≡ true → IsSome q
asked_some q e = e

closing_run : (kind : Option SiteKind) (sites : List ℕ) (v c : ℕ) (cs : List (List Lit)) (closed : Bool) (q : Option ℕ)
    → Runs (within (is_some q) (made kind sites v c cs false q)) (closing_lines closed) (ended (made kind sites v c cs closed q))
closing_run kind sites v c cs true q = (
  within (is_some q) (made kind sites v c cs true q),
  closing refl (asked_some q) refl refl,
  (ended (made kind sites v c cs true q), end (asked_some q) refl refl, refl),
)
closing_run kind sites v c cs false q = (ended (made kind sites v c cs false q), end (asked_some q) refl refl, refl)

made_with : (kind : Option SiteKind) (q : Option ℕ) (n : ℕ) → IfSome q (λ k. (k ≤ n) × IsSome kind) → is_some q ≡ true → IsSome kind
made_with kind None n asked e = absurd cc
made_with kind (Some k) n asked e = asked.1

abbrev pub at_opening : Logged → Stage
at_opening l = within (is_some l.question) (begun l.kind l.sites l.part.vars l.part.clauses)

pub opening_runs : (l : Logged) → IsLog l → Runs fresh (opening_lines l) (at_opening l)
opening_runs l is = (
  headed (is_some l.question),
  (is_some l.question, refl, refl),
  (
    sited (is_some l.question) l.kind l.sites,
    (l.kind, l.sites, ((is.ascending, is.numbered), is.none, made_with l.kind l.question (length l.part.learned) is.asked), refl, refl),
    (at_opening l, (l.part.vars, l.part.clauses, is.part.few_vars, is.part.few_clauses, refl, refl), refl),
  ),
)

abbrev pub before_closing : Logged → Stage
before_closing l = within (is_some l.question) (made l.kind l.sites l.part.vars l.part.clauses l.part.learned false l.question)

pub learned_runs : (l : Logged) → IsLog l → Runs (at_opening l) (learned_lines l) (before_closing l)
learned_runs l is = asked_run l.kind l.sites l.part.vars l.part.clauses l.part.learned l.question is.part.few_vars is.part.named is.part.filled is.asked

-- the lines of a log lead to its end
pub log_runs : (l : Logged) → IsLog l → Runs fresh (log_lines l) (ended l)
log_runs l is =
    joined (opening_lines l ++ learned_lines l) (closing_lines l.part.closed) fresh (before_closing l) (ended l)
    (joined (opening_lines l) (learned_lines l) fresh (at_opening l) (before_closing l) (opening_runs l is) (learned_runs l is))
    (closing_run l.kind l.sites l.part.vars l.part.clauses l.part.learned l.part.closed l.question)

-- the front of a log leads to a stage
pub front_runs : (lines : List (List ℕ)) → IsFront lines → (s : Stage) × Runs fresh lines s
front_runs lines (l, n, is, e) =
    let all = subst (λ (xs : List (List ℕ)). Runs fresh xs (ended l)) (sym (take-append-drop n (log_lines l))) (log_runs l is) in
    let cut = parted (take n (log_lines l)) (drop n (log_lines l)) fresh (ended l) all in
    (cut.0, subst (λ (xs : List (List ℕ)). Runs fresh xs cut.0) (sym e) cut.1)

-- the lines that lead within a log
abbrev pub front_lines : Bool → Logged → List (List ℕ)
front_lines second l =
    (head_line second ∷ sites_line l.kind l.sites ∷ formula_line l.part.vars l.part.clauses ∷ [])
    ++ learned_lines l ++ (if l.part.closed then clause_line [] ∷ [] else [])

pub record IsPartial (second : Bool) (l : Logged) : Type 0 where
  pub log : IsLog l
  pub first : second ≡ false → l.question ≡ None
  pub named : second ≡ true → IsSome l.kind
  pub unclosed : second ≡ true → l.question ≡ None → l.part.closed ≡ false

-- what is known of lines that lead to a stage
abbrev pub Reaches : Stage → List (List ℕ) → Type 0
Reaches fresh lines = lines ≡ []
Reaches (headed second) lines = lines ≡ head_line second ∷ []
Reaches (sited second kind sites) lines = (lines ≡ head_line second ∷ sites_line kind sites ∷ []) × MayBeMadeWith second kind sites
Reaches (within second l) lines = (lines ≡ front_lines second l) × IsPartial second l
Reaches (ended l) lines = (lines ≡ log_lines l) × IsLog l

-- one clause more
asked_more : (q : Option ℕ) (xs : List (List ℕ)) (x : List ℕ) → IfSome q (λ n. n ≤ length xs) → asked_lines q (xs ++ x ∷ []) ≡ asked_lines q xs ++ x ∷ []
asked_more None xs x least = refl
asked_more (Some n) xs x least =
    ap₂ (λ (l m : List (List ℕ)). l ++ codes "question" ∷ m) (take-append-le n xs (x ∷ []) least) (drop-append-le n xs (x ∷ []) least)
    ∙ sym (append_assoc (take n xs) (codes "question" ∷ drop n xs) (x ∷ []))

within_map : (q : Option ℕ) (cs : List (List Lit)) (kind : Option SiteKind) → IfSome q (λ n. (n ≤ length cs) × IsSome kind) → IfSome q (λ n. n ≤ length (map clause_line cs))
within_map None cs kind asked = tt
within_map (Some n) cs kind asked = omega (arith, asked.0, length-map cs clause_line)

within_more : (q : Option ℕ) (cs : List (List Lit)) (c : List Lit) (kind : Option SiteKind) → IfSome q (λ n. (n ≤ length cs) × IsSome kind)
    → IfSome q (λ n. (n ≤ length (cs ++ c ∷ [])) × IsSome kind)
within_more None cs c kind asked = tt
within_more (Some n) cs c kind asked = (omega (arith, asked.0, length-append cs (c ∷ [])), asked.1)

abbrev pub head_of : Bool → Logged → List (List ℕ)
head_of second l = head_line second ∷ sites_line l.kind l.sites ∷ formula_line l.part.vars l.part.clauses ∷ []

abbrev pub closed_lines : Bool → List (List ℕ)
closed_lines closed = if closed then clause_line [] ∷ [] else []

-- while the log isn't closed, nothing stands behind its clauses
pub front_open : (second : Bool) (l : Logged) → l.part.closed ≡ false → front_lines second l ≡ head_of second l ++ learned_lines l
front_open second l unshut =
    ap (λ (b : Bool). head_of second l ++ learned_lines l ++ closed_lines b) unshut ∙ append-nil (head_of second l ++ learned_lines l)

reach_clause : (second : Bool) (l : Logged) (c : List Lit) (lines : List (List ℕ)) → l.part.closed ≡ false → All (InVars l.part.vars) c → 0 < length c
    → Reaches (within second l) lines → Reaches (within second (with_clause l c)) (lines ++ clause_line c ∷ [])
reach_clause second l c lines unshut named filled (e, is) =
    let asked = is.log.asked in
    let part = is.log.part in
    let more : learned_lines (with_clause l c) ≡ learned_lines l ++ clause_line c ∷ [] =
    ap (asked_lines l.question) (map-append clause_line l.part.learned (c ∷ []))
    ∙ asked_more l.question (map clause_line l.part.learned) (clause_line c) (within_map l.question l.part.learned l.kind asked) in (
      ap (λ (x : List (List ℕ)). x ++ clause_line c ∷ []) (e ∙ front_open second l unshut)
          ∙ append_assoc (head_of second l) (learned_lines l) (clause_line c ∷ [])
          ∙ ap (λ (x : List (List ℕ)). head_of second l ++ x) (sym more)
          ∙ sym (front_open second (with_clause l c) unshut),
      record {
        log = record {
          part = record {
            few_vars = part.few_vars;
            few_clauses = part.few_clauses;
            named = All-append (All (InVars l.part.vars)) l.part.learned (c ∷ []) part.named (All-cons (All (InVars l.part.vars)) c [] named (All-nil (All (InVars l.part.vars))));
            filled = All-append (λ x. 0 < length x) l.part.learned (c ∷ []) part.filled (All-cons (λ x. 0 < length x) c [] filled (All-nil (λ x. 0 < length x)));
          };
          ascending = is.log.ascending;
          numbered = is.log.numbered;
          none = is.log.none;
          asked = within_more l.question l.part.learned c l.kind asked;
        };
        first = is.first;
        named = is.named;
        unclosed = λ s q. unshut;
      },
    )

reach_question : (second : Bool) (l : Logged) (lines : List (List ℕ)) → l.part.closed ≡ false → second ≡ true → l.question ≡ None
    → Reaches (within second l) lines → Reaches (within second (with_question l)) (lines ++ codes "question" ∷ [])
reach_question second l lines unshut is_second unasked (e, is) =
    let xs = map clause_line l.part.learned in
    let count : length xs ≡ length l.part.learned = length-map l.part.learned clause_line in
    let before : learned_lines l ≡ xs = ap (λ (q : Option ℕ). asked_lines q xs) unasked in
    let more : learned_lines (with_question l) ≡ xs ++ codes "question" ∷ [] =
    ap (λ (n : ℕ). take n xs ++ codes "question" ∷ drop n xs) (sym count)
    ∙ ap₂ (λ (l m : List (List ℕ)). l ++ codes "question" ∷ m) (take-length xs) (drop-length xs) in (
      ap (λ (x : List (List ℕ)). x ++ codes "question" ∷ []) (e ∙ front_open second l unshut ∙ ap (λ (x : List (List ℕ)). head_of second l ++ x) before)
          ∙ append_assoc (head_of second l) xs (codes "question" ∷ [])
          ∙ ap (λ (x : List (List ℕ)). head_of second l ++ x) (sym more)
          ∙ sym (front_open second (with_question l) unshut),
      record {
        log = record {
          part = is.log.part;
          ascending = is.log.ascending;
          numbered = is.log.numbered;
          none = is.log.none;
          asked = (omega arith, is.named is_second);
        };
        first = λ f. let bad : true ≡ false = sym is_second ∙ f in absurd cc;
        named = is.named;
        unclosed = λ s q. unshut;
      },
    )

pub asked_not : (q : Option ℕ) → is_some q ≡ true → q ≡ None → ⊥
asked_not q s n = let bad : false ≡ true = ap is_some (sym n) ∙ s in absurd cc

reach_closing : (second : Bool) (l : Logged) (lines : List (List ℕ)) → l.part.closed ≡ false → IsAsked second l
    → Reaches (within second l) lines → Reaches (within second (with_end l)) (lines ++ clause_line [] ∷ [])
reach_closing second l lines unshut asked (e, is) = (
  ap (λ (x : List (List ℕ)). x ++ clause_line [] ∷ []) (e ∙ front_open second l unshut),
  record {
    log = record {
      part = record { few_vars = is.log.part.few_vars; few_clauses = is.log.part.few_clauses; named = is.log.part.named; filled = is.log.part.filled };
      ascending = is.log.ascending;
      numbered = is.log.numbered;
      none = is.log.none;
      asked = is.log.asked;
    };
    first = is.first;
    named = is.named;
    unclosed = λ s q. absurd (asked_not l.question (asked s) q);
  },
)

-- the version is told by the question
pub version_is : (second : Bool) (q : Option ℕ) → (second ≡ false → q ≡ None) → (second ≡ true → is_some q ≡ true) → second ≡ is_some q
version_is true q first asked = sym (asked refl)
version_is false q first asked = sym (ap is_some (first refl))

reach_end : (second : Bool) (l : Logged) (lines : List (List ℕ)) → IsAsked second l → Reaches (within second l) lines → Reaches (ended l) (lines ++ codes "end" ∷ [])
reach_end second l lines asked (e, is) = (
  ap (λ (x : List (List ℕ)). x ++ codes "end" ∷ []) e
      ∙ append_assoc (head_of second l ++ learned_lines l) (closed_lines l.part.closed) (codes "end" ∷ [])
      ∙ ap (λ (b : Bool). head_of b l ++ learned_lines l ++ closing_lines l.part.closed) (version_is second l.question is.first asked),
  is.log,
)

reach_begun : (second : Bool) (kind : Option SiteKind) (sites : List ℕ) (v c : ℕ) (lines : List (List ℕ)) → v ≤ 4294967295 → c ≤ 4294967295
    → Reaches (sited second kind sites) lines → Reaches (within second (begun kind sites v c)) (lines ++ formula_line v c ∷ [])
reach_begun second kind sites v c lines small small' (e, (are, none, named)) = (
  ap (λ (x : List (List ℕ)). x ++ formula_line v c ∷ []) e,
  record {
    log = record {
      part = record { few_vars = small; few_clauses = small'; named = All-nil (All (InVars v)); filled = All-nil (λ clause. 0 < length clause) };
      ascending = are.0;
      numbered = are.1;
      none = none;
      asked = tt;
    };
    first = λ f. refl;
    named = named;
    unclosed = λ s q. refl;
  },
)

reach_step : (s : Stage) (line : List ℕ) (t : Stage) (lines : List (List ℕ)) → Reaches s lines → Steps s line t → Reaches t (lines ++ line ∷ [])
reach_step fresh line t lines e (second, is, n) =
    subst (λ (x : Stage). Reaches x (lines ++ line ∷ [])) (sym n) (ap₂ (λ (x : List (List ℕ)) (y : List ℕ). x ++ y ∷ []) e is)
reach_step (headed second) line t lines e (kind, sites, may, is, n) =
    subst (λ (x : Stage). Reaches x (lines ++ line ∷ [])) (sym n) (ap₂ (λ (x : List (List ℕ)) (y : List ℕ). x ++ y ∷ []) e is, may)
reach_step (sited second kind sites) line t lines r (v, c, small, small', is, n) =
    subst (λ (x : Stage). Reaches x (lines ++ line ∷ [])) (sym n)
    (subst (λ (x : List ℕ). Reaches (within second (begun kind sites v c)) (lines ++ x ∷ [])) (sym is) (reach_begun second kind sites v c lines small small' r))
reach_step (within second l) line t lines r (clause c unshut (small, filled, named) is n) =
    subst (λ (x : Stage). Reaches x (lines ++ line ∷ [])) (sym n)
    (subst (λ (x : List ℕ). Reaches (within second (with_clause l c)) (lines ++ x ∷ [])) (sym is) (reach_clause second l c lines unshut named filled r))
reach_step (within second l) line t lines r (question unshut s q is n) =
    subst (λ (x : Stage). Reaches x (lines ++ line ∷ [])) (sym n)
    (subst (λ (x : List ℕ). Reaches (within second (with_question l)) (lines ++ x ∷ [])) (sym is) (reach_question second l lines unshut s q r))
reach_step (within second l) line t lines r (closing unshut asked is n) =
    subst (λ (x : Stage). Reaches x (lines ++ line ∷ [])) (sym n)
    (subst (λ (x : List ℕ). Reaches (within second (with_end l)) (lines ++ x ∷ [])) (sym is) (reach_closing second l lines unshut asked r))
reach_step (within second l) line t lines r (end asked is n) =
    subst (λ (x : Stage). Reaches x (lines ++ line ∷ [])) (sym n)
    (subst (λ (x : List ℕ). Reaches (ended l) (lines ++ x ∷ [])) (sym is) (reach_end second l lines asked r))
reach_step (ended l) line t lines r step = absurd step

reach_run : (lines : List (List ℕ)) (s t : Stage) (before : List (List ℕ)) → Reaches s before → Runs s lines t → Reaches t (before ++ lines)
reach_run [] s t before r e = subst (λ (x : List (List ℕ)). Reaches t x) (sym (append-nil before)) (subst (λ (x : Stage). Reaches x before) e r)
reach_run (line ∷ lines) s t before r (n, step, rest) =
    subst (λ (x : List (List ℕ)). Reaches t x) (append_assoc before (line ∷ []) lines)
    (reach_run lines n t (before ++ line ∷ []) (reach_step s line n before r step) rest)

pub reached : (lines : List (List ℕ)) (s : Stage) → Runs fresh lines s → Reaches s lines
reached lines s run = reach_run lines fresh s [] refl run
