-- What fails behind the beginning is refused, and what is refused is so at one line, for one fault.
use Rattle.std.proofs.Common.{◌≡◌, ◌⊎◌, ℕ, ◌<◌, ◌≤◌, inl, inr, Bool, true, false, List, [], ◌∷◌, ◌++◌, length, take, drop, refl, sym, ◌∙◌, ap, ap₂, subst, arith, Option, None, Some}
use Rattle.std.specs.Prelude.{⊤, codes, map, is_some}
use Rattle.std.specs.List.{All}
use Rattle.std.proofs.Math.Seq.{take-append_seam, take-length, drop-length}
use Rattle.std.proofs.lemmas.Bool.{cases_Bool}
use Rattle.std.proofs.lemmas.List.Elements.{All-nil}
use Rattle.std.proofs.lemmas.List.{length-map, take-append-drop}
use Rattle.litmus_syntax.specs.declared.site.SiteKind.{SiteKind}
use Rattle.litmus_syntax.specs.declared.site.SiteKind.TheVariants.{Fsync}
use Rattle.clause_store.specs.Clauses.{InVars}
use Rattle.text_scan.specs.Lines.{lines_of}
use Rattle.proof_log.specs.declared.fault.LogKind.{LogKind}
use Rattle.proof_log.specs.Logs.{Logged}
use Rattle.proof_log.specs.LogText.{clause_line, head_line, sites_line, formula_line, opening_lines, asked_lines, learned_lines}
use Rattle.proof_log.specs.LogFiles.{IsLogText, IsFront, AwaitsClause, HasBadLiteral, IsBadClause, IsFirstBad, IsLogRefused}
use Rattle.proof_log.specs.LogFiles.IsLogRefused.{bad_literal, bad_line, ends_early}
use Rattle.proof_log.specs.Stages.{Stage, AreSites, MayBeMadeWith, begun, with_question, Steps, Runs, IsBadThere, Fails}
use Rattle.proof_log.specs.Stages.Stage.{fresh, headed, sited, within, ended}
use Rattle.proof_log.specs.Stages.Adds.{clause, question, closing, end}
use Rattle.proof_log.specs.Stages.Fails.{bad, early}
use Rattle.proof_log.proofs.Running.{one_run, joined, parted}
use Rattle.proof_log.proofs.Fronts.{Reaches, IsPartial, head_of, front_open, at_opening, before_closing, opening_runs, learned_runs, log_runs, front_runs, version_is, reached}

-- from each stage that is reached, the end can be reached
abbrev CanEnd : Stage → Type 0
CanEnd s = (more : List (List ℕ)) × (l : Logged) × Runs s more (ended l)

some_or_none : (q : Option ℕ) → (is_some q ≡ true) ⊎ (q ≡ None)
some_or_none None = inr refl
some_or_none (Some n) = inl refl

within_ends : (second : Bool) (l : Logged) → IsPartial second l → CanEnd (within second l)
within_ends false l is = (codes "end" ∷ [], l, (ended l, end (λ e. absurd cc) refl refl, refl))
within_ends true l is = elim (some_or_none l.question) [
  | inl asked ↦ (codes "end" ∷ [], l, (ended l, end (λ e. asked) refl refl, refl))
  | inr unasked ↦ (
    codes "question" ∷ codes "end" ∷ [],
    with_question l,
    (
      within true (with_question l),
      question (is.unclosed refl unasked) refl unasked refl refl,
      (ended (with_question l), end (λ e. refl) refl refl, refl),
    ),
  )
]

no_sites : AreSites []
no_sites = (λ k below. absurd (omega (arith, below)), All-nil (λ n. (1 ≤ n) × (n ≤ 4294967295)))

sited_ends : (second : Bool) (kind : Option SiteKind) (sites : List ℕ) (lines : List (List ℕ)) → Reaches (sited second kind sites) lines → CanEnd (sited second kind sites)
sited_ends second kind sites lines (e, (are, none, named)) =
    let rest = within_ends second (begun kind sites 0 0) (record {
      log = record {
        part = record { few_vars = omega arith; few_clauses = omega arith; named = All-nil (All (InVars 0)); filled = All-nil (λ clause. 0 < length clause) };
        ascending = are.0;
        numbered = are.1;
        none = none;
        asked = tt;
      };
      first = λ f. refl;
      named = named;
      unclosed = λ s q. refl;
    }) in
    (formula_line 0 0 ∷ rest.0, rest.1, (within second (begun kind sites 0 0), (0, 0, omega arith, omega arith, refl, refl), rest.2))

headed_ends : (second : Bool) → CanEnd (headed second)
headed_ends second =
    let may : MayBeMadeWith second (Some Fsync) [] = (no_sites, λ e. refl, λ e. refl) in
    let rest = sited_ends second (Some Fsync) [] (head_line second ∷ sites_line (Some Fsync) [] ∷ []) (refl, may) in
    (sites_line (Some Fsync) [] ∷ rest.0, rest.1, (sited second (Some Fsync) [], (Some Fsync, [], may, refl, refl), rest.2))

can_end : (s : Stage) (lines : List (List ℕ)) → Reaches s lines → CanEnd s
can_end fresh lines r = let rest = headed_ends false in (head_line false ∷ rest.0, rest.1, (headed false, (false, refl, refl), rest.2))
can_end (headed second) lines r = headed_ends second
can_end (sited second kind sites) lines r = sited_ends second kind sites lines r
can_end (within second l) lines r = within_ends second l r.1
can_end (ended l) lines r = ([], l, refl)

-- what leads from the beginning is the front of a log
pub run_front : (lines : List (List ℕ)) (s : Stage) → Runs fresh lines s → IsFront lines
run_front lines s run =
    let rest = can_end s lines (reached lines s run) in
    let all = reached (lines ++ rest.0) (ended rest.1) (joined lines rest.0 fresh s (ended rest.1) run rest.2) in
    (rest.1, length lines, all.1, sym (take-append_seam lines rest.0) ∙ ap (λ (x : List (List ℕ)). take (length lines) x) all.0)

-- the log so far, in which a clause may stand
abbrev IsOpen : ℕ → Stage → Type 0
IsOpen vars (within second l) = (l.part.closed ≡ false) × (l.part.vars ≡ vars)
IsOpen vars fresh = ⊥
IsOpen vars (headed second) = ⊥
IsOpen vars (sited second kind sites) = ⊥
IsOpen vars (ended l) = ⊥

abbrev IsLater : Stage → Type 0
IsLater (within second l) = ⊤
IsLater (ended l) = ⊤
IsLater fresh = ⊥
IsLater (headed second) = ⊥
IsLater (sited second kind sites) = ⊥

later_step : (s : Stage) (line : List ℕ) (t : Stage) → IsLater s → Steps s line t → IsLater t
later_step (within second l) line t is (clause c unshut good e n) = subst IsLater (sym n) tt
later_step (within second l) line t is (question unshut s q e n) = subst IsLater (sym n) tt
later_step (within second l) line t is (closing unshut a e n) = subst IsLater (sym n) tt
later_step (within second l) line t is (end a e n) = subst IsLater (sym n) tt
later_step (ended l) line t is step = absurd step
later_step fresh line t is step = absurd is
later_step (headed second) line t is step = absurd is
later_step (sited second kind sites) line t is step = absurd is

later_run : (lines : List (List ℕ)) (s t : Stage) → IsLater s → Runs s lines t → IsLater t
later_run [] s t is e = subst IsLater e is
later_run (line ∷ lines) s t is (n, step, rest) = later_run lines n t (later_step s line n is step) rest

open_step : (vars : ℕ) (s : Stage) (line : List ℕ) (t : Stage) → IsLater s → Steps s line t → IsOpen vars t → IsOpen vars s
open_step vars (within second l) line t is (clause c unshut good e n) o = let o' = subst (IsOpen vars) n o in (unshut, o'.1)
open_step vars (within second l) line t is (question unshut s q e n) o = let o' = subst (IsOpen vars) n o in (unshut, o'.1)
open_step vars (within second l) line t is (closing unshut a e n) o = let o' = subst (IsOpen vars) n o in (unshut, o'.1)
open_step vars (within second l) line t is (end a e n) o = absurd (subst (IsOpen vars) n o)
open_step vars (ended l) line t is step o = absurd step
open_step vars fresh line t is step o = absurd is
open_step vars (headed second) line t is step o = absurd is
open_step vars (sited second kind sites) line t is step o = absurd is

open_run : (vars : ℕ) (lines : List (List ℕ)) (s t : Stage) → IsLater s → Runs s lines t → IsOpen vars t → IsOpen vars s
open_run vars [] s t is e o = subst (IsOpen vars) (sym e) o
open_run vars (line ∷ lines) s t is (n, step, rest) o =
    open_step vars s line n is step (open_run vars lines n t (later_step s line n is step) rest o)

-- where a clause may stand, the log so far isn't closed
awaits_open : (before : List (List ℕ)) (vars : ℕ) (s : Stage) → AwaitsClause before vars → Runs fresh before s → IsOpen vars s
awaits_open before vars s (l, n, is, same, e) run =
    let whole = subst (λ (x : List (List ℕ)). Runs (at_opening l) x (before_closing l)) (sym (take-append-drop n (learned_lines l))) (learned_runs l is) in
    let cut = parted (take n (learned_lines l)) (drop n (learned_lines l)) (at_opening l) (before_closing l) whole in
    let there = open_run vars (drop n (learned_lines l)) cut.0 (before_closing l) (later_run (take n (learned_lines l)) (at_opening l) cut.0 tt cut.1) cut.2 (refl, same) in
    let front = joined (opening_lines l) (take n (learned_lines l)) fresh (at_opening l) cut.0 (opening_runs l is) cut.1 in
    let one : cut.0 ≡ s = one_run before fresh cut.0 s (subst (λ (x : List (List ℕ)). Runs fresh x cut.0) (sym e) front) run in
    subst (IsOpen vars) one there

bad_there : (vars : ℕ) (s : Stage) (line : List ℕ) → IsOpen vars s → HasBadLiteral vars line → IsBadThere s line
bad_there vars (within second l) line o has = (o.0, subst (λ (v : ℕ). HasBadLiteral v line) (sym o.1) has)
bad_there vars fresh line o has = absurd o
bad_there vars (headed second) line o has = absurd o
bad_there vars (sited second kind sites) line o has = absurd o
bad_there vars (ended l) line o has = absurd o

-- and where it isn't closed, a clause may stand
partial_awaits : (second : Bool) (l : Logged) (lines : List (List ℕ)) → l.part.closed ≡ false → Reaches (within second l) lines → AwaitsClause lines l.part.vars
partial_awaits second l lines unshut (e, is) = elim (some_or_none l.question) [
  | inl asked ↦ whole (version_is second l.question is.first (λ s. asked))
  | inr unasked ↦ elim (cases_Bool second) [
    | inr f ↦ whole (f ∙ ap is_some (sym unasked))
    | inl t ↦
        let l' = with_question l in
        let xs = map clause_line l.part.learned in
        let count : length xs ≡ length l.part.learned = length-map l.part.learned clause_line in
        let learned : learned_lines l' ≡ xs ++ codes "question" ∷ [] = ap (λ (n : ℕ). take n xs ++ codes "question" ∷ drop n xs) (sym count) ∙ ap₂ (λ (l m : List (List ℕ)). l ++ codes "question" ∷ m) (take-length xs) (drop-length xs) in
        let front : take (length xs) (learned_lines l') ≡ learned_lines l = ap (λ (x : List (List ℕ)). take (length xs) x) learned ∙ take-append_seam xs (codes "question" ∷ []) ∙ ap (λ (q : Option ℕ). asked_lines q xs) (sym unasked) in (
          l',
          length xs,
          record {
            part = is.log.part;
            ascending = is.log.ascending;
            numbered = is.log.numbered;
            none = is.log.none;
            asked = (omega arith, is.named t);
          },
          refl,
          e ∙ front_open second l unshut ∙ ap (λ (b : Bool). head_of b l ++ learned_lines l) t ∙ ap (λ (x : List (List ℕ)). head_of true l ++ x) (sym front),
        )
  ]
]
  where
    whole : second ≡ is_some l.question → AwaitsClause lines l.part.vars
    whole same = (
      l,
      length (learned_lines l),
      is.log,
      refl,
      e ∙ front_open second l unshut ∙ ap (λ (b : Bool). head_of b l ++ learned_lines l) same
          ∙ ap (λ (x : List (List ℕ)). opening_lines l ++ x) (sym (take-length (learned_lines l))),
    )

there_bad : (s : Stage) (lines : List (List ℕ)) (line : List ℕ) → Reaches s lines → IsBadThere s line → IsBadClause lines line
there_bad (within second l) lines line r b = (l.part.vars, partial_awaits second l lines b.0 r, b.1)
there_bad fresh lines line r b = absurd b
there_bad (headed second) lines line r b = absurd b
there_bad (sited second kind sites) lines line r b = absurd b
there_bad (ended l) lines line r b = absurd b

-- what fails behind the beginning is refused
pub fails_refused : (bytes : List ℕ) (number : ℕ) (kind : LogKind) → length bytes ≤ 67108864 → Fails fresh 0 (lines_of bytes) number kind → IsLogRefused bytes number kind
fails_refused bytes number kind short (bad before line behind s cut run counted (nowhere, why)) =
    let first : IsFirstBad (lines_of bytes) number before line = record {
      behind = behind;
      cut = cut;
      counted = omega (arith, counted);
      front = run_front before s run;
      bad = λ front.
          let all = front_runs (before ++ line ∷ []) front in
          let p = parted before (line ∷ []) fresh all.0 all.1 in
          let one : p.0 ≡ s = one_run before fresh p.0 s p.1 run in
          nowhere p.2.0 (subst (λ (x : Stage). Steps x line p.2.0) one p.2.1);
    } in
    elim why [
      | inl (is, clean) ↦ subst (λ (k : LogKind). IsLogRefused bytes number k) (sym is)
          (bad_line short before line first (λ b. clean (bad_there b.0 s line (awaits_open before b.0 s b.1 run) b.2)))
      | inr (is, dirty) ↦ subst (λ (k : LogKind). IsLogRefused bytes number k) (sym is)
          (bad_literal short before line first (there_bad s before line (reached before s run) dirty))
    ]
fails_refused bytes number kind short (early s run unended counted is) =
    subst (λ (k : LogKind). IsLogRefused bytes number k) (sym is)
    (ends_early short (run_front (lines_of bytes) s run)
    (λ l log e. unended (l, one_run (lines_of bytes) fresh s (ended l) run (subst (λ (x : List (List ℕ)). Runs fresh x (ended l)) (sym e) (log_runs l log)))) (omega (arith, counted)))

-- and what leads to the end is a log
pub run_text : (bytes : List ℕ) (l : Logged) → length bytes ≤ 67108864 → Runs fresh (lines_of bytes) (ended l) → IsLogText bytes l
run_text bytes l short run = let r = reached (lines_of bytes) (ended l) run in record { log = r.1; short = short; spelled = r.0 }
