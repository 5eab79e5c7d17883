-- Bytes are one log, or are refused at one line for one fault, and not both.
use Rattle.std.proofs.Common.{◌≡◌, ◌⊎◌, ℕ, ◌+◌, inl, inr, List, [], ◌∷◌, ◌++◌, length, refl, sym, ◌∙◌, ap, ap₂, subst, arith}
use Rattle.std.proofs.lemmas.List.{append_assoc}
use Rattle.text_scan.specs.Lines.{lines_of}
use Rattle.proof_log.specs.declared.fault.LogKind.{LogKind}
use Rattle.proof_log.specs.Logs.{Logged}
use Rattle.proof_log.specs.LogFiles.{IsLogText, IsFront, IsBadClause, IsFirstBad, IsLogRefused}
use Rattle.proof_log.specs.LogFiles.IsLogRefused.{too_long, bad_literal, bad_line, ends_early}
use Rattle.proof_log.specs.Stages.{Stage, Runs}
use Rattle.proof_log.specs.Stages.Stage.{fresh, headed, sited, within, ended}
use Rattle.proof_log.proofs.Running.{one_run, parted}
use Rattle.proof_log.proofs.Fronts.{log_runs, front_runs}
use Rattle.proof_log.proofs.Refusing.{run_front}

-- the log at an end
abbrev log_at : Logged → Stage → Logged
log_at other (ended l) = l
log_at other fresh = other
log_at other (headed second) = other
log_at other (sited second kind sites) = other
log_at other (within second l) = other

pub one_text : (bytes : List ℕ) (a b : Logged) → IsLogText bytes a → IsLogText bytes b → a ≡ b
one_text bytes a b is is' =
    let run = subst (λ (x : List (List ℕ)). Runs fresh x (ended a)) (sym is.spelled) (log_runs a is.log) in
    let run' = subst (λ (x : List (List ℕ)). Runs fresh x (ended b)) (sym is'.spelled) (log_runs b is'.log) in
    ap (log_at a) (one_run (lines_of bytes) fresh (ended a) (ended b) run run')

-- lines that are the front of a log have such fronts
pub front_part : (xs ys : List (List ℕ)) → IsFront (xs ++ ys) → IsFront xs
front_part xs ys front =
    let all = front_runs (xs ++ ys) front in
    let p = parted xs ys fresh all.0 all.1 in
    run_front xs p.0 p.1

pub front_to : (before : List (List ℕ)) (line : List ℕ) (behind : List (List ℕ)) → IsFront (before ++ line ∷ behind) → IsFront (before ++ line ∷ [])
front_to before line behind front = front_part (before ++ line ∷ []) behind (subst IsFront (sym (append_assoc before (line ∷ []) behind)) front)

heads : {A : Type 0} (x y : A) (xs ys : List A) → x ∷ xs ≡ y ∷ ys → x ≡ y
heads x y xs ys e = cc

tails : {A : Type 0} (x y : A) (xs ys : List A) → x ∷ xs ≡ y ∷ ys → xs ≡ ys
tails x y xs ys e = cc

-- two cuts of one list
cuts : {A : Type 0} (xs : List A) (x : A) (ys xs' : List A) (x' : A) (ys' : List A) → xs ++ x ∷ ys ≡ xs' ++ x' ∷ ys'
    → ((xs ≡ xs') × (x ≡ x')) ⊎ (((zs : List A) × (xs' ≡ xs ++ x ∷ zs)) ⊎ ((zs : List A) × (xs ≡ xs' ++ x' ∷ zs)))
cuts [] x ys [] x' ys' e = inl (refl, heads x x' ys ys' e)
cuts [] x ys (z ∷ zs) x' ys' e = inr (inl (zs, ap (λ y. y ∷ zs) (heads z x (zs ++ x' ∷ ys') ys (sym e))))
cuts (z ∷ zs) x ys [] x' ys' e = inr (inr (zs, ap (λ y. y ∷ zs) (heads z x' (zs ++ x ∷ ys) ys' e)))
cuts (z ∷ zs) x ys (w ∷ ws) x' ys' e =
    let head : z ≡ w = heads z w (zs ++ x ∷ ys) (ws ++ x' ∷ ys') e in
    elim (cuts zs x ys ws x' ys' (tails z w (zs ++ x ∷ ys) (ws ++ x' ∷ ys') e)) [
      | inl (same, at) ↦ inl (ap₂ (λ y l. y ∷ l) head same, at)
      | inr (inl (more, is)) ↦ inr (inl (more, ap₂ (λ y l. y ∷ l) (sym head) is))
      | inr (inr (more, is)) ↦ inr (inr (more, ap₂ (λ y l. y ∷ l) head is))
    ]

-- there is one first bad line
one_bad : (lines : List (List ℕ)) (i j : ℕ) (before before' : List (List ℕ)) (line line' : List ℕ) → IsFirstBad lines i before line → IsFirstBad lines j before' line'
    → (before ≡ before') × (line ≡ line')
one_bad lines i j before before' line line' a b = elim (cuts before line a.behind before' line' b.behind (sym a.cut ∙ b.cut)) [
  | inl same ↦ same
  | inr (inl (more, is)) ↦ absurd (a.bad (front_to before line more (subst IsFront is b.front)))
  | inr (inr (more, is)) ↦ absurd (b.bad (front_to before' line' more (subst IsFront is a.front)))
]

one_number : (lines : List (List ℕ)) (i j : ℕ) (before before' : List (List ℕ)) (line line' : List ℕ) → IsFirstBad lines i before line → IsFirstBad lines j before' line' → i ≡ j
one_number lines i j before before' line line' a b =
    a.counted ∙ ap (λ (x : List (List ℕ)). length x + 1) (one_bad lines i j before before' line line' a b).0 ∙ sym b.counted

-- a first bad line is in no front
no_front : (lines : List (List ℕ)) (i : ℕ) (before : List (List ℕ)) (line : List ℕ) → IsFirstBad lines i before line → IsFront lines → ⊥
no_front lines i before line is front = is.bad (front_to before line is.behind (subst IsFront is.cut front))

same_clause : (lines : List (List ℕ)) (i j : ℕ) (before before' : List (List ℕ)) (line line' : List ℕ) → IsFirstBad lines i before line → IsFirstBad lines j before' line'
    → IsBadClause before line → IsBadClause before' line'
same_clause lines i j before before' line line' a b bad =
    let same = one_bad lines i j before before' line line' a b in
    subst (λ (x : List (List ℕ)). IsBadClause x line') same.0 (subst (λ (x : List ℕ). IsBadClause before x) same.1 bad)

pub one_refusal : (bytes : List ℕ) (i j : ℕ) (k m : LogKind) → IsLogRefused bytes i k → IsLogRefused bytes j m → (i ≡ j) × (k ≡ m)
one_refusal bytes i j k m (too_long long e) (too_long long' e') = (e ∙ sym e', refl)
one_refusal bytes i j k m (too_long long e) (bad_literal short before line is b) = absurd (omega (arith, long, short))
one_refusal bytes i j k m (too_long long e) (bad_line short before line is b) = absurd (omega (arith, long, short))
one_refusal bytes i j k m (too_long long e) (ends_early short front none e') = absurd (omega (arith, long, short))
one_refusal bytes i j k m (bad_literal short before line is b) (too_long long e) = absurd (omega (arith, long, short))
one_refusal bytes i j k m (bad_line short before line is b) (too_long long e) = absurd (omega (arith, long, short))
one_refusal bytes i j k m (ends_early short front none e') (too_long long e) = absurd (omega (arith, long, short))
one_refusal bytes i j k m (ends_early short front none e) (ends_early short' front' none' e') = (e ∙ sym e', refl)
one_refusal bytes i j k m (ends_early short front none e) (bad_literal short' before line is b) = absurd (no_front (lines_of bytes) j before line is front)
one_refusal bytes i j k m (ends_early short front none e) (bad_line short' before line is b) = absurd (no_front (lines_of bytes) j before line is front)
one_refusal bytes i j k m (bad_literal short before line is b) (ends_early short' front none e) = absurd (no_front (lines_of bytes) i before line is front)
one_refusal bytes i j k m (bad_line short before line is b) (ends_early short' front none e) = absurd (no_front (lines_of bytes) i before line is front)
one_refusal bytes i j k m (bad_literal short before line is b) (bad_literal short' before' line' is' b') = (one_number (lines_of bytes) i j before before' line line' is is', refl)
one_refusal bytes i j k m (bad_line short before line is b) (bad_line short' before' line' is' b') = (one_number (lines_of bytes) i j before before' line line' is is', refl)
one_refusal bytes i j k m (bad_literal short before line is b) (bad_line short' before' line' is' b') =
    absurd (b' (same_clause (lines_of bytes) i j before before' line line' is is' b))
one_refusal bytes i j k m (bad_line short before line is b) (bad_literal short' before' line' is' b') =
    absurd (b (same_clause (lines_of bytes) j i before' before line' line is' is b'))

log_front : (bytes : List ℕ) (a : Logged) → IsLogText bytes a → IsFront (lines_of bytes)
log_front bytes a is = run_front (lines_of bytes) (ended a) (subst (λ (x : List (List ℕ)). Runs fresh x (ended a)) (sym is.spelled) (log_runs a is.log))

pub text_or_refused : (bytes : List ℕ) (a : Logged) (i : ℕ) (k : LogKind) → IsLogText bytes a → IsLogRefused bytes i k → ⊥
text_or_refused bytes a i k is (too_long long e) = omega (arith, long, is.short)
text_or_refused bytes a i k is (bad_literal short before line first b) = no_front (lines_of bytes) i before line first (log_front bytes a is)
text_or_refused bytes a i k is (bad_line short before line first b) = no_front (lines_of bytes) i before line first (log_front bytes a is)
text_or_refused bytes a i k is (ends_early short front none e) = none a is.log is.spelled
