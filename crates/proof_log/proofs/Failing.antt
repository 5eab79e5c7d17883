-- How reading fails, and how failures add up.
use Rattle.std.proofs.Common.{◌≡◌, ℕ, ◌+◌, inl, Bool, false, cond, List, [], ◌∷◌, ◌++◌, length, refl, sym, ◌∙◌, ap, subst, arith}
use Rattle.std.specs.Prelude.{Result, Ok, Err, IsErrAnd}
use Rattle.std.proofs.lemmas.List.{append_assoc, append-nil, length-append}
use Rattle.text_scan.specs.Lines.{lines_of}
use Rattle.proof_log.specs.declared.fault.LogFault.{LogFault}
use Rattle.proof_log.specs.declared.fault.LogFault.TheVariants.{Refused}
use Rattle.proof_log.specs.declared.fault.LogKind.{LogKind}
use Rattle.proof_log.specs.declared.fault.LogKind.TheVariants.{BadLine, EndsEarly}
use Rattle.proof_log.specs.Stages.{Stage, Steps, Runs, IsBadThere, IsLineFault, IsEnded, Fails}
use Rattle.proof_log.specs.Stages.Stage.{within, ended}
use Rattle.proof_log.specs.Stages.Fails.{bad, early}
use Rattle.proof_log.specs.declared.draft.Draft.{Draft}
use Rattle.proof_log.specs.Reading.{stage_of}
use Rattle.proof_log.proofs.Running.{joined}

-- no line is left
pub fails_empty : (s : Stage) (count : ℕ) (bytes : List ℕ) → bytes ≡ [] → (IsEnded s → ⊥) → Fails s count (lines_of bytes) (count + 1) EndsEarly
fails_empty s count bytes e unended =
    subst (λ (lines : List (List ℕ)). Fails s count lines (count + 1) EndsEarly) (sym (ap lines_of e)) (early s refl unended (omega arith) refl)

-- the first line is bad
pub fails_first : (s : Stage) (count : ℕ) (lines : List (List ℕ)) (line : List ℕ) (rest : List (List ℕ)) (kind : LogKind) → lines ≡ line ∷ rest → IsLineFault s line kind
    → Fails s count lines (count + 1) kind
fails_first s count lines line rest kind e fault = bad [] line rest s e refl (omega arith) fault

-- lines that lead on, and what fails behind them
pub fails_behind : (s t : Stage) (count : ℕ) (before lines : List (List ℕ)) (number : ℕ) (kind : LogKind) → Runs s before t → Fails t (count + length before) lines number kind
    → Fails s count (before ++ lines) number kind
fails_behind s t count before lines number kind run (bad front line behind to cut run' counted fault) =
    bad (before ++ front) line behind to (ap (λ (x : List (List ℕ)). before ++ x) cut ∙ sym (append_assoc before front (line ∷ behind)))
    (joined before front s t to run run') (omega (arith, counted, length-append before front)) fault
fails_behind s t count before lines number kind run (early to run' unended counted is) =
    early to (joined before lines s t to run run') unended (omega (arith, counted, length-append before lines)) is

-- at these stages no line is a bad clause
pub plain_fault : (s : Stage) (line : List ℕ) → (IsBadThere s line → ⊥) → ((next : Stage) → Steps s line next → ⊥) → IsLineFault s line BadLine
plain_fault s line clean nowhere = (nowhere, inl (refl, clean))

pub same_refusal : (n m : ℕ) (k j : LogKind) → Refused n k ≡ Refused m j → (n ≡ m) × (k ≡ j)
same_refusal n m k j e = (cc, cc)

pub same_fault : {A : Type 0} (r s : LogFault) → ◌≡◌ {A = Result A LogFault} (Err r) (Err s) → r ≡ s
same_fault r s e = cc

-- what is answered is what failed
pub fails_so : {A : Type 0} (s : Stage) (count : ℕ) (lines : List (List ℕ)) (n : ℕ) (k : LogKind) (r : LogFault) (number : ℕ) (kind : LogKind)
    → r ≡ Refused n k → ◌≡◌ {A = Result A LogFault} (Err r) (Err (Refused number kind)) → Fails s count lines n k → Fails s count lines number kind
fails_so {A} s count lines n k r number kind is e fails =
    let same = same_refusal n number k kind (sym is ∙ same_fault {A = A} r (Refused number kind) e) in
    subst (λ (x : ℕ). Fails s count lines x kind) same.0 (subst (λ (x : LogKind). Fails s count lines n x) same.1 fails)

-- a line behind others is bad
pub line_fails : (s t : Stage) (count : ℕ) (lines before rest : List (List ℕ)) (line : List ℕ) (behind : List (List ℕ)) (at number : ℕ) (kind : LogKind) → lines ≡ before ++ rest
    → rest ≡ line ∷ behind → Runs s before t → at ≡ count + length before → number ≡ at + 1 → IsLineFault t line kind → Fails s count lines number kind
line_fails s t count lines before rest line behind at number kind cut first run counted is fault =
    bad before line behind t (cut ∙ ap (λ (x : List (List ℕ)). before ++ x) first) run (omega (arith, counted, is)) fault

-- the lines are too few
pub end_fails : (s t : Stage) (count : ℕ) (lines before : List (List ℕ)) (rest : List ℕ) (at number : ℕ) → lines ≡ before ++ lines_of rest → rest ≡ []
    → Runs s before t → at ≡ count + length before → number ≡ at + 1 → (IsEnded t → ⊥) → Fails s count lines number EndsEarly
end_fails s t count lines before rest at number cut none run counted is unended =
    let same : lines ≡ before = cut ∙ ap (λ (x : List ℕ). before ++ lines_of x) none ∙ append-nil before in
    early t (subst (λ (x : List (List ℕ)). Runs s x t) (sym same) run) unended (omega (arith, counted, is, ap (λ (x : List (List ℕ)). length x) same)) refl

pub not_ended : (d : Draft) → d.ended ≡ false → IsEnded (stage_of d) → ⊥
not_ended d e (l, is) = let bad : within d.second d.log ≡ ended l = sym (ap (λ (b : Bool). cond b (ended d.log) (within d.second d.log)) e) ∙ is in absurd cc

-- what a `?` hands on is what it was given
pub handed_on : {A : Type 0} (r : Result A LogFault) (fault : LogFault) → IsErrAnd r (λ e. e ≡ fault) → (number : ℕ) (kind : LogKind) → r ≡ Err (Refused number kind)
    → fault ≡ Refused number kind
handed_on {A} (Err e) fault is number kind same = sym is ∙ same_fault {A = A} e (Refused number kind) same
handed_on (Ok x) fault is number kind same = absurd is

-- a line that leads on, and what fails behind it
pub one_behind : (s t : Stage) (count : ℕ) (lines : List (List ℕ)) (line : List ℕ) (rest : List (List ℕ)) (number : ℕ) (kind : LogKind) → lines ≡ line ∷ rest
    → Steps s line t → Fails t (count + 1) rest number kind → Fails s count lines number kind
one_behind s t count lines line rest number kind cut step fails =
    subst (λ (x : List (List ℕ)). Fails s count x number kind) (sym cut) (fails_behind s t count (line ∷ []) rest number kind (t, step, refl) fails)

-- and what leads on behind it
pub one_on : (s t u : Stage) (lines : List (List ℕ)) (line : List ℕ) (rest : List (List ℕ)) → lines ≡ line ∷ rest → Steps s line t → Runs t rest u → Runs s lines u
one_on s t u lines line rest cut step run = subst (λ (x : List (List ℕ)). Runs s x u) (sym cut) (t, step, run)
