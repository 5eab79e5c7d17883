-- What a line does to a draft.
use Rattle.std.proofs.Common.{◌≡◌, ◌≢◌, ℕ, ◌<◌, ◌≤◌, inl, inr, Bool, true, false, cond, List, [], ◌∷◌, ◌++◌, length, refl, sym, ◌∙◌, ap, subst, arith, None, Some}
use Rattle.std.specs.Prelude.{codes}
use Rattle.std.specs.List.{Contains}
use Rattle.std.proofs.lemmas.List.{append_cancel_right, length-append}
use Rattle.clause_store.specs.declared.Lit.{Lit}
use Rattle.clause_store.proofs.GeneralLists.{Contains-nil}
use Rattle.proof_log.specs.declared.fault.LogKind.{LogKind}
use Rattle.proof_log.specs.declared.fault.LogKind.TheVariants.{BadLine}
use Rattle.proof_log.specs.declared.draft.Draft.{Draft}
use Rattle.proof_log.specs.Logs.{Logged}
use Rattle.proof_log.specs.LogText.{sign, clause_line}
use Rattle.proof_log.specs.LogFiles.{AreLiterals, HasBadLiteral}
use Rattle.proof_log.specs.LogFiles.AreLiterals.{none, more}
use Rattle.proof_log.specs.Stages.{Stage, with_clause, Adds, Steps, IsLineFault}
use Rattle.proof_log.specs.Stages.Stage.{within, ended}
use Rattle.proof_log.specs.Stages.Adds.{clause, question, closing, end}
use Rattle.proof_log.specs.Reading.{stage_of, IsGoodClause, IsReadAs}
use Rattle.proof_log.proofs.Running.{filled, differs}
use Rattle.proof_log.proofs.Fronts.{asked_not}

within_is : (d : Draft) → d.ended ≡ false → stage_of d ≡ within d.second d.log
within_is d e = ap (λ (b : Bool). cond b (ended d.log) (within d.second d.log)) e

ended_is : (d : Draft) → d.ended ≡ true → stage_of d ≡ ended d.log
ended_is d e = ap (λ (b : Bool). cond b (ended d.log) (within d.second d.log)) e

abbrev Faulty : List ℕ → LogKind → Stage → Type 0
Faulty line kind s = IsLineFault s line kind

-- behind the end each line is bad
pub ended_fault : (d : Draft) (line : List ℕ) → d.ended ≡ true → IsLineFault (stage_of d) line BadLine
ended_fault d line e = subst (Faulty line BadLine) (sym (ended_is d e)) (λ next step. step, inl (refl, λ b. b))

true_false : {A : Type 0} (b : Bool) → b ≡ true → b ≡ false → A
true_false b t f = let bad : true ≡ false = sym t ∙ f in cc

-- behind the empty clause only the end is good
pub closed_fault : (d : Draft) (line : List ℕ) → d.ended ≡ false → d.log.part.closed ≡ true → line ≢ codes "end" → IsLineFault (stage_of d) line BadLine
closed_fault d line e shut other = subst (Faulty line BadLine) (sym (within_is d e)) (λ next step. nowhere next step, inl (refl, λ b. true_false d.log.part.closed shut b.0))
  where
    nowhere : (next : Stage) → Adds d.second d.log line next → ⊥
    nowhere next (clause lits unshut is e n) = true_false d.log.part.closed shut unshut
    nowhere next (question unshut s q e n) = true_false d.log.part.closed shut unshut
    nowhere next (closing unshut a e n) = true_false d.log.part.closed shut unshut
    nowhere next (end a e n) = other e

zero_is_good : (vars : ℕ) → HasBadLiteral vars (clause_line []) → ⊥
zero_is_good vars (text, lits, l, e, are, has, out) =
    let nothing : text ≡ [] = append_cancel_right text [] (codes "0") (sym e) in
    Contains-nil l (subst (λ (x : List Lit). Contains x l) (none_are text lits are nothing) has)
  where
    none_are : (text : List ℕ) (lits : List Lit) → AreLiterals text lits → text ≡ [] → lits ≡ []
    none_are text lits none e = refl
    none_are text lits (more l d r ls n rs) e = absurd (omega (arith, n.0.0, ap (λ (x : List ℕ). length x) e, length-append (sign l.positive ++ d) (32 ∷ r)))

-- the empty clause can't end a log whose question is still to come
pub unasked_fault : (d : Draft) → d.ended ≡ false → d.second ≡ true → d.log.question ≡ None → IsLineFault (stage_of d) (clause_line []) BadLine
unasked_fault d e second unasked =
    subst (Faulty (clause_line []) BadLine) (sym (within_is d e)) (λ next step. nowhere next step, inl (refl, λ b. zero_is_good d.log.part.vars b.1))
  where
    nowhere : (next : Stage) → Adds d.second d.log (clause_line []) next → ⊥
    nowhere next (clause lits unshut (small, some, all) e n) = filled d.second d.log lits small all some (sym e)
    nowhere next (question unshut s q e n) = let bad : 1 ≡ 8 = differs (codes "0") (codes "question") e in omega (arith, bad)
    nowhere next (closing unshut a e n) = asked_not d.log.question (a second) unasked
    nowhere next (end a e n) = let bad : 1 ≡ 3 = differs (codes "0") (codes "end") e in omega (arith, bad)

-- a clause of another line than `0` has a literal
pub filled_clause : (vars : ℕ) (line : List ℕ) (lits : List Lit) → line ≢ clause_line [] → IsGoodClause vars line lits → 0 < length lits
filled_clause vars line [] other good = absurd (other good.0)
filled_clause vars line (l ∷ ls) other good = omega arith

-- a line where a clause may stand, which is none
pub clause_fault : (d : Draft) (line : List ℕ) (lits : List Lit) (kind : LogKind) → d.ended ≡ false → d.log.part.closed ≡ false → line ≢ codes "end" → line ≢ codes "question"
    → line ≢ clause_line [] → IsReadAs d.log.part.vars line lits (Some kind) → IsLineFault (stage_of d) line kind
clause_fault d line lits kind e unshut no_end no_question no_zero (nothing, why) = subst (Faulty line kind) (sym (within_is d e)) (
  λ next step. nowhere next step,
  elim why [
    | inl (is, clean) ↦ inl (is, λ b. clean b.1)
    | inr (is, dirty) ↦ inr (is, (unshut, dirty))
  ],
)
  where
    nowhere : (next : Stage) → Adds d.second d.log line next → ⊥
    nowhere next (clause others unshut (small, some, all) e n) = nothing others (e, all)
    nowhere next (question unshut s q e n) = no_question e
    nowhere next (closing unshut a e n) = no_zero e
    nowhere next (end a e n) = no_end e

-- a line that is a clause
pub clause_step : (d : Draft) (line : List ℕ) (lits : List Lit) → d.ended ≡ false → d.log.part.closed ≡ false → d.log.part.vars ≤ 4294967295 → line ≢ clause_line []
    → IsGoodClause d.log.part.vars line lits → Steps (stage_of d) line (within d.second (with_clause d.log lits))
clause_step d line lits e unshut small other good =
    subst (λ (s : Stage). Steps s line (within d.second (with_clause d.log lits))) (sym (within_is d e))
    (clause lits unshut (small, filled_clause d.log.part.vars line lits other good, good.1) good.0 refl)

pub added_step : (d : Draft) (line : List ℕ) (lits : List Lit) (log : Logged) → d.ended ≡ false → d.log.part.closed ≡ false → d.log.part.vars ≤ 4294967295
    → line ≢ clause_line [] → IsGoodClause d.log.part.vars line lits → log ≡ with_clause d.log lits
    → Steps (stage_of d) line (stage_of (record { second = d.second; log = log; ended = d.ended }))
added_step d line lits log e unshut small other good same =
    subst (λ (s : Stage). Steps (stage_of d) line s)
    (ap (λ (l : Logged). within d.second l) (sym same) ∙ sym (within_is (record { second = d.second; log = log; ended = d.ended }) e))
    (clause_step d line lits e unshut small other good)
