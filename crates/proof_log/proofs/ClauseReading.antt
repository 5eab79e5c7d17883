-- What is found on a line where a clause may stand.
use Rattle.std.proofs.Common.{◌≡◌, ◌≢◌, ℕ, ◌≤◌, inl, inr, Bool, true, false, List, [], ◌∷◌, ◌++◌, refl, sym, ◌∙◌, ap, subst, None, Some}
use Rattle.std.specs.Prelude.{codes}
use Rattle.std.specs.List.{All, Contains}
use Rattle.std.proofs.lemmas.List.{append_assoc}
use Rattle.std.proofs.lemmas.List.Elements.{All-nil, All-cons, All-append, All-contains, Contains-append_left, Contains-append_right}
use Rattle.clause_store.proofs.GeneralLists.{Contains-head}
use Rattle.clause_store.specs.declared.Lit.{Lit}
use Rattle.clause_store.specs.Clauses.{InVars}
use Rattle.proof_log.specs.declared.fault.LogKind.TheVariants.{BadLine, BadLiteral}
use Rattle.proof_log.specs.LogText.{sign, literals_text, clause_line}
use Rattle.proof_log.specs.LogFiles.{AreLiterals}
use Rattle.proof_log.specs.LogFiles.AreLiterals.{none}
use Rattle.proof_log.specs.Tokens.{BeginsLiteral}
use Rattle.proof_log.specs.Reading.{IsGoodClause, IsReadAs, AreLiteralsSoFar}
use Rattle.proof_log.proofs.Literals.{literals_more, whole, printed_literals, literals_are}

pub none_so_far : (vars : ℕ) (line : List ℕ) → AreLiteralsSoFar vars line [] false line
none_so_far vars line = record {
  text = [];
  all = [];
  spelled = refl;
  literals = none;
  good = λ e. (refl, All-nil (InVars vars));
  bad = λ e. absurd cc;
}

module _ (vars : ℕ) (line : List ℕ) (kept : List Lit) (is_bad : Bool) (rest : List ℕ) (l : Lit) (digits behind : List ℕ)
    (so_far : AreLiteralsSoFar vars line kept is_bad rest) (begins : BeginsLiteral rest l digits behind) where
  abbrev text_now : List ℕ
  text_now = so_far.text ++ (sign l.positive ++ digits ++ 32 ∷ [])

  spelled_now : line ≡ text_now ++ behind
  spelled_now =
      so_far.spelled ∙ ap (λ (x : List ℕ). so_far.text ++ x) (begins.spelled ∙ sym (append_assoc (sign l.positive ++ digits) (32 ∷ []) behind))
      ∙ sym (append_assoc so_far.text (sign l.positive ++ digits ++ 32 ∷ []) behind)

  literals_now : AreLiterals text_now (so_far.all ++ l ∷ [])
  literals_now = literals_more so_far.text so_far.all l digits so_far.literals begins.number

  -- one more that is kept
  pub good_so_far : InVars vars l → AreLiteralsSoFar vars line (kept ++ l ∷ []) is_bad behind
  good_so_far there = record {
    text = text_now;
    all = so_far.all ++ l ∷ [];
    spelled = spelled_now;
    literals = literals_now;
    good = λ e. let g = so_far.good e in
        (ap (λ (x : List Lit). x ++ l ∷ []) g.0, All-append (InVars vars) so_far.all (l ∷ []) g.1 (All-cons (InVars vars) l [] there (All-nil (InVars vars))));
    bad = λ e. let b = so_far.bad e in (b.0, Contains-append_left so_far.all (l ∷ []) b.0 b.1, b.2);
  }

  -- one more that is bad
  pub bad_so_far : (InVars vars l → ⊥) → AreLiteralsSoFar vars line kept true behind
  bad_so_far out = record {
    text = text_now;
    all = so_far.all ++ l ∷ [];
    spelled = spelled_now;
    literals = literals_now;
    good = λ e. absurd cc;
    bad = λ e. (l, Contains-append_right so_far.all (l ∷ []) l (Contains-head l []), out);
  }

module _ (vars : ℕ) (line : List ℕ) (kept : List Lit) (is_bad : Bool) (rest : List ℕ) (small : vars ≤ 4294967295)
    (so_far : AreLiteralsSoFar vars line kept is_bad rest) (nothing : (l : Lit) (digits behind : List ℕ) → BeginsLiteral rest l digits behind → ⊥) where
  good_whole : (others : List Lit) → IsGoodClause vars line others → (so_far.all ≡ others) × (rest ≡ codes "0")
  good_whole others (e, all) =
      whole so_far.text so_far.all rest (literals_text others) others so_far.literals (printed_literals vars others small all) (sym so_far.spelled ∙ e) nothing

  -- what isn't closed is no clause
  pub read_unclosed : rest ≢ codes "0" → IsReadAs vars line kept (Some BadLine)
  read_unclosed other = (
    λ others good. other (good_whole others good).1,
    inl (refl, λ (text, lits, l, e, are, has, out). other (whole so_far.text so_far.all rest text lits so_far.literals are (sym so_far.spelled ∙ e) nothing).1),
  )

  pub read_bad : rest ≡ codes "0" → is_bad ≡ true → IsReadAs vars line kept (Some BadLiteral)
  read_bad closed bad =
      let b = so_far.bad bad in (
        λ others good. b.2 (All-contains (InVars vars) others b.0 good.1 (subst (λ (x : List Lit). Contains x b.0) (good_whole others good).0 b.1)),
        inr (refl, (so_far.text, so_far.all, b.0, so_far.spelled ∙ ap (λ (x : List ℕ). so_far.text ++ x) closed, so_far.literals, b.1, b.2)),
      )

  pub read_good : rest ≡ codes "0" → is_bad ≡ false → IsReadAs vars line kept None
  read_good closed good =
      let g = so_far.good good in (
        so_far.spelled ∙ ap (λ (x : List ℕ). so_far.text ++ x) closed
            ∙ ap (λ (x : List ℕ). x ++ codes "0") (literals_are vars so_far.text so_far.all small g.1 so_far.literals)
            ∙ ap clause_line (sym g.0),
        subst (All (InVars vars)) (sym g.0) g.1,
      )
