-- Whether a statement may stand where it stands, as a draft tells it.
use Rattle.std.proofs.Common.{◌≡◌, ◌≢◌, ◌⊎◌, ℕ, Bool, true, false, not, ◌||◌, ◌==◌, List, [], ◌∷◌, ◌++◌, Some, None, refl, sym, ◌∙◌, ap, subst, inl, inr}
use Rattle.std.specs.List.{All, Contains}
use Rattle.std.proofs.lemmas.Bool.{cases_Bool, eqb-true, eqb-false, false≢true, true≢false}
use Rattle.std.proofs.lemmas.List.Elements.{All-contains, Contains-push}
use Rattle.line_files.specs.StatedLines.{Stated, stated_in, statements}
use Rattle.model_reader.specs.declared.draft.Stage.{Stage}
use Rattle.model_reader.specs.declared.draft.Stage.TheVariants as stage
use Rattle.model_reader.specs.declared.draft.Draft.{Draft}
use Rattle.model_reader.specs.Statements.{Statement, Head, Let, Keep, End, version_of}
use Rattle.model_reader.specs.Faults.{IsMisplaced, IsForeign}
use Rattle.model_reader.specs.Drafts.{HasHead, StandsAt, IsDraft, is_barred}
use Rattle.model_reader.proofs.Listing.{statements-more}

-- a file of this version has the head
head_version : (n : ℕ) → not (n == 1 || n == 2) ≡ false → (n ≢ 1) × (n ≢ 2) → ⊥
head_version n fits (one, two) = elim (cases_Bool (n == 1)) [
  | inl is ↦ one (eqb-true n 1 is)
  | inr isnt ↦ elim (cases_Bool (n == 2)) [
    | inl is ↦ two (eqb-true n 2 is)
    | inr nor ↦ false≢true (sym fits ∙ ap (λ (b : Bool). not (b || n == 2)) isnt ∙ ap not nor)
  ]
]

head_foreign : (n : ℕ) → not (n == 1 || n == 2) ≡ true → (n ≢ 1) × (n ≢ 2)
head_foreign n bars = elim (cases_Bool (n == 1)) [
  | inl is ↦ absurd (false≢true (sym (ap (λ (b : Bool). not (b || n == 2)) is) ∙ bars))
  | inr isnt ↦ elim (cases_Bool (n == 2)) [
    | inl is ↦ absurd (false≢true (sym (ap (λ (b : Bool). not (b || n == 2)) isnt ∙ ap not is) ∙ bars))
    | inr nor ↦ (eqb-false n 1 isnt, eqb-false n 2 nor)
  ]
]

second_version : (n : ℕ) → not (n == 2) ≡ false → n ≡ 2
second_version n fits = elim (cases_Bool (n == 2)) [ inl is ↦ eqb-true n 2 is | inr isnt ↦ absurd (true≢false (sym (ap not isnt) ∙ fits)) ]

other_version : (n : ℕ) → not (n == 2) ≡ true → n ≢ 2
other_version n bars = elim (cases_Bool (n == 2)) [ inl is ↦ absurd (false≢true (sym (ap not is) ∙ bars)) | inr isnt ↦ eqb-false n 2 isnt ]

module _ (stated : List (Stated Statement)) (d : Draft) where
  headed : HasHead stated d → statements stated ≡ [] → ⊥
  headed (line, number, behind, is, version) none =
      let some : Head d.name number ∷ statements behind ≡ [] = sym (ap (λ (st : List (Stated Statement)). statements st) is) ∙ none in
      cc

  version_is : HasHead stated d → d.version ≡ version_of (statements stated)
  version_is (line, number, behind, is, version) = version ∙ sym (ap (λ (st : List (Stated Statement)). version_of (statements st)) is)

  ended : (front : List (Stated Statement)) (line : ℕ) → stated ≡ front ++ stated_in line End ∷ [] → Contains (statements stated) End
  ended front line is =
      subst (λ (ss : List Statement). Contains ss End) (sym (ap (λ (st : List (Stated Statement)). statements st) is ∙ statements-more front line End))
      (Contains-push (statements front) End)

  -- nothing is wrong with its place, where nothing bars it
  abbrev Stays : Statement → Type 0
  Stays s = (IsMisplaced (statements stated) s → ⊥) × (IsForeign (statements stated) s → ⊥)

  in_rules : HasHead stated d → All (λ s. s ≢ End) (statements stated) → (statements stated ≡ []) ⊎ Contains (statements stated) End → ⊥
  in_rules head open_still (inl none) = headed head none
  in_rules head open_still (inr there) = All-contains (λ (s : Statement). s ≢ End) (statements stated) End open_still there refl

  stays_at : (p : Stage) (s : Statement) → StandsAt p stated d → is_barred p d.version s ≡ false → Stays s
  stays_at stage.BeforeHead (Head name None) (none, version) fits = (λ some. some (ap (λ (st : List (Stated Statement)). statements st) none), λ foreign. foreign.0 refl)
  stays_at stage.BeforeHead (Head name (Some n)) (none, version) fits =
      (λ some. some (ap (λ (st : List (Stated Statement)). statements st) none), head_version n fits)
  stays_at stage.BeforeHead (Let r name value) h fits = absurd (true≢false fits)
  stays_at stage.BeforeHead (Keep value) h fits = absurd (true≢false fits)
  stays_at stage.BeforeHead End h fits = absurd (true≢false fits)
  stays_at stage.Rules (Head name version) h fits = absurd (true≢false fits)
  stays_at stage.Rules (Let true name value) (head, still) fits = (in_rules head still, λ foreign. foreign (sym (version_is head) ∙ second_version d.version fits))
  stays_at stage.Rules (Let false name value) (head, still) fits = (in_rules head still, λ foreign. foreign)
  stays_at stage.Rules (Keep value) (head, still) fits = (in_rules head still, λ foreign. foreign)
  stays_at stage.Rules End (head, still) fits = (in_rules head still, λ foreign. foreign)
  stays_at stage.BehindEnd s h fits = absurd (true≢false (sym (barred s) ∙ fits))
    where
      barred : (s : Statement) → is_barred stage.BehindEnd d.version s ≡ true
      barred (Head name version) = refl
      barred (Let true name value) = refl
      barred (Let false name value) = refl
      barred (Keep value) = refl
      barred End = refl

  -- what is barred is misplaced, or foreign to the version
  barred_at : (p : Stage) (s : Statement) → StandsAt p stated d → is_barred p d.version s ≡ true → IsMisplaced (statements stated) s ⊎ IsForeign (statements stated) s
  barred_at stage.BeforeHead (Head name None) h bars = absurd (false≢true bars)
  barred_at stage.BeforeHead (Head name (Some n)) h bars = inr (head_foreign n bars)
  barred_at stage.BeforeHead (Let r name value) (none, version) bars = inl (inl (ap (λ (st : List (Stated Statement)). statements st) none))
  barred_at stage.BeforeHead (Keep value) (none, version) bars = inl (inl (ap (λ (st : List (Stated Statement)). statements st) none))
  barred_at stage.BeforeHead End (none, version) bars = inl (inl (ap (λ (st : List (Stated Statement)). statements st) none))
  barred_at stage.Rules (Head name version) (head, still) bars = inl (headed head)
  barred_at stage.Rules (Let true name value) (head, still) bars = inr (λ second. other_version d.version bars (version_is head ∙ second))
  barred_at stage.Rules (Let false name value) h bars = absurd (false≢true bars)
  barred_at stage.Rules (Keep value) h bars = absurd (false≢true bars)
  barred_at stage.Rules End h bars = absurd (false≢true bars)
  barred_at stage.BehindEnd (Head name version) (head, front, line, is) bars = inl (headed head)
  barred_at stage.BehindEnd (Let r name value) (head, front, line, is) bars = inl (inr (ended front line is))
  barred_at stage.BehindEnd (Keep value) (head, front, line, is) bars = inl (inr (ended front line is))
  barred_at stage.BehindEnd End (head, front, line, is) bars = inl (inr (ended front line is))

pub stays : (stated : List (Stated Statement)) (d : Draft) (s : Statement) → IsDraft stated d → is_barred d.stage d.version s ≡ false
    → (IsMisplaced (statements stated) s → ⊥) × (IsForeign (statements stated) s → ⊥)
stays stated d s h fits = stays_at stated d d.stage s h.stands fits

pub barred : (stated : List (Stated Statement)) (d : Draft) (s : Statement) → IsDraft stated d → is_barred d.stage d.version s ≡ true
    → IsMisplaced (statements stated) s ⊎ IsForeign (statements stated) s
barred stated d s h bars = barred_at stated d d.stage s h.stands bars
