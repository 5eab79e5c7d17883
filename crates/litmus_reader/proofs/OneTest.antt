-- The statements of a file make one litmus test, and all of them are sound.
use Rattle.std.proofs.Common.{◌≡◌, ℕ, Bool, false, List, [], ◌∷◌, ◌++◌, map, refl, sym, ◌∙◌, ap, ap₂, subst, inl, inr, append_assoc, true≢false}
use Rattle.litmus_syntax.specs.declared.call.Call.{Call}
use Rattle.litmus_syntax.specs.declared.call.Step.{Step}
use Rattle.litmus_syntax.specs.declared.pred.Pred.{Pred}
use Rattle.litmus_syntax.specs.Test.{Test}
use Rattle.lexeme_reader.specs.declared.reading.Lexeme.{Lexeme}
use Rattle.predicate_reader.specs.Predicates.{IsPredicate}
use Rattle.litmus_reader.specs.Calls.{begins_body}
use Rattle.litmus_reader.specs.Statements.{Statement, Head, Block, Sector, Body, Called, Question}
use Rattle.litmus_reader.specs.Versions.{version_named}
use Rattle.line_files.specs.StatedLines.{stated_in, statements}
use Rattle.litmus_reader.specs.StatedLines.{Stated}
use Rattle.litmus_reader.specs.WholeFiles.{stated_step, IsBlock, IsSector, IsSetup, IsTest}
use Rattle.litmus_reader.specs.Drafts.{step_in}
use Rattle.litmus_reader.proofs.Fronts.{front_quiet, before_body}

-- the statements before the body
abbrev pub front_of : {stated : List Stated} {t : Test} → IsTest stated t → List Stated
front_of {stated} {t} h = h.front_part ++ h.setup_part

-- a file is cut at its body line
pub body_cut : (stated : List Stated) (t : Test) (h : IsTest stated t)
    → stated ≡ front_of h ++ stated_in h.body_line Body ∷ (map stated_step t.body ++ stated_in t.pred_line (Question t.want h.asked) ∷ [])
body_cut stated t h = h.order ∙ append_assoc (front_of h) (stated_in h.body_line Body ∷ map stated_step t.body) (stated_in t.pred_line (Question t.want h.asked) ∷ [])

pub quiet : (stated : List Stated) (t : Test) (h : IsTest stated t) → begins_body (statements (front_of h)) ≡ false
quiet stated t h = before_body h.front_part h.setup_part t.setup (front_quiet h.front_part t.name t.version t.block t.sector h.front) h.setup

-- the first body line of a file is one line
one_body : (xs ys hs bs : List Stated) (l m : ℕ) → begins_body (statements xs) ≡ false → begins_body (statements ys) ≡ false
    → xs ++ stated_in l Body ∷ hs ≡ ys ++ stated_in m Body ∷ bs → (xs ≡ ys) × (hs ≡ bs)
one_body [] [] hs bs l m p q e = (refl, cc)
one_body [] (y ∷ ys) hs bs l m p q e =
    let same : stated_in l Body ≡ y = cc in
    absurd (true≢false (ap (λ (t : Stated). begins_body (t.statement ∷ statements ys)) same ∙ q))
one_body (x ∷ xs) [] hs bs l m p q e =
    let same : stated_in m Body ≡ x = cc in
    absurd (true≢false (ap (λ (t : Stated). begins_body (t.statement ∷ statements xs)) same ∙ p))
one_body (x ∷ xs) (y ∷ ys) hs bs l m p q e =
    let first : x ≡ y = cc in
    let rest : xs ++ stated_in l Body ∷ hs ≡ ys ++ stated_in m Body ∷ bs = cc in
    let more = one_body xs ys hs bs l m (begun_behind x.statement (statements xs) p) (begun_behind y.statement (statements ys) q) rest in
    (ap₂ (λ (t : Stated) (ts : List Stated). t ∷ ts) first more.0, more.1)
  where
    begun_behind : (s : Statement) (ss : List Statement) → begins_body (s ∷ ss) ≡ false → begins_body ss ≡ false
    begun_behind Body ss e = absurd (true≢false e)
    begun_behind s ss e = e

same_step : (a b : Step) → stated_step a ≡ stated_step b → a ≡ b
same_step a b e =
    let line : a.line ≡ b.line = ap (λ (t : Stated). t.line) e in
    let said : Called a.call ≡ Called b.call = ap (λ (t : Stated). t.statement) e in
    let same : a.call ≡ b.call = cc in
    ap₂ (λ (n : ℕ) (c : Call). step_in n c) line same

no_call : (n m : ℕ) (want : Bool) (asked : List Lexeme) (c : Call) → stated_in n (Question want asked) ≡ stated_in m (Called c) → ⊥
no_call n m want asked c e = let said : Question want asked ≡ Called c = ap (λ (t : Stated). t.statement) e in cc

-- calls and a question behind them are told apart in one way
one_end : (a b : List Step) (m n : ℕ) (v w : Bool) (x y : List Lexeme)
    → map stated_step a ++ stated_in m (Question v x) ∷ [] ≡ map stated_step b ++ stated_in n (Question w y) ∷ []
    → (a ≡ b) × (stated_in m (Question v x) ≡ stated_in n (Question w y))
one_end [] [] m n v w x y e = (refl, cc)
one_end [] (t ∷ ts) m n v w x y e = let same : stated_in m (Question v x) ≡ stated_in t.line (Called t.call) = cc in absurd (no_call m t.line v x t.call same)
one_end (s ∷ ss) [] m n v w x y e = let same : stated_in n (Question w y) ≡ stated_in s.line (Called s.call) = cc in absurd (no_call n s.line w y s.call same)
one_end (s ∷ ss) (t ∷ ts) m n v w x y e =
    let first : stated_step s ≡ stated_step t = cc in
    let rest : map stated_step ss ++ stated_in m (Question v x) ∷ [] ≡ map stated_step ts ++ stated_in n (Question w y) ∷ [] = cc in
    let more = one_end ss ts m n v w x y rest in
    (ap₂ (λ (u : Step) (us : List Step). u ∷ us) (same_step s t first) more.0, more.1)

-- the name, the version, the sizes and the calls, as the statements before the body tell them
name_in : Statement → List ℕ
name_in (Head name number) = name
name_in s = []

version_in : Statement → ℕ
version_in (Head name number) = version_named number
version_in s = 1

first : {X : Type 0} (f : Statement → X) (other : X) → List Stated → X
first f other [] = other
first f other (t ∷ ts) = f t.statement

behind_head : List Stated → List Stated
behind_head [] = []
behind_head (t ∷ ts) = ts

size_in : Statement → ℕ
size_in (Block size) = size
size_in s = 4096

behind_block : Statement → Stated → List Stated → List Stated
behind_block (Block size) t ts = ts
behind_block s t ts = t ∷ ts

unblocked : List Stated → List Stated
unblocked [] = []
unblocked (t ∷ ts) = behind_block t.statement t ts

sector_in : ℕ → Statement → ℕ
sector_in block (Sector size) = size
sector_in block s = block

step_of : ℕ → Statement → List Step
step_of line (Called c) = step_in line c ∷ []
step_of line s = []

steps_in : List Stated → List Step
steps_in [] = []
steps_in (t ∷ ts) = step_of t.line t.statement ++ steps_in ts

steps_back : (steps : List Step) → steps_in (map stated_step steps) ≡ steps
unfolding steps_in step_of
steps_back [] = refl
steps_back (s ∷ ss) = ap (λ (us : List Step). s ∷ us) (steps_back ss)

module _ (blocks sectors setup : List Stated) (block sector : ℕ) (steps : List Step) (b : IsBlock blocks block) (t : IsSector sectors block sector) (s : IsSetup setup steps) where
  size_told : first size_in 4096 (blocks ++ sectors ++ setup) ≡ block
  unfolding first size_in
  size_told = elim b [
    | inr some ↦ ap (λ (bl : List Stated). first size_in 4096 (bl ++ sectors ++ setup)) some.1
    | inl none ↦
        ap (λ (bl : List Stated). first size_in 4096 (bl ++ sectors ++ setup)) none.0
        ∙ elim t [
          | inr some ↦ ap (λ (sl : List Stated). first size_in 4096 (sl ++ setup)) some.1
          | inl no_sector ↦
              ap (λ (sl : List Stated). first size_in 4096 (sl ++ setup)) no_sector.0
              ∙ elim s [ inr some ↦ ap (first size_in 4096) some.1 | inl no_setup ↦ ap (first size_in 4096) no_setup.0 ]
        ]
        ∙ sym none.1
  ]

  unblocked_is : unblocked (blocks ++ sectors ++ setup) ≡ sectors ++ setup
  unfolding unblocked behind_block
  unblocked_is = elim b [
    | inr some ↦ ap (λ (bl : List Stated). unblocked (bl ++ sectors ++ setup)) some.1
    | inl none ↦
        ap (λ (bl : List Stated). unblocked (bl ++ sectors ++ setup)) none.0
        ∙ elim t [
          | inr some ↦ ap (λ (sl : List Stated). unblocked (sl ++ setup)) some.1 ∙ sym (ap (λ (sl : List Stated). sl ++ setup) some.1)
          | inl no_sector ↦
              ap (λ (sl : List Stated). unblocked (sl ++ setup)) no_sector.0
              ∙ elim s [ inr some ↦ ap unblocked some.1 ∙ sym some.1 | inl no_setup ↦ ap unblocked no_setup.0 ∙ sym no_setup.0 ]
              ∙ sym (ap (λ (sl : List Stated). sl ++ setup) no_sector.0)
        ]
  ]

  sector_told : first (sector_in block) block (unblocked (blocks ++ sectors ++ setup)) ≡ sector
  unfolding first sector_in
  sector_told =
      ap (first (sector_in block) block) unblocked_is
      ∙ elim t [
        | inr some ↦ ap (λ (sl : List Stated). first (sector_in block) block (sl ++ setup)) some.1
        | inl no_sector ↦
            ap (λ (sl : List Stated). first (sector_in block) block (sl ++ setup)) no_sector.0
            ∙ elim s [ inr some ↦ ap (first (sector_in block) block) some.1 | inl no_setup ↦ ap (first (sector_in block) block) no_setup.0 ]
            ∙ sym no_sector.1
      ]

  steps_told : steps_in (blocks ++ sectors ++ setup) ≡ steps
  unfolding steps_in step_of
  steps_told =
      steps_block
      ∙ elim t [
        | inr some ↦ ap (λ (sl : List Stated). steps_in (sl ++ setup)) some.1
        | inl no_sector ↦ ap (λ (sl : List Stated). steps_in (sl ++ setup)) no_sector.0
      ]
      ∙ elim s [ inr some ↦ ap steps_in some.1 ∙ steps_back steps | inl no_setup ↦ ap steps_in no_setup.0 ∙ sym no_setup.1 ]
    where
      steps_block : steps_in (blocks ++ sectors ++ setup) ≡ steps_in (sectors ++ setup)
      steps_block = elim b [
        | inr some ↦ ap (λ (bl : List Stated). steps_in (bl ++ sectors ++ setup)) some.1
        | inl none ↦ ap (λ (bl : List Stated). steps_in (bl ++ sectors ++ setup)) none.0
      ]

same_test : (a b : Test) → a.name ≡ b.name → a.block ≡ b.block → a.setup ≡ b.setup → a.body ≡ b.body → a.want ≡ b.want → a.pred ≡ b.pred
    → a.pred_line ≡ b.pred_line → a.version ≡ b.version → a.sector ≡ b.sector → a ≡ b
same_test a b e f g h i j k l m = ap₂ (λ (x : List ℕ × ℕ × List Step × List Step) (y : Bool × Pred × ℕ × ℕ × ℕ).
    let test : Test = record { name = x.0; block = x.1; setup = x.2; body = x.3; want = y.0; pred = y.1; pred_line = y.2; version = y.3; sector = y.4 } in test)
    (let v : List ℕ × ℕ × List Step × List Step = (a.name, a.block, a.setup, a.body) in let w : List ℕ × ℕ × List Step × List Step = (b.name, b.block, b.setup, b.body) in let same : v ≡ w = cc in same)
    (let v : Bool × Pred × ℕ × ℕ × ℕ = (a.want, a.pred, a.pred_line, a.version, a.sector) in let w : Bool × Pred × ℕ × ℕ × ℕ = (b.want, b.pred, b.pred_line, b.version, b.sector) in let same : v ≡ w = cc in same)

-- the statements before the body, cut at the head
pub front_cut : (stated : List Stated) (t : Test) (h : IsTest stated t)
    → front_of h ≡ stated_in h.front.head_line (Head t.name h.front.number) ∷ (h.front.block_part ++ h.front.sector_part ++ h.setup_part)
front_cut stated t h = ap (λ (f : List Stated). f ++ h.setup_part) h.front.order

-- statements make one test
pub one_test : (one_predicate : (tokens : List Lexeme) (p q : Pred) → IsPredicate tokens p → IsPredicate tokens q → p ≡ q) (stated : List Stated) (a b : Test)
    → IsTest stated a → IsTest stated b → a ≡ b
unfolding first name_in version_in behind_head
one_test one_predicate stated a b h g =
    let cut = one_body (front_of h) (front_of g) _ _ h.body_line g.body_line (quiet stated a h) (quiet stated b g) (sym (body_cut stated a h) ∙ body_cut stated b g) in
    let end = one_end a.body b.body a.pred_line b.pred_line a.want b.want h.asked g.asked cut.1 in
    let question : Question a.want h.asked ≡ Question b.want g.asked = ap (λ (t : Stated). t.statement) end.1 in
    let line : a.pred_line ≡ b.pred_line = ap (λ (t : Stated). t.line) end.1 in
    let want : a.want ≡ b.want = cc in
    let asked : h.asked ≡ g.asked = cc in
    let front = sym (front_cut stated a h) ∙ cut.0 ∙ front_cut stated b g in
    let name : a.name ≡ b.name = ap (first name_in []) front in
    let version : a.version ≡ b.version = h.front.has_version ∙ ap (first version_in 1) front ∙ sym g.front.has_version in
    let behind : h.front.block_part ++ h.front.sector_part ++ h.setup_part ≡ g.front.block_part ++ g.front.sector_part ++ g.setup_part = ap behind_head front in
    let block : a.block ≡ b.block =
    sym (size_told h.front.block_part h.front.sector_part h.setup_part a.block a.sector a.setup h.front.has_block h.front.has_sector h.setup)
    ∙ ap (first size_in 4096) behind
    ∙ size_told g.front.block_part g.front.sector_part g.setup_part b.block b.sector b.setup g.front.has_block g.front.has_sector g.setup in
    let sector : a.sector ≡ b.sector =
    sym (sector_told h.front.block_part h.front.sector_part h.setup_part a.block a.sector a.setup h.front.has_block h.front.has_sector h.setup)
    ∙ ap₂ (λ (n : ℕ) (ts : List Stated). first (sector_in n) n (unblocked ts)) block behind
    ∙ sector_told g.front.block_part g.front.sector_part g.setup_part b.block b.sector b.setup g.front.has_block g.front.has_sector g.setup in
    let setup : a.setup ≡ b.setup =
    sym (steps_told h.front.block_part h.front.sector_part h.setup_part a.block a.sector a.setup h.front.has_block h.front.has_sector h.setup)
    ∙ ap steps_in behind
    ∙ steps_told g.front.block_part g.front.sector_part g.setup_part b.block b.sector b.setup g.front.has_block g.front.has_sector g.setup in
    let pred = one_predicate h.asked a.pred b.pred h.pred (subst (λ (ls : List Lexeme). IsPredicate ls b.pred) (sym asked) g.pred) in
    same_test a b name block setup end.0 want pred line version sector
