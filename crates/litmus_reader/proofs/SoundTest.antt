-- Each statement of a litmus test is sound behind those before it.
use Rattle.std.proofs.Common.{◌≡◌, ℕ, ◌<◌, ◌≤◌, Bool, true, false, not, ◌&&◌, ◌||◌, cond, List, [], ◌∷◌, ◌++◌, length, map, fold, replicate, Option, Some, None, refl, sym, ◌∙◌, ap, ap₂, subst, inl, inr, append_assoc, append-nil, true≢false, arith}
use Rattle.std.specs.List.{All}
use Rattle.std.proofs.lemmas.List.{length-append, length-map}
use Rattle.std.proofs.lemmas.List.Elements.{All-contains, All-map, All-same, All-nil, All-cons, All-append, Contains-append_right, filter-append}
use Rattle.std.proofs.lemmas.Bool.{false≢true, and_parts}
use Rattle.litmus_syntax.specs.declared.call.Call.{Call}
use Rattle.litmus_syntax.specs.declared.call.Step.{Step}
use Rattle.litmus_syntax.specs.CallKinds.{is_sync, is_boundary, is_setup_call, is_body_call, sync_free}
use Rattle.litmus_syntax.specs.Transactions.{calls_of, open_behind, is_open, suits, all_suit}
use Rattle.litmus_syntax.specs.Test.{Test}
use Rattle.lexeme_reader.specs.declared.reading.Lexeme.{Lexeme}
use Rattle.predicate_reader.specs.Counts.{IsShort}
use Rattle.predicate_reader.specs.Predicates.{IsPredicate}
use Rattle.litmus_reader.specs.declared.fault.LitmusKind.TheVariants.{NumberRange, NotHere, BadPredicate, TooLong}
use Rattle.litmus_reader.specs.declared.statements.Form.{Form}
use Rattle.litmus_reader.specs.declared.statements.Form.TheVariants as form
use Rattle.litmus_reader.specs.Calls.{calls_in, begins_body, body_calls, block_behind, block_of}
use Rattle.litmus_reader.specs.Places.{IsOneAtMost, IsSetupPart, IsOrder}
use Rattle.litmus_reader.specs.Statements.{Statement, Head, Block, Sector, Setup, Body, Called, Question}
use Rattle.litmus_reader.specs.Versions.{version_of, version_has}
use Rattle.litmus_reader.specs.Faults.{HasWide, IsBadSize, pairs}
use Rattle.line_files.specs.StatedLines.{stated_in, statements}
use Rattle.line_files.specs.FirstFaults.{AreSound}
use Rattle.line_files.proofs.GeneralStating.{cut_last}
use Rattle.litmus_reader.specs.StatedLines.{Stated}
use Rattle.litmus_reader.specs.WholeFiles.{stated_step, IsBlock, IsSector, IsSetup, IsTest}
use Rattle.litmus_reader.specs.LitmusText.{litmus_grammar}
use Rattle.litmus_reader.specs.TakenLines.{IsFaultless}
use Rattle.litmus_reader.proofs.Fronts.{forms, forms-append, statements-append, front_quiet, setup_quiet, behind_front, steps_call, calls_in-append, body_calls-behind}
use Rattle.litmus_reader.proofs.OneTest.{front_of, front_cut, body_cut, quiet}
use Rattle.litmus_reader.proofs.Faulting.{Lacks, faultless, known, ordered}
use Rattle.litmus_reader.proofs.Calling.{suit-append}
use Rattle.litmus_reader.proofs.Saying.{sound_said}

-- the calls before the body
front_calls : List Statement → List Call
front_calls [] = []
front_calls (Body ∷ ss) = []
front_calls (Called c ∷ ss) = c ∷ front_calls ss
front_calls (s ∷ ss) = front_calls ss

front_calls-behind : (xs ys : List Statement) → begins_body xs ≡ false → front_calls (xs ++ ys) ≡ calls_in xs ++ front_calls ys
unfolding front_calls
front_calls-behind [] ys e = refl
front_calls-behind (Body ∷ xs) ys e = absurd (true≢false e)
front_calls-behind (Called c ∷ xs) ys e = ap (λ (cs : List Call). c ∷ cs) (front_calls-behind xs ys e)
front_calls-behind (x ∷ xs) ys e = front_calls-behind xs ys e

body_calls-more : (xs ys : List Statement) → begins_body xs ≡ true → body_calls (xs ++ ys) ≡ body_calls xs ++ calls_in ys
body_calls-more [] ys e = absurd (false≢true e)
body_calls-more (Body ∷ xs) ys e = calls_in-append xs ys
body_calls-more (x ∷ xs) ys e = body_calls-more xs ys e

-- what the questions ask
asks : List Statement → List (List Lexeme)
asks [] = []
asks (Question want asked ∷ ss) = asked ∷ asks ss
asks (s ∷ ss) = asks ss

asks-append : (xs ys : List Statement) → asks (xs ++ ys) ≡ asks xs ++ asks ys
unfolding asks
asks-append [] ys = refl
asks-append (Question want asked ∷ xs) ys = ap (λ (qs : List (List Lexeme)). asked ∷ qs) (asks-append xs ys)
asks-append (x ∷ xs) ys = asks-append xs ys

no_asks : (steps : List Step) → asks (statements (map stated_step steps)) ≡ []
unfolding asks
no_asks [] = refl
no_asks (s ∷ ss) = no_asks ss

-- the sizes that lines name, each with the size of a block that holds there
sizes : ℕ → List Statement → List (ℕ × ℕ)
sizes block [] = []
sizes block (Block size ∷ ss) = (size, size) ∷ sizes size ss
sizes block (Sector size ∷ ss) = (block, size) ∷ sizes block ss
sizes block (s ∷ ss) = sizes block ss

sizes-append : (block : ℕ) (xs ys : List Statement) → sizes block (xs ++ ys) ≡ sizes block xs ++ sizes (fold block_behind block xs) ys
unfolding sizes
sizes-append block [] ys = refl
sizes-append block (Block size ∷ xs) ys = ap (λ (ns : List (ℕ × ℕ)). (size, size) ∷ ns) (sizes-append size xs ys)
sizes-append block (Sector size ∷ xs) ys = ap (λ (ns : List (ℕ × ℕ)). (block, size) ∷ ns) (sizes-append block xs ys)
sizes-append block (Head name number ∷ xs) ys = sizes-append block xs ys
sizes-append block (Setup ∷ xs) ys = sizes-append block xs ys
sizes-append block (Body ∷ xs) ys = sizes-append block xs ys
sizes-append block (Called c ∷ xs) ys = sizes-append block xs ys
sizes-append block (Question want asked ∷ xs) ys = sizes-append block xs ys

no_sizes : (block : ℕ) (steps : List Step) → sizes block (statements (map stated_step steps)) ≡ []
unfolding sizes
no_sizes block [] = refl
no_sizes block (s ∷ ss) = no_sizes block ss

-- a size that may be had: a sector is no larger than its block
abbrev IsGood : ℕ × ℕ → Type 0
IsGood n = (1 ≤ n.1) × (n.1 ≤ n.0) × (n.0 ≤ 65536)

-- each call of a list is of one form
step_forms : (steps : List Step) → forms (map stated_step steps) ≡ replicate (length steps) form.Call
step_forms [] = refl
step_forms (s ∷ ss) = ap (λ (fs : List Form). form.Call ∷ fs) (step_forms ss)

block_forms : (part : List Stated) (size : ℕ) → IsBlock part size → IsOneAtMost form.Block (forms part)
block_forms part size (inl none) = inl (ap forms none.0)
block_forms part size (inr some) = inr (ap forms some.1)

sector_forms : (part : List Stated) (block size : ℕ) → IsSector part block size → IsOneAtMost form.Sector (forms part)
sector_forms part block size (inl none) = inl (ap forms none.0)
sector_forms part block size (inr some) = inr (ap forms some.1)

setup_forms : (part : List Stated) (steps : List Step) → IsSetup part steps → IsSetupPart (forms part)
setup_forms part steps (inl none) = inl (ap forms none.0)
setup_forms part steps (inr some) = inr (length steps, ap forms some.1 ∙ ap (λ (fs : List Form). form.Setup ∷ fs) (step_forms steps))

same_head : (v w : ℕ) (name : List ℕ) (number : Option ℕ) → version_has v (Head name number) ≡ version_has w (Head name number)
same_head v w name None = refl
same_head v w name (Some n) = refl

or_true : (a b : Bool) → b ≡ true → (a || b) ≡ true
or_true true b e = refl
or_true false b e = e

module _ (stated : List Stated) (t : Test) (h : IsTest stated t) where
  -- the statements, cut at the body line
  parts : statements stated ≡ statements (front_of h) ++ Body ∷ (statements (map stated_step t.body) ++ Question t.want h.asked ∷ [])
  parts =
      ap statements (body_cut stated t h)
      ∙ statements-append (front_of h) (stated_in h.body_line Body ∷ (map stated_step t.body ++ stated_in t.pred_line (Question t.want h.asked) ∷ []))
      ∙ ap (λ (ss : List Statement). statements (front_of h) ++ Body ∷ ss) (statements-append (map stated_step t.body) (stated_in t.pred_line (Question t.want h.asked) ∷ []))

  -- the calls of the setup and of the body
  setup_is : front_calls (statements stated) ≡ calls_of t.setup
  unfolding front_calls
  setup_is =
      ap front_calls parts
      ∙ front_calls-behind (statements (front_of h)) (Body ∷ (statements (map stated_step t.body) ++ Question t.want h.asked ∷ [])) (quiet stated t h)
      ∙ ap (λ (cs : List Call). cs ++ []) ((behind_front h.front_part h.setup_part (front_quiet h.front_part t.name t.version t.block t.sector h.front)).1
      ∙ (setup_quiet h.setup_part t.setup h.setup).1)
      ∙ append-nil (calls_of t.setup)

  body_is : body_calls (statements stated) ≡ calls_of t.body
  body_is =
      ap body_calls parts
      ∙ body_calls-behind (statements (front_of h)) (statements (map stated_step t.body) ++ Question t.want h.asked ∷ []) (quiet stated t h)
      ∙ calls_in-append (statements (map stated_step t.body)) (Question t.want h.asked ∷ [])
      ∙ append-nil (calls_in (statements (map stated_step t.body)))
      ∙ steps_call t.body

  -- everything before the question asks nothing
  unasked_part : List Stated
  unasked_part = front_of h ++ stated_in h.body_line Body ∷ map stated_step t.body

  block_asks : (part rest : List Stated) (size : ℕ) → IsBlock part size → asks (statements (part ++ rest)) ≡ asks (statements rest)
  unfolding asks
  block_asks part rest size (inl b) = ap (λ (bl : List Stated). asks (statements (bl ++ rest))) b.0
  block_asks part rest size (inr b) = ap (λ (bl : List Stated). asks (statements (bl ++ rest))) b.1

  sector_asks : (part rest : List Stated) (block size : ℕ) → IsSector part block size → asks (statements (part ++ rest)) ≡ asks (statements rest)
  unfolding asks
  sector_asks part rest block size (inl b) = ap (λ (bl : List Stated). asks (statements (bl ++ rest))) b.0
  sector_asks part rest block size (inr b) = ap (λ (bl : List Stated). asks (statements (bl ++ rest))) b.1

  setup_asks : (part : List Stated) (steps : List Step) → IsSetup part steps → asks (statements part) ≡ []
  unfolding asks
  setup_asks part steps (inl s) = ap (λ (st : List Stated). asks (statements st)) s.0
  setup_asks part steps (inr s) = ap (λ (st : List Stated). asks (statements st)) s.1 ∙ no_asks steps

  front_asks : asks (statements (front_of h)) ≡ []
  unfolding asks
  front_asks =
      ap (λ (st : List Stated). asks (statements st)) (front_cut stated t h)
      ∙ ap (λ (st : List Stated). asks (statements st)) (append_assoc h.front.block_part h.front.sector_part h.setup_part)
      ∙ block_asks h.front.block_part (h.front.sector_part ++ h.setup_part) t.block h.front.has_block
      ∙ sector_asks h.front.sector_part h.setup_part t.block t.sector h.front.has_sector
      ∙ setup_asks h.setup_part t.setup h.setup

  unasked : asks (statements unasked_part) ≡ []
  unfolding asks unasked_part
  unasked =
      ap asks (statements-append (front_of h) (stated_in h.body_line Body ∷ map stated_step t.body))
      ∙ asks-append (statements (front_of h)) (Body ∷ statements (map stated_step t.body))
      ∙ ap₂ (λ (x : List (List Lexeme)) (y : List (List Lexeme)). x ++ y) front_asks (no_asks t.body)

  order_is : forms stated ≡ form.Head ∷ forms h.front.block_part ++ forms h.front.sector_part ++ forms h.setup_part
      ++ form.Body ∷ replicate (length t.body) form.Call ++ form.Question ∷ []
  order_is =
      ap forms h.order
      ∙ forms-append (h.front_part ++ h.setup_part ++ stated_in h.body_line Body ∷ map stated_step t.body) (stated_in t.pred_line (Question t.want h.asked) ∷ [])
      ∙ ap (λ (fs : List Form). fs ++ form.Question ∷ []) (
      forms-append (h.front_part ++ h.setup_part) (stated_in h.body_line Body ∷ map stated_step t.body)
      ∙ ap₂ (λ (xs : List Form) (ys : List Form). xs ++ form.Body ∷ ys)
      (forms-append h.front_part h.setup_part
      ∙ ap (λ (fs : List Form). fs ++ forms h.setup_part) (ap forms h.front.order
      ∙ ap (λ (fs : List Form). form.Head ∷ fs) (forms-append h.front.block_part h.front.sector_part)))
      (step_forms t.body)
      )

  in_order : IsOrder (forms stated)
  in_order = (
    forms h.front.block_part,
    forms h.front.sector_part,
    forms h.setup_part,
    length t.body,
    block_forms h.front.block_part t.block h.front.has_block,
    sector_forms h.front.sector_part t.block t.sector h.front.has_sector,
    setup_forms h.setup_part t.setup h.setup,
    order_is,
  )

  -- the sizes that the lines name
  block_good : All IsGood (sizes 4096 (statements h.front.block_part)) × (fold block_behind 4096 (statements h.front.block_part) ≡ t.block)
  unfolding sizes
  block_good = elim h.front.has_block [
    | inl none ↦ (
      All-same IsGood _ [] (ap (λ (p : List Stated). sizes 4096 (statements p)) none.0) (All-nil IsGood),
      ap (λ (p : List Stated). fold block_behind 4096 (statements p)) none.0 ∙ sym none.1,
    )
    | inr some ↦ (
      All-same IsGood _ ((t.block, t.block) ∷ []) (ap (λ (p : List Stated). sizes 4096 (statements p)) some.1)
          (All-cons IsGood (t.block, t.block) [] (omega (arith, h.some_sector, h.small_sector), omega arith, h.small_block) (All-nil IsGood)),
      ap (λ (p : List Stated). fold block_behind 4096 (statements p)) some.1,
    )
  ]

  sector_good : All IsGood (sizes t.block (statements h.front.sector_part))
  unfolding sizes
  sector_good = elim h.front.has_sector [
    | inl none ↦ All-same IsGood _ [] (ap (λ (p : List Stated). sizes t.block (statements p)) none.0) (All-nil IsGood)
    | inr some ↦ All-same IsGood _ ((t.block, t.sector) ∷ []) (ap (λ (p : List Stated). sizes t.block (statements p)) some.1)
        (All-cons IsGood (t.block, t.sector) [] (h.some_sector, h.small_sector, h.small_block) (All-nil IsGood))
  ]

  setup_sizeless : (block : ℕ) → sizes block (statements h.setup_part) ≡ []
  unfolding sizes
  setup_sizeless block = elim h.setup [
    | inl none ↦ ap (λ (p : List Stated). sizes block (statements p)) none.0
    | inr some ↦ ap (λ (p : List Stated). sizes block (statements p)) some.1 ∙ no_sizes block t.setup
  ]

  rest_sizeless : (block : ℕ) → sizes block (Body ∷ (statements (map stated_step t.body) ++ Question t.want h.asked ∷ [])) ≡ []
  unfolding sizes
  rest_sizeless block =
      sizes-append block (statements (map stated_step t.body)) (Question t.want h.asked ∷ [])
      ∙ ap (λ (ns : List (ℕ × ℕ)). ns ++ []) (no_sizes block t.body)

  front_sizes : sizes 4096 (statements (front_of h)) ≡ sizes 4096 (statements h.front.block_part) ++ sizes t.block (statements h.front.sector_part)
  unfolding sizes
  front_sizes =
      let blocks = statements h.front.block_part in
      let sectors = statements h.front.sector_part in
      ap (λ (st : List Stated). sizes 4096 (statements st)) (front_cut stated t h)
      ∙ ap (sizes 4096) (statements-append (h.front.block_part ++ h.front.sector_part) h.setup_part)
      ∙ sizes-append 4096 (statements (h.front.block_part ++ h.front.sector_part)) (statements h.setup_part)
      ∙ ap₂ (λ (x : List (ℕ × ℕ)) (y : List (ℕ × ℕ)). x ++ y)
      (ap (sizes 4096) (statements-append h.front.block_part h.front.sector_part) ∙ sizes-append 4096 blocks sectors
      ∙ ap (λ (n : ℕ). sizes 4096 blocks ++ sizes n sectors) block_good.1)
      (setup_sizeless (fold block_behind 4096 (statements (h.front.block_part ++ h.front.sector_part))))
      ∙ append-nil (sizes 4096 blocks ++ sizes t.block sectors)

  all_good : All IsGood (sizes 4096 (statements stated))
  all_good =
      let body = Body ∷ (statements (map stated_step t.body) ++ Question t.want h.asked ∷ []) in
      let blocks = sizes 4096 (statements h.front.block_part) in
      let sectors = sizes t.block (statements h.front.sector_part) in
      All-same IsGood (sizes 4096 (statements stated)) (blocks ++ sectors)
      (ap (sizes 4096) parts ∙ sizes-append 4096 (statements (front_of h)) body
      ∙ ap₂ (λ (x : List (ℕ × ℕ)) (y : List (ℕ × ℕ)). x ++ y) front_sizes (rest_sizeless (fold block_behind 4096 (statements (front_of h))))
      ∙ append-nil (blocks ++ sectors))
      (All-append IsGood blocks sectors block_good.0 sector_good)

  module _ (before behind : List Stated) (s : Stated) (cut : stated ≡ before ++ s ∷ behind) where
    split : statements stated ≡ statements before ++ s.statement ∷ statements behind
    split = ap statements cut ∙ statements-append before (s ∷ behind)

    split_as : (u : Statement) → s.statement ≡ u → statements stated ≡ statements before ++ u ∷ statements behind
    split_as u is = split ∙ ap (λ (x : Statement). statements before ++ x ∷ statements behind) is

    contained : (P : Stated → Type 0) → All P stated → P s
    contained P all = All-contains P (before ++ s ∷ behind) s (All-same P (before ++ s ∷ behind) stated (sym cut) all)
        (Contains-append_right before (s ∷ behind) s (0, omega arith, refl))

    setup_cut : (c : Call) → s.statement ≡ Called c → begins_body (statements before) ≡ false
        → calls_of t.setup ≡ calls_in (statements before) ++ c ∷ front_calls (statements behind)
    unfolding front_calls
    setup_cut c is open_still =
        sym setup_is ∙ ap front_calls (split_as (Called c) is)
        ∙ front_calls-behind (statements before) (Called c ∷ statements behind) open_still

    calls_cut : (c : Call) → s.statement ≡ Called c → begins_body (statements before) ≡ true
        → calls_of t.body ≡ body_calls (statements before) ++ c ∷ calls_in (statements behind)
    calls_cut c is begun =
        sym body_is ∙ ap body_calls (split_as (Called c) is)
        ∙ body_calls-more (statements before) (Called c ∷ statements behind) begun

    -- a question is the one at the end
    question_cut : (want : Bool) (asked : List Lexeme) → s.statement ≡ Question want asked → (unasked_part ≡ before) × (stated_in t.pred_line (Question t.want h.asked) ≡ s)
    unfolding asks unasked_part
    question_cut want asked is = elim (cut_last unasked_part before behind (stated_in t.pred_line (Question t.want h.asked)) s (sym h.order ∙ cut)) [
      | inl both ↦ both
      | inr (rest, more) ↦
          let none : asks (statements before) ++ asked ∷ asks (statements rest) ≡ [] =
          sym (asks-append (statements before) (Question want asked ∷ statements rest))
          ∙ ap (λ (x : Statement). asks (statements before ++ x ∷ statements rest)) (sym is)
          ∙ ap asks (sym (statements-append before (s ∷ rest)))
          ∙ ap (λ (st : List Stated). asks (statements st)) (sym more) ∙ unasked in
          let size : length (asks (statements before) ++ asked ∷ asks (statements rest)) ≡ 0 = ap length none in
          absurd (omega (arith, length-append (asks (statements before)) (asked ∷ asks (statements rest))))
    ]

    asked_is : (want : Bool) (asked : List Lexeme) → s.statement ≡ Question want asked → asked ≡ h.asked
    asked_is want asked is =
        let same : Question t.want h.asked ≡ Question want asked = ap (λ (u : Stated). u.statement) (question_cut want asked is).1 ∙ is in
        cc

    setup_fits : (c : Call) → s.statement ≡ Called c → begins_body (statements before) ≡ false → is_setup_call c ≡ true
    setup_fits c is open_still = All-contains (λ (x : Call). is_setup_call x ≡ true) (calls_in (statements before) ++ c ∷ front_calls (statements behind)) c
        (All-same (λ (x : Call). is_setup_call x ≡ true) _ (calls_of t.setup) (sym (setup_cut c is open_still))
        (All-map (λ (x : Call). is_setup_call x ≡ true) (λ (step : Step). step.call) t.setup h.setup_calls))
        (Contains-append_right (calls_in (statements before)) (c ∷ front_calls (statements behind)) c (0, omega arith, refl))

    body_fits : (c : Call) → s.statement ≡ Called c → begins_body (statements before) ≡ true → is_body_call c ≡ true
    body_fits c is begun = All-contains (λ (x : Call). is_body_call x ≡ true) (body_calls (statements before) ++ c ∷ calls_in (statements behind)) c
        (All-same (λ (x : Call). is_body_call x ≡ true) _ (calls_of t.body) (sym (calls_cut c is begun))
        (All-map (λ (x : Call). is_body_call x ≡ true) (λ (step : Step). step.call) t.body h.body_calls))
        (Contains-append_right (body_calls (statements before)) (c ∷ calls_in (statements behind)) c (0, omega arith, refl))

    suit : (c : Call) → s.statement ≡ Called c → begins_body (statements before) ≡ true → suits (is_open (body_calls (statements before))) c ≡ true
    suit c is begun =
        let front = body_calls (statements before) in
        let rest = calls_in (statements behind) in
        let all : (all_suit false front && all_suit (is_open front) (c ∷ rest)) ≡ true =
        sym (suit-append false front (c ∷ rest)) ∙ ap (all_suit false) (sym (calls_cut c is begun)) ∙ h.placed in
        (and_parts (suits (is_open front) c) (all_suit (open_behind (is_open front) c) rest) (and_parts (all_suit false front) (all_suit (is_open front) (c ∷ rest)) all).1).0

    setup_room : (c : Call) → s.statement ≡ Called c → begins_body (statements before) ≡ false → length (calls_in (statements before)) < 256
    setup_room c is open_still =
        let size : length (calls_of t.setup) ≡ length (calls_in (statements before) ++ c ∷ front_calls (statements behind)) =
        ap (λ (cs : List Call). length cs) (setup_cut c is open_still) in
        omega (arith, h.few_setup, length-map t.setup (λ (step : Step). step.call), length-append (calls_in (statements before)) (c ∷ front_calls (statements behind)))

    kept : (c : Call) (cs : List Call) → is_sync c ≡ false → sync_free (c ∷ cs) ≡ c ∷ sync_free cs
    kept c cs change = ap (λ (b : Bool). cond (not b) (c ∷ sync_free cs) (sync_free cs)) change

    body_room : (c : Call) → s.statement ≡ Called c → begins_body (statements before) ≡ true → is_sync c ≡ false
        → length (sync_free (body_calls (statements before))) < 128
    body_room c is begun change =
        let rest = calls_in (statements behind) in
        let front = body_calls (statements before) in
        let size : length (sync_free (calls_of t.body)) ≡ length (sync_free front ++ c ∷ sync_free rest) =
        ap (λ (cs : List Call). length (sync_free cs)) (calls_cut c is begun)
        ∙ ap (λ (cs : List Call). length cs) (filter-append (λ (x : Call). not (is_sync x)) front (c ∷ rest))
        ∙ ap (λ (cs : List Call). length (sync_free front ++ cs)) (kept c rest change) in
        omega (arith, h.few_body, length-append (sync_free front) (c ∷ sync_free rest))

    -- the file's version has the statement
    head_line : Stated
    head_line = stated_in h.front.head_line (Head t.name h.front.number)

    all_lines : stated ≡ head_line ∷ (h.front.block_part ++ h.front.sector_part ++ h.setup_part ++ stated_in h.body_line Body ∷ map stated_step t.body
        ++ stated_in t.pred_line (Question t.want h.asked) ∷ [])
    unfolding head_line
    all_lines = h.order ∙ ap (λ (f : List Stated). f ++ h.setup_part ++ stated_in h.body_line Body ∷ map stated_step t.body
        ++ stated_in t.pred_line (Question t.want h.asked) ∷ []) h.front.order

    of_version_here : version_has t.version s.statement ≡ true
    of_version_here = contained (λ u. version_has t.version u.statement ≡ true) h.of_version

    has_version : (xs : List Stated) → stated ≡ xs ++ s ∷ behind → version_has (version_of (statements xs)) s.statement ≡ true
    unfolding head_line
    has_version [] e =
        let whole : head_line ∷ _ ≡ s ∷ behind = sym all_lines ∙ e in
        let first : head_line ≡ s = cc in
        ap (λ (u : Stated). version_has 1 u.statement) (sym first) ∙ same_head 1 t.version t.name h.front.number
        ∙ ap (λ (u : Stated). version_has t.version u.statement) first ∙ of_version_here
    has_version (x ∷ xs) e =
        let whole : head_line ∷ _ ≡ x ∷ xs ++ s ∷ behind = sym all_lines ∙ e in
        let first : head_line ≡ x = cc in
        ap (λ (u : Stated). version_has (version_of (u.statement ∷ statements xs)) s.statement) (sym first)
        ∙ ap (λ (v : ℕ). version_has v s.statement) (sym h.front.has_version) ∙ of_version_here

    pairs_here : (u : Statement) → s.statement ≡ u → begins_body (statements before) ≡ true → pairs (is_open (body_calls (statements before))) u ≡ true
    unfolding unasked_part
    pairs_here (Called c) is begun = or_true (not (is_boundary c)) (suits (is_open (body_calls (statements before))) c) (suit c is begun)
    pairs_here (Question want asked) is begun =
        let calls : body_calls (statements before) ≡ calls_of t.body =
        ap (λ (st : List Stated). body_calls (statements st)) (sym (question_cut want asked is).0)
        ∙ ap body_calls (statements-append (front_of h) (stated_in h.body_line Body ∷ map stated_step t.body))
        ∙ body_calls-behind (statements (front_of h)) (statements (map stated_step t.body)) (quiet stated t h) ∙ steps_call t.body in
        ap (λ (cs : List Call). not (is_open cs)) calls ∙ ap not h.closed
    pairs_here u is begun = refl

    sizes_cut : (u : Statement) → s.statement ≡ u
        → sizes 4096 (statements stated) ≡ sizes 4096 (statements before) ++ sizes (block_of (statements before)) (u ∷ statements behind)
    sizes_cut u is = ap (sizes 4096) (split_as u is) ∙ sizes-append 4096 (statements before) (u ∷ statements behind)

    good_here : (n : ℕ × ℕ) (ns : List (ℕ × ℕ)) → sizes 4096 (statements stated) ≡ sizes 4096 (statements before) ++ n ∷ ns → IsGood n
    good_here n ns e = All-contains IsGood (sizes 4096 (statements before) ++ n ∷ ns) n (All-same IsGood _ (sizes 4096 (statements stated)) (sym e) all_good)
        (Contains-append_right (sizes 4096 (statements before)) (n ∷ ns) n (0, omega arith, refl))

    good_size : (u : Statement) → s.statement ≡ u → IsBadSize (statements before) u → ⊥
    unfolding sizes
    good_size (Block size) is bad =
        let good = good_here (size, size) (sizes size (statements behind)) (sizes_cut (Block size) is) in
        elim bad [ inl none ↦ omega (arith, good.0) | inr many ↦ omega (arith, good.2) ]
    good_size (Sector size) is bad =
        let block = block_of (statements before) in
        let good = good_here (block, size) (sizes block (statements behind)) (sizes_cut (Sector size) is) in
        elim bad [ inl none ↦ omega (arith, good.0) | inr many ↦ omega (arith, good.1) ]
    good_size u is bad = bad

    small : Lacks (statements before) s.statement NumberRange
    small (inl large) = contained (λ u. HasWide u.statement → ⊥) h.narrow large
    small (inr bad) = good_size s.statement refl bad

    here : (u : Statement) → s.statement ≡ u → Lacks (statements before) u NotHere
    here (Called c) is (inl (open_still, other)) = false≢true (sym other ∙ setup_fits c is open_still)
    here (Called c) is (inr (begun, inl other)) = false≢true (sym other ∙ body_fits c is begun)
    here (Called c) is (inr (begun, inr other)) = false≢true (sym other ∙ suit c is begun)
    here u is none = none

    short : (u : Statement) → s.statement ≡ u → Lacks (statements before) u TooLong
    short (Called c) is (inl (open_still, many)) = let room = setup_room c is open_still in omega arith
    short (Called c) is (inr (begun, change, many)) = let room = body_room c is begun change in omega arith
    short (Question want asked) is long = long (subst IsShort (sym (asked_is want asked is)) h.short)
    short u is none = none

    asks_something : (u : Statement) → s.statement ≡ u → Lacks (statements before) u BadPredicate
    asks_something (Question want asked) is nothing =
        nothing t.pred (subst (λ (ls : List Lexeme). IsPredicate ls t.pred) (sym (asked_is want asked is)) h.pred)
    asks_something u is none = none

    is_faultless : IsFaultless (statements before) s.statement
    is_faultless =
        faultless (statements before) s.statement
        (known (statements before) s.statement (has_version before cut))
        (ordered (statements before) s.statement (forms behind, subst IsOrder (ap forms cut ∙ forms-append before (s ∷ behind)) in_order) (pairs_here s.statement refl))
        small (here s.statement refl) (short s.statement refl) (asks_something s.statement refl)

-- the statements of a test are sound
pub test_sound : (stated : List Stated) (t : Test) → IsTest stated t → AreSound litmus_grammar stated
test_sound stated t h before behind s cut = sound_said (statements before) s.statement (is_faultless stated t h before behind s cut)
