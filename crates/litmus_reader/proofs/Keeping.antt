-- A test that is read keeps to the forms and limits of its type.
use Rattle.std.proofs.Common.{◌≡◌, ◌⊎◌, ℕ, ◌+◌, ◌^◌, Bool, true, false, not, ◌&&◌, ◌||◌, ◌==◌, List, [], ◌∷◌, ◌++◌, map, Option, Some, None, IsTrue, refl, sym, ◌∙◌, ap, inl, inr, arith}
use Rattle.std.specs.List.{All, Contains}
use Rattle.std.proofs.lemmas.Bool.{cases_lt, cases_Bool, lt-ltb, and_from, eqb-true, false≢true}
use Rattle.std.proofs.lemmas.List.Elements.{All-head, All-tail, All-cons, All-nil, All-same}
use Rattle.litmus_syntax.specs.declared.call.Call.{Call}
use Rattle.litmus_syntax.specs.declared.call.Call.TheVariants as call
use Rattle.litmus_syntax.specs.declared.call.Step.{Step}
use Rattle.litmus_syntax.specs.CallKinds.{is_boundary, is_setup_call, is_body_call}
use Rattle.litmus_syntax.specs.Forms.{is_formed_call, is_formed_path, is_byte_text, is_narrow}
use Rattle.litmus_syntax.specs.Limits.{IsWithinLimits}
use Rattle.litmus_syntax.specs.Test.{Test}
use Rattle.text_scan.specs.Forms.{is_word}
use Rattle.lexeme_reader.specs.declared.reading.Lexeme.{Lexeme}
use Rattle.lexeme_reader.specs.declared.reading.Lexeme.TheVariants.{Number, Sign}
use Rattle.lexeme_reader.specs.Lexemes.{is_formed, AreLexemes}
use Rattle.litmus_reader.specs.Statements.{Head, Sector, Body, Called, Question, number, call_lexemes, statement_lexemes}
use Rattle.litmus_reader.specs.Versions.{version_named, version_has}
use Rattle.litmus_reader.specs.Faults.{HasWide}
use Rattle.line_files.specs.StatedLines.{stated_in}
use Rattle.litmus_reader.specs.StatedLines.{Stated, AreStated}
use Rattle.litmus_reader.specs.WholeFiles.{stated_step, IsTest}
use Rattle.litmus_reader.specs.Drafts.{IsOfFormed}
use Rattle.litmus_reader.proofs.Narrow.{wide_is}
use Rattle.litmus_reader.proofs.Below.{KeptLaws}

-- a call of formed tokens is formed, where their numbers are in range
number_formed : (n : ℕ) → (number n ≡ Number None → ⊥) → is_narrow n ≡ true
number_formed n small = elim (cases_lt n (2 ^ 32)) [
  | inl below ↦ lt-ltb n (2 ^ 32) below
  | inr above ↦ absurd (small (ap (λ (o : Option ℕ). Number o) (wide_is n above)))
]

call_formed : (c : Call) → All (λ l. IsTrue (is_formed l)) (call_lexemes c) → (Contains (call_lexemes c) (Number None) → ⊥) → IsTrue (is_formed_call c)
call_formed (call.Mkdir path) all small = all 1 (Sign 0) (omega arith)
call_formed (call.Create path) all small = all 1 (Sign 0) (omega arith)
call_formed (call.Write path at text) all small =
    and_from (is_formed_path path && is_narrow at) (is_byte_text text)
    (and_from (is_formed_path path) (is_narrow at) (all 1 (Sign 0) (omega arith)) (number_formed at (λ e. small (2, omega arith, e)))) (all 3 (Sign 0) (omega arith))
call_formed (call.Append path text) all small = and_from (is_formed_path path) (is_byte_text text) (all 1 (Sign 0) (omega arith)) (all 2 (Sign 0) (omega arith))
call_formed (call.Truncate path size) all small =
    and_from (is_formed_path path) (is_narrow size) (all 1 (Sign 0) (omega arith)) (number_formed size (λ e. small (2, omega arith, e)))
call_formed (call.Link from to) all small = and_from (is_formed_path from) (is_formed_path to) (all 1 (Sign 0) (omega arith)) (all 2 (Sign 0) (omega arith))
call_formed (call.Unlink path) all small = all 1 (Sign 0) (omega arith)
call_formed (call.Rename from to) all small = and_from (is_formed_path from) (is_formed_path to) (all 1 (Sign 0) (omega arith)) (all 2 (Sign 0) (omega arith))
call_formed (call.Attr path key value) all small =
    and_from (is_formed_path path && is_word key) (is_narrow value)
    (and_from (is_formed_path path) (is_word key) (all 1 (Sign 0) (omega arith)) (all 2 (Sign 0) (omega arith))) (number_formed value (λ e. small (3, omega arith, e)))
call_formed (call.Fsync path) all small = all 1 (Sign 0) (omega arith)
call_formed (call.FsyncDir path) all small = all 1 (Sign 0) (omega arith)
call_formed call.Sync all small = refl
call_formed (call.Mark word) all small = all 1 (Sign 0) (omega arith)
call_formed call.Begin all small = refl
call_formed call.Commit all small = refl

-- the version that a file's head names
named_version : (v w : ℕ) (name : List ℕ) (o : Option ℕ) → v ≡ version_named o → version_has w (Head name o) ≡ true → (v ≡ 1) ⊎ (v ≡ 2)
named_version v w name None is has = inl is
named_version v w name (Some n) is has = elim (cases_Bool (n == 1)) [
  | inl one ↦ inl (is ∙ eqb-true n 1 one)
  | inr other ↦ inr (is ∙ eqb-true n 2 (ap (λ (b : Bool). b || n == 2) (sym other) ∙ has))
]

-- what holds of the statements that calls are holds of the calls
each_step : (P : Stated → Type 0) (Q : Step → Type 0) → ((step : Step) → P (stated_step step) → Q step) → (steps : List Step) → All P (map stated_step steps) → All Q steps
each_step P Q by [] all = All-nil Q
each_step P Q by (s ∷ ss) all =
    All-cons Q s ss (by s (All-head P (stated_step s) (map stated_step ss) all)) (each_step P Q by ss (All-tail P (stated_step s) (map stated_step ss) all))

-- what holds of a list holds of its parts
left_part : {X : Type 0} (P : X → Type 0) (xs ys : List X) → All P (xs ++ ys) → All P xs
left_part P [] ys all = All-nil P
left_part P (x ∷ xs) ys all = All-cons P x xs (All-head P x (xs ++ ys) all) (left_part P xs ys (All-tail P x (xs ++ ys) all))

right_part : {X : Type 0} (P : X → Type 0) (xs ys : List X) → All P (xs ++ ys) → All P ys
right_part P [] ys all = all
right_part P (x ∷ xs) ys all = right_part P xs ys (All-tail P x (xs ++ ys) all)

module _ (laws : KeptLaws) (stated : List Stated) (t : Test) (formed : All IsOfFormed stated) (h : IsTest stated t) where
  -- what holds of each statement holds of those of each part
  module _ (P : Stated → Type 0) (all : All P stated) where
    whole : All P (h.front_part ++ h.setup_part ++ stated_in h.body_line Body ∷ map stated_step t.body ++ stated_in t.pred_line (Question t.want h.asked) ∷ [])
    whole = All-same P _ stated (sym h.order) all

    in_question : P (stated_in t.pred_line (Question t.want h.asked))
    in_question = All-head P _ [] (right_part P (h.front_part ++ h.setup_part ++ stated_in h.body_line Body ∷ map stated_step t.body) _ whole)

    in_bodied : All P (h.front_part ++ h.setup_part ++ stated_in h.body_line Body ∷ map stated_step t.body)
    in_bodied = left_part P (h.front_part ++ h.setup_part ++ stated_in h.body_line Body ∷ map stated_step t.body) _ whole

    in_body : All P (map stated_step t.body)
    in_body = All-tail P _ (map stated_step t.body) (right_part P (h.front_part ++ h.setup_part) _ in_bodied)

    in_front : All P (stated_in h.front.head_line (Head t.name h.front.number) ∷ (h.front.block_part ++ h.front.sector_part))
    in_front = All-same P _ h.front_part (sym h.front.order) (left_part P h.front_part h.setup_part (left_part P (h.front_part ++ h.setup_part) _ in_bodied))

    in_head : P (stated_in h.front.head_line (Head t.name h.front.number))
    in_head = All-head P _ (h.front.block_part ++ h.front.sector_part) in_front

    in_sector : All P h.front.sector_part
    in_sector = right_part P h.front.block_part h.front.sector_part (All-tail P _ (h.front.block_part ++ h.front.sector_part) in_front)

    in_setup_part : All P h.setup_part
    in_setup_part = right_part P h.front_part h.setup_part (left_part P (h.front_part ++ h.setup_part) _ in_bodied)

    in_setup : All P (map stated_step t.setup)
    in_setup = elim h.setup [
      | inl none ↦ All-same P (map stated_step t.setup) [] (ap (map stated_step) none.1) (All-nil P)
      | inr some ↦ All-tail P _ (map stated_step t.setup) (All-same P _ h.setup_part (sym some.1) in_setup_part)
    ]

  word_name : IsTrue (is_word t.name)
  word_name = name_formed h.front.number (in_head IsOfFormed formed)
    where
      name_formed : (o : Option ℕ) → All (λ l. IsTrue (is_formed l)) (statement_lexemes (Head t.name o)) → IsTrue (is_word t.name)
      name_formed None all = all 1 (Sign 0) (omega arith)
      name_formed (Some n) all = all 1 (Sign 0) (omega arith)

  version : (t.version ≡ 1) ⊎ (t.version ≡ 2)
  version = named_version t.version t.version t.name h.front.number h.front.has_version (in_head (λ s. version_has t.version s.statement ≡ true) h.of_version)

  one_size : t.version ≡ 1 → t.sector ≡ t.block
  one_size first = elim h.front.has_sector [
    | inl none ↦ none.1
    | inr some ↦
        let has : version_has t.version (Sector t.sector) ≡ true = All-head (λ s. version_has t.version s.statement ≡ true) _ []
        (All-same (λ s. version_has t.version s.statement ≡ true) _ h.front.sector_part (sym some.1) (in_sector (λ s. version_has t.version s.statement ≡ true) h.of_version)) in
        absurd (false≢true (ap (λ (v : ℕ). v == 2) (sym first) ∙ has))
  ]

  setup_formed : All (λ step. IsTrue (is_setup_call step.call && is_formed_call step.call)) t.setup
  setup_formed = both t.setup h.setup_calls (in_setup IsOfFormed formed) (in_setup (λ s. HasWide s.statement → ⊥) h.narrow)
    where
      both : (steps : List Step) → All (λ step. is_setup_call step.call ≡ true) steps → All IsOfFormed (map stated_step steps)
          → All (λ s. HasWide s.statement → ⊥) (map stated_step steps) → All (λ step. IsTrue (is_setup_call step.call && is_formed_call step.call)) steps
      both [] fits f small = All-nil (λ (step : Step). IsTrue (is_setup_call step.call && is_formed_call step.call))
      both (s ∷ ss) fits f small =
          All-cons (λ (step : Step). IsTrue (is_setup_call step.call && is_formed_call step.call)) s ss
          (and_from (is_setup_call s.call) (is_formed_call s.call) (All-head (λ (step : Step). is_setup_call step.call ≡ true) s ss fits)
          (call_formed s.call (All-head IsOfFormed (stated_step s) (map stated_step ss) f) (All-head (λ (u : Stated). HasWide u.statement → ⊥) (stated_step s) (map stated_step ss) small)))
          (both ss (All-tail (λ (step : Step). is_setup_call step.call ≡ true) s ss fits) (All-tail IsOfFormed (stated_step s) (map stated_step ss) f)
          (All-tail (λ (u : Stated). HasWide u.statement → ⊥) (stated_step s) (map stated_step ss) small))

  body_formed : All (λ step. IsTrue (is_body_call step.call && is_formed_call step.call)) t.body
  body_formed = both t.body h.body_calls (in_body IsOfFormed formed) (in_body (λ s. HasWide s.statement → ⊥) h.narrow)
    where
      both : (steps : List Step) → All (λ step. is_body_call step.call ≡ true) steps → All IsOfFormed (map stated_step steps)
          → All (λ s. HasWide s.statement → ⊥) (map stated_step steps) → All (λ step. IsTrue (is_body_call step.call && is_formed_call step.call)) steps
      both [] fits f small = All-nil (λ (step : Step). IsTrue (is_body_call step.call && is_formed_call step.call))
      both (s ∷ ss) fits f small =
          All-cons (λ (step : Step). IsTrue (is_body_call step.call && is_formed_call step.call)) s ss
          (and_from (is_body_call s.call) (is_formed_call s.call) (All-head (λ (step : Step). is_body_call step.call ≡ true) s ss fits)
          (call_formed s.call (All-head IsOfFormed (stated_step s) (map stated_step ss) f) (All-head (λ (u : Stated). HasWide u.statement → ⊥) (stated_step s) (map stated_step ss) small)))
          (both ss (All-tail (λ (step : Step). is_body_call step.call ≡ true) s ss fits) (All-tail IsOfFormed (stated_step s) (map stated_step ss) f)
          (All-tail (λ (u : Stated). HasWide u.statement → ⊥) (stated_step s) (map stated_step ss) small))

  no_transactions : t.version ≡ 1 → All (λ step. is_boundary step.call ≡ false) t.body
  no_transactions first =
      each_step (λ s. version_has t.version s.statement ≡ true) (λ step. is_boundary step.call ≡ false) plain t.body
      (in_body (λ s. version_has t.version s.statement ≡ true) h.of_version)
    where
      unbounded : (b : Bool) → (not b || t.version == 2) ≡ true → b ≡ false
      unbounded true has = absurd (false≢true (ap (λ (v : ℕ). v == 2) (sym first) ∙ has))
      unbounded false has = refl

      plain : (step : Step) → version_has t.version (Called step.call) ≡ true → is_boundary step.call ≡ false
      plain step has = unbounded (is_boundary step.call) has

  asked_formed : All (λ l. IsTrue (is_formed l)) h.asked
  asked_formed = All-tail (λ (l : Lexeme). IsTrue (is_formed l)) _ h.asked (All-tail (λ (l : Lexeme). IsTrue (is_formed l)) _ (Sign 58 ∷ h.asked) (in_question IsOfFormed formed))

  pub kept_limits : IsWithinLimits t
  kept_limits = record {
    name = word_name;
    version = version;
    some_sector = h.some_sector;
    sector = h.small_sector;
    block = h.small_block;
    one_size = one_size;
    setup = setup_formed;
    few_setup = h.few_setup;
    body = body_formed;
    few_body = h.few_body;
    placed = h.placed;
    closed = h.closed;
    no_transactions = no_transactions;
    pred = laws.formed h.asked t.pred asked_formed h.pred;
    short = laws.short h.asked t.pred h.short h.pred;
  }

-- each statement of lines has formed tokens
pub stated_formed : (each : (line : List ℕ) (a : List Lexeme) → AreLexemes line a → All (λ l. IsTrue (is_formed l)) a) (n : ℕ) (lines : List (List ℕ)) (stated : List Stated) → AreStated n lines stated → All IsOfFormed stated
stated_formed each n [] stated are = All-same IsOfFormed stated [] are (All-nil IsOfFormed)
stated_formed each n (l ∷ ls) stated (inl (blank, are)) = stated_formed each (n + 1) ls stated are
stated_formed each n (l ∷ ls) stated (inr (s, others, says, are, is)) =
    All-same IsOfFormed stated (stated_in n s ∷ others) is (All-cons IsOfFormed (stated_in n s) others (each l (statement_lexemes s) says) (stated_formed each (n + 1) ls others are))
