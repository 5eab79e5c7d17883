-- What the lines of a canonical text state, and the test that they make.
use Rattle.std.proofs.Common.{◌≡◌, ℕ, suc, ◌+◌, ◌<◌, ◌≤◌, ◌^◌, ◌&&◌, ◌||◌, ◌==◌, not, Option, Some, None, List, [], ◌∷◌, ◌++◌, length, map, Bool, true, false, IsTrue, All, refl, sym, ◌∙◌, ap, subst, inl, inr, arith, append_assoc, append-nil, true≢false}
use Rattle.std.specs.Prelude.{codes, decimal, if◌then◌else◌}
use Rattle.std.specs.List.{Contains}
use Rattle.std.proofs.lemmas.List.Elements.{All-nil, All-cons, All-head, All-tail, All-append, All-weaker, All-contains}
use Rattle.text_scan.specs.Lines.{lines_of}
use Rattle.text_scan.specs.Forms.{is_word}
use Rattle.litmus_syntax.specs.declared.call.Call.{Call}
use Rattle.litmus_syntax.specs.declared.call.Call.TheVariants as call
use Rattle.litmus_syntax.specs.declared.call.Step.{Step}
use Rattle.litmus_syntax.specs.Test.{Test}
use Rattle.litmus_syntax.specs.CallText.{call_text}
use Rattle.litmus_syntax.specs.CallKinds.{is_sync, is_mark, is_boundary, is_setup_call, is_body_call, sync_free}
use Rattle.std.proofs.lemmas.Bool.{lt-ltb, eqb-true}
use Rattle.litmus_syntax.specs.Counts.{counts}
use Rattle.litmus_syntax.specs.Forms.{is_formed_call, is_formed_path, is_narrow, is_byte_text}
use Rattle.litmus_syntax.specs.Same.{IsSameTest}
use Rattle.litmus_syntax.specs.Transactions.{calls_of, is_open, all_suit}
use Rattle.litmus_syntax.specs.Limits.{IsWithinLimits}
use Rattle.litmus_syntax.specs.LitmusText.{question_word, litmus_text}
use Rattle.litmus_syntax.specs.PredText.{pred_text}
use Rattle.lexeme_reader.specs.declared.reading.Lexeme.{Lexeme}
use Rattle.lexeme_reader.specs.declared.reading.Lexeme.TheVariants.{Word, Number, Sign}
use Rattle.lexeme_reader.specs.Lexemes.{AreLexemes}
use Rattle.predicate_reader.specs.Counts.{IsShort}
use Rattle.litmus_syntax.specs.declared.pred.Binding.TheVariants.{Disjunction}
use Rattle.litmus_reader.specs.Statements.{Head, Block, Sector, Setup, Body, Called, Question, number, call_lexemes, statement_lexemes}
use Rattle.litmus_reader.specs.Versions.{version_named, version_has}
use Rattle.litmus_reader.specs.Faults.{HasWide}
use Rattle.litmus_reader.specs.StatedLines.{Stated, AreStated}
use Rattle.litmus_reader.specs.WholeFiles.{stated_step, IsSector, IsFront, IsTest}
use Rattle.litmus_reader.specs.LitmusText.{IsLitmusText}
use Rattle.text_scan.specs.declared.scanning.TokenKind.TheVariants as kind
use Rattle.litmus_round_trip.proofs.Reading.{Reads, reads_token, reads_line, reads_blank, reads_nothing, reads_end}
use Rattle.litmus_round_trip.proofs.Pieces.{left, right, taken, reads_word, reads_sign}
use Rattle.litmus_round_trip.proofs.Calls.{word_then, word_ends, number_ends, reads_call}
use Rattle.litmus_round_trip.proofs.Lines.{Visible, seen_both, seen_word, seen_number}
use Rattle.litmus_round_trip.proofs.Nesting.{IsSmall, AreSmall}
use Rattle.litmus_round_trip.proofs.Written.{IsWritten}
use Rattle.litmus_round_trip.proofs.Preds.{pred_read}
use Rattle.litmus_round_trip.proofs.Files.{head_text, block_text, sector_text, with_sector, later_lines, file_lines, step_text, question_text, AreFormed, AreVisible, text_lines, lines_cut, seen_steps}

-- the steps with the lines in which they stand, from this one on, and the line behind them
abbrev numbered : ℕ → List Step → List Step
numbered line [] = []
numbered line (step ∷ steps) = record { line = line; call = step.call } ∷ numbered (line + 1) steps

abbrev behind : ℕ → List Step → ℕ
behind line [] = line
behind line (step ∷ steps) = behind (line + 1) steps

same_calls : (line : ℕ) (steps : List Step) → calls_of (numbered line steps) ≡ calls_of steps
same_calls line [] = refl
same_calls line (step ∷ steps) = ap (λ (cs : List Call). step.call ∷ cs) (same_calls (line + 1) steps)

same_count : (line : ℕ) (steps : List Step) → length (numbered line steps) ≡ length steps
same_count line [] = refl
same_count line (step ∷ steps) = ap suc (same_count (line + 1) steps)

-- what holds of each call holds of it in another line
still : (P : Call → Type 0) (line : ℕ) (steps : List Step) → All (λ step. P step.call) steps → All (λ step. P step.call) (numbered line steps)
still P line [] all = All-nil (λ (step : Step). P step.call)
still P line (step ∷ steps) all =
    All-cons (λ (s : Step). P s.call) (record { line = line; call = step.call }) (numbered (line + 1) steps) (All-head (λ (s : Step). P s.call) step steps all)
    (still P (line + 1) steps (All-tail (λ (s : Step). P s.call) step steps all))

-- the lines of calls state these calls
steps_stated : (line : ℕ) (steps : List Step) (lines : List (List ℕ)) (others : List Stated) → AreFormed steps → AreStated (behind line steps) lines others
    → AreStated line (map step_text steps ++ lines) (map stated_step (numbered line steps) ++ others)
steps_stated line [] lines others formed stated = stated
steps_stated line (step ∷ steps) lines others formed stated =
    let form : IsTrue (is_formed_call step.call) = All-head (λ (s : Step). IsTrue (is_formed_call s.call)) step steps formed in
    let said : AreLexemes (step_text step) (call_lexemes step.call) =
    reads_line (step_text step) (call_lexemes step.call) (reads_blank (32 ∷ call_text step.call) (call_lexemes step.call) (reads_blank (call_text step.call) (call_lexemes step.call) (reads_call step.call form))) in
    inr (
      Called step.call,
      map stated_step (numbered (line + 1) steps) ++ others,
      said,
      steps_stated (line + 1) steps lines others (All-tail (λ (s : Step). IsTrue (is_formed_call s.call)) step steps formed) stated,
      refl,
    )

-- the numbers of a formed call are in range
small_number : (n : ℕ) → is_narrow n ≡ true → IsSmall (number n)
small_number n narrow = subst IsSmall (sym (ap (λ (t : Bool). Number (if t then Some n else None)) narrow)) tt

small_call : (c : Call) → IsTrue (is_formed_call c) → AreSmall (call_lexemes c)
small_call (call.Mkdir path) form = (tt, (tt, tt))
small_call (call.Create path) form = (tt, (tt, tt))
small_call (call.Write path at text) form =
    (tt, (tt, (small_number at (right (is_formed_path path) (is_narrow at) (left (is_formed_path path && is_narrow at) (is_byte_text text) form)), (tt, tt))))
small_call (call.Append path text) form = (tt, (tt, (tt, tt)))
small_call (call.Truncate path size) form = (tt, (tt, (small_number size (right (is_formed_path path) (is_narrow size) form), tt)))
small_call (call.Link from to) form = (tt, (tt, (tt, tt)))
small_call (call.Unlink path) form = (tt, (tt, tt))
small_call (call.Rename from to) form = (tt, (tt, (tt, tt)))
small_call (call.Attr path key value) form = (tt, (tt, (tt, (small_number value (right (is_formed_path path && is_word key) (is_narrow value) form), tt))))
small_call (call.Fsync path) form = (tt, (tt, tt))
small_call (call.FsyncDir path) form = (tt, (tt, tt))
small_call call.Sync form = (tt, tt)
small_call (call.Mark word) form = (tt, (tt, tt))
small_call call.Begin form = (tt, tt)
small_call call.Commit form = (tt, tt)

small_all : (ls : List Lexeme) → AreSmall ls → All IsSmall ls
small_all [] small = All-nil IsSmall
small_all (l ∷ ls) small = All-cons IsSmall l ls small.0 (small_all ls small.1)

none_wide : (ls : List Lexeme) → AreSmall ls → Contains ls (Number None) → ⊥
none_wide ls small has = All-contains IsSmall ls (Number None) (small_all ls small) has

abbrev IsNarrow : Stated → Type 0
IsNarrow s = HasWide s.statement → ⊥

steps_narrow : (line : ℕ) (steps : List Step) → AreFormed steps → All IsNarrow (map stated_step (numbered line steps))
steps_narrow line [] formed = All-nil IsNarrow
steps_narrow line (step ∷ steps) formed =
    let form = All-head (λ (s : Step). IsTrue (is_formed_call s.call)) step steps formed in
    All-cons IsNarrow (record { line = line; statement = Called step.call }) (map stated_step (numbered (line + 1) steps))
    (none_wide (call_lexemes step.call) (small_call step.call form))
    (steps_narrow (line + 1) steps (All-tail (λ (s : Step). IsTrue (is_formed_call s.call)) step steps formed))

-- a file of the version of the test has the lines of its calls
steps_versioned : (version line : ℕ) (steps : List Step) → All (λ step. is_boundary step.call ≡ true → version ≡ 2) steps
    → All (λ s. version_has version s.statement ≡ true) (map stated_step (numbered line steps))
steps_versioned version line [] fits = All-nil (λ (s : Stated). version_has version s.statement ≡ true)
steps_versioned version line (step ∷ steps) fits =
    let Fits : Step → Type 0 = λ s. is_boundary s.call ≡ true → version ≡ 2 in
    All-cons (λ (s : Stated). version_has version s.statement ≡ true) (record { line = line; statement = Called step.call }) (map stated_step (numbered (line + 1) steps))
    (allowed (is_boundary step.call) (All-head Fits step steps fits)) (steps_versioned version (line + 1) steps (All-tail Fits step steps fits))
  where
    allowed : (b : Bool) → (b ≡ true → version ≡ 2) → (not b || version == 2) ≡ true
    allowed true second = ap (λ (v : ℕ). v == 2) (second refl)
    allowed false second = refl

question_seen : (want : Bool) → Visible (question_word want)
question_seen true = refl
question_seen false = refl

-- the line of the setup, the first of its calls, the line that begins the body, and that of the question
abbrev setup_line : Bool → ℕ
setup_line second = if second then 4 else 3

abbrev body_line : Bool → Test → ℕ
body_line second l = behind (setup_line second + 1) l.setup

abbrev question_place : Bool → Test → ℕ
question_place second l = behind (body_line second l + 1) l.body

-- the test in the lines of its canonical text
abbrev pub as_written : Bool → Test → Test
as_written second l = record {
  name = l.name;
  block = l.block;
  setup = numbered (setup_line second + 1) l.setup;
  body = numbered (body_line second l + 1) l.body;
  want = l.want;
  pred = l.pred;
  pred_line = question_place second l;
  version = l.version;
  sector = l.sector;
}

pub same_test : (second : Bool) (l : Test) → IsSameTest l (as_written second l)
same_test second l = record {
  name = refl;
  block = refl;
  setup = sym (same_calls (setup_line second + 1) l.setup);
  body = sym (same_calls (body_line second l + 1) l.body);
  want = refl;
  pred = refl;
  version = refl;
  sector = refl;
}

question_form : (want : Bool) → IsTrue (is_word (question_word want))
question_form true = refl
question_form false = refl

number_told : (n : ℕ) → n ≤ 65536 → is_narrow n ≡ true
number_told n fits = lt-ltb n (2 ^ 32) (omega arith)

colon : (rest : List ℕ) (ls : List Lexeme) → Reads rest ls → Reads (58 ∷ rest) (Sign 58 ∷ ls)
colon rest ls reads = reads_sign 58 rest ls refl refl refl reads

-- the number of the head, in the second version
abbrev number_of : Bool → Option ℕ
number_of true = Some 2
number_of false = None

abbrev sector_part : Bool → Test → List Stated
sector_part true l = record { line = 3; statement = Sector l.sector } ∷ []
sector_part false l = []

-- what the whole text states
module _ (l : Test) (within : IsWithinLimits l) (second : Bool) (is : (l.version == 2) ≡ second) where
  written : IsWritten (pred_text l.pred) Disjunction l.pred (counts l.pred)
  written = pred_read l.pred within.pred

  abbrev asked : List Lexeme
  asked = written.lexemes

  abbrev question : Stated
  question = record { line = question_place second l; statement = Question l.want asked }

  abbrev body_begins : Stated
  body_begins = record { line = body_line second l; statement = Body }

  abbrev body_part : List Stated
  body_part = map stated_step (numbered (body_line second l + 1) l.body)

  abbrev setup_part : List Stated
  setup_part = record { line = setup_line second; statement = Setup } ∷ map stated_step (numbered (setup_line second + 1) l.setup)

  abbrev head : Stated
  head = record { line = 1; statement = Head l.name (number_of second) }

  abbrev block : Stated
  block = record { line = 2; statement = Block l.block }

  abbrev further : List Stated
  further = setup_part ++ (body_begins ∷ (body_part ++ question ∷ []))

  abbrev stated : List Stated
  stated = head ∷ block ∷ (sector_part second l ++ further)

  formed_setup : AreFormed l.setup
  formed_setup = All-weaker (λ (s : Step). IsTrue (is_setup_call s.call && is_formed_call s.call)) (λ (s : Step). IsTrue (is_formed_call s.call))
      (λ s two. right (is_setup_call s.call) (is_formed_call s.call) two) l.setup within.setup

  formed_body : AreFormed l.body
  formed_body = All-weaker (λ (s : Step). IsTrue (is_body_call s.call && is_formed_call s.call)) (λ (s : Step). IsTrue (is_formed_call s.call))
      (λ s two. right (is_body_call s.call) (is_formed_call s.call) two) l.body within.body

  fits_setup : All (λ step. is_setup_call step.call ≡ true) l.setup
  fits_setup = All-weaker (λ (s : Step). IsTrue (is_setup_call s.call && is_formed_call s.call)) (λ (s : Step). is_setup_call s.call ≡ true)
      (λ s two. left (is_setup_call s.call) (is_formed_call s.call) two) l.setup within.setup

  fits_body : All (λ step. is_body_call step.call ≡ true) l.body
  fits_body = All-weaker (λ (s : Step). IsTrue (is_body_call s.call && is_formed_call s.call)) (λ (s : Step). is_body_call s.call ≡ true)
      (λ s two. left (is_body_call s.call) (is_formed_call s.call) two) l.body within.body

  asked_reads : Reads (pred_text l.pred) asked
  asked_reads =
      subst (λ (ls : List Lexeme). Reads (pred_text l.pred) ls) (append-nil asked)
      (reads_end (pred_text l.pred) (asked ++ []) (written.reads [] [] tt reads_nothing))

  question_said : AreLexemes (question_text l) (statement_lexemes (Question l.want asked))
  question_said =
      let shape : question_text l ≡ question_word l.want ++ (58 ∷ 32 ∷ pred_text l.pred) = append_assoc (question_word l.want) (codes ": ") (pred_text l.pred) in
      let ls : List Lexeme = Word (question_word l.want) ∷ Sign 58 ∷ asked in
      reads_line (question_text l) ls (subst (λ (b : List ℕ). Reads b ls) (sym shape)
      (reads_word (question_word l.want) (58 ∷ 32 ∷ pred_text l.pred) (Sign 58 ∷ asked) (question_form l.want) refl (colon (32 ∷ pred_text l.pred) asked (reads_blank (pred_text l.pred) asked asked_reads))))

  two : Reads (codes "2") (Number (Some 2) ∷ [])
  two = reads_token kind.Number (codes "2") [] (Number (Some 2)) [] (taken kind.Number 50 [] [] refl refl refl refl) refl reads_nothing

  head_said : (b : Bool) → AreLexemes (head_text b l) (statement_lexemes (Head l.name (number_of b)))
  head_said true =
      let shape : (codes "litmus " ++ l.name) ++ codes " 2" ≡ codes "litmus " ++ (l.name ++ codes " 2") = append_assoc (codes "litmus ") l.name (codes " 2") in
      reads_line (head_text true l) (statement_lexemes (Head l.name (Some 2)))
      (subst (λ (b : List ℕ). Reads b (statement_lexemes (Head l.name (Some 2)))) (sym shape)
      (word_then (codes "litmus") refl (l.name ++ codes " 2") (Word l.name ∷ Number (Some 2) ∷ [])
      (word_then l.name within.name (codes "2") (Number (Some 2) ∷ []) two)))
  head_said false =
      reads_line (head_text false l) (statement_lexemes (Head l.name None))
      (subst (λ (b : List ℕ). Reads b (statement_lexemes (Head l.name None))) (sym (append-nil (codes "litmus " ++ l.name)))
      (word_then (codes "litmus") refl l.name (Word l.name ∷ []) (word_ends l.name within.name)))

  block_said : AreLexemes (block_text l) (statement_lexemes (Block l.block))
  block_said =
      reads_line (block_text l) (statement_lexemes (Block l.block))
      (word_then (codes "block") refl (decimal l.block) (number l.block ∷ []) (number_ends l.block (number_told l.block within.block)))

  small_sector : l.sector ≤ 65536
  small_sector = omega (arith, within.sector, within.block)

  sector_said : AreLexemes (sector_text l) (statement_lexemes (Sector l.sector))
  sector_said =
      reads_line (sector_text l) (statement_lexemes (Sector l.sector))
      (word_then (codes "sector") refl (decimal l.sector) (number l.sector ∷ []) (number_ends l.sector (number_told l.sector small_sector)))

  setup_said : AreLexemes (codes "setup:") (statement_lexemes Setup)
  setup_said = reads_line (codes "setup:") (statement_lexemes Setup) (reads_word (codes "setup") (58 ∷ []) (Sign 58 ∷ []) refl refl (colon [] [] reads_nothing))

  body_said : AreLexemes (codes "body:") (statement_lexemes Body)
  body_said = reads_line (codes "body:") (statement_lexemes Body) (reads_word (codes "body") (58 ∷ []) (Sign 58 ∷ []) refl refl (colon [] [] reads_nothing))

  later_stated : AreStated (setup_line second) (later_lines l) further
  later_stated =
      let last : AreStated (question_place second l) (question_text l ∷ []) (question ∷ []) = inr (Question l.want asked, [], question_said, refl, refl) in
      let behind_body = steps_stated (body_line second l + 1) l.body (question_text l ∷ []) (question ∷ []) formed_body last in
      let from_body : AreStated (body_line second l) (codes "body:" ∷ (map step_text l.body ++ question_text l ∷ [])) (body_begins ∷ (body_part ++ question ∷ [])) =
      inr (Body, body_part ++ question ∷ [], body_said, behind_body, refl) in
      let from_setup = steps_stated (setup_line second + 1) l.setup (codes "body:" ∷ (map step_text l.body ++ question_text l ∷ [])) (body_begins ∷ (body_part ++ question ∷ [])) formed_setup from_body in
      inr (Setup, _, setup_said, from_setup, refl)

  sector_stated : (b : Bool) (lines : List (List ℕ)) (others : List Stated) → AreStated (setup_line b) lines others → AreStated 3 (with_sector b l lines) (sector_part b l ++ others)
  sector_stated true lines others are = inr (Sector l.sector, others, sector_said, are, refl)
  sector_stated false lines others are = are

  text_stated : AreStated 1 (file_lines second l) stated
  text_stated =
      inr (Head l.name (number_of second), _, head_said second, inr (Block l.block, _, block_said, sector_stated second (later_lines l) further later_stated, refl), refl)

  -- no number is above 2^32 - 1
  head_narrow : (b : Bool) → IsNarrow (record { line = 1; statement = Head l.name (number_of b) })
  head_narrow true = none_wide (statement_lexemes (Head l.name (Some 2))) (tt, (tt, (tt, tt)))
  head_narrow false = none_wide (statement_lexemes (Head l.name None)) (tt, (tt, tt))

  sector_narrow : (b : Bool) → All IsNarrow (sector_part b l)
  sector_narrow true =
      All-cons IsNarrow (record { line = 3; statement = Sector l.sector }) []
      (none_wide (statement_lexemes (Sector l.sector)) (tt, (small_number l.sector (number_told l.sector small_sector), tt))) (All-nil IsNarrow)
  sector_narrow false = All-nil IsNarrow

  all_narrow : All IsNarrow stated
  all_narrow =
      let rest : List Stated = body_begins ∷ (body_part ++ question ∷ []) in
      All-cons IsNarrow head (block ∷ (sector_part second l ++ further)) (head_narrow second)
      (All-cons IsNarrow block (sector_part second l ++ further) (none_wide (statement_lexemes (Block l.block)) (tt, (small_number l.block (number_told l.block within.block), tt)))
      (All-append IsNarrow (sector_part second l) further (sector_narrow second)
      (All-append IsNarrow setup_part rest
      (All-cons IsNarrow (record { line = setup_line second; statement = Setup }) _ (none_wide (statement_lexemes Setup) (tt, (tt, tt))) (steps_narrow (setup_line second + 1) l.setup formed_setup))
      (All-cons IsNarrow body_begins (body_part ++ question ∷ []) (none_wide (statement_lexemes Body) (tt, (tt, tt)))
      (All-append IsNarrow body_part (question ∷ []) (steps_narrow (body_line second l + 1) l.body formed_body)
      (All-cons IsNarrow question [] (none_wide (statement_lexemes (Question l.want asked)) (tt, (tt, written.small))) (All-nil IsNarrow)))))))

  -- a file of the test's version has these lines
  abbrev IsVersioned : Stated → Type 0
  IsVersioned s = version_has l.version s.statement ≡ true

  head_versioned : (b : Bool) → version_has l.version (Head l.name (number_of b)) ≡ true
  head_versioned true = refl
  head_versioned false = refl

  sector_versioned : (b : Bool) → (l.version == 2) ≡ b → All IsVersioned (sector_part b l)
  sector_versioned true e = All-cons IsVersioned (record { line = 3; statement = Sector l.sector }) [] e (All-nil IsVersioned)
  sector_versioned false e = All-nil IsVersioned

  setup_boundless : All (λ step. is_boundary step.call ≡ true → l.version ≡ 2) l.setup
  setup_boundless = All-weaker (λ (s : Step). is_setup_call s.call ≡ true) (λ (s : Step). is_boundary s.call ≡ true → l.version ≡ 2)
      (λ s fits bound. absurd (true≢false (sym (right (not (is_sync s.call) && not (is_mark s.call)) (not (is_boundary s.call)) fits) ∙ ap not bound))) l.setup fits_setup

  body_bounded : All (λ step. is_boundary step.call ≡ true → l.version ≡ 2) l.body
  body_bounded = elim within.version [
    | inl first ↦ All-weaker (λ (s : Step). is_boundary s.call ≡ false) (λ (s : Step). is_boundary s.call ≡ true → l.version ≡ 2)
        (λ s none bound. absurd (true≢false (sym bound ∙ none))) l.body (within.no_transactions first)
    | inr later ↦ All-weaker (λ (s : Step). is_body_call s.call ≡ true) (λ (s : Step). is_boundary s.call ≡ true → l.version ≡ 2) (λ s fits bound. later) l.body fits_body
  ]

  all_versioned : All IsVersioned stated
  all_versioned =
      let rest : List Stated = body_begins ∷ (body_part ++ question ∷ []) in
      All-cons IsVersioned head (block ∷ (sector_part second l ++ further)) (head_versioned second)
      (All-cons IsVersioned block (sector_part second l ++ further) refl
      (All-append IsVersioned (sector_part second l) further (sector_versioned second is)
      (All-append IsVersioned setup_part rest
      (All-cons IsVersioned (record { line = setup_line second; statement = Setup }) _ refl (steps_versioned l.version (setup_line second + 1) l.setup setup_boundless))
      (All-cons IsVersioned body_begins (body_part ++ question ∷ []) refl
      (All-append IsVersioned body_part (question ∷ []) (steps_versioned l.version (body_line second l + 1) l.body body_bounded)
      (All-cons IsVersioned question [] refl (All-nil IsVersioned)))))))

  asked_short : IsShort asked
  asked_short = record {
    texts = let same = written.texts in let few = within.short.texts in omega (arith, same, few);
    atoms = let same = written.words in let few = within.short.words in omega (arith, same, few);
    nots = let same = written.nots in let few = within.short.nots in omega (arith, same, few);
    depth = let same = (written.nested 0).0 in let few = within.short.depth in omega (arith, same, few);
  }

  named_version : (b : Bool) → (l.version == 2) ≡ b → l.version ≡ version_named (number_of b)
  named_version true e = eqb-true l.version 2 e
  named_version false e = elim within.version [ inl first ↦ first | inr later ↦ absurd (true≢false (sym (ap (λ (v : ℕ). v == 2) later) ∙ e)) ]

  named_sector : (b : Bool) → (l.version == 2) ≡ b → IsSector (sector_part b l) l.block l.sector
  named_sector true e = inr (3, refl)
  named_sector false e = inl (refl, within.one_size (named_version false e))

  front : IsFront (head ∷ block ∷ sector_part second l) l.name l.version l.block l.sector
  front = record {
    head_line = 1;
    number = number_of second;
    block_part = block ∷ [];
    sector_part = sector_part second l;
    order = refl;
    has_version = named_version second is;
    has_block = inr (2, refl);
    has_sector = named_sector second is;
  }

  makes_test : IsTest stated (as_written second l)
  makes_test = record {
    front_part = head ∷ block ∷ sector_part second l;
    setup_part = setup_part;
    body_line = body_line second l;
    asked = asked;
    order = ap (λ (rest : List Stated). head ∷ block ∷ rest)
        (sym (append_assoc (sector_part second l ++ setup_part) (body_begins ∷ body_part) (question ∷ [])
        ∙ append_assoc (sector_part second l) setup_part (body_begins ∷ (body_part ++ question ∷ []))));
    front = front;
    setup = inr (setup_line second, refl);
    pred = written.means;
    of_version = all_versioned;
    narrow = all_narrow;
    some_sector = within.some_sector;
    small_sector = within.sector;
    small_block = within.block;
    setup_calls = still (λ (c : Call). is_setup_call c ≡ true) (setup_line second + 1) l.setup fits_setup;
    body_calls = still (λ (c : Call). is_body_call c ≡ true) (body_line second l + 1) l.body fits_body;
    placed = subst (λ (cs : List Call). IsTrue (all_suit false cs)) (sym (same_calls (body_line second l + 1) l.body)) within.placed;
    closed = subst (λ (cs : List Call). is_open cs ≡ false) (sym (same_calls (body_line second l + 1) l.body)) within.closed;
    few_setup = subst (λ (n : ℕ). n ≤ 256) (sym (same_count (setup_line second + 1) l.setup)) within.few_setup;
    few_body = subst (λ (cs : List Call). length (sync_free cs) ≤ 128) (sym (same_calls (body_line second l + 1) l.body)) within.few_body;
    short = asked_short;
  }

  -- each line is visible
  head_seen : (b : Bool) → Visible (head_text b l)
  head_seen true = seen_both (codes "litmus " ++ l.name) (codes " 2") (seen_both (codes "litmus ") l.name refl (seen_word l.name within.name)) refl
  head_seen false = seen_both (codes "litmus " ++ l.name) [] (seen_both (codes "litmus ") l.name refl (seen_word l.name within.name)) refl

  later_seen : AreVisible (later_lines l)
  later_seen = (
    refl,
    seen_steps l.setup _ formed_setup (
      refl,
      seen_steps l.body _ formed_body
          (seen_both (question_word l.want ++ codes ": ") (pred_text l.pred) (seen_both (question_word l.want) (codes ": ") (question_seen l.want) refl) written.seen, tt),
    ),
  )

  sector_seen : (b : Bool) (lines : List (List ℕ)) → AreVisible lines → AreVisible (with_sector b l lines)
  sector_seen true lines seen = (seen_both (codes "sector ") (decimal l.sector) refl (seen_number l.sector (omega (arith, small_sector))), seen)
  sector_seen false lines seen = seen

  lines_seen : AreVisible (file_lines second l)
  lines_seen = (
    head_seen second,
    (seen_both (codes "block ") (decimal l.block) refl (seen_number l.block (let few = within.block in omega (arith, few))), sector_seen second (later_lines l) later_seen),
  )

  reads_lines : length (litmus_text l) ≤ 65536 → IsLitmusText (litmus_text l) (as_written second l)
  reads_lines fits =
      let cut : lines_of (litmus_text l) ≡ file_lines second l = ap lines_of (text_lines second l is) ∙ lines_cut (file_lines second l) lines_seen in
      (fits, stated, subst (λ (lines : List (List ℕ)). AreStated 1 lines stated) (sym cut) text_stated, makes_test)

-- the canonical text is the test, in its lines
abbrev pub rewritten : Test → Test
rewritten l = as_written (l.version == 2) l

pub reads_as_written : (l : Test) → IsWithinLimits l → length (litmus_text l) ≤ 65536 → IsLitmusText (litmus_text l) (rewritten l)
reads_as_written l within fits = reads_lines l within (l.version == 2) refl fits

pub same_rewritten : (l : Test) → IsSameTest l (rewritten l)
same_rewritten l = same_test (l.version == 2) l
