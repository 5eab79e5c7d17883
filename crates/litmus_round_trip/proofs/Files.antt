-- The canonical text of a test, line by line.
use Rattle.std.proofs.Common.{◌≡◌, ℕ, ◌&&◌, ◌==◌, Bool, true, false, List, [], ◌∷◌, ◌++◌, map, IsTrue, All, refl, ◌∙◌, ap, append_assoc, append-nil}
use Rattle.std.specs.Prelude.{⊤, codes, decimal, if◌then◌else◌}
use Rattle.std.specs.List.{flat_map}
use Rattle.std.proofs.lemmas.List.Elements.{All-head, All-tail}
use Rattle.text_scan.specs.Lines.{lines_of}
use Rattle.text_scan.specs.Forms.{is_word}
use Rattle.litmus_syntax.specs.declared.call.Call.{Call}
use Rattle.litmus_syntax.specs.declared.call.Call.TheVariants as call
use Rattle.litmus_syntax.specs.declared.call.Step.{Step}
use Rattle.litmus_syntax.specs.Test.{Test}
use Rattle.litmus_syntax.specs.CallText.{call_text}
use Rattle.litmus_syntax.specs.Forms.{is_formed_call, is_formed_path, is_narrow, is_byte_text}
use Rattle.litmus_syntax.specs.Texts.{path_text, quoted}
use Rattle.litmus_syntax.specs.LitmusText.{step_line, question_word, question_line, litmus_text}
use Rattle.litmus_syntax.specs.PredText.{pred_text}
use Rattle.litmus_round_trip.proofs.Pieces.{left, right}
use Rattle.litmus_round_trip.proofs.Calls.{in_range}
use Rattle.litmus_round_trip.proofs.Lines.{Visible, line_cut, seen_both, seen_word, seen_path, seen_text, seen_number}
use Rattle.litmus_round_trip.proofs.Atoms.{six}

-- lines, each with its line feed
abbrev pub with_feeds : List (List ℕ) → List ℕ
with_feeds [] = []
with_feeds (line ∷ lines) = line ++ 10 ∷ with_feeds lines

abbrev pub AreVisible : List (List ℕ) → Type 0
AreVisible [] = ⊤
AreVisible (line ∷ lines) = Visible line × AreVisible lines

pub lines_cut : (lines : List (List ℕ)) → AreVisible lines → lines_of (with_feeds lines) ≡ lines
lines_cut [] seen = refl
lines_cut (line ∷ lines) seen = line_cut line (with_feeds lines) seen.0 ∙ ap (λ (ls : List (List ℕ)). line ∷ ls) (lines_cut lines seen.1)

-- the lines of a test
abbrev pub step_text : Step → List ℕ
step_text step = codes "  " ++ call_text step.call

abbrev pub question_text : Test → List ℕ
question_text l = question_word l.want ++ codes ": " ++ pred_text l.pred

-- the head's number and the line of the sector, in the second version
abbrev pub number_text : Bool → List ℕ
number_text second = if second then codes " 2" else []

abbrev pub head_text : Bool → Test → List ℕ
head_text second l = codes "litmus " ++ l.name ++ number_text second

abbrev pub block_text : Test → List ℕ
block_text l = codes "block " ++ decimal l.block

abbrev pub sector_text : Test → List ℕ
sector_text l = codes "sector " ++ decimal l.sector

abbrev pub with_sector : Bool → Test → List (List ℕ) → List (List ℕ)
with_sector true l lines = sector_text l ∷ lines
with_sector false l lines = lines

-- the lines from the setup on, and all lines
abbrev pub later_lines : Test → List (List ℕ)
later_lines l = codes "setup:" ∷ (map step_text l.setup ++ (codes "body:" ∷ (map step_text l.body ++ question_text l ∷ [])))

abbrev pub file_lines : Bool → Test → List (List ℕ)
file_lines second l = head_text second l ∷ block_text l ∷ with_sector second l (later_lines l)

steps_cut : (steps : List Step) (lines : List (List ℕ)) → flat_map step_line steps ++ with_feeds lines ≡ with_feeds (map step_text steps ++ lines)
steps_cut [] lines = refl
steps_cut (step ∷ steps) lines =
    append_assoc (step_line step) (flat_map step_line steps) (with_feeds lines)
    ∙ ap (λ (rest : List ℕ). step_line step ++ rest) (steps_cut steps lines)
    ∙ append_assoc (step_text step) (codes "\n") (with_feeds (map step_text steps ++ lines))

-- what stands from the setup on
later_text : Test → List ℕ
later_text l = codes "setup:\n" ++ (flat_map step_line l.setup ++ (codes "body:\n" ++ (flat_map step_line l.body ++ question_line l)))

later_is : (l : Test) → later_text l ≡ with_feeds (later_lines l)
unfolding later_text
later_is l =
    let last : List (List ℕ) = question_text l ∷ [] in
    let body : List (List ℕ) = codes "body:" ∷ (map step_text l.body ++ last) in
    let asked : question_line l ≡ with_feeds last = refl in
    let after : flat_map step_line l.body ++ question_line l ≡ with_feeds (map step_text l.body ++ last) =
    ap (λ (q : List ℕ). flat_map step_line l.body ++ q) asked ∙ steps_cut l.body last in
    let before : flat_map step_line l.setup ++ (codes "body:\n" ++ (flat_map step_line l.body ++ question_line l)) ≡ with_feeds (map step_text l.setup ++ body) =
    ap (λ (rest : List ℕ). flat_map step_line l.setup ++ (codes "body:\n" ++ rest)) after ∙ steps_cut l.setup body in
    ap (λ (rest : List ℕ). codes "setup:\n" ++ rest) before

-- the sizes, with what stands behind them
sizes_then : Bool → Test → List ℕ → List ℕ
sizes_then second l rest = (block_text l ++ codes "\n" ++ (if second then sector_text l ++ codes "\n" else [])) ++ rest

sizes_is : (second : Bool) (l : Test) (lines : List (List ℕ)) → sizes_then second l (with_feeds lines) ≡ with_feeds (block_text l ∷ with_sector second l lines)
unfolding sizes_then
sizes_is true l lines =
    append_assoc (block_text l ++ codes "\n") (sector_text l ++ codes "\n") (with_feeds lines)
    ∙ ap (λ (rest : List ℕ). (block_text l ++ codes "\n") ++ rest) (append_assoc (sector_text l) (codes "\n") (with_feeds lines))
    ∙ append_assoc (block_text l) (codes "\n") (sector_text l ++ 10 ∷ with_feeds lines)
sizes_is false l lines =
    ap (λ (x : List ℕ). x ++ with_feeds lines) (append-nil (block_text l ++ codes "\n"))
    ∙ append_assoc (block_text l) (codes "\n") (with_feeds lines)

-- the canonical text is these lines
pub text_lines : (second : Bool) (l : Test) → (l.version == 2) ≡ second → litmus_text l ≡ with_feeds (file_lines second l)
unfolding later_text sizes_then
text_lines second l is =
    let sizes : List ℕ = block_text l ++ codes "\n" ++ (if second then sector_text l ++ codes "\n" else []) in
    let head : List ℕ = head_text second l ++ codes "\n" in
    let by_version : litmus_text l ≡ head ++ sizes ++ codes "setup:\n" ++ flat_map step_line l.setup ++ codes "body:\n" ++ flat_map step_line l.body ++ question_line l =
    ap (λ (t : Bool). (codes "litmus " ++ l.name ++ (if t then codes " 2" else []) ++ codes "\n")
    ++ (block_text l ++ codes "\n" ++ (if t then sector_text l ++ codes "\n" else []))
    ++ codes "setup:\n" ++ flat_map step_line l.setup ++ codes "body:\n" ++ flat_map step_line l.body ++ question_line l) is in
    by_version
    ∙ grouped head sizes (codes "setup:\n") (flat_map step_line l.setup) (codes "body:\n") (flat_map step_line l.body) (question_line l)
    ∙ ap (λ (rest : List ℕ). head ++ (sizes ++ rest)) (later_is l)
    ∙ ap (λ (rest : List ℕ). head ++ rest) (sizes_is second l (later_lines l))
    ∙ append_assoc (head_text second l) (codes "\n") (with_feeds (block_text l ∷ with_sector second l (later_lines l)))
  where
    grouped : (a b c d e f g : List ℕ) → a ++ b ++ c ++ d ++ e ++ f ++ g ≡ a ++ (b ++ (c ++ (d ++ (e ++ (f ++ g)))))
    grouped a b c d e f g = six a b c d e f g

-- a call has no control characters
pub seen_call : (c : Call) → IsTrue (is_formed_call c) → Visible (call_text c)
seen_call (call.Mkdir path) form = seen_both (codes "mkdir ") (path_text path) refl (seen_path path form)
seen_call (call.Create path) form = seen_both (codes "create ") (path_text path) refl (seen_path path form)
seen_call (call.Write path at text) form =
    let front = left (is_formed_path path && is_narrow at) (is_byte_text text) form in
    let start = seen_both (codes "write ") (path_text path) refl (seen_path path (left (is_formed_path path) (is_narrow at) front)) in
    seen_both (codes "write " ++ path_text path ++ 32 ∷ decimal at) (32 ∷ quoted text)
    (seen_both (codes "write " ++ path_text path) (32 ∷ decimal at) start (seen_number at (in_range at (right (is_formed_path path) (is_narrow at) front)))) (seen_text text)
seen_call (call.Append path text) form =
    seen_both (codes "append " ++ path_text path) (32 ∷ quoted text) (seen_both (codes "append ") (path_text path) refl (seen_path path (left (is_formed_path path) (is_byte_text text) form))) (seen_text text)
seen_call (call.Truncate path size) form =
    seen_both (codes "truncate " ++ path_text path) (32 ∷ decimal size) (seen_both (codes "truncate ") (path_text path) refl (seen_path path (left (is_formed_path path) (is_narrow size) form)))
    (seen_number size (in_range size (right (is_formed_path path) (is_narrow size) form)))
seen_call (call.Link from to) form =
    seen_both (codes "link " ++ path_text from) (32 ∷ path_text to) (seen_both (codes "link ") (path_text from) refl (seen_path from (left (is_formed_path from) (is_formed_path to) form)))
    (seen_path to (right (is_formed_path from) (is_formed_path to) form))
seen_call (call.Unlink path) form = seen_both (codes "unlink ") (path_text path) refl (seen_path path form)
seen_call (call.Rename from to) form =
    seen_both (codes "rename " ++ path_text from) (32 ∷ path_text to) (seen_both (codes "rename ") (path_text from) refl (seen_path from (left (is_formed_path from) (is_formed_path to) form)))
    (seen_path to (right (is_formed_path from) (is_formed_path to) form))
seen_call (call.Attr path key value) form =
    let front = left (is_formed_path path && is_word key) (is_narrow value) form in
    let start = seen_both (codes "attr ") (path_text path) refl (seen_path path (left (is_formed_path path) (is_word key) front)) in
    seen_both (codes "attr " ++ path_text path ++ 32 ∷ key) (32 ∷ decimal value)
    (seen_both (codes "attr " ++ path_text path) (32 ∷ key) start (seen_word key (right (is_formed_path path) (is_word key) front)))
    (seen_number value (in_range value (right (is_formed_path path && is_word key) (is_narrow value) form)))
seen_call (call.Fsync path) form = seen_both (codes "fsync ") (path_text path) refl (seen_path path form)
seen_call (call.FsyncDir path) form = seen_both (codes "fsyncdir ") (path_text path) refl (seen_path path form)
seen_call call.Sync form = refl
seen_call (call.Mark word) form = seen_both (codes "mark ") word refl (seen_word word form)
seen_call call.Begin form = refl
seen_call call.Commit form = refl

abbrev pub AreFormed : List Step → Type 0
AreFormed steps = All (λ step. IsTrue (is_formed_call step.call)) steps

pub seen_steps : (steps : List Step) (lines : List (List ℕ)) → AreFormed steps → AreVisible lines → AreVisible (map step_text steps ++ lines)
seen_steps [] lines formed seen = seen
seen_steps (step ∷ steps) lines formed seen = (
  seen_call step.call (All-head (λ (s : Step). IsTrue (is_formed_call s.call)) step steps formed),
  seen_steps steps lines (All-tail (λ (s : Step). IsTrue (is_formed_call s.call)) step steps formed) seen,
)
