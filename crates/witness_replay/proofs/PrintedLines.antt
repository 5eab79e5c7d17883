-- What is printed of a crash is read as that crash.
use Rattle.std.proofs.Common.{◌≡◌, ℕ, ◌^◌, ◌<◌, ◌≤◌, inl, inr, Bool, true, false, cond, eqb, leb, ◌&&◌, List, [], ◌∷◌, ◌++◌, length, take, drop, min, refl, sym, ◌∙◌, ap, subst, arith}
use Rattle.std.specs.Prelude.{codes, decimal}
use Rattle.std.specs.List.{All, list_all, onto_first}
use Rattle.std.specs.Str.Parse.{AllDigits}
use Rattle.std.proofs.lemmas.Bool.{and_parts, and_from}
use Rattle.std.proofs.lemmas.Bool.Decides.{nat_tests}
use Rattle.std.proofs.lemmas.Fmt.{decimal_is_IsNumeral}
use Rattle.std.proofs.lemmas.List.{append_assoc, take-append-drop, length-take}
use Rattle.std.proofs.lemmas.List.Concat.{flat_map-cons}
use Rattle.std.proofs.lemmas.List.Elements.{All-nil, All-cons, All-head, All-tail}
use Rattle.std.proofs.lemmas.List.Folds.{list_all-append}
use Rattle.std.proofs.lemmas.Str.Parse.{digit_from_value}
use Rattle.text_scan.specs.Lines.{lines_of, feed_is_first}
use Rattle.fer_events.specs.declared.event.Crash.{Crash}
use Rattle.order_coding.proofs.GeneralLists.{All-left, All-right}
use Rattle.witness_replay.specs.CrashFiles.{AreSpaces, AreNumbers, IsCrashLine, IsCrashText}
use Rattle.witness_replay.specs.CrashFiles.AreNumbers.{none, more}
use Rattle.numerals.specs.Numbers.{numbers_text}
use Rattle.numerals.proofs.VisibleLines.{Visible, cut_line, seen_both, Narrow, seen_numbers}
use Rattle.witness_replay.specs.CrashLines.{crash_line}

one_space : AreSpaces (32 ∷ [])
one_space = (omega arith, All-cons (λ b. b ≡ 32) 32 [] refl (All-nil (λ b. b ≡ 32)))

numbers_read : (ns : List ℕ) → Narrow ns → AreNumbers (numbers_text ns) ns
numbers_read [] narrow = none
numbers_read (n ∷ ns) narrow =
    let least = All-head (λ n. n ≤ 4294967295) n ns narrow in
    let small : n < 2 ^ 64 = omega (arith, least) in
    let written = decimal_is_IsNumeral n small in
    subst (λ (l : List ℕ). AreNumbers l (n ∷ ns)) (sym (flat_map-cons (λ n. 32 ∷ decimal n) n ns))
    (more (32 ∷ []) (decimal n) (numbers_text ns) n ns one_space (written.0, written.1, least) (numbers_read ns (All-tail (λ n. n ≤ 4294967295) n ns narrow)))

-- the printed line without its line feed
abbrev line_of : Crash → List ℕ
line_of crash = codes "order" ++ numbers_text (take crash.cut crash.order) ++ codes " |" ++ numbers_text (drop crash.cut crash.order)

-- a crash whose cut isn't above how many numbers it has
abbrev within : Crash → Crash
within crash = record { order = crash.order; cut = min crash.cut (length crash.order) }

module _ (crash : Crash) (narrow : Narrow crash.order) where
  narrow_both : Narrow (take crash.cut crash.order ++ drop crash.cut crash.order)
  narrow_both = subst Narrow (sym (take-append-drop crash.cut crash.order)) narrow

  narrow_before : Narrow (take crash.cut crash.order)
  narrow_before = All-left (λ n. n ≤ 4294967295) (take crash.cut crash.order) (drop crash.cut crash.order) narrow_both

  narrow_behind : Narrow (drop crash.cut crash.order)
  narrow_behind = All-right (λ n. n ≤ 4294967295) (take crash.cut crash.order) (drop crash.cut crash.order) narrow_both

  line_reads : IsCrashLine (line_of crash) (within crash)
  line_reads = record {
    before = numbers_text (take crash.cut crash.order);
    gap = 32 ∷ [];
    behind = numbers_text (drop crash.cut crash.order);
    reached = take crash.cut crash.order;
    left = drop crash.cut crash.order;
    spelled = ap (λ (l : List ℕ). l ++ numbers_text (drop crash.cut crash.order)) (sym (append_assoc (codes "order" ++ numbers_text (take crash.cut crash.order)) (32 ∷ []) (124 ∷ [])));
    numbers_before = numbers_read (take crash.cut crash.order) narrow_before;
    spaces = one_space;
    numbers_behind = numbers_read (drop crash.cut crash.order) narrow_behind;
    order = sym (take-append-drop crash.cut crash.order);
    cut = sym (length-take crash.cut crash.order);
  }

  seen_line : Visible (line_of crash)
  seen_line =
      seen_both (codes "order" ++ numbers_text (take crash.cut crash.order) ++ codes " |") (numbers_text (drop crash.cut crash.order))
      (seen_both (codes "order" ++ numbers_text (take crash.cut crash.order)) (codes " |")
      (seen_both (codes "order") (numbers_text (take crash.cut crash.order)) refl (seen_numbers (take crash.cut crash.order) narrow_before)) refl)
      (seen_numbers (drop crash.cut crash.order) narrow_behind)

  lines_are : lines_of (crash_line crash) ≡ line_of crash ∷ []
  lines_are = cut_line (line_of crash) [] seen_line

  pub line_alone : length (crash_line crash) ≤ 4096 → IsCrashText (crash_line crash) (within crash)
  line_alone short = record { short = short; line = line_of crash; of_bytes = inl lines_are; reads = line_reads }

  pub line_behind_allowed : length (codes "allowed\n" ++ crash_line crash) ≤ 4096 → IsCrashText (codes "allowed\n" ++ crash_line crash) (within crash)
  line_behind_allowed short = record {
    short = short;
    line = line_of crash;
    of_bytes = inr (cut_line (codes "allowed") (crash_line crash) refl ∙ ap (λ (l : List (List ℕ)). codes "allowed" ∷ l) lines_are);
    reads = line_reads;
  }
