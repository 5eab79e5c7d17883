-- The line of a crash is read in one way.
use Rattle.std.proofs.Common.{◌≡◌, ◌≢◌, ℕ, suc, ◌+◌, ◌<◌, ◌≤◌, inl, inr, Bool, true, false, cond, eqb, ◌&&◌, List, [], ◌∷◌, ◌++◌, length, refl, sym, ◌∙◌, ap, subst, arith}
use Rattle.std.specs.Prelude.{codes, Option, Some, None, MatchOption}
use Rattle.std.specs.List.{onto_first}
use Rattle.std.specs.Char.{digit_value}
use Rattle.std.specs.Str.Parse.{AllDigits}
use Rattle.std.proofs.lemmas.List.{append_assoc, append-nil, append_cancel_left, length-append}
use Rattle.text_scan.specs.Lines.{lines_of, feed_is_first}
use Rattle.fer_events.specs.declared.event.Crash.{Crash}
use Rattle.numerals.specs.Numbers.{IsDecimal}
use Rattle.witness_replay.specs.CrashFiles.{AreSpaces, AreNumbers, IsCrashLine, IsLineOf, IsCrashText}
use Rattle.witness_replay.specs.CrashFiles.AreNumbers.{none, more}
use Rattle.numerals.specs.Spans.{is_decimal_digit, StartsNot, IsSpan}
use Rattle.witness_replay.specs.Spans.{is_space, BeginsNumber, HasNumbers, BeginsNumbers, BeginsBar}
use Rattle.numerals.proofs.GeneralSpans.{one_span}
use Rattle.numerals.proofs.Digits.{digits_pass}
use Rattle.witness_replay.proofs.CrashNumbers.{spaces_pass, digits_start, spaces_start, numbers_start, one_reading, number_shorter}

-- what the spans of a number are
pub number_span : (bytes front back : List ℕ) (n : ℕ) (rest : List ℕ) → IsSpan is_space bytes front back → BeginsNumber bytes n rest
    → (0 < length front) × ((digits behind : List ℕ) → IsSpan is_decimal_digit back digits behind → IsDecimal digits n)
number_span bytes front back n rest span begins =
    let e : bytes ≡ begins.spaces ++ (begins.digits ++ rest) = begins.spelled ∙ append_assoc begins.spaces begins.digits rest in
    let same = one_span is_space front back begins.spaces (begins.digits ++ rest) (sym span.spelled ∙ e) span.passes
    (spaces_pass begins.spaces begins.parted.1) span.ends (digits_start begins.digits rest begins.decimal.0.0 begins.decimal.0.1) in
    let F : List ℕ → Type 0 = λ l. 0 < length l in (
      subst F (sym same.0) begins.parted.0,
      λ digits behind of_back.
          let inner = one_span is_decimal_digit digits behind begins.digits rest (sym of_back.spelled ∙ same.1) of_back.passes
          (digits_pass begins.digits begins.decimal.0.1) of_back.ends begins.ends in
          let G : List ℕ → Type 0 = λ l. IsDecimal l n in
          subst G (sym inner.0) begins.decimal,
    )

bar_starts : (behind : List ℕ) → StartsNot is_space (124 ∷ behind)
bar_starts behind = λ b bs e. let same : 124 ≡ b = cc in sym (ap is_space same)

-- what the span of a bar is
pub bar_span : (bytes front back behind : List ℕ) → IsSpan is_space bytes front back → BeginsBar bytes behind → (0 < length front) × (back ≡ 124 ∷ behind)
bar_span bytes front back behind span (gap, e, spaces) =
    let same = one_span is_space front back gap (124 ∷ behind) (sym span.spelled ∙ e) span.passes (spaces_pass gap spaces.1) span.ends (bar_starts behind) in
    let F : List ℕ → Type 0 = λ l. 0 < length l in
    (subst F (sym same.0) spaces.0, same.1)

-- one bar
one_bar : (bytes behind gap other : List ℕ) → BeginsBar bytes behind → bytes ≡ gap ++ 124 ∷ other → AreSpaces gap → behind ≡ other
one_bar bytes behind gap other (front, e, spaces) e' spaces' =
    let same = one_span is_space front (124 ∷ behind) gap (124 ∷ other) (sym e ∙ e') (spaces_pass front spaces.1) (spaces_pass gap spaces'.1) (bar_starts behind) (bar_starts other) in
    cons_tail behind other same.1
  where
    cons_tail : (xs ys : List ℕ) → 124 ∷ xs ≡ 124 ∷ ys → xs ≡ ys
    cons_tail xs ys e = cc

no_digit_bar : (digits rest behind : List ℕ) → 0 < length digits → AllDigits 10 digits → digits ++ rest ≡ 124 ∷ behind → ⊥
no_digit_bar [] rest behind some all e = omega arith
no_digit_bar (d ∷ ds) rest behind some all e =
    let same : d ≡ 124 = cc in
    let at : digit_value d ≡ 36 = ap digit_value same in
    omega (arith, all.0, at)

-- no number stands before a bar
bar_no_number : (gap behind : List ℕ) (n : ℕ) (rest : List ℕ) → AreSpaces gap → BeginsNumber (gap ++ 124 ∷ behind) n rest → ⊥
bar_no_number gap behind n rest spaces begins =
    let e : gap ++ 124 ∷ behind ≡ begins.spaces ++ (begins.digits ++ rest) = begins.spelled ∙ append_assoc begins.spaces begins.digits rest in
    let same = one_span is_space gap (124 ∷ behind) begins.spaces (begins.digits ++ rest) e (spaces_pass gap spaces.1)
    (spaces_pass begins.spaces begins.parted.1) (bar_starts behind) (digits_start begins.digits rest begins.decimal.0.0 begins.decimal.0.1) in
    no_digit_bar begins.digits rest behind begins.decimal.0.0 begins.decimal.0.1 (sym same.1)

nothing_starts : (test : ℕ → Bool) → StartsNot test []
nothing_starts test = λ b bs e. absurd cc

no_number_in_nothing : (n : ℕ) (rest : List ℕ) → BeginsNumber [] n rest → ⊥
no_number_in_nothing n rest begins = omega (arith, number_shorter [] n rest begins)

regrouped : (o b g h : List ℕ) → (((o ++ b) ++ g) ++ (124 ∷ [])) ++ h ≡ o ++ (b ++ (g ++ 124 ∷ h))
regrouped o b g h = append_assoc ((o ++ b) ++ g) (124 ∷ []) h ∙ append_assoc (o ++ b) g (124 ∷ h) ∙ append_assoc o b (g ++ 124 ∷ h)

nothing_left : (xs : List ℕ) → length xs ≡ 0 → xs ≡ []
nothing_left [] e = refl
nothing_left (x ∷ xs) e = absurd (omega arith)

-- what the reader found is the line of a crash
pub line_is : (line bytes ns rest behind ms left order : List ℕ) (cut : ℕ) → line ≡ codes "order" ++ bytes → HasNumbers bytes ns rest → BeginsBar rest behind → HasNumbers behind ms left
    → length left ≡ 0 → order ≡ ns ++ ms → cut ≡ length ns → IsCrashLine line (record { order = order; cut = cut })
line_is line bytes ns rest behind ms left order cut word has (gap, bar, spaces) others empty is_order is_cut = record {
  before = has.text;
  gap = gap;
  behind = behind;
  reached = ns;
  left = ms;
  spelled = word ∙ ap (λ (l : List ℕ). codes "order" ++ l) (has.spelled ∙ ap (λ (l : List ℕ). has.text ++ l) bar) ∙ sym (regrouped (codes "order") has.text gap behind);
  numbers_before = has.numbers;
  spaces = spaces;
  numbers_behind = subst (λ (l : List ℕ). AreNumbers l ms) (sym (others.spelled ∙ ap (λ (l : List ℕ). others.text ++ l) (nothing_left left empty) ∙ append-nil others.text)) others.numbers;
  order = is_order;
  cut = is_cut;
}

-- what stands behind the word in the line of a crash
pub has_word : (line : List ℕ) (crash : Crash) (is : IsCrashLine line crash) → line ≡ codes "order" ++ (is.before ++ (is.gap ++ 124 ∷ is.behind))
has_word line crash is = is.spelled ∙ regrouped (codes "order") is.before is.gap is.behind

module _ (line bytes ns rest : List ℕ) (crash : Crash) (word : line ≡ codes "order" ++ bytes) (begins : BeginsNumbers bytes ns rest) (is : IsCrashLine line crash) where
  tail : List ℕ
  tail = is.gap ++ 124 ∷ is.behind

  bytes_are : bytes ≡ is.before ++ (is.gap ++ 124 ∷ is.behind)
  bytes_are = append_cancel_left (codes "order") bytes (is.before ++ (is.gap ++ 124 ∷ is.behind)) (sym word ∙ has_word line crash is)

  -- the numbers before the bar are those that were read
  pub reached_is : (ns ≡ is.reached) × (rest ≡ is.gap ++ 124 ∷ is.behind)
  reached_is =
      let quiet = spaces_start is.gap (124 ∷ is.behind) is.spaces in
      let starts = subst (StartsNot is_decimal_digit) (sym bytes_are) (numbers_start is.before is.reached (is.gap ++ 124 ∷ is.behind) is.numbers_before quiet) in
      one_reading bytes begins.0.text ns rest is.before is.reached (is.gap ++ 124 ∷ is.behind) begins.0.numbers is.numbers_before begins.0.spelled bytes_are
      (begins.0.ends starts) quiet begins.1 (λ n behind. bar_no_number is.gap is.behind n behind is.spaces)

  pub has_bar : BeginsBar rest is.behind
  has_bar = (is.gap, reached_is.1, is.spaces)

  -- and so are those behind it
  pub left_is : (behind ms left : List ℕ) → BeginsBar rest behind → BeginsNumbers behind ms left → (ms ≡ is.left) × (left ≡ [])
  left_is behind ms left bar others =
      let same : behind ≡ is.behind = one_bar rest behind is.gap is.behind bar reached_is.1 is.spaces in
      let e : behind ≡ is.behind ++ [] = same ∙ sym (append-nil is.behind) in
      let starts = subst (StartsNot is_decimal_digit) (sym e) (numbers_start is.behind is.left [] is.numbers_behind (nothing_starts is_decimal_digit)) in
      one_reading behind others.0.text ms left is.behind is.left [] others.0.numbers is.numbers_behind others.0.spelled e
      (others.0.ends starts) (nothing_starts is_decimal_digit) others.1 no_number_in_nothing

-- what is known of a line once its first numbers are read
pub no_bar : (line bytes ns rest : List ℕ) (crash : Crash) → line ≡ codes "order" ++ bytes → BeginsNumbers bytes ns rest
    → ((behind : List ℕ) → BeginsBar rest behind → ⊥) → IsCrashLine line crash → ⊥
no_bar line bytes ns rest crash word begins missing is = missing is.behind (has_bar line bytes ns rest crash word begins is)

pub no_end : (line bytes ns rest behind ms left : List ℕ) (crash : Crash) → line ≡ codes "order" ++ bytes → BeginsNumbers bytes ns rest → BeginsBar rest behind
    → BeginsNumbers behind ms left → left ≢ [] → IsCrashLine line crash → ⊥
no_end line bytes ns rest behind ms left crash word begins bar others longer is = longer (left_is line bytes ns rest crash word begins is behind ms left bar others).1

-- two crashes of one line are one
pub one_crash_line : (line : List ℕ) (x y : Crash) → IsCrashLine line x → IsCrashLine line y → x ≡ y
one_crash_line line x y is_x is_y =
    let bytes = is_x.before ++ (is_x.gap ++ 124 ∷ is_x.behind) in
    let has : BeginsNumbers bytes is_x.reached (is_x.gap ++ 124 ∷ is_x.behind) = (
      record { text = is_x.before; spelled = refl; numbers = is_x.numbers_before; ends = λ h. spaces_start is_x.gap (124 ∷ is_x.behind) is_x.spaces },
      λ n behind. bar_no_number is_x.gap is_x.behind n behind is_x.spaces,
    ) in
    let others : BeginsNumbers is_x.behind is_x.left [] =
    (record { text = is_x.behind; spelled = sym (append-nil is_x.behind); numbers = is_x.numbers_behind; ends = λ h. nothing_starts is_decimal_digit }, no_number_in_nothing) in
    let word = has_word line x is_x in
    let first = (reached_is line bytes is_x.reached (is_x.gap ++ 124 ∷ is_x.behind) y word has is_y).0 in
    let second = (left_is line bytes is_x.reached (is_x.gap ++ 124 ∷ is_x.behind) y word has is_y is_x.behind is_x.left [] (is_x.gap, refl, is_x.spaces) others).0 in
    let order : x.order ≡ y.order = is_x.order ∙ ap (λ (l : List ℕ). l ++ is_x.left) first ∙ ap (λ (l : List ℕ). is_y.reached ++ l) second ∙ sym is_y.order in
    let cut : x.cut ≡ y.cut = is_x.cut ∙ ap (λ (l : List ℕ). length l) first ∙ sym is_y.cut in
    same_fields x.order y.order x.cut y.cut order cut
  where
    crash_of : List ℕ → ℕ → Crash
    crash_of order cut = record { order = order; cut = cut }

    same_fields : (o o' : List ℕ) (k k' : ℕ) → o ≡ o' → k ≡ k' → crash_of o k ≡ crash_of o' k'
    same_fields o o' k k' e f =
        let F : List ℕ → Crash = λ l. record { order = l; cut = k } in
        let G : ℕ → Crash = λ n. record { order = o'; cut = n } in
        ap F e ∙ ap G f

-- two lines of one file are one
pub one_line : (bytes line other : List ℕ) → IsLineOf bytes line → IsLineOf bytes other → line ≡ other
one_line bytes line other (inl e) (inl f) = let g : line ∷ [] ≡ other ∷ [] = sym e ∙ f in cc
one_line bytes line other (inl e) (inr f) = let g : line ∷ [] ≡ codes "allowed" ∷ other ∷ [] = sym e ∙ f in absurd cc
one_line bytes line other (inr e) (inl f) = let g : codes "allowed" ∷ line ∷ [] ≡ other ∷ [] = sym e ∙ f in absurd cc
one_line bytes line other (inr e) (inr f) = let g : codes "allowed" ∷ line ∷ [] ≡ codes "allowed" ∷ other ∷ [] = sym e ∙ f in cc

pub one_crash_text : (bytes : List ℕ) (x y : Crash) → IsCrashText bytes x → IsCrashText bytes y → x ≡ y
one_crash_text bytes x y is_x is_y =
    let same = one_line bytes is_x.line is_y.line is_x.of_bytes is_y.of_bytes in
    one_crash_line is_y.line x y (subst (λ (l : List ℕ). IsCrashLine l x) same is_x.reads) is_y.reads

-- what the reader found of the line is what it found of the file
pub text_found : (bytes line : List ℕ) (found : Option Crash) → length bytes ≤ 4096 → IsLineOf bytes line
    → MatchOption found ((crash : Crash) → IsCrashLine line crash → ⊥) (λ crash. IsCrashLine line crash)
    → MatchOption found ((crash : Crash) → IsCrashText bytes crash → ⊥) (λ crash. IsCrashText bytes crash)
text_found bytes line None short of_bytes missing = λ crash is.
    missing crash (subst (λ (l : List ℕ). IsCrashLine l crash) (one_line bytes is.line line is.of_bytes of_bytes) is.reads)
text_found bytes line (Some crash) short of_bytes reads = record { short = short; line = line; of_bytes = of_bytes; reads = reads }

-- there are no more numbers than bytes
few_numbers : (text ns : List ℕ) → AreNumbers text ns → length ns ≤ length text
few_numbers text ns none = omega arith
few_numbers text ns (more s d r n ms sp de nu) =
    omega (arith, few_numbers r ms nu, sp.0, length-append (s ++ d) r, length-append s d)

pub few_read : (line bytes ns rest : List ℕ) → line ≡ codes "order" ++ bytes → HasNumbers bytes ns rest → length ns ≤ length line
few_read line bytes ns rest word has =
    omega (
      arith,
      few_numbers has.text ns has.numbers,
      ap (λ (l : List ℕ). length l) word,
      ap (λ (l : List ℕ). length l) has.spelled,
      length-append (codes "order") bytes,
      length-append has.text rest,
    )

-- the bytes of lines, without their ends
abbrev total : List (List ℕ) → ℕ
total [] = 0
total (line ∷ lines) = length line + total lines

total_onto : (b : ℕ) (lines : List (List ℕ)) → total (onto_first b lines) ≡ suc (total lines)
total_onto b [] = refl
total_onto b (line ∷ lines) = omega arith

total_step : (feed end : Bool) (b : ℕ) (lines : List (List ℕ)) (n : ℕ) → total lines ≤ n → total (cond feed ([] ∷ lines) (cond end lines (onto_first b lines))) ≤ suc n
total_step true end b lines n l = omega arith
total_step false true b lines n l = omega arith
total_step false false b lines n l = omega (arith, total_onto b lines)

total_lines : (bytes : List ℕ) → total (lines_of bytes) ≤ length bytes
total_lines [] = omega arith
total_lines (b ∷ bs) = total_step (eqb b 10) (eqb b 13 && feed_is_first bs) b (lines_of bs) (length bs) (total_lines bs)

-- a line isn't longer than its file
pub line_within : (bytes line : List ℕ) → IsLineOf bytes line → length line ≤ length bytes
line_within bytes line (inl e) = omega (arith, total_lines bytes, ap total e)
line_within bytes line (inr e) = omega (arith, total_lines bytes, ap total e)
