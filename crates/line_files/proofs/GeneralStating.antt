-- What lines state, one line after the other.
use Rattle.std.proofs.Common.{◌≡◌, ◌⊎◌, ℕ, ◌+◌, ◌<◌, ◌≤◌, List, [], ◌∷◌, ◌++◌, length, refl, sym, ◌∙◌, ap, ap₂, subst, inl, inr, append_assoc, append-nil, length-append, arith}
use Rattle.text_scan.specs.Lines.{lines_of}
use Rattle.lexeme_reader.specs.Lexemes.{AreLexemes}
use Rattle.line_files.specs.declared.fault.SharedFault.TheVariants.{EndsEarly}
use Rattle.line_files.specs.Grammars.{Grammar}
use Rattle.line_files.specs.StatedLines.{Stated, AreStated, stated_in, statements}
use Rattle.line_files.specs.FirstFaults.{IsSound, AreSound, IsLineFault, IsFirstFault}
use Rattle.line_files.specs.Refusals.{IsUnended, IsRefused}
use Rattle.line_files.specs.TakenLines.{AreTaken, IsTaken}

-- a cut of a list with one more at its end is a cut of the list, or stands at the end
pub cut_last : {X : Type 0} (xs front behind : List X) (t s : X) → xs ++ t ∷ [] ≡ front ++ s ∷ behind
    → ((xs ≡ front) × (t ≡ s)) ⊎ ((rest : List X) × (xs ≡ front ++ s ∷ rest))
cut_last [] [] behind t s e = inl (refl, cc)
cut_last [] (f ∷ front) behind t s e =
    let none : [] ≡ front ++ s ∷ behind = cc in
    let empty : 0 ≡ length (front ++ s ∷ behind) = ap length none in
    absurd (omega (arith, length-append front (s ∷ behind)))
cut_last (x ∷ xs) [] behind t s e = let same : x ≡ s = cc in inr (xs, ap (λ y. y ∷ xs) same)
cut_last (x ∷ xs) (f ∷ front) behind t s e =
    let first : x ≡ f = cc in
    let rest : xs ++ t ∷ [] ≡ front ++ s ∷ behind = cc in
    elim (cut_last xs front behind t s rest) [
      | inl (is, same) ↦ inl (ap₂ (λ y ys. y ∷ ys) first is, same)
      | inr (more, is) ↦ inr (more, ap₂ (λ y ys. y ∷ ys) first is)
    ]

module _ {S K : Type 0} (g : Grammar S K) where
  abbrev States : ℕ → List (List ℕ) → List (Stated S) → Type 0
  States n lines stated = AreStated g.lexemes_of n lines stated

  -- a blank line behind the others
  stated_blank : (n : ℕ) (lines : List (List ℕ)) (line : List ℕ) (stated : List (Stated S)) → States n lines stated → AreLexemes line []
      → States n (lines ++ line ∷ []) stated
  stated_blank n [] line stated are blank = inl (blank, are)
  stated_blank n (l ∷ ls) line stated (inl (none, rest)) blank = inl (none, stated_blank (n + 1) ls line stated rest blank)
  stated_blank n (l ∷ ls) line stated (inr (s, others, says, rest, is)) blank = inr (s, others, says, stated_blank (n + 1) ls line others rest blank, is)

  -- a line that states something, behind the others
  stated_more : (n m : ℕ) (lines : List (List ℕ)) (line : List ℕ) (stated : List (Stated S)) (s : S) → States n lines stated
      → m ≡ n + length lines → AreLexemes line (g.lexemes_of s) → States n (lines ++ line ∷ []) (stated ++ stated_in m s ∷ [])
  stated_more n m [] line stated s are at says =
      let same : m ≡ n = omega arith in
      inr (s, [], says, refl, ap (λ (st : List (Stated S)). st ++ stated_in m s ∷ []) are ∙ ap (λ (k : ℕ). stated_in k s ∷ []) same)
  stated_more n m (l ∷ ls) line stated s (inl (none, rest)) at says = inl (none, stated_more (n + 1) m ls line stated s rest (omega arith) says)
  stated_more n m (l ∷ ls) line stated s (inr (first, others, first_says, rest, is)) at says =
      inr (
        first,
        others ++ stated_in m s ∷ [],
        first_says,
        stated_more (n + 1) m ls line others s rest (omega arith) says,
        ap (λ (st : List (Stated S)). st ++ stated_in m s ∷ []) is,
      )

  pub sound_none : AreSound g []
  sound_none [] behind s e = absurd cc
  sound_none (f ∷ front) behind s e = absurd cc

  -- one more sound statement
  pub sound_more : (stated : List (Stated S)) (n : ℕ) (s : S) → AreSound g stated → IsSound g (statements stated) (g.lexemes_of s)
      → AreSound g (stated ++ stated_in n s ∷ [])
  sound_more stated n s all one front behind t e =
      elim (cut_last stated front behind (stated_in n s) t e) [
        | inl (is, same) ↦
            subst (λ (u : Stated S). IsSound g (statements front) (g.lexemes_of u.statement)) same
            (subst (λ (st : List (Stated S)). IsSound g (statements st) (g.lexemes_of s)) is one)
        | inr (rest, is) ↦ all front rest t is
      ]

  module _ (Keeps Keeps' : List (Stated S) → Type 0) where
    -- one more line was taken
    pub taken_more : (lines : List (List ℕ)) (line : List ℕ) (n : ℕ) (h : AreTaken g Keeps lines) → n ≡ 1 + length lines
        → IsTaken g Keeps' h.stated n line → AreTaken g Keeps' (lines ++ line ∷ [])
    taken_more lines line n h at (inl (blank, kept)) = record {
      stated = h.stated;
      read = stated_blank 1 lines line h.stated h.read blank;
      sound = h.sound;
      kept = kept;
    }
    taken_more lines line n h at (inr (s, says, sound, kept)) = record {
      stated = h.stated ++ stated_in n s ∷ [];
      read = stated_more 1 n lines line h.stated s h.read at says;
      sound = sound_more h.stated n s h.sound sound;
      kept = kept;
    }

  module _ (Keeps : List (Stated S) → Type 0) where
    pub taken_none : Keeps [] → AreTaken g Keeps []
    taken_none kept = record { stated = []; read = refl; sound = sound_none; kept = kept }

    -- the next line is bad
    pub next_bad : (all lines behind : List (List ℕ)) (line : List ℕ) (n : ℕ) (kind : K) → all ≡ lines ++ line ∷ behind → (h : AreTaken g Keeps lines)
        → n ≡ length lines + 1 → IsLineFault g (statements h.stated) line kind → IsFirstFault g all n kind
    next_bad all lines behind line n kind cut h at bad = record {
      before = lines;
      line = line;
      behind = behind;
      stated = h.stated;
      cut = cut;
      counted = at;
      read = h.read;
      sound = h.sound;
      bad = bad;
    }

    -- all lines are taken, and none ends the file
    pub cut_short : (bytes : List ℕ) (line : ℕ) (kind : K) → length bytes ≤ 65536 → (h : AreTaken g Keeps (lines_of bytes))
        → IsUnended g h.stated → line ≡ length (lines_of bytes) + 1 → kind ≡ g.shared_kind EndsEarly → IsRefused g bytes line kind
    cut_short bytes line kind few h unended at ends =
        inr (inr (few, record { stated = h.stated; read = h.read; sound = h.sound; unended = unended; counted = at }, ends))

    -- how far the lines of a file are read: some were taken, and the others are those of the rest
    pub record IsReading (bytes rest : List ℕ) (count : ℕ) : Type 0 where
      pub before : List (List ℕ)
      pub cut : lines_of bytes ≡ before ++ lines_of rest
      pub counted : count ≡ length before
      pub taken : AreTaken g Keeps before
      pub few : count + length rest ≤ length bytes

    pub begun : (bytes : List ℕ) → Keeps [] → IsReading bytes bytes 0
    begun bytes kept = record { before = []; cut = refl; counted = refl; taken = taken_none kept; few = omega arith }

    -- the next line of the file is bad
    pub one_bad : (bytes rest line behind : List ℕ) (count : ℕ) (kind : K) → IsReading bytes rest count → lines_of rest ≡ line ∷ lines_of behind
        → ((stated : List (Stated S)) → Keeps stated → IsLineFault g (statements stated) line kind) → IsFirstFault g (lines_of bytes) (count + 1) kind
    one_bad bytes rest line behind count kind h next bad =
        let at = h.counted in
        next_bad (lines_of bytes) h.before (lines_of behind) line (count + 1) kind (h.cut ∙ ap (λ (ls : List (List ℕ)). h.before ++ ls) next)
        h.taken (omega arith) (bad h.taken.stated h.taken.kept)

    -- all lines of the file were taken
    pub all_taken : (bytes rest : List ℕ) (count : ℕ) → IsReading bytes rest count → rest ≡ []
        → AreTaken g Keeps (lines_of bytes) × (count ≡ length (lines_of bytes)) × (count ≤ length bytes)
    all_taken bytes rest count h none =
        let all : lines_of bytes ≡ h.before = h.cut ∙ ap (λ (bs : List ℕ). h.before ++ lines_of bs) none ∙ append-nil h.before in (
          subst (λ (ls : List (List ℕ)). AreTaken g Keeps ls) (sym all) h.taken,
          h.counted ∙ ap (λ (ls : List (List ℕ)). length ls) (sym all),
          omega (arith, h.few),
        )

  -- the next line of the file was taken
  pub one_more : (Keeps Keeps' : List (Stated S) → Type 0) (bytes rest line behind : List ℕ) (count : ℕ) → IsReading Keeps bytes rest count
      → lines_of rest ≡ line ∷ lines_of behind → length behind < length rest
      → ((stated : List (Stated S)) → Keeps stated → IsTaken g Keeps' stated (count + 1) line) → IsReading Keeps' bytes behind (count + 1)
  one_more Keeps Keeps' bytes rest line behind count h next fewer taken =
      let at = h.counted in
      record {
        before = h.before ++ line ∷ [];
        cut = h.cut ∙ ap (λ (ls : List (List ℕ)). h.before ++ ls) next ∙ sym (append_assoc h.before (line ∷ []) (lines_of behind));
        counted = omega (arith, length-append h.before (line ∷ []));
        taken = taken_more Keeps Keeps' h.before line (count + 1) h.taken (omega arith) (taken h.taken.stated h.taken.kept);
        few = omega (arith, h.few);
      }
