-- A file of a grammar of lines is one thing, or it is refused at one line for one kind of fault, and not both.
use Rattle.std.proofs.Common.{◌≡◌, ◌≢◌, ◌⊎◌, ℕ, ◌+◌, List, [], ◌∷◌, ◌++◌, length, IsTrue, refl, sym, ◌∙◌, ap, ap₂, subst, inl, inr, append_assoc, append-nil, arith}
use Rattle.std.specs.List.{All, Contains}
use Rattle.std.proofs.lemmas.List.Elements.{All-head, All-tail}
use Rattle.std.proofs.lemmas.Bool.{cases_lt}
use Rattle.text_scan.specs.declared.scanning.ScanError.TheVariants.{BadByte, BadToken}
use Rattle.text_scan.specs.Faults.{IsFault}
use Rattle.text_scan.specs.Lines.{lines_of}
use Rattle.lexeme_reader.specs.declared.reading.Lexeme.{Lexeme}
use Rattle.lexeme_reader.specs.Lexemes.{AreLexemes, is_formed}
use Rattle.line_files.specs.declared.fault.SharedFault.TheVariants as shared
use Rattle.line_files.specs.Grammars.{Grammar}
use Rattle.line_files.specs.StatedLines.{Stated, AreStated, stated_in, statements}
use Rattle.line_files.specs.FirstFaults.{IsFirst, IsSound, AreSound, IsLineFault, IsFirstFault}
use Rattle.line_files.specs.Refusals.{IsText, IsUnended, IsRefused}
use Rattle.line_files.specs.TakenLines.{AreTaken, IsTaken}
use Rattle.line_files.proofs.GeneralStating.{taken_none, taken_more, next_bad, cut_short}

-- a line says one list of lexemes, each of its form, or it has a fault, and not both
pub record LineLaws : Type 0 where
  pub some : (line : List ℕ) → ((lexemes : List Lexeme) × AreLexemes line lexemes) ⊎ IsFault line BadByte ⊎ IsFault line BadToken
  pub one : (line : List ℕ) (a b : List Lexeme) → AreLexemes line a → AreLexemes line b → a ≡ b
  pub no_bad_byte : (line : List ℕ) (a : List Lexeme) → AreLexemes line a → IsFault line BadByte → ⊥
  pub no_bad_token : (line : List ℕ) (a : List Lexeme) → AreLexemes line a → IsFault line BadToken → ⊥
  pub formed : (line : List ℕ) (a : List Lexeme) → AreLexemes line a → All (λ l. IsTrue (is_formed l)) a

-- the first of some kinds for which a fact holds is one kind
first_once : {K : Type 0} (P : K → Type 0) (xs ys hs bs : List K) (k m : K) → xs ++ k ∷ hs ≡ ys ++ m ∷ bs
    → All (λ o. P o → ⊥) xs → All (λ o. P o → ⊥) ys → P k → P m → k ≡ m
first_once P [] [] hs bs k m e h g p q = cc
first_once P [] (y ∷ ys) hs bs k m e h g p q =
    let same : k ≡ y = cc in
    absurd (All-head (λ o. P o → ⊥) y ys g (subst P same p))
first_once P (x ∷ xs) [] hs bs k m e h g p q =
    let same : m ≡ x = cc in
    absurd (All-head (λ o. P o → ⊥) x xs h (subst P same q))
first_once P (x ∷ xs) (y ∷ ys) hs bs k m e h g p q =
    let rest : xs ++ k ∷ hs ≡ ys ++ m ∷ bs = cc in
    first_once P xs ys hs bs k m rest (All-tail (λ o. P o → ⊥) x xs h) (All-tail (λ o. P o → ⊥) y ys g) p q

one_first_kind : {K : Type 0} (P : K → Type 0) (kinds : List K) (k m : K) → IsFirst P kinds k → IsFirst P kinds m → k ≡ m
one_first_kind P kinds k m h f = first_once P h.0 f.0 h.1 f.1 k m (sym h.2 ∙ f.2) h.3 f.3 h.4 f.4

-- two cuts of a list are one cut, or one stands before the other
two_cuts : {X : Type 0} (xs ys hs bs : List X) (x y : X) → xs ++ x ∷ hs ≡ ys ++ y ∷ bs
    → ((xs ≡ ys) × (x ≡ y)) ⊎ ((mid : List X) × (ys ≡ xs ++ x ∷ mid)) ⊎ ((mid : List X) × (xs ≡ ys ++ y ∷ mid))
two_cuts [] [] hs bs x y e = inl (refl, cc)
two_cuts [] (y' ∷ ys) hs bs x y e = let same : y' ≡ x = cc in inr (inl (ys, ap (λ l. l ∷ ys) same))
two_cuts (x' ∷ xs) [] hs bs x y e = let same : x' ≡ y = cc in inr (inr (xs, ap (λ l. l ∷ xs) same))
two_cuts (x' ∷ xs) (y' ∷ ys) hs bs x y e =
    let first : x' ≡ y' = cc in
    let rest : xs ++ x ∷ hs ≡ ys ++ y ∷ bs = cc in
    elim (two_cuts xs ys hs bs x y rest) [
      | inl (is, same) ↦ inl (ap₂ (λ l ls. l ∷ ls) first is, same)
      | inr (inl (mid, is)) ↦ inr (inl (mid, ap₂ (λ l ls. l ∷ ls) (sym first) is))
      | inr (inr (mid, is)) ↦ inr (inr (mid, ap₂ (λ l ls. l ∷ ls) first is))
    ]

-- the tokens of a statement are some, and where they have no fault they tell which statement it is
pub record IsTold {S K : Type 0} (g : Grammar S K) : Type 0 where
  pub some : (s : S) → g.lexemes_of s ≡ [] → ⊥
  pub one : (before : List S) (s t : S) → IsSound g before (g.lexemes_of s) → g.lexemes_of s ≡ g.lexemes_of t → s ≡ t

-- what whole files make: one thing each, of statements that are sound and of which one ends the file
pub record IsMade {S K R : Type 0} (g : Grammar S K) (Makes : List (Stated S) → R → Type 0) : Type 0 where
  pub one : (stated : List (Stated S)) (a b : R) → Makes stated a → Makes stated b → a ≡ b
  pub sound : (stated : List (Stated S)) (a : R) → Makes stated a → AreSound g stated
  pub ends : (stated : List (Stated S)) (a : R) → Makes stated a → (s : Stated S) × Contains stated s × g.Ends s.statement

-- tokens behind what is kept are a sound statement, which can be kept too, or they have a first fault; and what is kept
-- makes something, unless it has no end
pub record IsDecided {S K R : Type 0} (g : Grammar S K) (Makes : List (Stated S) → R → Type 0) (Keeps : List (Stated S) → Type 0) : Type 0 where
  pub none : Keeps []
  pub next : (stated : List (Stated S)) (number : ℕ) (lexemes : List Lexeme) → Keeps stated → lexemes ≢ [] → All (λ l. IsTrue (is_formed l)) lexemes
      → ((s : S) × (lexemes ≡ g.lexemes_of s) × IsSound g (statements stated) (g.lexemes_of s) × Keeps (stated ++ stated_in number s ∷ []))
      ⊎ ((kind : K) × IsFirst (g.Has (statements stated) lexemes) g.kinds kind)
  pub ended : (stated : List (Stated S)) → Keeps stated → ((a : R) × Makes stated a) ⊎ IsUnended g stated

module _ {S K : Type 0} (g : Grammar S K) (laws : LineLaws) where
  -- a line has one fault
  one_kind : (before : List S) (line : List ℕ) (k m : K) → IsLineFault g before line k → IsLineFault g before line m → k ≡ m
  one_kind before line k m (inl a) (inl b) = a.1 ∙ sym b.1
  one_kind before line k m (inl a) (inr (inl b)) = absurd (b.0.0 a.0)
  one_kind before line k m (inl a) (inr (inr b)) = absurd (laws.no_bad_byte line b.0 b.1 a.0)
  one_kind before line k m (inr (inl a)) (inl b) = absurd (a.0.0 b.0)
  one_kind before line k m (inr (inl a)) (inr (inl b)) = a.1 ∙ sym b.1
  one_kind before line k m (inr (inl a)) (inr (inr b)) = absurd (laws.no_bad_token line b.0 b.1 a.0)
  one_kind before line k m (inr (inr a)) (inl b) = absurd (laws.no_bad_byte line a.0 a.1 b.0)
  one_kind before line k m (inr (inr a)) (inr (inl b)) = absurd (laws.no_bad_token line a.0 a.1 b.0)
  one_kind before line k m (inr (inr (tokens, are, some, first))) (inr (inr (lexemes, were, more, other))) =
      one_first_kind (g.Has before tokens) g.kinds k m first
      (subst (λ (ls : List Lexeme). IsFirst (g.Has before ls) g.kinds m) (sym (laws.one line tokens lexemes are were)) other)

  -- a blank line has no fault, nor has one whose statement has none
  blank_sound : (before : List S) (line : List ℕ) (k : K) → AreLexemes line [] → IsLineFault g before line k → ⊥
  blank_sound before line k blank (inl a) = laws.no_bad_byte line [] blank a.0
  blank_sound before line k blank (inr (inl a)) = laws.no_bad_token line [] blank a.0
  blank_sound before line k blank (inr (inr a)) = a.2 (laws.one line a.0 [] a.1 blank)

  stated_sound : (before : List S) (line : List ℕ) (tokens : List Lexeme) (k : K) → AreLexemes line tokens → IsSound g before tokens
      → IsLineFault g before line k → ⊥
  stated_sound before line tokens k are sound (inl a) = laws.no_bad_byte line tokens are a.0
  stated_sound before line tokens k are sound (inr (inl a)) = laws.no_bad_token line tokens are a.0
  stated_sound before line tokens k are sound (inr (inr (lexemes, were, some, first))) =
      sound k (subst (λ (ls : List Lexeme). g.Has before ls k) (laws.one line lexemes tokens were are) first.4)

  -- what the first of some lines state, and what the next one states
  stated_cut : (n : ℕ) (before : List (List ℕ)) (line : List ℕ) (behind : List (List ℕ)) (all : List (Stated S)) → AreStated g.lexemes_of n (before ++ line ∷ behind) all
      → (front : List (Stated S)) × AreStated g.lexemes_of n before front
      × (AreLexemes line [] ⊎ ((s : S) × (m : ℕ) × (back : List (Stated S)) × AreLexemes line (g.lexemes_of s) × (all ≡ front ++ stated_in m s ∷ back)))
  stated_cut n [] line behind all (inl (blank, h)) = ([], refl, inl blank)
  stated_cut n [] line behind all (inr (s, back, says, h, is)) = ([], refl, inr (s, n, back, says, is))
  stated_cut n (l ∷ before) line behind all (inl (blank, h)) =
      let cut = stated_cut (n + 1) before line behind all h in
      (cut.0, inl (blank, cut.1), cut.2)
  stated_cut n (l ∷ before) line behind all (inr (t, rest, says, h, is)) =
      let cut = stated_cut (n + 1) before line behind rest h in (
        stated_in n t ∷ cut.0,
        inr (t, cut.0, says, cut.1, refl),
        elim cut.2 [
          | inl blank ↦ inl blank
          | inr (s, m, back, speaks, at) ↦ inr (s, m, back, speaks, is ∙ ap (λ (us : List (Stated S)). stated_in n t ∷ us) at)
        ],
      )

  module _ (told : IsTold g) where
    -- lines state one thing, behind others, where all is sound
    stated_behind : (n : ℕ) (lines : List (List ℕ)) (front a b : List (Stated S)) → AreSound g (front ++ a)
        → AreStated g.lexemes_of n lines a → AreStated g.lexemes_of n lines b → a ≡ b
    stated_behind n [] front a b sound h k = h ∙ sym k
    stated_behind n (l ∷ ls) front a b sound (inl (blank, h)) (inl (other, k)) = stated_behind (n + 1) ls front a b sound h k
    stated_behind n (l ∷ ls) front a b sound (inl (blank, h)) (inr (s, rest, says, k, is)) =
        absurd (told.some s (laws.one l (g.lexemes_of s) [] says blank))
    stated_behind n (l ∷ ls) front a b sound (inr (s, rest, says, h, is)) (inl (blank, k)) =
        absurd (told.some s (laws.one l (g.lexemes_of s) [] says blank))
    stated_behind n (l ∷ ls) front a b sound (inr (s, rest, says, h, is)) (inr (t, more, speaks, k, at)) =
        let u = stated_in n s in
        let here : IsSound g (statements front) (g.lexemes_of s) = sound front rest u (ap (λ (st : List (Stated S)). front ++ st) is) in
        let same = told.one (statements front) s t here (laws.one l (g.lexemes_of s) (g.lexemes_of t) says speaks) in
        let all : AreSound g (front ++ u ∷ rest) = subst (λ (st : List (Stated S)). AreSound g (front ++ st)) is sound in
        let others = stated_behind (n + 1) ls (front ++ u ∷ []) rest more (subst (λ (st : List (Stated S)). AreSound g st) (sym (append_assoc front (u ∷ []) rest)) all) h k in
        is ∙ ap₂ (λ (v : S) (us : List (Stated S)). stated_in n v ∷ us) same others ∙ sym at

    pub one_stated : (n : ℕ) (lines : List (List ℕ)) (a b : List (Stated S)) → AreSound g a → AreStated g.lexemes_of n lines a
        → AreStated g.lexemes_of n lines b → a ≡ b
    one_stated n lines a b sound h k = stated_behind n lines [] a b sound h k

    -- no line of a sound file is bad
    no_fault : (lines before behind : List (List ℕ)) (line : List ℕ) (all stated : List (Stated S)) (kind : K) → lines ≡ before ++ line ∷ behind
        → AreStated g.lexemes_of 1 lines all → AreSound g all → AreStated g.lexemes_of 1 before stated → AreSound g stated
        → IsLineFault g (statements stated) line kind → ⊥
    no_fault lines before behind line all stated kind is are sound read clean bad =
        let cut = stated_cut 1 before line behind all (subst (λ (ls : List (List ℕ)). AreStated g.lexemes_of 1 ls all) is are) in
        let same = one_stated 1 before stated cut.0 clean read cut.1 in
        let there = subst (λ (st : List (Stated S)). IsLineFault g (statements st) line kind) same bad in
        elim cut.2 [
          | inl blank ↦ blank_sound (statements (cut.0)) line kind blank there
          | inr (s, m, back, says, at) ↦ stated_sound (statements (cut.0)) line (g.lexemes_of s) kind says (sound (cut.0) back (stated_in m s) at) there
        ]

    one_first : (lines : List (List ℕ)) (i j : ℕ) (k m : K) → IsFirstFault g lines i k → IsFirstFault g lines j m → (i ≡ j) × (k ≡ m)
    one_first lines i j k m f h = elim (two_cuts f.before h.before f.behind h.behind f.line h.line (sym f.cut ∙ h.cut)) [
      | inl (is, same) ↦
          let read : AreStated g.lexemes_of 1 h.before f.stated = subst (λ (ls : List (List ℕ)). AreStated g.lexemes_of 1 ls f.stated) is f.read in
          let stated = one_stated 1 h.before h.stated f.stated h.sound h.read read in
          let bad : IsLineFault g (statements f.stated) f.line m =
          subst (λ (l : List ℕ). IsLineFault g (statements f.stated) l m) (sym same) (subst (λ (st : List (Stated S)). IsLineFault g (statements st) h.line m) stated h.bad) in
          let size : length f.before ≡ length h.before = ap length is in
          (omega (arith, f.counted, h.counted), one_kind (statements f.stated) f.line k m f.bad bad)
      | inr (inl (mid, is)) ↦ absurd (no_fault h.before f.before mid f.line h.stated f.stated k is h.read h.sound f.read f.sound f.bad)
      | inr (inr (mid, is)) ↦ absurd (no_fault f.before h.before mid h.line f.stated h.stated m is f.read f.sound h.read h.sound h.bad)
    ]

    -- a file is refused once
    pub one_refusal : (bytes : List ℕ) (i j : ℕ) (k m : K) → IsRefused g bytes i k → IsRefused g bytes j m → (i ≡ j) × (k ≡ m)
    one_refusal bytes i j k m (inl a) (inl b) = (a.1 ∙ sym b.1, a.2 ∙ sym b.2)
    one_refusal bytes i j k m (inl a) (inr (inl b)) = absurd (omega (arith, a.0, b.0))
    one_refusal bytes i j k m (inl a) (inr (inr b)) = absurd (omega (arith, a.0, b.0))
    one_refusal bytes i j k m (inr (inl a)) (inl b) = absurd (omega (arith, a.0, b.0))
    one_refusal bytes i j k m (inr (inr a)) (inl b) = absurd (omega (arith, a.0, b.0))
    one_refusal bytes i j k m (inr (inl a)) (inr (inl b)) = one_first (lines_of bytes) i j k m a.1 b.1
    one_refusal bytes i j k m (inr (inl a)) (inr (inr b)) =
        absurd (no_fault (lines_of bytes) a.1.before a.1.behind a.1.line b.1.stated a.1.stated k a.1.cut b.1.read b.1.sound a.1.read a.1.sound a.1.bad)
    one_refusal bytes i j k m (inr (inr a)) (inr (inl b)) =
        absurd (no_fault (lines_of bytes) b.1.before b.1.behind b.1.line a.1.stated b.1.stated m b.1.cut a.1.read a.1.sound b.1.read b.1.sound b.1.bad)
    one_refusal bytes i j k m (inr (inr a)) (inr (inr b)) = (a.1.counted ∙ sym b.1.counted, a.2 ∙ sym b.2)

    -- a file is one thing at most, and then it isn't refused
    module _ {R : Type 0} (Makes : List (Stated S) → R → Type 0) (made : IsMade g Makes) where
      pub one_text : (bytes : List ℕ) (a b : R) → IsText g Makes bytes a → IsText g Makes bytes b → a ≡ b
      one_text bytes a b (few, stated, are, h) (less, other, were, k) =
          let same = one_stated 1 (lines_of bytes) stated other (made.sound stated a h) are were in
          made.one stated a b h (subst (λ (st : List (Stated S)). Makes st b) (sym same) k)

      pub text_or_refused : (bytes : List ℕ) (a : R) (i : ℕ) (k : K) → IsText g Makes bytes a → IsRefused g bytes i k → ⊥
      text_or_refused bytes a i k (few, stated, are, h) (inl long) = omega (arith, long.0)
      text_or_refused bytes a i k (few, stated, are, h) (inr (inl bad)) =
          no_fault (lines_of bytes) bad.1.before bad.1.behind bad.1.line stated bad.1.stated k bad.1.cut are (made.sound stated a h) bad.1.read bad.1.sound bad.1.bad
      text_or_refused bytes a i k (few, stated, are, h) (inr (inr short)) =
          let same = one_stated 1 (lines_of bytes) stated short.1.stated (made.sound stated a h) are short.1.read in
          let (s, there, ends) = made.ends stated a h in
          short.1.unended s (subst (λ (st : List (Stated S)). Contains st s) same there) ends

  -- a file is one of the two
  module _ {R : Type 0} (Makes : List (Stated S) → R → Type 0) (Keeps : List (Stated S) → Type 0) (decided : IsDecided g Makes Keeps) where
    abbrev LineAnswered : List (Stated S) → ℕ → List ℕ → Type 0
    LineAnswered stated number line = IsTaken g Keeps stated number line ⊎ ((kind : K) × IsLineFault g (statements stated) line kind)

    said : (stated : List (Stated S)) (number : ℕ) (line : List ℕ) (tokens : List Lexeme) → Keeps stated → AreLexemes line tokens → LineAnswered stated number line
    said stated number line [] kept are = inl (inl (are, kept))
    said stated number line (l ∷ ls) kept are =
        let some : (l ∷ ls) ≢ [] = λ e. absurd cc in
        elim (decided.next stated number (l ∷ ls) kept some (laws.formed line (l ∷ ls) are)) [
          | inl (s, is, sound, keeps) ↦ inl (inr (s, subst (λ (ts : List Lexeme). AreLexemes line ts) is are, sound, keeps))
          | inr (kind, first) ↦ inr (kind, inr (inr (l ∷ ls, are, some, first)))
        ]

    line_answered : (stated : List (Stated S)) (number : ℕ) (line : List ℕ) → Keeps stated → LineAnswered stated number line
    line_answered stated number line kept = elim (laws.some line) [
      | inl (tokens, are) ↦ said stated number line tokens kept are
      | inr (inl bad) ↦ inr (g.shared_kind shared.BadByte, inl (bad, refl))
      | inr (inr bad) ↦ inr (g.shared_kind shared.BadToken, inr (inl (bad, refl)))
    ]

    -- all lines are taken, or one of them has the first fault
    taken_or_bad : (all rest before : List (List ℕ)) → AreTaken g Keeps before → all ≡ before ++ rest
        → AreTaken g Keeps all ⊎ ((number : ℕ) × (kind : K) × IsFirstFault g all number kind)
    taken_or_bad all [] before h cut = inl (subst (λ (ls : List (List ℕ)). AreTaken g Keeps ls) (sym (cut ∙ append-nil before)) h)
    taken_or_bad all (line ∷ rest) before h cut = elim (line_answered h.stated (1 + length before) line h.kept) [
      | inl taken ↦ taken_or_bad all rest (before ++ line ∷ []) (taken_more g Keeps Keeps before line (1 + length before) h refl taken) (cut ∙ sym (append_assoc before (line ∷ []) rest))
      | inr (kind, fault) ↦ inr (length before + 1, kind, next_bad g Keeps all before rest line (length before + 1) kind cut h refl fault)
    ]

    pub read_or_refused : (bytes : List ℕ) → ((a : R) × IsText g Makes bytes a) ⊎ ((number : ℕ) × (kind : K) × IsRefused g bytes number kind)
    read_or_refused bytes = elim (cases_lt 65536 (length bytes)) [
      | inl long ↦ inr (0, g.shared_kind shared.TooLong, inl (long, refl, refl))
      | inr few ↦ elim (taken_or_bad (lines_of bytes) (lines_of bytes) [] (taken_none g Keeps decided.none) refl) [
        | inr (number, kind, fault) ↦ inr (number, kind, inr (inl (few, fault)))
        | inl h ↦ elim (decided.ended h.stated h.kept) [
          | inl (a, made) ↦ inl (a, (few, h.stated, h.read, made))
          | inr unended ↦ inr (length (lines_of bytes) + 1, g.shared_kind shared.EndsEarly, cut_short g Keeps bytes _ _ few h unended refl refl)
        ]
      ]
    ]
