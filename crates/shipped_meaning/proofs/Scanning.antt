-- What a line of words and signs says, as it is computed byte by byte from the line's end.
use Rattle.std.proofs.Common.{◌≡◌, ◌⊎◌, ℕ, ◌==◌, Bool, true, false, List, [], ◌∷◌, ◌++◌, Option, Some, None, refl, sym, ◌∙◌, ap, subst, inl, inr, arith}
use Rattle.std.specs.Prelude.{if◌then◌else◌}
use Rattle.std.specs.Option.{option_map}
use Rattle.std.proofs.lemmas.Bool.{eqb-true}
use Rattle.std.proofs.lemmas.Bool.Decides.{nat_tests}
use Rattle.std.proofs.lemmas.Option.{none-some, same_Some}
use Rattle.text_scan.specs.declared.scanning.TokenKind.TheVariants as kind
use Rattle.text_scan.specs.Bytes.{is_first_byte, is_digit, is_name_byte, is_sign, is_blank}
use Rattle.text_scan.specs.Forms.{is_word}
use Rattle.text_scan.specs.Kinds.{kind_of}
use Rattle.lexeme_reader.specs.declared.reading.Lexeme.{Lexeme}
use Rattle.lexeme_reader.specs.declared.reading.Lexeme.TheVariants.{Word, Sign}
use Rattle.lexeme_reader.specs.Lexemes.{AreLexemes}
use Rattle.litmus_round_trip.proofs.Reading.{Reads, reads_line, reads_nothing, reads_blank}
use Rattle.litmus_round_trip.proofs.Pieces.{Stops, reads_word, reads_sign}

-- what name bytes and the bytes behind them say together, of which the latter say these lexemes: the name bytes have to
-- be a word
abbrev pub closed : List ℕ → List Lexeme → Option (List Lexeme)
closed [] ls = Some ls
closed (b ∷ bs) ls = if is_word (b ∷ bs) then Some (Word (b ∷ bs) ∷ ls) else None

-- the name bytes at the front of a line, and what the bytes behind them say
abbrev pub Scanned : Type 0
Scanned = List ℕ × List Lexeme

-- one byte before others
abbrev pub one_more : ℕ → List ℕ → List Lexeme → Option Scanned
one_more b name ls =
    if is_name_byte b then Some (b ∷ name, ls)
    else (if b == 32 then option_map (λ more. ([], more)) (closed name ls)
    else (if is_sign b then option_map (λ more. ([], Sign b ∷ more)) (closed name ls)
    else None))

abbrev pub before : ℕ → Option Scanned → Option Scanned
before b None = None
before b (Some s) = one_more b s.0 s.1

abbrev pub scanned : List ℕ → Option Scanned
scanned [] = Some ([], [])
scanned (b ∷ bs) = before b (scanned bs)

abbrev pub closed_all : Option Scanned → Option (List Lexeme)
closed_all None = None
closed_all (Some s) = closed s.0 s.1

-- what a line says
abbrev pub said_by : List ℕ → Option (List Lexeme)
said_by line = closed_all (scanned line)

-- of two choices the one that is something
pub chosen : {X : Type 0} (b : Bool) (x r : Option X) (s : X) → (if b then x else r) ≡ Some s
    → ((b ≡ true) × (x ≡ Some s)) ⊎ ((b ≡ false) × (r ≡ Some s))
chosen true x r s e = inl (refl, e)
chosen false x r s e = inr (refl, e)

-- a value that is mapped to something
pub mapped : {X Y : Type 0} (f : X → Y) (o : Option X) (y : Y) → option_map f o ≡ Some y → (x : X) × (o ≡ Some x) × (f x ≡ y)
mapped f None y e = absurd (none-some y e)
mapped f (Some x) y e = (x, refl, same_Some (f x) y e)

-- the bytes are these name bytes, and others that say this
pub record IsScanned (bytes name : List ℕ) (ls : List Lexeme) : Type 0 where
  pub rest : List ℕ
  pub cut : bytes ≡ name ++ rest
  pub stops : Stops is_name_byte rest
  pub reads : Reads rest ls

closed_reads : (bytes name : List ℕ) (ls more : List Lexeme) → IsScanned bytes name ls → closed name ls ≡ Some more → Reads bytes more
closed_reads bytes [] ls more h e =
    subst (λ (b : List ℕ). Reads b more) (sym h.cut) (subst (λ (l : List Lexeme). Reads h.rest l) (same_Some ls more e) h.reads)
closed_reads bytes (b ∷ bs) ls more h e = elim (chosen (is_word (b ∷ bs)) _ _ more e) [
  | inl (word, is) ↦
      subst (λ (x : List ℕ). Reads x more) (sym h.cut)
      (subst (λ (l : List Lexeme). Reads ((b ∷ bs) ++ h.rest) l) (same_Some _ more is) (reads_word (b ∷ bs) h.rest ls word h.stops h.reads))
  | inr (none, is) ↦ absurd (none-some more is)
]

-- a sign begins no other token
sign_kind : (b : ℕ) → is_sign b ≡ true → kind_of b ≡ Some kind.Sign
sign_kind b sign =
    let word : is_first_byte b ≡ false = grind (arith, nat_tests) in
    let digit : is_digit b ≡ false = grind (arith, nat_tests) in
    let slash : b == 47 ≡ false = grind (arith, nat_tests) in
    let quote : b == 34 ≡ false = grind (arith, nat_tests) in
    ap (λ (t : Bool). if t then Some kind.Word else (if is_digit b then Some kind.Number else (if b == 47 then Some kind.PathToken else (if b == 34 then Some kind.TextToken else (if is_sign b then Some kind.Sign else None))))) word
    ∙ ap (λ (t : Bool). if t then Some kind.Number else (if b == 47 then Some kind.PathToken else (if b == 34 then Some kind.TextToken else (if is_sign b then Some kind.Sign else None)))) digit
    ∙ ap (λ (t : Bool). if t then Some kind.PathToken else (if b == 34 then Some kind.TextToken else (if is_sign b then Some kind.Sign else None))) slash
    ∙ ap (λ (t : Bool). if t then Some kind.TextToken else (if is_sign b then Some kind.Sign else None)) quote
    ∙ ap (λ (t : Bool). if t then Some kind.Sign else None) sign

sign_unblank : (b : ℕ) → is_sign b ≡ true → is_blank b ≡ false
sign_unblank b sign = grind (arith, nat_tests)

-- bytes behind no name byte, of which this is known
begun : (b : ℕ) (bytes : List ℕ) (ls : List Lexeme) → is_name_byte b ≡ false → Reads (b ∷ bytes) ls → IsScanned (b ∷ bytes) [] ls
begun b bytes ls other reads = record { rest = b ∷ bytes; cut = refl; stops = other; reads = reads }

blank_reads : (b : ℕ) (bytes : List ℕ) (ls : List Lexeme) → b == 32 ≡ true → Reads bytes ls → Reads (b ∷ bytes) ls
blank_reads b bytes ls is reads = subst (λ (c : ℕ). Reads (c ∷ bytes) ls) (sym (eqb-true b 32 is)) (reads_blank bytes ls reads)

one_reads : (b : ℕ) (bytes name : List ℕ) (ls : List Lexeme) (s : Scanned) → IsScanned bytes name ls → one_more b name ls ≡ Some s
    → IsScanned (b ∷ bytes) s.0 s.1
one_reads b bytes name ls s h e = elim (chosen (is_name_byte b) _ _ s e) [
  | inl (part, is) ↦
      subst (λ (t : Scanned). IsScanned (b ∷ bytes) t.0 t.1) (same_Some _ s is)
      (record { rest = h.rest; cut = ap (λ (x : List ℕ). b ∷ x) h.cut; stops = h.stops; reads = h.reads })
  | inr (other, more) ↦ elim (chosen (b == 32) _ _ s more) [
    | inl (blank, is) ↦
        let (said, at, same) = mapped _ (closed name ls) s is in
        subst (λ (t : Scanned). IsScanned (b ∷ bytes) t.0 t.1) same
        (begun b bytes said other (blank_reads b bytes said blank (closed_reads bytes name ls said h at)))
    | inr (no_blank, further) ↦ elim (chosen (is_sign b) _ _ s further) [
      | inl (sign, is) ↦
          let (said, at, same) = mapped _ (closed name ls) s is in
          subst (λ (t : Scanned). IsScanned (b ∷ bytes) t.0 t.1) same
          (begun b bytes (Sign b ∷ said) other
          (reads_sign b bytes said (sign_kind b sign) sign (sign_unblank b sign) (closed_reads bytes name ls said h at)))
      | inr (no_sign, none) ↦ absurd (none-some s none)
    ]
  ]
]

before_reads : (b : ℕ) (bytes : List ℕ) (o : Option Scanned) (s : Scanned) → ((t : Scanned) → o ≡ Some t → IsScanned bytes t.0 t.1) → before b o ≡ Some s
    → IsScanned (b ∷ bytes) s.0 s.1
before_reads b bytes None s h e = absurd (none-some s e)
before_reads b bytes (Some t) s h e = one_reads b bytes t.0 t.1 s (h t refl) e

scanned_reads : (bytes : List ℕ) (s : Scanned) → scanned bytes ≡ Some s → IsScanned bytes s.0 s.1
scanned_reads [] s e =
    subst (λ (t : Scanned). IsScanned [] t.0 t.1) (same_Some _ s e) (record { rest = []; cut = refl; stops = tt; reads = reads_nothing })
scanned_reads (b ∷ bytes) s e = before_reads b bytes (scanned bytes) s (scanned_reads bytes) e

all_reads : (bytes : List ℕ) (o : Option Scanned) (ls : List Lexeme) → scanned bytes ≡ o → closed_all o ≡ Some ls → Reads bytes ls
all_reads bytes None ls is e = absurd (none-some ls e)
all_reads bytes (Some s) ls is e = closed_reads bytes s.0 s.1 ls (scanned_reads bytes s is) e

-- the line says what is computed of it
pub said : (line : List ℕ) (ls : List Lexeme) → said_by line ≡ Some ls → AreLexemes line ls
said line ls e = reads_line line ls (all_reads line (scanned line) ls refl e)
