-- Calls and sizes as they are read from tokens, before the numbers are known to be in range.
use Rattle.std.proofs.Common.{◌≡◌, ℕ, ◌^◌, ◌<◌, Bool, true, false, List, [], ◌∷◌, MatchOption, Option, Some, None, refl, sym, ◌∙◌, ap, ap₂, subst, arith}
use Rattle.std.specs.Bool.{then_some}
use Rattle.litmus_syntax.specs.declared.call.Call.{Call}
use Rattle.litmus_syntax.specs.declared.call.Call.TheVariants as call
use Rattle.lexeme_reader.specs.declared.reading.Lexeme.{Lexeme}
use Rattle.lexeme_reader.specs.declared.reading.Lexeme.TheVariants.{Word, Number, Path, Text}
use Rattle.litmus_reader.specs.declared.keywords.Keyword.{Keyword}
use Rattle.litmus_reader.specs.declared.keywords.Keyword.TheVariants as word
use Rattle.litmus_reader.specs.declared.statements.Said.{Said}
use Rattle.litmus_reader.specs.Keywords.{keyword_text}
use Rattle.litmus_reader.specs.Statements.{Statement, Block, Sector, Called, number, call_lexemes, statement_lexemes}
use Rattle.litmus_reader.specs.Read.{statement_of, IsCallRead, IsRead}
use Rattle.predicate_reader.specs.Predicates.{AreInRange}
use Rattle.litmus_reader.proofs.Narrow.{narrow_is, wide_is}

-- a call without numbers
pub read_plain : (lexemes : List Lexeme) (c : Call) → lexemes ≡ call_lexemes c → IsCallRead lexemes c
read_plain lexemes c e = record { call = c; lexed = e; alike = refl; same = λ r. refl }

-- a statement without numbers
pub read_as : (lexemes : List Lexeme) (s : Statement) → lexemes ≡ statement_lexemes s → IsRead lexemes s
read_as lexemes s e = record { statement = s; lexed = e; alike = refl; same = λ r. refl }

-- what is said where a test holds, and nothing where it doesn't
pub read_if : (b : Bool) (lexemes : List Lexeme) (said : Said) (P : Type 0) → (b ≡ true → lexemes ≡ statement_lexemes (statement_of said)) → (b ≡ false → P)
    → MatchOption (then_some b said) P (λ x. IsRead lexemes (statement_of x))
read_if true lexemes said P holds fails = read_as lexemes (statement_of said) (holds refl)
read_if false lexemes said P holds fails = fails refl

-- the number that a token tells, or one that it may stand for
abbrev any_of : Option ℕ → ℕ
any_of None = 2 ^ 32
any_of (Some n) = n

-- what is known of the number that is read from a token
abbrev pub IsKnown : Option ℕ → ℕ → Type 0
IsKnown o m = (n : ℕ) → o ≡ Some n → (m ≡ n) × (n < 2 ^ 32)

any_told : (o : Option ℕ) (m : ℕ) → IsKnown o m → Number o ≡ number (any_of o)
any_told None m known = ap (λ (p : Option ℕ). Number p) (sym (wide_is (2 ^ 32) (omega arith)))
any_told (Some n) m known = ap (λ (p : Option ℕ). Number p) (sym (narrow_is n (known n refl).1))

any_is : (o : Option ℕ) (m : ℕ) → IsKnown o m → (o ≡ None → ⊥) → any_of o ≡ m
any_is None m known some = absurd (some refl)
any_is (Some n) m known some = sym (known n refl).0

pub truncate_read : (k : Keyword) (path : List (List ℕ)) (o : Option ℕ) (m : ℕ) → k ≡ word.Truncate → IsKnown o m
    → IsCallRead (Word (keyword_text k) ∷ Path path ∷ Number o ∷ []) (call.Truncate path m)
truncate_read k path o m is known = record {
  call = call.Truncate path (any_of o);
  lexed = ap₂ (λ (l : Keyword) (x : Lexeme). Word (keyword_text l) ∷ Path path ∷ x ∷ []) is (any_told o m known);
  alike = refl;
  same = λ r. ap (λ (v : ℕ). call.Truncate path v) (any_is o m known (λ e. r (2, omega arith, ap (λ (p : Option ℕ). Number p) e)));
}

pub write_read : (k : Keyword) (path : List (List ℕ)) (o : Option ℕ) (m : ℕ) (text : List ℕ) → k ≡ word.Write → IsKnown o m
    → IsCallRead (Word (keyword_text k) ∷ Path path ∷ Number o ∷ Text text ∷ []) (call.Write path m text)
write_read k path o m text is known = record {
  call = call.Write path (any_of o) text;
  lexed = ap₂ (λ (l : Keyword) (x : Lexeme). Word (keyword_text l) ∷ Path path ∷ x ∷ Text text ∷ []) is (any_told o m known);
  alike = refl;
  same = λ r. ap (λ (v : ℕ). call.Write path v text) (any_is o m known (λ e. r (2, omega arith, ap (λ (p : Option ℕ). Number p) e)));
}

pub attr_read : (k : Keyword) (path : List (List ℕ)) (key : List ℕ) (o : Option ℕ) (m : ℕ) → k ≡ word.Attr → IsKnown o m
    → IsCallRead (Word (keyword_text k) ∷ Path path ∷ Word key ∷ Number o ∷ []) (call.Attr path key m)
attr_read k path key o m is known = record {
  call = call.Attr path key (any_of o);
  lexed = ap₂ (λ (l : Keyword) (x : Lexeme). Word (keyword_text l) ∷ Path path ∷ Word key ∷ x ∷ []) is (any_told o m known);
  alike = refl;
  same = λ r. ap (λ (v : ℕ). call.Attr path key v) (any_is o m known (λ e. r (3, omega arith, ap (λ (p : Option ℕ). Number p) e)));
}

-- the sizes
pub block_read : (lexemes : List Lexeme) (o : Option ℕ) (m : ℕ) → lexemes ≡ Word (keyword_text word.Block) ∷ Number o ∷ [] → IsKnown o m → IsRead lexemes (Block m)
block_read lexemes o m is known = record {
  statement = Block (any_of o);
  lexed = is ∙ ap (λ (x : Lexeme). Word (keyword_text word.Block) ∷ x ∷ []) (any_told o m known);
  alike = refl;
  same = λ r. ap (λ (v : ℕ). Block v) (any_is o m known (λ e. subst AreInRange is r (1, omega arith, ap (λ (p : Option ℕ). Number p) e)));
}

pub sector_read : (lexemes : List Lexeme) (o : Option ℕ) (m : ℕ) → lexemes ≡ Word (keyword_text word.Sector) ∷ Number o ∷ [] → IsKnown o m → IsRead lexemes (Sector m)
sector_read lexemes o m is known = record {
  statement = Sector (any_of o);
  lexed = is ∙ ap (λ (x : Lexeme). Word (keyword_text word.Sector) ∷ x ∷ []) (any_told o m known);
  alike = refl;
  same = λ r. ap (λ (v : ℕ). Sector v) (any_is o m known (λ e. subst AreInRange is r (1, omega arith, ap (λ (p : Option ℕ). Number p) e)));
}

pub read_called : (lexemes : List Lexeme) (c : Call) → IsCallRead lexemes c → IsRead lexemes (Called c)
read_called lexemes c h = record {
  statement = Called h.call;
  lexed = h.lexed;
  alike = ap (λ (d : Call). Called d) h.alike;
  same = λ r. ap (λ (d : Call). Called d) (h.same r);
}

-- tokens whose numbers are in range are the very statement that was read
pub exact : (lexemes : List Lexeme) (s : Statement) → IsRead lexemes s → AreInRange lexemes → lexemes ≡ statement_lexemes s
exact lexemes s h small = h.lexed ∙ ap statement_lexemes (h.same small)
