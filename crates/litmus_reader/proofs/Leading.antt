-- Each statement begins with a keyword of its own, and the tokens behind it tell the statement.
use Rattle.std.proofs.Common.{◌≡◌, ◌⊎◌, ℕ, ◌^◌, true, false, List, [], ◌∷◌, drop, get_or, Option, Some, None, if◌then◌else◌, bytes_eq, codes, refl, sym, ◌∙◌, ap, ap₂, subst, inl, inr, arith}
use Rattle.std.proofs.lemmas.Bool.{cases_lt}
use Rattle.litmus_syntax.specs.declared.call.Call.{Call}
use Rattle.litmus_syntax.specs.declared.call.Call.TheVariants as call
use Rattle.lexeme_reader.specs.declared.reading.Lexeme.{Lexeme}
use Rattle.lexeme_reader.specs.declared.reading.Lexeme.TheVariants.{Word, Number, Path, Text, Sign}
use Rattle.litmus_reader.specs.declared.keywords.Keyword.{Keyword}
use Rattle.litmus_reader.specs.declared.keywords.Keyword.TheVariants as word
use Rattle.lexeme_reader.specs.Lexemes.{narrowed}
use Rattle.litmus_reader.specs.Keywords.{keyword_text}
use Rattle.litmus_reader.specs.Statements.{Statement, Head, Block, Sector, Setup, Body, Called, Question, number, call_lexemes, statement_lexemes}
use Rattle.litmus_reader.specs.Read.{numberless_call, numberless}
use Rattle.lexeme_reader.proofs.GeneralTokens.{tokens_equal}
use Rattle.litmus_reader.proofs.Narrow.{narrow_is, wide_is}
use Rattle.predicate_reader.specs.Predicates.{AreInRange}

-- the keyword that the bytes are, if they are one
keyword_at : List ℕ → Keyword
keyword_at w =
    if bytes_eq w (codes "litmus") then word.Litmus
    else (if bytes_eq w (codes "block") then word.Block
    else (if bytes_eq w (codes "sector") then word.Sector
    else (if bytes_eq w (codes "setup") then word.Setup
    else (if bytes_eq w (codes "body") then word.Body
    else (if bytes_eq w (codes "exists") then word.Exists
    else (if bytes_eq w (codes "always") then word.Always
    else (if bytes_eq w (codes "mkdir") then word.Mkdir
    else (if bytes_eq w (codes "create") then word.Create
    else (if bytes_eq w (codes "write") then word.Write
    else (if bytes_eq w (codes "append") then word.Append
    else (if bytes_eq w (codes "truncate") then word.Truncate
    else (if bytes_eq w (codes "link") then word.Link
    else (if bytes_eq w (codes "unlink") then word.Unlink
    else (if bytes_eq w (codes "rename") then word.Rename
    else (if bytes_eq w (codes "attr") then word.Attr
    else (if bytes_eq w (codes "fsync") then word.Fsync
    else (if bytes_eq w (codes "fsyncdir") then word.FsyncDir
    else (if bytes_eq w (codes "sync") then word.Sync
    else (if bytes_eq w (codes "mark") then word.Mark
    else (if bytes_eq w (codes "begin") then word.Begin
    else word.Commit))))))))))))))))))))

found : (k : Keyword) → keyword_at (keyword_text k) ≡ k
unfolding keyword_at
found word.Litmus = refl
found word.Block = refl
found word.Sector = refl
found word.Setup = refl
found word.Body = refl
found word.Exists = refl
found word.Always = refl
found word.Mkdir = refl
found word.Create = refl
found word.Write = refl
found word.Append = refl
found word.Truncate = refl
found word.Link = refl
found word.Unlink = refl
found word.Rename = refl
found word.Attr = refl
found word.Fsync = refl
found word.FsyncDir = refl
found word.Sync = refl
found word.Mark = refl
found word.Begin = refl
found word.Commit = refl

-- no two keywords are written alike
pub keyword_once : (k l : Keyword) → keyword_text k ≡ keyword_text l → k ≡ l
keyword_once k l e = sym (found k) ∙ ap keyword_at e ∙ found l

abbrev pub call_keyword : Call → Keyword
call_keyword (call.Mkdir path) = word.Mkdir
call_keyword (call.Create path) = word.Create
call_keyword (call.Write path at text) = word.Write
call_keyword (call.Append path text) = word.Append
call_keyword (call.Truncate path size) = word.Truncate
call_keyword (call.Link from to) = word.Link
call_keyword (call.Unlink path) = word.Unlink
call_keyword (call.Rename from to) = word.Rename
call_keyword (call.Attr path key value) = word.Attr
call_keyword (call.Fsync path) = word.Fsync
call_keyword (call.FsyncDir path) = word.FsyncDir
call_keyword call.Sync = word.Sync
call_keyword (call.Mark name) = word.Mark
call_keyword call.Begin = word.Begin
call_keyword call.Commit = word.Commit

abbrev pub statement_keyword : Statement → Keyword
statement_keyword (Head name version) = word.Litmus
statement_keyword (Block size) = word.Block
statement_keyword (Sector size) = word.Sector
statement_keyword Setup = word.Setup
statement_keyword Body = word.Body
statement_keyword (Called c) = call_keyword c
statement_keyword (Question true asked) = word.Exists
statement_keyword (Question false asked) = word.Always

call_led : (c : Call) → call_lexemes c ≡ Word (keyword_text (call_keyword c)) ∷ drop 1 (call_lexemes c)
call_led (call.Mkdir path) = refl
call_led (call.Create path) = refl
call_led (call.Write path at text) = refl
call_led (call.Append path text) = refl
call_led (call.Truncate path size) = refl
call_led (call.Link from to) = refl
call_led (call.Unlink path) = refl
call_led (call.Rename from to) = refl
call_led (call.Attr path key value) = refl
call_led (call.Fsync path) = refl
call_led (call.FsyncDir path) = refl
call_led call.Sync = refl
call_led (call.Mark name) = refl
call_led call.Begin = refl
call_led call.Commit = refl

pub statement_led : (s : Statement) → statement_lexemes s ≡ Word (keyword_text (statement_keyword s)) ∷ drop 1 (statement_lexemes s)
statement_led (Head name None) = refl
statement_led (Head name (Some version)) = refl
statement_led (Block size) = refl
statement_led (Sector size) = refl
statement_led Setup = refl
statement_led Body = refl
statement_led (Called c) = call_led c
statement_led (Question true asked) = refl
statement_led (Question false asked) = refl

same_word : (a b : List ℕ) (r s : List Lexeme) → Word a ∷ r ≡ Word b ∷ s → (a ≡ b) × (r ≡ s)
same_word a b r s e = let first : Word a ≡ Word b = cc in (cc, cc)

-- the keyword and the tokens behind it are those of the statement
pub led_by : (k : Keyword) (rest : List Lexeme) (s : Statement) → Word (keyword_text k) ∷ rest ≡ statement_lexemes s
    → (k ≡ statement_keyword s) × (rest ≡ drop 1 (statement_lexemes s))
led_by k rest s e =
    let both = same_word (keyword_text k) (keyword_text (statement_keyword s)) rest (drop 1 (statement_lexemes s)) (e ∙ statement_led s) in
    (keyword_once k (statement_keyword s) both.0, both.1)

word_in : Lexeme → List ℕ
word_in (Word w) = w
word_in l = []

number_in : Lexeme → ℕ
number_in (Number (Some n)) = n
number_in (Number None) = 2 ^ 32
number_in l = 0

path_in : Lexeme → List (List ℕ)
path_in (Path p) = p
path_in l = []

text_in : Lexeme → List ℕ
text_in (Text t) = t
text_in l = []

nth : List Lexeme → ℕ → Lexeme
nth ls i = get_or ls i (Sign 0)

-- the number of a head, from the tokens behind its name
head_number : List Lexeme → Option ℕ
head_number [] = None
head_number (l ∷ ls) = Some (number_in l)

-- the statement of this keyword with those tokens
statement_from : Keyword → List Lexeme → Statement
statement_from word.Litmus ls = Head (word_in (nth ls 0)) (head_number (drop 1 ls))
statement_from word.Block ls = Block (number_in (nth ls 0))
statement_from word.Sector ls = Sector (number_in (nth ls 0))
statement_from word.Setup ls = Setup
statement_from word.Body ls = Body
statement_from word.Exists ls = Question true (drop 1 ls)
statement_from word.Always ls = Question false (drop 1 ls)
statement_from word.Mkdir ls = Called (call.Mkdir (path_in (nth ls 0)))
statement_from word.Create ls = Called (call.Create (path_in (nth ls 0)))
statement_from word.Write ls = Called (call.Write (path_in (nth ls 0)) (number_in (nth ls 1)) (text_in (nth ls 2)))
statement_from word.Append ls = Called (call.Append (path_in (nth ls 0)) (text_in (nth ls 1)))
statement_from word.Truncate ls = Called (call.Truncate (path_in (nth ls 0)) (number_in (nth ls 1)))
statement_from word.Link ls = Called (call.Link (path_in (nth ls 0)) (path_in (nth ls 1)))
statement_from word.Unlink ls = Called (call.Unlink (path_in (nth ls 0)))
statement_from word.Rename ls = Called (call.Rename (path_in (nth ls 0)) (path_in (nth ls 1)))
statement_from word.Attr ls = Called (call.Attr (path_in (nth ls 0)) (word_in (nth ls 1)) (number_in (nth ls 2)))
statement_from word.Fsync ls = Called (call.Fsync (path_in (nth ls 0)))
statement_from word.FsyncDir ls = Called (call.FsyncDir (path_in (nth ls 0)))
statement_from word.Sync ls = Called call.Sync
statement_from word.Mark ls = Called (call.Mark (word_in (nth ls 0)))
statement_from word.Begin ls = Called call.Begin
statement_from word.Commit ls = Called call.Commit

-- the statement that the tokens of a statement tell
told : Statement → Statement
told s = statement_from (statement_keyword s) (drop 1 (statement_lexemes s))

call_alike : (c : Call) → numberless (statement_from (call_keyword c) (drop 1 (call_lexemes c))) ≡ Called (numberless_call c)
unfolding statement_from nth word_in path_in text_in
call_alike (call.Mkdir path) = refl
call_alike (call.Create path) = refl
call_alike (call.Write path at text) = refl
call_alike (call.Append path text) = refl
call_alike (call.Truncate path size) = refl
call_alike (call.Link from to) = refl
call_alike (call.Unlink path) = refl
call_alike (call.Rename from to) = refl
call_alike (call.Attr path key value) = refl
call_alike (call.Fsync path) = refl
call_alike (call.FsyncDir path) = refl
call_alike call.Sync = refl
call_alike (call.Mark name) = refl
call_alike call.Begin = refl
call_alike call.Commit = refl

told_alike : (s : Statement) → numberless (told s) ≡ numberless s
unfolding told statement_from nth word_in number_in path_in text_in head_number
told_alike (Head name None) = refl
told_alike (Head name (Some version)) = refl
told_alike (Block size) = refl
told_alike (Sector size) = refl
told_alike Setup = refl
told_alike Body = refl
told_alike (Called c) = call_alike c
told_alike (Question true asked) = refl
told_alike (Question false asked) = refl

-- a number in range is told by its token
number_told : (n : ℕ) → (Number None ≡ number n → ⊥) → number_in (number n) ≡ n
unfolding number_in
number_told n small = elim (cases_lt n (2 ^ 32)) [
  | inl below ↦ ap (λ (o : Option ℕ). number_in (Number o)) (narrow_is n below)
  | inr above ↦ absurd (small (ap (λ (o : Option ℕ). Number o) (sym (wide_is n above))))
]

call_told : (c : Call) → AreInRange (call_lexemes c) → statement_from (call_keyword c) (drop 1 (call_lexemes c)) ≡ Called c
unfolding statement_from nth word_in path_in text_in
call_told (call.Mkdir path) small = refl
call_told (call.Create path) small = refl
call_told (call.Write path at text) small =
    ap (λ (n : ℕ). Called (call.Write path n text)) (number_told at (λ e. small (2, omega arith, sym e)))
call_told (call.Append path text) small = refl
call_told (call.Truncate path size) small = ap (λ (n : ℕ). Called (call.Truncate path n)) (number_told size (λ e. small (2, omega arith, sym e)))
call_told (call.Link from to) small = refl
call_told (call.Unlink path) small = refl
call_told (call.Rename from to) small = refl
call_told (call.Attr path key value) small =
    ap (λ (n : ℕ). Called (call.Attr path key n)) (number_told value (λ e. small (3, omega arith, sym e)))
call_told (call.Fsync path) small = refl
call_told (call.FsyncDir path) small = refl
call_told call.Sync small = refl
call_told (call.Mark name) small = refl
call_told call.Begin small = refl
call_told call.Commit small = refl

told_is : (s : Statement) → AreInRange (statement_lexemes s) → told s ≡ s
unfolding told statement_from nth word_in number_in head_number
told_is (Head name None) small = refl
told_is (Head name (Some version)) small = refl
told_is (Block size) small = ap (λ (n : ℕ). Block n) (number_told size (λ e. small (1, omega arith, sym e)))
told_is (Sector size) small = ap (λ (n : ℕ). Sector n) (number_told size (λ e. small (1, omega arith, sym e)))
told_is Setup small = refl
told_is Body small = refl
told_is (Called c) small = call_told c small
told_is (Question true asked) small = refl
told_is (Question false asked) small = refl

told_once : (s t : Statement) → statement_lexemes s ≡ statement_lexemes t → told s ≡ told t
unfolding told
told_once s t e =
    let both = led_by (statement_keyword s) (drop 1 (statement_lexemes s)) t (sym (statement_led s) ∙ e) in
    ap₂ statement_from both.0 both.1

-- tokens are one statement at most, but for numbers above 2^32 - 1
pub alike_statement : (s t : Statement) → statement_lexemes s ≡ statement_lexemes t → numberless s ≡ numberless t
alike_statement s t e = sym (told_alike s) ∙ ap numberless (told_once s t e) ∙ told_alike t

pub one_statement : (s t : Statement) → AreInRange (statement_lexemes s) → statement_lexemes s ≡ statement_lexemes t → s ≡ t
one_statement s t small e =
    sym (told_is s small) ∙ told_once s t e ∙ told_is t (subst AreInRange e small)

-- a blank line states nothing
pub no_statement_blank : (s : Statement) → statement_lexemes s ≡ [] → ⊥
no_statement_blank s e =
    let both : Word (keyword_text (statement_keyword s)) ∷ drop 1 (statement_lexemes s) ≡ [] = sym (statement_led s) ∙ e in
    cc

-- the tokens of the statement that tokens tell are those
number_back : (n : ℕ) → number (number_in (number n)) ≡ number n
unfolding number_in
number_back n = elim (cases_lt n (2 ^ 32)) [
  | inl below ↦ ap (λ (o : Option ℕ). number (number_in (Number o))) (narrow_is n below)
  | inr above ↦
      ap (λ (o : Option ℕ). number (number_in (Number o))) (wide_is n above)
      ∙ ap (λ (o : Option ℕ). Number o) (wide_is (2 ^ 32) (omega arith) ∙ sym (wide_is n above))
]

call_back : (c : Call) → statement_lexemes (statement_from (call_keyword c) (drop 1 (call_lexemes c))) ≡ call_lexemes c
unfolding statement_from nth word_in path_in text_in
call_back (call.Mkdir path) = refl
call_back (call.Create path) = refl
call_back (call.Write path at text) = ap (λ (l : Lexeme). Word (codes "write") ∷ Path path ∷ l ∷ Text text ∷ []) (number_back at)
call_back (call.Append path text) = refl
call_back (call.Truncate path size) = ap (λ (l : Lexeme). Word (codes "truncate") ∷ Path path ∷ l ∷ []) (number_back size)
call_back (call.Link from to) = refl
call_back (call.Unlink path) = refl
call_back (call.Rename from to) = refl
call_back (call.Attr path key value) = ap (λ (l : Lexeme). Word (codes "attr") ∷ Path path ∷ Word key ∷ l ∷ []) (number_back value)
call_back (call.Fsync path) = refl
call_back (call.FsyncDir path) = refl
call_back call.Sync = refl
call_back (call.Mark name) = refl
call_back call.Begin = refl
call_back call.Commit = refl

told_back : (s : Statement) → statement_lexemes (told s) ≡ statement_lexemes s
unfolding told statement_from nth word_in number_in head_number
told_back (Head name None) = refl
told_back (Head name (Some version)) = refl
told_back (Block size) = ap (λ (l : Lexeme). Word (codes "block") ∷ l ∷ []) (number_back size)
told_back (Sector size) = ap (λ (l : Lexeme). Word (codes "sector") ∷ l ∷ []) (number_back size)
told_back Setup = refl
told_back Body = refl
told_back (Called c) = call_back c
told_back (Question true asked) = refl
told_back (Question false asked) = refl

-- behind `setup` and `body` stands a colon alone
part_told : (k : Keyword) (rest : List Lexeme) (s part : Statement) → statement_from k rest ≡ part → Word (keyword_text k) ∷ rest ≡ statement_lexemes s
    → Word (keyword_text k) ∷ rest ≡ statement_lexemes part
unfolding told
part_told k rest s part is e =
    let both = led_by k rest s e in
    e ∙ sym (told_back s) ∙ sym (ap₂ (λ (l : Keyword) (ls : List Lexeme). statement_lexemes (statement_from l ls)) both.0 both.1) ∙ ap statement_lexemes is

pub setup_told : (k : Keyword) (rest : List Lexeme) (s : Statement) → k ≡ word.Setup → Word (keyword_text k) ∷ rest ≡ statement_lexemes s → rest ≡ Sign 58 ∷ []
unfolding statement_from
setup_told k rest s is e = (same_word (keyword_text k) (codes "setup") rest (Sign 58 ∷ []) (part_told k rest s Setup (ap (λ (l : Keyword). statement_from l rest) is) e)).1

pub body_told : (k : Keyword) (rest : List Lexeme) (s : Statement) → k ≡ word.Body → Word (keyword_text k) ∷ rest ≡ statement_lexemes s → rest ≡ Sign 58 ∷ []
unfolding statement_from
body_told k rest s is e = (same_word (keyword_text k) (codes "body") rest (Sign 58 ∷ []) (part_told k rest s Body (ap (λ (l : Keyword). statement_from l rest) is) e)).1

-- behind `block` and `sector` stands a number alone
pub block_told : (rest : List Lexeme) (s : Statement) → Word (keyword_text word.Block) ∷ rest ≡ statement_lexemes s → (n : Option ℕ) × (rest ≡ Number n ∷ [])
unfolding statement_from
block_told rest s e =
    let n = narrowed (number_in (nth rest 0)) in
    (n, (same_word (codes "block") (codes "block") rest (Number n ∷ []) (part_told word.Block rest s (Block (number_in (nth rest 0))) refl e)).1)

pub sector_told : (rest : List Lexeme) (s : Statement) → Word (keyword_text word.Sector) ∷ rest ≡ statement_lexemes s → (n : Option ℕ) × (rest ≡ Number n ∷ [])
unfolding statement_from
sector_told rest s e =
    let n = narrowed (number_in (nth rest 0)) in
    (n, (same_word (codes "sector") (codes "sector") rest (Number n ∷ []) (part_told word.Sector rest s (Sector (number_in (nth rest 0))) refl e)).1)

-- tokens are a statement, or they are none
pub statement_decided : (tokens : List Lexeme) → ((s : Statement) × (tokens ≡ statement_lexemes s)) ⊎ ((s : Statement) → tokens ≡ statement_lexemes s → ⊥)
unfolding told
statement_decided [] = inr (λ s e. no_statement_blank s (sym e))
statement_decided (Word w ∷ rest) = elim (tokens_equal (Word w ∷ rest) (statement_lexemes (statement_from (keyword_at w) rest))) [
  | inl is ↦ inl (statement_from (keyword_at w) rest, is)
  | inr other ↦ inr (λ s e.
      let both = same_word w (keyword_text (statement_keyword s)) rest (drop 1 (statement_lexemes s)) (e ∙ statement_led s) in
      let named : keyword_at w ≡ statement_keyword s = ap keyword_at both.0 ∙ found (statement_keyword s) in
      other (e ∙ sym (told_back s) ∙ sym (ap₂ (λ (k : Keyword) (ls : List Lexeme). statement_lexemes (statement_from k ls)) named both.1)))
]
statement_decided (l ∷ rest) = inr (λ s e. let led : l ∷ rest ≡ Word (keyword_text (statement_keyword s)) ∷ drop 1 (statement_lexemes s) = e ∙ statement_led s in absurd cc)
