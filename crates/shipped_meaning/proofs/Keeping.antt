-- What a draft of a model becomes by a statement that has no fault, as it is computed.
use Rattle.std.proofs.Common.{◌≡◌, ℕ, ◌≤◌, ◌<◌, ◌&&◌, Bool, true, false, List, [], ◌∷◌, ◌++◌, length, Option, Some, None, refl, sym, inl, inr}
use Rattle.std.specs.Prelude.{if◌then◌else◌, not, nat_le, nat_lt, is_some}
use Rattle.std.specs.Option.{option_map}
use Rattle.std.proofs.lemmas.Bool.{true≢false, leb-true, ltb-true}
use Rattle.std.proofs.lemmas.Option.{none-some, same_Some}
use Rattle.lexeme_reader.specs.declared.reading.Lexeme.{Lexeme}
use Rattle.lexeme_reader.specs.Parentheses.{most_open}
use Rattle.line_files.specs.StatedLines.{Stated, stated_in, statements}
use Rattle.line_files.specs.FirstFaults.{IsSound}
use Rattle.model_reader.specs.declared.expr.Expr.{Expr}
use Rattle.model_reader.specs.declared.words.Vocabulary.TheVariants.{EachWord, KnownNames, KnownWords}
use Rattle.model_reader.specs.declared.draft.Stage.TheVariants as stage
use Rattle.model_reader.specs.declared.draft.Draft.{Draft}
use Rattle.model_reader.specs.Words.{word_of}
use Rattle.model_reader.specs.Machine.{expression_of}
use Rattle.model_reader.specs.Statements.{Statement, Head, Let, Keep, End, statement_lexemes, version_named}
use Rattle.model_reader.specs.Faults.{names_for}
use Rattle.model_reader.specs.ModelText.{model_grammar}
use Rattle.model_reader.specs.Drafts.{IsValue, IsDraft, IsTaken, is_barred}
use Rattle.model_reader.proofs.Sounding.{whole_read}
use Rattle.model_reader.proofs.Drafting.{head_taken, let_taken, keep_taken, end_taken}
use Rattle.model_reader.proofs.Rooms.{few_of}
use Rattle.model_reader.proofs.Saying.{AreFew, sound_said}
use Rattle.litmus_round_trip.proofs.Pieces.{left, right}
use Rattle.shipped_meaning.proofs.Scanning.{chosen, mapped}

-- the expression that tokens are over these names
abbrev pub value_of : List (List ℕ) → List Lexeme → Option Expr
value_of names value =
    if is_some (expression_of EachWord [] value) && is_some (expression_of KnownNames names value) then expression_of KnownWords names value else None

-- there is room for a statement, which may stand here
abbrev pub has_room : Draft → Statement → Bool
has_room d s =
    not (is_barred d.stage d.version s) && nat_le (most_open 0 (statement_lexemes s)) 64 && nat_le (length (statement_lexemes s)) 512
    && nat_lt (length d.names) 256 && nat_lt (length d.keeps) 256

-- the draft with one statement more
abbrev pub with_statement : Draft → Statement → Option Draft
with_statement d (Head name number) = Some (record d { stage = stage.Rules; name = name; version = version_named number })
with_statement d (Let recursive name value) =
    if is_some (word_of KnownNames d.names name) then None
    else option_map
    (λ x. record d { names = d.names ++ name ∷ []; lets = d.lets ++ record { value = x; before = length d.keeps; recursive = recursive } ∷ [] })
    (value_of (names_for d.names recursive name) value)
with_statement d (Keep value) = option_map (λ x. record d { keeps = d.keeps ++ x ∷ [] }) (value_of d.names value)
with_statement d End = Some (record d { stage = stage.BehindEnd })

abbrev pub behind_statement : Draft → Statement → Option Draft
behind_statement d s = if has_room d s then with_statement d s else None

something : {X : Type 0} (o : Option X) → is_some o ≡ true → (x : X) × (o ≡ Some x)
something None is = absurd (true≢false (sym is))
something (Some x) is = (x, refl)

nothing : {X : Type 0} (o : Option X) → is_some o ≡ false → o ≡ None
nothing None is = refl
nothing (Some x) is = absurd (true≢false is)

-- what is computed of tokens is the expression that they are
value_is : (names : List (List ℕ)) (value : List Lexeme) (x : Expr) → value_of names value ≡ Some x → IsValue names value x
value_is names value x e = elim (chosen (is_some (expression_of EachWord [] value) && is_some (expression_of KnownNames names value)) _ _ x e) [
  | inl (both, known) ↦
      let (f, form) = something (expression_of EachWord [] value)
      (left (is_some (expression_of EachWord [] value)) (is_some (expression_of KnownNames names value)) both) in
      let (n, named) = something (expression_of KnownNames names value)
      (right (is_some (expression_of EachWord [] value)) (is_some (expression_of KnownNames names value)) both) in
      record {
        form = λ none. none f (whole_read EachWord [] value f form);
        named = λ none. none n (whole_read KnownNames names value n named);
        means = whole_read KnownWords names value x known;
      }
  | inr (other, none) ↦ absurd (none-some x none)
]

-- there is room for the statement, and it may stand here
record Fits (d : Draft) (s : Statement) : Type 0 where
  pub stands : is_barred d.stage d.version s ≡ false
  pub shallow : most_open 0 (statement_lexemes s) ≤ 64
  pub short : length (statement_lexemes s) ≤ 512
  pub names : length d.names < 256
  pub keeps : length d.keeps < 256

unbarred : (b : Bool) → not b ≡ true → b ≡ false
unbarred true is = absurd (true≢false (sym is))
unbarred false is = refl

fits : (d : Draft) (s : Statement) → has_room d s ≡ true → Fits d s
fits d s room =
    let stands = not (is_barred d.stage d.version s) in
    let shallow = nat_le (most_open 0 (statement_lexemes s)) 64 in
    let short = nat_le (length (statement_lexemes s)) 512 in
    let names = nat_lt (length d.names) 256 in
    let keeps = nat_lt (length d.keeps) 256 in
    let r4 : stands && shallow && short && names ≡ true = left (stands && shallow && short && names) keeps room in
    let r3 : stands && shallow && short ≡ true = left (stands && shallow && short) names r4 in
    let r2 : stands && shallow ≡ true = left (stands && shallow) short r3 in
    record {
      stands = unbarred (is_barred d.stage d.version s) (left stands shallow r2);
      shallow = leb-true (most_open 0 (statement_lexemes s)) 64 (right stands shallow r2);
      short = leb-true (length (statement_lexemes s)) 512 (right (stands && shallow) short r3);
      names = ltb-true (length d.names) 256 (right (stands && shallow && short) names r4);
      keeps = ltb-true (length d.keeps) 256 (right (stands && shallow && short && names) keeps room);
    }

module _ (stated : List (Stated Statement)) (d : Draft) (h : IsDraft stated d) (line : ℕ) where
  taken : (s : Statement) (e : Draft) → Fits d s → with_statement d s ≡ Some e → IsTaken stated line s e
  taken (Head name number) e f is = head_taken stated d h line name number e f.stands (sym (same_Some _ e is))
  taken (Let recursive name value) e f is = elim (chosen (is_some (word_of KnownNames d.names name)) _ _ e is) [
    | inl (used, none) ↦ absurd (none-some e none)
    | inr (free, at) ↦
        let (x, known, same) = mapped _ (value_of (names_for d.names recursive name) value) e at in
        let_taken stated d h line recursive name value x e f.stands f.names (value_is (names_for d.names recursive name) value x known)
        (nothing (word_of KnownNames d.names name) free) (sym same)
  ]
  taken (Keep value) e f is =
      let (x, known, same) = mapped _ (value_of d.names value) e is in
      keep_taken stated d h line value x e f.stands f.keeps (value_is d.names value x known) (sym same)
  taken End e f is = end_taken stated d h line e f.stands (sym (same_Some _ e is))

  few : (s : Statement) → Fits d s → AreFew (statements stated) (statement_lexemes s)
  few s f = few_of stated d h (statement_lexemes s) f.shallow (f.short, (λ let_line. f.names), (λ keep_line. f.keeps))

  -- the statement has no fault, and the draft keeps it
  pub statement_taken : (s : Statement) (e : Draft) → behind_statement d s ≡ Some e
      → IsSound model_grammar (statements stated) (statement_lexemes s) × IsDraft (stated ++ stated_in line s ∷ []) e
  statement_taken s e is = elim (chosen (has_room d s) _ _ e is) [
    | inl (room, at) ↦
        let f = fits d s room in
        let t = taken s e f at in
        (sound_said (statements stated) s (few s f) t.faultless, t.kept)
    | inr (full, none) ↦ absurd (none-some e none)
  ]
