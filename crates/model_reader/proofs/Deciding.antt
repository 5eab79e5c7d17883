-- Each line of a model file states something, or has a fault.
use Rattle.std.proofs.Common.{◌≡◌, ◌⊎◌, ℕ, ◌<◌, Bool, true, false, List, [], ◌∷◌, ◌++◌, length, Option, Some, None, codes, bytes_eq, refl, sym, ◌∙◌, ap, subst, inl, inr, arith}
use Rattle.std.proofs.lemmas.Bool.{cases_Bool, cases_lt}
use Rattle.std.proofs.lemmas.Slice.Eq.{bytes_eq-Decides}
use Rattle.lexeme_reader.specs.declared.reading.Lexeme.{Lexeme}
use Rattle.lexeme_reader.specs.declared.reading.Lexeme.TheVariants.{Word}
use Rattle.lexeme_reader.specs.Parentheses.{most_open}
use Rattle.line_files.specs.StatedLines.{Stated, stated_in, statements}
use Rattle.line_files.specs.FirstFaults.{IsFirst, IsSound, AreSound}
use Rattle.line_files.specs.Refusals.{IsUnended}
use Rattle.line_files.proofs.GeneralStating.{sound_none, sound_more}
use Rattle.line_files.proofs.GeneralReadings.{IsDecided}
use Rattle.model_reader.specs.declared.expr.Expr.{Expr}
use Rattle.model_reader.specs.declared.model.Model.{Model}
use Rattle.model_reader.specs.declared.fault.ModelKind.{ModelKind}
use Rattle.model_reader.specs.declared.fault.ModelKind.TheVariants.{BadLine, UnknownName, UnknownKind, NameTaken, TooDeep, TooMany}
use Rattle.model_reader.specs.declared.words.Vocabulary.TheVariants.{EachWord, KnownNames, KnownWords}
use Rattle.model_reader.specs.declared.draft.Stage.{Stage}
use Rattle.model_reader.specs.declared.draft.Stage.TheVariants as stage
use Rattle.model_reader.specs.declared.draft.Draft.{Draft}
use Rattle.model_reader.specs.Words.{word_of}
use Rattle.model_reader.specs.Statements.{Statement, Head, Let, Keep, End, statement_lexemes}
use Rattle.model_reader.specs.Faults.{names_for, Begin, HaveFault}
use Rattle.model_reader.specs.ModelText.{kinds, model_grammar, IsModel}
use Rattle.model_reader.specs.Drafts.{IsValue, IsValueFault, IsDraft, IsFirstKind, IsTaken, is_barred, HasRoom}
use Rattle.model_reader.proofs.Meanings.{meaning_decided}
use Rattle.model_reader.proofs.Telling.{statement_decided}
use Rattle.model_reader.proofs.Placing.{barred}
use Rattle.model_reader.proofs.Drafting.{head_taken, let_taken, keep_taken, end_taken, let_fault, keep_fault}
use Rattle.model_reader.proofs.Saying.{AreFew, sound_said, first_said, first_deep, first_many, first_none, barred_said}
use Rattle.model_reader.proofs.Rooms.{AreMany, HaveRoom, many_of, few_of, room_of}
use Rattle.model_reader.proofs.Finishing.{model_of, finished, unended}

-- tokens are an expression over names, or something is wrong with them
value_decided : (names : List (List ℕ)) (value : List Lexeme) → ((e : Expr) × IsValue names value e) ⊎ ((kind : ModelKind) × IsValueFault names value kind)
value_decided names value = elim (meaning_decided EachWord [] value) [
  | inr formless ↦ inr (BadLine, inl (refl, formless))
  | inl (f, form) ↦ elim (meaning_decided KnownNames names value) [
    | inr nameless ↦ inr (UnknownName, inr (inl (refl, (λ none. none f form), nameless)))
    | inl (n, named) ↦ elim (meaning_decided KnownWords names value) [
      | inr kindless ↦ inr (UnknownKind, inr (inr (refl, (λ none. none f form), (λ none. none n named), kindless)))
      | inl (e, means) ↦ inl (e, record { form = λ none. none f form; named = λ none. none n named; means = means })
    ]
  ]
]

-- tokens begin with a word, or don't
begin_decided : (word : List ℕ) (lexemes : List Lexeme) → Begin word lexemes ⊎ (Begin word lexemes → ⊥)
begin_decided word [] = inr (λ begins. let e : [] ≡ Word word ∷ begins.0 = begins.1 in absurd cc)
begin_decided word (Word w ∷ rest) = elim (cases_Bool (bytes_eq w word)) [
  | inl same ↦ inl (rest, ap (λ (v : List ℕ). Word v ∷ rest) ((bytes_eq-Decides w word).0 same))
  | inr other ↦ inr (λ begins.
      let e : Word w ∷ rest ≡ Word word ∷ begins.0 = begins.1 in
      let same : w ≡ word = cc in
      let is : bytes_eq w word ≡ true = (bytes_eq-Decides w word).1 same in
      let never : true ≡ false = sym is ∙ other in
      absurd cc)
]
begin_decided word (l ∷ rest) = inr (λ begins. let e : l ∷ rest ≡ Word word ∷ begins.0 = begins.1 in absurd cc)

-- there is room for tokens, or they are too many
room_decided : (d : Draft) (lexemes : List Lexeme) → AreMany d lexemes ⊎ HaveRoom d lexemes
room_decided d lexemes = elim (cases_lt 512 (length lexemes)) [
  | inl long ↦ inl (inl long)
  | inr short ↦ elim (begin_decided (codes "let") lexemes) [
    | inl begins ↦ elim (cases_lt (length d.names) 256) [
      | inr many ↦ inl (inr (inl (begins, many)))
      | inl few ↦ elim (begin_decided (codes "keep") lexemes) [
        | inl keeps ↦ elim (cases_lt (length d.keeps) 256) [
          | inr many ↦ inl (inr (inr (keeps, many)))
          | inl more ↦ inr (short, (λ b. few), (λ b. more))
        ]
        | inr none ↦ inr (short, (λ b. few), (λ b. absurd (none b)))
      ]
    ]
    | inr not_let ↦ elim (begin_decided (codes "keep") lexemes) [
      | inl keeps ↦ elim (cases_lt (length d.keeps) 256) [
        | inr many ↦ inl (inr (inr (keeps, many)))
        | inl more ↦ inr (short, (λ b. absurd (not_let b)), (λ b. more))
      ]
      | inr none ↦ inr (short, (λ b. absurd (not_let b)), (λ b. absurd (none b)))
    ]
  ]
]

-- a statement that may stand here is taken, or it has a fault
module _ (stated : List (Stated Statement)) (d : Draft) (line : ℕ) (h : IsDraft stated d) where
  abbrev Answered : Statement → Type 0
  Answered s = ((e : Draft) × IsTaken stated line s e) ⊎ ((kind : ModelKind) × IsFirstKind (statements stated) s kind)

  let_named : (r : Bool) (name : List ℕ) (value : List Lexeme) (e : Expr) (o : Option Expr) → word_of KnownNames d.names name ≡ o
      → is_barred d.stage d.version (Let r name value) ≡ false → length d.names < 256 → IsValue (names_for d.names r name) value e → Answered (Let r name value)
  let_named r name value e None free fits room is = inl (_, let_taken stated d h line r name value e _ fits room is free refl)
  let_named r name value e (Some x) taken fits room is = inr (NameTaken, let_fault stated d h r name value NameTaken fits (inr (refl, (e, is), (x, taken))))

  answered : (s : Statement) → is_barred d.stage d.version s ≡ false → HasRoom d s → Answered s
  answered (Head name number) fits room = inl (_, head_taken stated d h line name number _ fits refl)
  answered End fits room = inl (_, end_taken stated d h line _ fits refl)
  answered (Keep value) fits room = elim (value_decided d.names value) [
    | inl (e, is) ↦ inl (_, keep_taken stated d h line value e _ fits room is refl)
    | inr (kind, bad) ↦ inr (kind, keep_fault stated d h value kind fits bad)
  ]
  answered (Let r name value) fits room = elim (value_decided (names_for d.names r name) value) [
    | inl (e, is) ↦ let_named r name value e (word_of KnownNames d.names name) refl fits room is
    | inr (kind, bad) ↦ inr (kind, let_fault stated d h r name value kind fits (inl bad))
  ]

-- some draft keeps these statements, which are sound
abbrev pub AreKept : List (Stated Statement) → Type 0
AreKept stated = AreSound model_grammar stated × ((d : Draft) × IsDraft stated d)

abbrev NextIs : List (Stated Statement) → ℕ → List Lexeme → Type 0
NextIs stated number lexemes =
    ((s : Statement) × (lexemes ≡ statement_lexemes s) × IsSound model_grammar (statements stated) (statement_lexemes s) × AreKept (stated ++ stated_in number s ∷ []))
    ⊎ ((kind : ModelKind) × IsFirst (HaveFault (statements stated) lexemes) kinds kind)

stated_next : (stated : List (Stated Statement)) (number : ℕ) (lexemes : List Lexeme) (d : Draft) (h : IsDraft stated d) → AreSound model_grammar stated
    → AreFew (statements stated) lexemes → HaveRoom d lexemes → (s : Statement) → lexemes ≡ statement_lexemes s → NextIs stated number lexemes
stated_next stated number lexemes d h sound few room s is = elim (cases_Bool (is_barred d.stage d.version s)) [
  | inl bars ↦ inr (BadLine, first_none (statements stated) lexemes few (barred_said (statements stated) lexemes s is (barred stated d s h bars)))
  | inr fits ↦ elim (answered stated d number h s fits (room_of d lexemes s is room)) [
    | inl (e, taken) ↦
        let one = sound_said (statements stated) s (subst (λ (ls : List Lexeme). AreFew (statements stated) ls) is few) taken.faultless in
        inl (s, is, one, (sound_more model_grammar stated number s sound one, (e, taken.kept)))
    | inr (kind, first) ↦ inr (kind, first_said (statements stated) lexemes s kind is few first)
  ]
]

next : (stated : List (Stated Statement)) (number : ℕ) (lexemes : List Lexeme) → AreKept stated → NextIs stated number lexemes
next stated number lexemes (sound, (d, h)) = elim (cases_lt 64 (most_open 0 lexemes)) [
  | inl deep ↦ inr (TooDeep, first_deep (statements stated) lexemes deep)
  | inr shallow ↦ elim (room_decided d lexemes) [
    | inl many ↦ inr (TooMany, first_many (statements stated) lexemes (λ deep. omega arith) (many_of stated d h lexemes many))
    | inr room ↦
        let few = few_of stated d h lexemes shallow room in
        elim (statement_decided lexemes) [
          | inl (s, is) ↦ stated_next stated number lexemes d h sound few room s is
          | inr none ↦ inr (BadLine, first_none (statements stated) lexemes few (λ s e. absurd (none s e)))
        ]
  ]
]

ended_at : (stated : List (Stated Statement)) (d : Draft) (p : Stage) → d.stage ≡ p → IsDraft stated d → AreSound model_grammar stated
    → ((m : Model) × IsModel stated m) ⊎ IsUnended model_grammar stated
ended_at stated d stage.BehindEnd is h sound = inl (model_of d, finished stated d h sound is)
ended_at stated d stage.Rules is h sound = inr (unended stated d h (λ e. let never : stage.Rules ≡ stage.BehindEnd = sym is ∙ e in absurd cc))
ended_at stated d stage.BeforeHead is h sound = inr (unended stated d h (λ e. let never : stage.BeforeHead ≡ stage.BehindEnd = sym is ∙ e in absurd cc))

-- a draft of which nothing is read yet
abbrev empty_draft : Draft
empty_draft = record { stage = stage.BeforeHead; name = []; version = 1; names = []; lets = []; keeps = [] }

empty_kept : IsDraft [] empty_draft
empty_kept = record {
  stands = (refl, refl);
  names = refl;
  few_names = omega arith;
  keeps = refl;
  few_keeps = omega arith;
  rules = (refl, refl);
}

-- each line of a file is decided, and its end
pub decided : IsDecided model_grammar IsModel AreKept
decided = record {
  none = (sound_none model_grammar, (empty_draft, empty_kept));
  next = λ stated number lexemes kept some formed. next stated number lexemes kept;
  ended = λ stated kept. ended_at stated kept.1.0 kept.1.0.stage refl kept.1.1 kept.0;
}
