-- Which statement of a model file of the first version tokens are, as it is computed.
use Rattle.std.proofs.Common.{◌≡◌, ℕ, ◌==◌, true, false, List, [], ◌∷◌, Option, Some, None, codes, bytes_eq, ◌∙◌, ap, inl, inr}
use Rattle.std.specs.Prelude.{if◌then◌else◌}
use Rattle.std.proofs.lemmas.Bool.{eqb-true}
use Rattle.std.proofs.lemmas.Option.{none-some, same_Some}
use Rattle.std.proofs.lemmas.Slice.Eq.{bytes_eq-Decides}
use Rattle.lexeme_reader.specs.declared.reading.Lexeme.{Lexeme}
use Rattle.lexeme_reader.specs.declared.reading.Lexeme.TheVariants.{Word, Sign}
use Rattle.model_reader.specs.Statements.{Statement, Head, Let, Keep, End, statement_lexemes}
use Rattle.shipped_meaning.proofs.Scanning.{chosen}

-- the statement of the tokens behind `let`, `model` and `end`
abbrev pub defined_by : List Lexeme → Option Statement
defined_by (Word name ∷ Sign sign ∷ value) = if sign == 61 then Some (Let false name value) else None
defined_by tokens = None

abbrev pub headed_by : List Lexeme → Option Statement
headed_by (Word name ∷ []) = Some (Head name None)
headed_by tokens = None

abbrev pub ended_by : List Lexeme → Option Statement
ended_by [] = Some End
ended_by tokens = None

-- the statement of tokens
abbrev pub stated_by : List Lexeme → Option Statement
stated_by (Word word ∷ rest) =
    if bytes_eq word (codes "keep") then Some (Keep rest)
    else (if bytes_eq word (codes "let") then defined_by rest
    else (if bytes_eq word (codes "model") then headed_by rest
    else (if bytes_eq word (codes "end") then ended_by rest
    else None)))
stated_by tokens = None

-- tokens behind a first word
behind : (word first : List ℕ) (rest : List Lexeme) (s : Statement) → bytes_eq word first ≡ true → Word first ∷ rest ≡ statement_lexemes s
    → Word word ∷ rest ≡ statement_lexemes s
behind word first rest s same is = ap (λ (w : List ℕ). Word w ∷ rest) ((bytes_eq-Decides word first).0 same) ∙ is

let_lexemes : (rest : List Lexeme) (s : Statement) → defined_by rest ≡ Some s → Word (codes "let") ∷ rest ≡ statement_lexemes s
let_lexemes (Word name ∷ Sign sign ∷ value) s e = elim (chosen (sign == 61) _ _ s e) [
  | inl (is, at) ↦
      ap (λ (n : ℕ). Word (codes "let") ∷ Word name ∷ Sign n ∷ value) (eqb-true sign 61 is) ∙ ap statement_lexemes (same_Some (Let false name value) s at)
  | inr (other, none) ↦ absurd (none-some s none)
]
let_lexemes rest s e = absurd (none-some s e)

head_lexemes : (rest : List Lexeme) (s : Statement) → headed_by rest ≡ Some s → Word (codes "model") ∷ rest ≡ statement_lexemes s
head_lexemes (Word name ∷ []) s e = ap statement_lexemes (same_Some (Head name None) s e)
head_lexemes rest s e = absurd (none-some s e)

end_lexemes : (rest : List Lexeme) (s : Statement) → ended_by rest ≡ Some s → Word (codes "end") ∷ rest ≡ statement_lexemes s
end_lexemes [] s e = ap statement_lexemes (same_Some End s e)
end_lexemes (t ∷ rest) s e = absurd (none-some s e)

pub stated_lexemes : (tokens : List Lexeme) (s : Statement) → stated_by tokens ≡ Some s → tokens ≡ statement_lexemes s
stated_lexemes (Word word ∷ rest) s e = elim (chosen (bytes_eq word (codes "keep")) _ _ s e) [
  | inl (keep, at) ↦ behind word (codes "keep") rest s keep (ap statement_lexemes (same_Some (Keep rest) s at))
  | inr (no_keep, e1) ↦ elim (chosen (bytes_eq word (codes "let")) _ _ s e1) [
    | inl (is, at) ↦ behind word (codes "let") rest s is (let_lexemes rest s at)
    | inr (no_let, e2) ↦ elim (chosen (bytes_eq word (codes "model")) _ _ s e2) [
      | inl (is, at) ↦ behind word (codes "model") rest s is (head_lexemes rest s at)
      | inr (no_model, e3) ↦ elim (chosen (bytes_eq word (codes "end")) _ _ s e3) [
        | inl (is, at) ↦ behind word (codes "end") rest s is (end_lexemes rest s at)
        | inr (no_end, none) ↦ absurd (none-some s none)
      ]
    ]
  ]
]
stated_lexemes tokens s e = absurd (none-some s e)
