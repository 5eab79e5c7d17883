-- Whether there is room for a line, as a draft tells it.
use Rattle.std.proofs.Common.{◌≡◌, ◌⊎◌, ℕ, ◌<◌, ◌≤◌, true, false, List, ◌∷◌, length, codes, ap, subst, inl, inr, arith}
use Rattle.lexeme_reader.specs.declared.reading.Lexeme.{Lexeme}
use Rattle.lexeme_reader.specs.declared.reading.Lexeme.TheVariants.{Word, Sign}
use Rattle.line_files.specs.StatedLines.{Stated, statements}
use Rattle.lexeme_reader.specs.Parentheses.{most_open}
use Rattle.model_reader.specs.declared.draft.Draft.{Draft}
use Rattle.model_reader.specs.Statements.{Statement, Head, Let, Keep, End, statement_lexemes}
use Rattle.model_reader.specs.Faults.{Begin, AreTooMany}
use Rattle.model_reader.specs.Drafts.{IsDraft, HasRoom}
use Rattle.model_reader.proofs.Saying.{AreFew}

-- what a draft tells of many tokens or lines
abbrev pub AreMany : Draft → List Lexeme → Type 0
AreMany d lexemes = (512 < length lexemes) ⊎ (Begin (codes "let") lexemes × (256 ≤ length d.names)) ⊎ (Begin (codes "keep") lexemes × (256 ≤ length d.keeps))

-- and of few
abbrev pub HaveRoom : Draft → List Lexeme → Type 0
HaveRoom d lexemes =
    (length lexemes ≤ 512) × (Begin (codes "let") lexemes → length d.names < 256) × (Begin (codes "keep") lexemes → length d.keeps < 256)

module _ (stated : List (Stated Statement)) (d : Draft) (h : IsDraft stated d) (lexemes : List Lexeme) where
  pub many_of : AreMany d lexemes → AreTooMany (statements stated) lexemes
  many_of (inl long) = inl long
  many_of (inr (inl (begins, many))) = inr (inl (begins, subst (λ (ns : List (List ℕ)). 256 ≤ length ns) h.names many))
  many_of (inr (inr (begins, many))) = inr (inr (begins, subst (λ (n : ℕ). 256 ≤ n) h.keeps many))

  pub few_of : most_open 0 lexemes ≤ 64 → HaveRoom d lexemes → AreFew (statements stated) lexemes
  few_of shallow room = record { shallow = λ deep. omega arith; few = few }
    where
      few : AreTooMany (statements stated) lexemes → ⊥
      few (inl long) = let short = room.0 in omega arith
      few (inr (inl (begins, many))) = let some = room.1 begins in let same = ap (λ (ns : List (List ℕ)). length ns) h.names in omega arith
      few (inr (inr (begins, many))) = let some = room.2 begins in let same = h.keeps in omega arith

-- so there is room for the statement
pub room_of : (d : Draft) (lexemes : List Lexeme) (s : Statement) → lexemes ≡ statement_lexemes s → HaveRoom d lexemes → HasRoom d s
room_of d lexemes (Let true name value) e room = room.1 (Word (codes "rec") ∷ Word name ∷ Sign 61 ∷ value, e)
room_of d lexemes (Let false name value) e room = room.1 (Word name ∷ Sign 61 ∷ value, e)
room_of d lexemes (Keep value) e room = room.2 (value, e)
room_of d lexemes (Head name number) e room = tt
room_of d lexemes End e room = tt
