-- Private: what a reader of an expression knows before each token, and what it is at the end.
use Rattle.std.specs.Prelude.{ℕ, true, false, ◌&&◌, ◌==◌, if◌then◌else◌, List, [], ◌∷◌, Option, Some, None, bit_or}
use Rattle.std.specs.Option.{option_map}
use Rattle.lexeme_reader.specs.declared.reading.Lexeme.{Lexeme}
use Rattle.lexeme_reader.specs.declared.reading.Lexeme.TheVariants.{Word, Sign}
use Rattle.model_reader.specs.declared.expr.Expr.{Expr}
use Rattle.model_reader.specs.declared.expr.Expr.TheVariants as expr
use Rattle.model_reader.specs.declared.operator.Operator.{Operator}
use Rattle.model_reader.specs.declared.operator.Operator.TheVariants.{Union, Intersection, Sequence}
use Rattle.model_reader.specs.declared.waiting.Waiting.{Waiting}
use Rattle.model_reader.specs.declared.reading.Place.{Place}
use Rattle.model_reader.specs.declared.reading.Place.TheVariants as place
use Rattle.model_reader.specs.declared.words.Vocabulary.{Vocabulary}
use Rattle.model_reader.specs.Words.{word_of, bit_of}
use Rattle.model_reader.specs.Expressions.{joined}

-- nothing waits
abbrev pub nothing : Waiting
nothing = record { union = None; intersection = None; sequence = None }

-- an operand joined to what waits on its left, if something does
abbrev pub joined_left : Operator → Option Expr → Expr → Expr
joined_left o None right = right
joined_left o (Some left) right = joined o left right

-- what waits and binds at least as tight as an operator, joined with the operand behind it
abbrev pub settled : Operator → Waiting → Expr → Expr
settled Sequence w e = joined_left Sequence w.sequence e
settled Intersection w e = joined_left Intersection w.intersection (joined_left Sequence w.sequence e)
settled Union w e = joined_left Union w.union (joined_left Intersection w.intersection (joined_left Sequence w.sequence e))

-- what waits behind an operator with this on its left
abbrev pub waits : Operator → Waiting → Expr → Waiting
waits Sequence w left = record { union = w.union; intersection = w.intersection; sequence = Some left }
waits Intersection w left = record { union = w.union; intersection = Some left; sequence = None }
waits Union w left = record { union = Some left; intersection = None; sequence = None }

-- what stands before a place, what waits in the innermost parentheses, and what waits around them, the innermost first
pub record State : Type 0 where
  pub place : Place
  pub waiting : Waiting
  pub outer : List Waiting

abbrev pub state : Place → Waiting → List Waiting → State
state p w outer = record { place = p; waiting = w; outer = outer }

-- a place and what waits there, with what waits around it
abbrev pub shown : Option (Place × Waiting) → List Waiting → Option State
shown o outer = option_map (λ standing. state standing.0 standing.1 outer) o

-- behind a `)`
abbrev pub inner_closed : Waiting → Expr → List Waiting → Option State
inner_closed w e [] = None
inner_closed w e (around ∷ outer) = Some (state (place.Behind (settled Union w e)) around outer)

-- behind a sign that stands behind an operand
abbrev pub sign_behind : ℕ → Waiting → Expr → List Waiting → Option State
sign_behind sign w e outer =
    if sign == 43 then Some (state (place.Behind (expr.Plus e)) w outer)
    else (if sign == 41 then inner_closed w e outer
    else (if sign == 59 then Some (state place.Operand (waits Sequence w (settled Sequence w e)) outer)
    else (if sign == 38 then Some (state place.Operand (waits Intersection w (settled Intersection w e)) outer)
    else (if sign == 124 then Some (state place.Operand (waits Union w (settled Union w e)) outer)
    else None))))

-- behind a sign where an operand is due
abbrev pub sign_due : ℕ → Waiting → List Waiting → Option State
sign_due sign w outer =
    if sign == 40 then Some (state place.Operand nothing (w ∷ outer))
    else (if sign == 91 then Some (state (place.Brackets 0 false) w outer)
    else None)

-- behind one more token, if it may stand there
abbrev pub stepped : Vocabulary → List (List ℕ) → Place → Waiting → List Waiting → Lexeme → Option State
stepped words names place.Operand w outer (Word word) = option_map (λ e. state (place.Behind e) w outer) (word_of words names word)
stepped words names place.Operand w outer (Sign sign) = sign_due sign w outer
stepped words names (place.Brackets bits some) w outer (Word word) =
    option_map (λ bit. state (place.Brackets (bit_or bits bit) true) w outer) (bit_of words word)
stepped words names (place.Brackets bits some) w outer (Sign sign) =
    if sign == 93 && some then Some (state (place.Behind (expr.Kinds bits)) w outer) else None
stepped words names (place.Behind e) w outer (Sign sign) = sign_behind sign w e outer
stepped words names p w outer lexeme = None

-- the expression at the end
abbrev pub ended : Place → Waiting → List Waiting → Option Expr
ended (place.Behind e) w [] = Some (settled Union w e)
ended p w outer = None

-- the expression that these tokens complete
abbrev pub run : Vocabulary → List (List ℕ) → Option State → List Lexeme → Option Expr
run words names None tokens = None
run words names (Some s) [] = ended s.place s.waiting s.outer
run words names (Some s) (token ∷ tokens) = run words names (stepped words names s.place s.waiting s.outer token) tokens

abbrev pub expression_of : Vocabulary → List (List ℕ) → List Lexeme → Option Expr
expression_of words names tokens = run words names (Some (state place.Operand nothing [])) tokens
