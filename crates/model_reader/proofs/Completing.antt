-- What is an expression by the grammar is read as that expression.
use Rattle.std.proofs.Common.{◌≡◌, ℕ, Bool, true, false, List, [], ◌∷◌, ◌++◌, map, Option, Some, None, refl, sym, ◌∙◌, ap, ap₂, append_assoc, append-nil, bit_or}
use Rattle.std.specs.Option.{option_map}
use Rattle.lexeme_reader.specs.declared.reading.Lexeme.{Lexeme}
use Rattle.lexeme_reader.specs.declared.reading.Lexeme.TheVariants.{Word, Sign}
use Rattle.model_reader.specs.declared.expr.Expr.{Expr}
use Rattle.model_reader.specs.declared.expr.Expr.TheVariants as expr
use Rattle.model_reader.specs.declared.operator.Operator.{Operator}
use Rattle.model_reader.specs.declared.operator.Operator.TheVariants.{Union, Intersection, Sequence}
use Rattle.model_reader.specs.declared.words.Vocabulary.{Vocabulary}
use Rattle.model_reader.specs.declared.waiting.Waiting.{Waiting}
use Rattle.model_reader.specs.declared.reading.Place.{Place}
use Rattle.model_reader.specs.declared.reading.Place.TheVariants as place
use Rattle.model_reader.specs.Words.{word_of}
use Rattle.model_reader.specs.Expressions.{sign_of, joined, Binding, HaveBits, IsExpression}
use Rattle.model_reader.specs.Expressions.Binding.{Join, Closure, Operand}
use Rattle.model_reader.specs.Expressions.IsExpression.{word, listed, inner, unclosed, closed, alone, both}
use Rattle.model_reader.specs.Expressions.{tighter}
use Rattle.model_reader.specs.Machine.{nothing, joined_left, settled, waits, state, run, expression_of}

-- nothing waits that binds at least as tight as what is asked for
abbrev pub IsClear : Binding → Waiting → Type 0
IsClear (Join Union) w = w ≡ nothing
IsClear (Join Intersection) w = (w.intersection ≡ None) × (w.sequence ≡ None)
IsClear (Join Sequence) w = w.sequence ≡ None
IsClear Closure w = Unit {0}
IsClear Operand w = Unit {0}

-- behind an expression that this was asked for: what waits and binds as tight joins to the expression, the rest is as before
abbrev pub Reaches : Binding → Waiting → Waiting → Expr → Expr → Type 0
Reaches (Join Union) w v y e = settled Union v y ≡ e
Reaches (Join Intersection) w v y e = (settled Intersection v y ≡ e) × (v.union ≡ w.union)
Reaches (Join Sequence) w v y e = (settled Sequence v y ≡ e) × (v.union ≡ w.union) × (v.intersection ≡ w.intersection)
Reaches Closure w v y e = (v ≡ w) × (y ≡ e)
Reaches Operand w v y e = (v ≡ w) × (y ≡ e)

-- where an operator stands alone
clear_tighter : (o : Operator) (w : Waiting) → IsClear (Join o) w → IsClear (tighter o) w
clear_tighter Union w clear = (ap (λ (x : Waiting). x.intersection) clear, ap (λ (x : Waiting). x.sequence) clear)
clear_tighter Intersection w clear = clear.1
clear_tighter Sequence w clear = tt

alone_reaches : (o : Operator) (w v : Waiting) (y e : Expr) → IsClear (Join o) w → Reaches (tighter o) w v y e → Reaches (Join o) w v y e
alone_reaches Union w v y e clear (is, same) =
    ap (λ (left : Option Expr). joined_left Union left (settled Intersection v y)) (same ∙ ap (λ (x : Waiting). x.union) clear) ∙ is
alone_reaches Intersection w v y e clear (is, same, kept) =
    (ap (λ (left : Option Expr). joined_left Intersection left (settled Sequence v y)) (kept ∙ clear.0) ∙ is, same)
alone_reaches Sequence w v y e clear (is, same) = (
  ap (λ (x : Waiting). joined_left Sequence x.sequence y) is ∙ ap (λ (left : Option Expr). joined_left Sequence left y) clear ∙ same,
  ap (λ (x : Waiting). x.union) is,
  ap (λ (x : Waiting). x.intersection) is,
)

-- where an operator stands between two
waits_same : (o : Operator) (w v : Waiting) (y e : Expr) → Reaches (Join o) w v y e → waits o v (settled o v y) ≡ waits o w e
waits_same Union w v y e is = ap (λ (x : Expr). waits Union v x) is
waits_same Intersection w v y e (is, same) = ap₂ (λ (u : Option Expr) (x : Expr). record { union = u; intersection = Some x; sequence = None }) same is
waits_same Sequence w v y e (is, same, kept) =
    ap₂ (λ (u : Option Expr) (x : Expr). record { union = u; intersection = v.intersection; sequence = Some x }) same is
    ∙ ap (λ (i : Option Expr). record { union = w.union; intersection = i; sequence = Some e }) kept

clear_waits : (o : Operator) (w : Waiting) (x : Expr) → IsClear (tighter o) (waits o w x)
clear_waits Union w x = (refl, refl)
clear_waits Intersection w x = refl
clear_waits Sequence w x = tt

both_reaches : (o : Operator) (w v : Waiting) (x y e : Expr) → Reaches (tighter o) (waits o w x) v y e → Reaches (Join o) w v y (joined o x e)
both_reaches Union w v x y e (is, same) =
    ap (λ (left : Option Expr). joined_left Union left (settled Intersection v y)) same ∙ ap (joined Union x) is
both_reaches Intersection w v x y e (is, same, kept) =
    (ap (λ (left : Option Expr). joined_left Intersection left (settled Sequence v y)) kept ∙ ap (joined Intersection x) is, same)
both_reaches Sequence w v x y e (is, same) = (
  ap (λ (u : Waiting). joined_left Sequence u.sequence y) is ∙ ap (joined Sequence x) same,
  ap (λ (u : Waiting). u.union) is,
  ap (λ (u : Waiting). u.intersection) is,
)

module _ (words : Vocabulary) (names : List (List ℕ)) where
  abbrev at : Place → Waiting → List Waiting → List Lexeme → Option Expr
  at p w outer tokens = run words names (Some (state p w outer)) tokens

  -- what follows an operand, and what follows an operator
  operator_read : (o : Operator) (w : Waiting) (y : Expr) (outer : List Waiting) (rest : List Lexeme)
      → at (place.Behind y) w outer (Sign (sign_of o) ∷ rest) ≡ at place.Operand (waits o w (settled o w y)) outer rest
  operator_read Union w y outer rest = refl
  operator_read Intersection w y outer rest = refl
  operator_read Sequence w y outer rest = refl

  word_read : (name : List ℕ) (e : Expr) (w : Waiting) (outer : List Waiting) (rest : List Lexeme) → word_of words names name ≡ Some e
      → at place.Operand w outer (Word name ∷ rest) ≡ at (place.Behind e) w outer rest
  word_read name e w outer rest is = ap (λ (o : Option Expr). run words names (option_map (λ x. state (place.Behind x) w outer) o) rest) is

  listed_read : (before : ℕ) (some : Bool) (others : List (List ℕ)) (bits : ℕ) (w : Waiting) (outer : List Waiting) (rest : List Lexeme)
      → HaveBits words before others bits → (others ≡ [] → some ≡ true)
      → at (place.Brackets before some) w outer (map Word others ++ Sign 93 ∷ rest) ≡ at (place.Behind (expr.Kinds bits)) w outer rest
  listed_read before some [] bits w outer rest have any =
      ap (λ (b : Bool). at (place.Brackets before b) w outer (Sign 93 ∷ rest)) (any refl)
      ∙ ap (λ (n : ℕ). at (place.Behind (expr.Kinds n)) w outer rest) (sym have)
  listed_read before some (x ∷ xs) bits w outer rest (bit, is, have) any =
      ap (λ (o : Option ℕ). run words names (option_map (λ n. state (place.Brackets (bit_or before n) true) w outer) o) (map Word xs ++ Sign 93 ∷ rest)) is
      ∙ listed_read (bit_or before bit) true xs bits w outer rest have (λ e. refl)

  -- what is read behind an expression
  abbrev Read : Binding → List Lexeme → Expr → Type 0
  Read b tokens e = (w : Waiting) (outer : List Waiting) (rest : List Lexeme) → IsClear b w
      → (v : Waiting) × (y : Expr) × Reaches b w v y e × (at place.Operand w outer (tokens ++ rest) ≡ at (place.Behind y) v outer rest)

  pub completed : (b : Binding) (tokens : List Lexeme) (e : Expr) → IsExpression words names b tokens e → Read b tokens e
  completed _ _ _ (word name e is) = λ w outer rest clear. (w, e, (refl, refl), word_read name e w outer rest is)
  completed _ _ _ (listed first others bits have) = λ w outer rest clear. (
    w,
    expr.Kinds bits,
    (refl, refl),
    ap (λ (ls : List Lexeme). at place.Operand w outer (Sign 91 ∷ ls)) (append_assoc (map Word (first ∷ others)) (Sign 93 ∷ []) rest)
        ∙ listed_read 0 false (first ∷ others) bits w outer rest have (λ (none : first ∷ others ≡ []). cc),
  )
  completed _ _ _ (inner tokens e is) = λ w outer rest clear.
      let read = completed (Join Union) tokens e is nothing (w ∷ outer) (Sign 41 ∷ rest) refl in (
        w,
        e,
        (refl, refl),
        ap (λ (ls : List Lexeme). at place.Operand w outer (Sign 40 ∷ ls)) (append_assoc tokens (Sign 41 ∷ []) rest)
            ∙ read.3 ∙ ap (λ (x : Expr). at (place.Behind x) w outer rest) read.2,
      )
  completed _ _ _ (unclosed tokens e is) = λ w outer rest clear. completed Operand tokens e is w outer rest clear
  completed _ _ _ (closed tokens e is) = λ w outer rest clear.
      let read = completed Closure tokens e is w outer (Sign 43 ∷ rest) clear in (
        w,
        expr.Plus e,
        (refl, refl),
        ap (λ (ls : List Lexeme). at place.Operand w outer ls) (append_assoc tokens (Sign 43 ∷ []) rest) ∙ read.3
            ∙ ap₂ (λ (v : Waiting) (x : Expr). at (place.Behind (expr.Plus x)) v outer rest) (read.2.0) (read.2.1),
      )
  completed _ _ _ (alone o tokens e is) = λ w outer rest clear.
      let read = completed (tighter o) tokens e is w outer rest (clear_tighter o w clear) in
      (read.0, read.1, alone_reaches o w (read.0) (read.1) e clear read.2, read.3)
  completed _ _ _ (both o a b x y left right) = λ w outer rest clear.
      let first = completed (Join o) a x left w outer (Sign (sign_of o) ∷ b ++ rest) clear in
      let second = completed (tighter o) b y right (waits o w x) outer rest (clear_waits o w x) in (
        second.0,
        second.1,
        both_reaches o w (second.0) x (second.1) y second.2,
        ap (λ (ls : List Lexeme). at place.Operand w outer ls) (append_assoc a (Sign (sign_of o) ∷ b) rest) ∙ first.3
            ∙ operator_read o (first.0) (first.1) outer (b ++ rest)
            ∙ ap (λ (u : Waiting). at place.Operand u outer (b ++ rest)) (waits_same o w (first.0) (first.1) x first.2) ∙ second.3,
      )

  -- tokens that are an expression are read as it
  pub read_whole : (tokens : List Lexeme) (e : Expr) → IsExpression words names (Join Union) tokens e → expression_of words names tokens ≡ Some e
  read_whole tokens e is =
      let read = completed (Join Union) tokens e is nothing [] [] refl in
      ap (λ (ls : List Lexeme). at place.Operand nothing [] ls) (sym (append-nil tokens)) ∙ read.3 ∙ ap (λ (x : Expr). Some x) read.2
