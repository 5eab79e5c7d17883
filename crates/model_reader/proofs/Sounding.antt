-- What is read as an expression is that expression by the grammar.
use Rattle.std.proofs.Common.{◌≡◌, ◌⊎◌, ℕ, Bool, true, false, ◌&&◌, ◌==◌, if◌then◌else◌, List, [], ◌∷◌, ◌++◌, map, Option, Some, None, refl, sym, ◌∙◌, ap, subst, inl, inr, append_assoc, append-nil, bit_or}
use Rattle.std.specs.Option.{option_map}
use Rattle.std.proofs.lemmas.List.{map-append}
use Rattle.std.proofs.lemmas.Option.{none-some, same_Some}
use Rattle.std.proofs.lemmas.Bool.{eqb-true, and_parts}
use Rattle.lexeme_reader.specs.declared.reading.Lexeme.{Lexeme}
use Rattle.lexeme_reader.specs.declared.reading.Lexeme.TheVariants.{Word, Number, Path, Text, Sign}
use Rattle.model_reader.specs.declared.expr.Expr.{Expr}
use Rattle.model_reader.specs.declared.expr.Expr.TheVariants as expr
use Rattle.model_reader.specs.declared.operator.Operator.{Operator}
use Rattle.model_reader.specs.declared.operator.Operator.TheVariants.{Union, Intersection, Sequence}
use Rattle.model_reader.specs.declared.words.Vocabulary.{Vocabulary}
use Rattle.model_reader.specs.declared.waiting.Waiting.{Waiting}
use Rattle.model_reader.specs.declared.reading.Place.{Place}
use Rattle.model_reader.specs.declared.reading.Place.TheVariants as place
use Rattle.model_reader.specs.Words.{word_of, bit_of}
use Rattle.model_reader.specs.Expressions.{sign_of, joined, Binding, HaveBits, IsExpression, tighter}
use Rattle.model_reader.specs.Expressions.Binding.{Join, Closure}
use Rattle.model_reader.specs.Expressions.IsExpression.{word, listed, inner, unclosed, closed, alone, both}
use Rattle.model_reader.specs.Machine.{nothing, joined_left, settled, waits, State, state, inner_closed, sign_behind, sign_due, stepped, ended, run, expression_of}

-- a choice that gives something
chosen : {X : Type 0} (b : Bool) (x r : Option X) (s : X) → (if b then x else r) ≡ Some s → ((b ≡ true) × (x ≡ Some s)) ⊎ (r ≡ Some s)
chosen true x r s e = inl (refl, e)
chosen false x r s e = inr e

-- a value that is mapped to something
mapped : {X Y : Type 0} (f : X → Y) (o : Option X) (y : Y) → option_map f o ≡ Some y → (x : X) × (o ≡ Some x) × (f x ≡ y)
mapped f None y e = absurd (none-some y e)
mapped f (Some x) y e = (x, refl, same_Some (f x) y e)

more_bits : (words : Vocabulary) (before : ℕ) (xs : List (List ℕ)) (bits bit : ℕ) (x : List ℕ) → HaveBits words before xs bits → bit_of words x ≡ Some bit
    → HaveBits words before (xs ++ x ∷ []) (bit_or bits bit)
more_bits words before [] bits bit x have is = (bit, is, ap (λ (n : ℕ). bit_or n bit) have)
more_bits words before (y ∷ ys) bits bit x (b, at, have) is = (b, at, more_bits words (bit_or before b) ys bits bit x have is)

module _ (words : Vocabulary) (names : List (List ℕ)) where
  abbrev Is : Binding → List Lexeme → Expr → Type 0
  Is b tokens e = IsExpression words names b tokens e

  -- tokens that wait on the left of an operator, with it
  abbrev IsLeft : Operator → Option Expr → List Lexeme → Type 0
  IsLeft o None tokens = tokens ≡ []
  IsLeft o (Some x) tokens = (a : List Lexeme) × Is (Join o) a x × (tokens ≡ a ++ Sign (sign_of o) ∷ [])

  join_left : (o : Operator) (left : Option Expr) (t u : List Lexeme) (e : Expr) → IsLeft o left t → Is (tighter o) u e → Is (Join o) (t ++ u) (joined_left o left e)
  join_left o None t u e none is = subst (λ (ls : List Lexeme). Is (Join o) (ls ++ u) e) (sym none) (alone o u e is)
  join_left o (Some x) t u e (a, left, at) is =
      subst (λ (ls : List Lexeme). Is (Join o) ls (joined o x e)) (sym (ap (λ (ls : List Lexeme). ls ++ u) at ∙ append_assoc a (Sign (sign_of o) ∷ []) u))
      (both o a u x e left is)

  -- tokens that wait
  pub record AreWaiting (w : Waiting) (tokens : List Lexeme) : Type 0 where
    pub unions : List Lexeme
    pub intersections : List Lexeme
    pub sequences : List Lexeme
    pub union : IsLeft Union w.union unions
    pub intersection : IsLeft Intersection w.intersection intersections
    pub sequence : IsLeft Sequence w.sequence sequences
    pub all : tokens ≡ unions ++ intersections ++ sequences

  none_waiting : AreWaiting nothing []
  none_waiting = record { unions = []; intersections = []; sequences = []; union = refl; intersection = refl; sequence = refl; all = refl }

  module _ (w : Waiting) (t u : List Lexeme) (y : Expr) (h : AreWaiting w t) (is : Is Closure u y) where
    in_sequence : Is (Join Sequence) (h.sequences ++ u) (settled Sequence w y)
    in_sequence = join_left Sequence w.sequence h.sequences u y h.sequence is

    in_intersection : Is (Join Intersection) (h.intersections ++ h.sequences ++ u) (settled Intersection w y)
    in_intersection =
        subst (λ (ls : List Lexeme). Is (Join Intersection) ls (settled Intersection w y)) (sym (append_assoc h.intersections h.sequences u))
        (join_left Intersection w.intersection h.intersections (h.sequences ++ u) _ h.intersection in_sequence)

    regroup : t ++ u ≡ h.unions ++ (h.intersections ++ (h.sequences ++ u))
    regroup =
        ap (λ (ls : List Lexeme). ls ++ u) h.all ∙ append_assoc (h.unions ++ h.intersections) h.sequences u
        ∙ append_assoc h.unions h.intersections (h.sequences ++ u)

    in_union : Is (Join Union) (t ++ u) (settled Union w y)
    in_union =
        subst (λ (ls : List Lexeme). Is (Join Union) ls (settled Union w y)) (sym regroup)
        (join_left Union w.union h.unions (h.intersections ++ (h.sequences ++ u)) _ h.union
        (subst (λ (ls : List Lexeme). Is (Join Intersection) ls (settled Intersection w y)) (append_assoc h.intersections h.sequences u) in_intersection))

    waiting_behind : (o : Operator) → AreWaiting (waits o w (settled o w y)) (t ++ u ++ Sign (sign_of o) ∷ [])
    waiting_behind Union = record {
      unions = (t ++ u) ++ Sign 124 ∷ [];
      intersections = [];
      sequences = [];
      union = (t ++ u, in_union, refl);
      intersection = refl;
      sequence = refl;
      all = sym (append-nil ((t ++ u ++ Sign 124 ∷ []) ++ []) ∙ append-nil (t ++ u ++ Sign 124 ∷ []));
    }
    waiting_behind Intersection = record {
      unions = h.unions;
      intersections = (h.intersections ++ h.sequences ++ u) ++ Sign 38 ∷ [];
      sequences = [];
      union = h.union;
      intersection = (h.intersections ++ h.sequences ++ u, in_intersection, refl);
      sequence = refl;
      all =
          ap (λ (ls : List Lexeme). ls ++ Sign 38 ∷ []) (regroup ∙ ap (λ (ls : List Lexeme). h.unions ++ ls) (sym (append_assoc h.intersections h.sequences u)))
          ∙ append_assoc h.unions (h.intersections ++ h.sequences ++ u) (Sign 38 ∷ []) ∙ sym (append-nil (h.unions ++ ((h.intersections ++ h.sequences ++ u) ++ Sign 38 ∷ [])));
    }
    waiting_behind Sequence = record {
      unions = h.unions;
      intersections = h.intersections;
      sequences = (h.sequences ++ u) ++ Sign 59 ∷ [];
      union = h.union;
      intersection = h.intersection;
      sequence = (h.sequences ++ u, in_sequence, refl);
      all =
          ap (λ (ls : List Lexeme). ls ++ Sign 59 ∷ []) (regroup ∙ sym (append_assoc h.unions h.intersections (h.sequences ++ u)))
          ∙ append_assoc (h.unions ++ h.intersections) (h.sequences ++ u) (Sign 59 ∷ []);
    }

  -- tokens that wait around open parentheses, with these
  abbrev AreOuter : List Waiting → List Lexeme → Type 0
  AreOuter [] tokens = tokens ≡ []
  AreOuter (w ∷ ws) tokens = (g t : List Lexeme) × AreOuter ws g × AreWaiting w t × (tokens ≡ g ++ t ++ Sign 40 ∷ [])

  -- what was read before a place
  abbrev AreListed : Bool → List (List ℕ) → Type 0
  AreListed true xs = (x : List ℕ) × (ys : List (List ℕ)) × (xs ≡ x ∷ ys)
  AreListed false xs = Unit {0}

  abbrev StandsAt : Place → List Lexeme → Type 0
  StandsAt place.Operand u = u ≡ []
  StandsAt (place.Brackets bits some) u = (xs : List (List ℕ)) × HaveBits words 0 xs bits × AreListed some xs × (u ≡ Sign 91 ∷ map Word xs)
  StandsAt (place.Behind y) u = Is Closure u y

  pub record IsRead (p : Place) (w : Waiting) (outer : List Waiting) (tokens : List Lexeme) : Type 0 where
    pub around : List Lexeme
    pub before : List Lexeme
    pub here : List Lexeme
    pub outside : AreOuter outer around
    pub left : AreWaiting w before
    pub stands : StandsAt p here
    pub all : tokens ≡ around ++ before ++ here

  abbrev Stands : State → List Lexeme → Type 0
  Stands s tokens = IsRead s.place s.waiting s.outer tokens

  -- one more token at the place
  here_more : (p q : Place) (w : Waiting) (outer : List Waiting) (tokens : List Lexeme) (u : List Lexeme) (l : Lexeme) (h : IsRead p w outer tokens)
      → StandsAt q u → u ≡ h.here ++ l ∷ [] → IsRead q w outer (tokens ++ l ∷ [])
  here_more p q w outer tokens u l h stands is = record {
    around = h.around;
    before = h.before;
    here = u;
    outside = h.outside;
    left = h.left;
    stands = stands;
    all = ap (λ (ls : List Lexeme). ls ++ l ∷ []) h.all ∙ append_assoc (h.around ++ h.before) h.here (l ∷ []) ∙ ap (λ (ls : List Lexeme). h.around ++ h.before ++ ls) (sym is);
  }

  operator_more : (o : Operator) (y : Expr) (w : Waiting) (outer : List Waiting) (tokens : List Lexeme) → IsRead (place.Behind y) w outer tokens
      → IsRead place.Operand (waits o w (settled o w y)) outer (tokens ++ Sign (sign_of o) ∷ [])
  operator_more o y w outer tokens h = record {
    around = h.around;
    before = h.before ++ h.here ++ Sign (sign_of o) ∷ [];
    here = [];
    outside = h.outside;
    left = waiting_behind w h.before h.here y h.left h.stands o;
    stands = refl;
    all =
        ap (λ (ls : List Lexeme). ls ++ Sign (sign_of o) ∷ []) (h.all ∙ append_assoc h.around h.before h.here)
        ∙ append_assoc h.around (h.before ++ h.here) (Sign (sign_of o) ∷ [])
        ∙ sym (append-nil (h.around ++ (h.before ++ h.here ++ Sign (sign_of o) ∷ [])));
  }

  -- behind each token, what was read is what stands there
  closes : (y : Expr) (w : Waiting) (outer : List Waiting) (tokens : List Lexeme) (s : State) → IsRead (place.Behind y) w outer tokens
      → inner_closed w y outer ≡ Some s → Stands s (tokens ++ Sign 41 ∷ [])
  closes y w [] tokens s h e = absurd (none-some s e)
  closes y w (v ∷ outer) tokens s h e =
      let (g, t, around, waits_there, at) = h.outside in
      subst (λ (x : State). Stands x (tokens ++ Sign 41 ∷ [])) (same_Some _ s e) (record {
        around = g;
        before = t;
        here = Sign 40 ∷ (h.before ++ h.here) ++ Sign 41 ∷ [];
        outside = around;
        left = waits_there;
        stands = unclosed _ _ (inner (h.before ++ h.here) (settled Union w y) (in_union w h.before h.here y h.left h.stands));
        all =
            ap (λ (ls : List Lexeme). ls ++ Sign 41 ∷ [])
            (h.all ∙ append_assoc h.around h.before h.here ∙ ap (λ (ls : List Lexeme). ls ++ (h.before ++ h.here)) at
            ∙ append_assoc (g ++ t) (Sign 40 ∷ []) (h.before ++ h.here))
            ∙ append_assoc (g ++ t) (Sign 40 ∷ (h.before ++ h.here)) (Sign 41 ∷ []);
      })

  stood : (a s : State) (tokens : List Lexeme) → Some a ≡ Some s → Stands a tokens → Stands s tokens
  stood a s tokens e h = subst (λ (x : State). Stands x tokens) (same_Some a s e) h

  sign_named : (sign n : ℕ) (p : Place) (w : Waiting) (outer : List Waiting) (tokens : List Lexeme) → sign == n ≡ true
      → IsRead p w outer (tokens ++ Sign n ∷ []) → IsRead p w outer (tokens ++ Sign sign ∷ [])
  sign_named sign n p w outer tokens is h = subst (λ (m : ℕ). IsRead p w outer (tokens ++ Sign m ∷ [])) (sym (eqb-true sign n is)) h

  behind_step : (sign : ℕ) (y : Expr) (w : Waiting) (outer : List Waiting) (tokens : List Lexeme) (s : State) → IsRead (place.Behind y) w outer tokens
      → sign_behind sign w y outer ≡ Some s → Stands s (tokens ++ Sign sign ∷ [])
  behind_step sign y w outer tokens s h e = elim (chosen (sign == 43) _ _ s e) [
    | inl (plus, at) ↦
        stood _ s (tokens ++ Sign sign ∷ []) at (sign_named sign 43 _ w outer tokens plus
        (here_more (place.Behind y) (place.Behind (expr.Plus y)) w outer tokens (h.here ++ Sign 43 ∷ []) (Sign 43) h (closed h.here y h.stands) refl))
    | inr no_plus ↦ elim (chosen (sign == 41) _ _ s no_plus) [
      | inl (close, at) ↦ subst (λ (m : ℕ). Stands s (tokens ++ Sign m ∷ [])) (sym (eqb-true sign 41 close)) (closes y w outer tokens s h at)
      | inr no_close ↦ elim (chosen (sign == 59) _ _ s no_close) [
        | inl (sequence, at) ↦ stood _ s (tokens ++ Sign sign ∷ []) at (sign_named sign 59 _ _ outer tokens sequence (operator_more Sequence y w outer tokens h))
        | inr no_sequence ↦ elim (chosen (sign == 38) _ _ s no_sequence) [
          | inl (intersection, at) ↦ stood _ s (tokens ++ Sign sign ∷ []) at (sign_named sign 38 _ _ outer tokens intersection (operator_more Intersection y w outer tokens h))
          | inr no_intersection ↦ elim (chosen (sign == 124) _ _ s no_intersection) [
            | inl (union, at) ↦ stood _ s (tokens ++ Sign sign ∷ []) at (sign_named sign 124 _ _ outer tokens union (operator_more Union y w outer tokens h))
            | inr no_union ↦ absurd (none-some s no_union)
          ]
        ]
      ]
    ]
  ]

  due_step : (sign : ℕ) (w : Waiting) (outer : List Waiting) (tokens : List Lexeme) (s : State) → IsRead place.Operand w outer tokens
      → sign_due sign w outer ≡ Some s → Stands s (tokens ++ Sign sign ∷ [])
  due_step sign w outer tokens s h e = elim (chosen (sign == 40) _ _ s e) [
    | inl (parenthesis, at) ↦ stood _ s (tokens ++ Sign sign ∷ []) at (sign_named sign 40 place.Operand nothing (w ∷ outer) tokens parenthesis (record {
      around = h.around ++ h.before ++ Sign 40 ∷ [];
      before = [];
      here = [];
      outside = (h.around, h.before, h.outside, h.left, refl);
      left = none_waiting;
      stands = refl;
      all =
          ap (λ (ls : List Lexeme). ls ++ Sign 40 ∷ []) (h.all ∙ ap (λ (ls : List Lexeme). h.around ++ h.before ++ ls) h.stands ∙ append-nil (h.around ++ h.before))
          ∙ sym (append-nil ((h.around ++ h.before ++ Sign 40 ∷ []) ++ []) ∙ append-nil (h.around ++ h.before ++ Sign 40 ∷ []));
    }))
    | inr no_parenthesis ↦ elim (chosen (sign == 91) _ _ s no_parenthesis) [
      | inl (bracket, at) ↦ stood _ s (tokens ++ Sign sign ∷ []) at (sign_named sign 91 (place.Brackets 0 false) w outer tokens bracket
          (here_more place.Operand (place.Brackets 0 false) w outer tokens (Sign 91 ∷ []) (Sign 91) h ([], refl, tt, refl)
          (ap (λ (ls : List Lexeme). ls ++ Sign 91 ∷ []) (sym h.stands))))
      | inr no_bracket ↦ absurd (none-some s no_bracket)
    ]
  ]

  word_step : (name : List ℕ) (w : Waiting) (outer : List Waiting) (tokens : List Lexeme) (s : State) → IsRead place.Operand w outer tokens
      → option_map (λ e. state (place.Behind e) w outer) (word_of words names name) ≡ Some s → Stands s (tokens ++ Word name ∷ [])
  word_step name w outer tokens s h e =
      let (y, is, at) = mapped _ (word_of words names name) s e in
      subst (λ (x : State). Stands x (tokens ++ Word name ∷ [])) at
      (here_more place.Operand (place.Behind y) w outer tokens (Word name ∷ []) (Word name) h (unclosed _ _ (word name y is))
      (ap (λ (ls : List Lexeme). ls ++ Word name ∷ []) (sym h.stands)))

  listed_some : (xs : List (List ℕ)) (x : List ℕ) → AreListed true (xs ++ x ∷ [])
  listed_some [] x = (x, [], refl)
  listed_some (y ∷ ys) x = (y, ys ++ x ∷ [], refl)

  kind_step : (name : List ℕ) (bits : ℕ) (some : Bool) (w : Waiting) (outer : List Waiting) (tokens : List Lexeme) (s : State)
      → IsRead (place.Brackets bits some) w outer tokens
      → option_map (λ bit. state (place.Brackets (bit_or bits bit) true) w outer) (bit_of words name) ≡ Some s → Stands s (tokens ++ Word name ∷ [])
  kind_step name bits some w outer tokens s h e =
      let (bit, is, at) = mapped _ (bit_of words name) s e in
      let (xs, have, are, same) = h.stands in
      subst (λ (x : State). Stands x (tokens ++ Word name ∷ [])) at
      (here_more (place.Brackets bits some) (place.Brackets (bit_or bits bit) true) w outer tokens (Sign 91 ∷ map Word (xs ++ name ∷ [])) (Word name) h
      (xs ++ name ∷ [], more_bits words 0 xs bits bit name have is, listed_some xs name, refl)
      (ap (λ (ls : List Lexeme). Sign 91 ∷ ls) (map-append Word xs (name ∷ [])) ∙ ap (λ (ls : List Lexeme). ls ++ Word name ∷ []) (sym same)))

  bracket_step : (sign bits : ℕ) (some : Bool) (w : Waiting) (outer : List Waiting) (tokens : List Lexeme) (s : State)
      → IsRead (place.Brackets bits some) w outer tokens
      → (if sign == 93 && some then Some (state (place.Behind (expr.Kinds bits)) w outer) else None) ≡ Some s → Stands s (tokens ++ Sign sign ∷ [])
  bracket_step sign bits some w outer tokens s h e = elim (chosen (sign == 93 && some) _ _ s e) [
    | inr none ↦ absurd (none-some s none)
    | inl (close, at) ↦
        let (is, any) = and_parts (sign == 93) some close in
        let (xs, have, are, same) = h.stands in
        let (x, ys, first) = subst (λ (b : Bool). AreListed b xs) any are in
        stood _ s (tokens ++ Sign sign ∷ []) at (sign_named sign 93 (place.Behind (expr.Kinds bits)) w outer tokens is
        (here_more (place.Brackets bits some) (place.Behind (expr.Kinds bits)) w outer tokens (Sign 91 ∷ map Word (x ∷ ys) ++ Sign 93 ∷ []) (Sign 93) h
        (unclosed _ _ (listed x ys bits (subst (λ (ls : List (List ℕ)). HaveBits words 0 ls bits) first have)))
        (ap (λ (ls : List Lexeme). ls ++ Sign 93 ∷ []) (sym (same ∙ ap (λ (ls : List (List ℕ)). Sign 91 ∷ map Word ls) first)))))
  ]

  step : (p : Place) (w : Waiting) (outer : List Waiting) (tokens : List Lexeme) (l : Lexeme) (s : State) → IsRead p w outer tokens
      → stepped words names p w outer l ≡ Some s → Stands s (tokens ++ l ∷ [])
  step place.Operand w outer tokens (Word name) s h e = word_step name w outer tokens s h e
  step place.Operand w outer tokens (Sign sign) s h e = due_step sign w outer tokens s h e
  step (place.Brackets bits some) w outer tokens (Word name) s h e = kind_step name bits some w outer tokens s h e
  step (place.Brackets bits some) w outer tokens (Sign sign) s h e = bracket_step sign bits some w outer tokens s h e
  step (place.Behind y) w outer tokens (Sign sign) s h e = behind_step sign y w outer tokens s h e
  step place.Operand w outer tokens (Number n) s h e = absurd (none-some s e)
  step place.Operand w outer tokens (Path n) s h e = absurd (none-some s e)
  step place.Operand w outer tokens (Text n) s h e = absurd (none-some s e)
  step (place.Brackets bits some) w outer tokens (Number n) s h e = absurd (none-some s e)
  step (place.Brackets bits some) w outer tokens (Path n) s h e = absurd (none-some s e)
  step (place.Brackets bits some) w outer tokens (Text n) s h e = absurd (none-some s e)
  step (place.Behind y) w outer tokens (Word n) s h e = absurd (none-some s e)
  step (place.Behind y) w outer tokens (Number n) s h e = absurd (none-some s e)
  step (place.Behind y) w outer tokens (Path n) s h e = absurd (none-some s e)
  step (place.Behind y) w outer tokens (Text n) s h e = absurd (none-some s e)

  at_end : (p : Place) (w : Waiting) (outer : List Waiting) (tokens : List Lexeme) (e : Expr) → IsRead p w outer tokens → ended p w outer ≡ Some e
      → Is (Join Union) tokens e
  at_end (place.Behind y) w [] tokens e h is =
      subst (λ (x : Expr). Is (Join Union) tokens x) (same_Some _ e is)
      (subst (λ (ls : List Lexeme). Is (Join Union) ls (settled Union w y))
      (sym (h.all ∙ ap (λ (ls : List Lexeme). ls ++ h.before ++ h.here) h.outside)) (in_union w h.before h.here y h.left h.stands))
  at_end (place.Behind y) w (v ∷ outer) tokens e h is = absurd (none-some e is)
  at_end place.Operand w outer tokens e h is = absurd (none-some e is)
  at_end (place.Brackets bits some) w outer tokens e h is = absurd (none-some e is)

  abbrev Stood : Option State → List Lexeme → Type 0
  Stood None tokens = Unit {0}
  Stood (Some s) tokens = Stands s tokens

  stepped_to : (o : Option State) (l : Lexeme) (tokens : List Lexeme) (s : State) → Stands s tokens → stepped words names s.place s.waiting s.outer l ≡ o
      → Stood o (tokens ++ l ∷ [])
  stepped_to None l tokens s h at = tt
  stepped_to (Some t) l tokens s h at = step s.place s.waiting s.outer tokens l t h at

  go : (rest tokens : List Lexeme) (o : Option State) (e : Expr) → Stood o tokens → run words names o rest ≡ Some e → Is (Join Union) (tokens ++ rest) e
  go rest tokens None e h is = absurd (none-some e is)
  go [] tokens (Some s) e h is = subst (λ (ls : List Lexeme). Is (Join Union) ls e) (sym (append-nil tokens)) (at_end s.place s.waiting s.outer tokens e h is)
  go (l ∷ rest) tokens (Some s) e h is =
      let o = stepped words names s.place s.waiting s.outer l in
      subst (λ (ls : List Lexeme). Is (Join Union) ls e) (append_assoc tokens (l ∷ []) rest)
      (go rest (tokens ++ l ∷ []) o e (stepped_to o l tokens s h refl) is)

  -- what is read is an expression
  pub whole_read : (tokens : List Lexeme) (e : Expr) → expression_of words names tokens ≡ Some e → Is (Join Union) tokens e
  whole_read tokens e is =
      go tokens [] (Some (state place.Operand nothing [])) e
      (record { around = []; before = []; here = []; outside = refl; left = none_waiting; stands = refl; all = refl }) is
