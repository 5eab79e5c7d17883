-- The file of the sequential model is read as the model whose one kept expression is program order.
use Rattle.std.proofs.Common.{◌≡◌, inl, inr, zero, suc, true, false, List, [], ◌∷◌, Some, None, codes, refl, sym, subst, Contains, arith}
use Rattle.text_scan.specs.declared.scanning.Token.{Token}
use Rattle.text_scan.specs.declared.scanning.TokenKind.TheVariants as token
use Rattle.lexeme_reader.specs.declared.reading.Lexeme.{Lexeme}
use Rattle.lexeme_reader.specs.declared.reading.Lexeme.TheVariants.{Word}
use Rattle.lexeme_reader.specs.Lexemes.{AreLexemes}
use Rattle.line_files.specs.StatedLines.{Stated, stated_in}
use Rattle.line_files.specs.FirstFaults.{IsSound, AreSound}
use Rattle.model_library.specs.declared.texts.ShippedModel.TheVariants.{Sequential}
use Rattle.model_library.specs.ShippedModels.{shipped_text}
use Rattle.model_reader.specs.declared.expr.Expr.{Expr}
use Rattle.model_reader.specs.declared.expr.Expr.TheVariants.{Po, Id}
use Rattle.model_reader.specs.declared.operator.Operator.TheVariants.{Union, Intersection, Sequence}
use Rattle.model_reader.specs.declared.words.Vocabulary.{Vocabulary}
use Rattle.model_reader.specs.declared.words.Vocabulary.TheVariants.{EachWord, KnownNames, KnownWords}
use Rattle.model_reader.specs.declared.model.Model.{Model}
use Rattle.model_reader.specs.declared.fault.ModelKind.{ModelKind}
use Rattle.model_reader.specs.declared.fault.ModelKind.TheVariants.{BadByte, BadToken, BadLine, UnknownName, NameTaken, UnknownKind, TooDeep, EndsEarly, TooMany, TooLong}
use Rattle.model_reader.specs.Words.{word_of}
use Rattle.model_reader.specs.Expressions.IsExpression.{word, unclosed, alone}
use Rattle.model_reader.specs.Statements.{Statement, Head, Let, Keep, End, statement_lexemes}
use Rattle.model_reader.specs.Faults.{Means, Has, HaveFault}
use Rattle.model_reader.specs.ModelText.{IsModelText, model_grammar}

-- the tokens of its second line that have to be an expression
abbrev kept_tokens : List Lexeme
kept_tokens = Word (codes "po") ∷ []

-- its three statements
abbrev head : Statement
head = Head (codes "sequential") None

abbrev keep : Statement
keep = Keep kept_tokens

abbrev stated : List (Stated Statement)
stated = stated_in 1 head ∷ stated_in 2 keep ∷ stated_in 3 End ∷ []

-- the model
abbrev pub program_order_model : Model
program_order_model = record { name = codes "sequential"; lets = []; keeps = Po ∷ []; version = 1 }

-- a word that is an expression
means : (words : Vocabulary) (e : Expr) → word_of words [] (codes "po") ≡ Some e → Means words [] kept_tokens e
means words e is =
    alone Union kept_tokens e (alone Intersection kept_tokens e (alone Sequence kept_tokens e (unclosed kept_tokens e (word (codes "po") e is))))

-- the tokens of its lines
first_lexemes : AreLexemes (codes "model sequential") (statement_lexemes head)
first_lexemes =
    let a : Token = record { kind = token.Word; start = 0; end = 5 } in
    let b : Token = record { kind = token.Word; start = 6; end = 16 } in (
      a ∷ b ∷ [],
      (16, ((refl, record { kind = refl; longest = refl; form = refl }), ((refl, record { kind = refl; longest = refl; form = refl }), refl)), tt),
      (refl, (refl, tt)),
    )

second_lexemes : AreLexemes (codes "keep po") (statement_lexemes keep)
second_lexemes =
    let a : Token = record { kind = token.Word; start = 0; end = 4 } in
    let b : Token = record { kind = token.Word; start = 5; end = 7 } in (
      a ∷ b ∷ [],
      (7, ((refl, record { kind = refl; longest = refl; form = refl }), ((refl, record { kind = refl; longest = refl; form = refl }), refl)), tt),
      (refl, (refl, tt)),
    )

third_lexemes : AreLexemes (codes "end") (statement_lexemes End)
third_lexemes =
    let a : Token = record { kind = token.Word; start = 0; end = 3 } in
    (a ∷ [], (3, ((refl, record { kind = refl; longest = refl; form = refl }), refl), tt), (refl, tt))

-- a statement has no fault where its tokens state nothing else and it has none
sound_by :
    (before : List Statement) (s : Statement) → ((t : Statement) → statement_lexemes s ≡ statement_lexemes t → t ≡ s) → ((kind : ModelKind) → Has before s kind → ⊥)
    → (HaveFault before (statement_lexemes s) TooDeep → ⊥) → (HaveFault before (statement_lexemes s) TooMany → ⊥) → IsSound model_grammar before (statement_lexemes s)
sound_by before s only fine deep many TooDeep h = deep h
sound_by before s only fine deep many TooMany h = many h
sound_by before s only fine deep many BadLine h = fine BadLine (h s refl)
sound_by before s only fine deep many UnknownName (t, e, h) = fine UnknownName (subst (λ (u : Statement). Has before u UnknownName) (only t e) h)
sound_by before s only fine deep many UnknownKind (t, e, h) = fine UnknownKind (subst (λ (u : Statement). Has before u UnknownKind) (only t e) h)
sound_by before s only fine deep many NameTaken (t, e, h) = fine NameTaken (subst (λ (u : Statement). Has before u NameTaken) (only t e) h)
sound_by before s only fine deep many BadByte (t, e, h) = fine BadByte (subst (λ (u : Statement). Has before u BadByte) (only t e) h)
sound_by before s only fine deep many BadToken (t, e, h) = fine BadToken (subst (λ (u : Statement). Has before u BadToken) (only t e) h)
sound_by before s only fine deep many EndsEarly (t, e, h) = fine EndsEarly (subst (λ (u : Statement). Has before u EndsEarly) (only t e) h)
sound_by before s only fine deep many TooLong (t, e, h) = fine TooLong (subst (λ (u : Statement). Has before u TooLong) (only t e) h)

-- the tokens state nothing else
only_head : (t : Statement) → statement_lexemes head ≡ statement_lexemes t → t ≡ head
only_head (Head name None) e = cc
only_head (Head name (Some n)) e = absurd (cc)
only_head (Let true name value) e = absurd (cc)
only_head (Let false name value) e = absurd (cc)
only_head (Keep value) e = absurd (cc)
only_head End e = absurd (cc)

only_keep : (t : Statement) → statement_lexemes keep ≡ statement_lexemes t → t ≡ keep
only_keep (Head name None) e = absurd (cc)
only_keep (Head name (Some n)) e = absurd (cc)
only_keep (Let true name value) e = absurd (cc)
only_keep (Let false name value) e = absurd (cc)
only_keep (Keep value) e = cc
only_keep End e = absurd (cc)

only_end : (t : Statement) → statement_lexemes End ≡ statement_lexemes t → t ≡ End
only_end (Head name None) e = absurd (cc)
only_end (Head name (Some n)) e = absurd (cc)
only_end (Let true name value) e = absurd (cc)
only_end (Let false name value) e = absurd (cc)
only_end (Keep value) e = absurd (cc)
only_end End e = refl

-- nothing ends the file before its last line
no_end_in_one : Contains (head ∷ []) End → ⊥
no_end_in_one (zero, l, e) = absurd (cc)
no_end_in_one (suc k, l, e) = omega (arith, l)

no_end_in_two : Contains (head ∷ keep ∷ []) End → ⊥
no_end_in_two (zero, l, e) = absurd (cc)
no_end_in_two (suc zero, l, e) = absurd (cc)
no_end_in_two (suc (suc k), l, e) = omega (arith, l)

-- the statements have no fault
fine_head : (kind : ModelKind) → Has [] head kind → ⊥
fine_head BadLine (inl before) = before refl
fine_head BadLine (inr (inl foreign)) = foreign.0 refl
fine_head BadLine (inr (inr formless)) = formless
fine_head UnknownName h = h
fine_head UnknownKind h = h
fine_head NameTaken h = h
fine_head TooDeep h = h
fine_head TooMany h = h
fine_head BadByte h = h
fine_head BadToken h = h
fine_head EndsEarly h = h
fine_head TooLong h = h

fine_keep : (kind : ModelKind) → Has (head ∷ []) keep kind → ⊥
fine_keep BadLine (inl (inl none)) = absurd (cc)
fine_keep BadLine (inl (inr ended)) = no_end_in_one ended
fine_keep BadLine (inr (inl foreign)) = foreign
fine_keep BadLine (inr (inr formless)) = formless Id (means EachWord Id refl)
fine_keep UnknownName h = h Po (means KnownNames Po refl)
fine_keep UnknownKind h = h Po (means KnownWords Po refl)
fine_keep NameTaken h = h
fine_keep TooDeep h = h
fine_keep TooMany h = h
fine_keep BadByte h = h
fine_keep BadToken h = h
fine_keep EndsEarly h = h
fine_keep TooLong h = h

fine_end : (kind : ModelKind) → Has (head ∷ keep ∷ []) End kind → ⊥
fine_end BadLine (inl (inl none)) = absurd (cc)
fine_end BadLine (inl (inr ended)) = no_end_in_two ended
fine_end BadLine (inr (inl foreign)) = foreign
fine_end BadLine (inr (inr formless)) = formless
fine_end UnknownName h = h
fine_end UnknownKind h = h
fine_end NameTaken h = h
fine_end TooDeep h = h
fine_end TooMany h = h
fine_end BadByte h = h
fine_end BadToken h = h
fine_end EndsEarly h = h
fine_end TooLong h = h

few_head : HaveFault [] (statement_lexemes head) TooMany → ⊥
few_head (inl h) = omega (arith, h)
few_head (inr (inl (begin, h))) = omega (arith, h)
few_head (inr (inr (begin, h))) = omega (arith, h)

few_keep : HaveFault (head ∷ []) (statement_lexemes keep) TooMany → ⊥
few_keep (inl h) = omega (arith, h)
few_keep (inr (inl (begin, h))) = omega (arith, h)
few_keep (inr (inr (begin, h))) = omega (arith, h)

few_end : HaveFault (head ∷ keep ∷ []) (statement_lexemes End) TooMany → ⊥
few_end (inl h) = omega (arith, h)
few_end (inr (inl (begin, h))) = omega (arith, h)
few_end (inr (inr (begin, h))) = omega (arith, h)

sound_head : IsSound model_grammar [] (statement_lexemes head)
sound_head = sound_by [] head only_head fine_head (λ h. omega (arith, h)) few_head

sound_keep : IsSound model_grammar (head ∷ []) (statement_lexemes keep)
sound_keep = sound_by (head ∷ []) keep only_keep fine_keep (λ h. omega (arith, h)) few_keep

sound_end : IsSound model_grammar (head ∷ keep ∷ []) (statement_lexemes End)
sound_end = sound_by (head ∷ keep ∷ []) End only_end fine_end (λ h. omega (arith, h)) few_end

-- each of three statements behind those before it
sound_stated : AreSound model_grammar stated
sound_stated [] behind s e =
    let is : s ≡ stated_in 1 head = cc in
    subst (λ (t : Stated Statement). IsSound model_grammar [] (statement_lexemes t.statement)) (sym is) sound_head
sound_stated (a ∷ []) behind s e =
    let first : a ≡ stated_in 1 head = cc in
    let is : s ≡ stated_in 2 keep = cc in
    subst (λ (t : Stated Statement). IsSound model_grammar (t.statement ∷ []) (statement_lexemes s.statement)) (sym first)
    (subst (λ (t : Stated Statement). IsSound model_grammar (head ∷ []) (statement_lexemes t.statement)) (sym is) sound_keep)
sound_stated (a ∷ b ∷ []) behind s e =
    let first : a ≡ stated_in 1 head = cc in
    let second : b ≡ stated_in 2 keep = cc in
    let is : s ≡ stated_in 3 End = cc in
    subst (λ (t : Stated Statement). IsSound model_grammar (t.statement ∷ b.statement ∷ []) (statement_lexemes s.statement)) (sym first)
    (subst (λ (t : Stated Statement). IsSound model_grammar (head ∷ t.statement ∷ []) (statement_lexemes s.statement)) (sym second)
    (subst (λ (t : Stated Statement). IsSound model_grammar (head ∷ keep ∷ []) (statement_lexemes t.statement)) (sym is) sound_end))
sound_stated (a ∷ b ∷ c ∷ []) behind s e = absurd (cc)
sound_stated (a ∷ b ∷ c ∷ d ∷ before) behind s e = absurd (cc)

-- the text is read as the model
pub is_read : IsModelText (shipped_text Sequential) program_order_model
unfolding shipped_text
is_read = (
  omega arith,
  stated,
  inr (
    head,
    stated_in 2 keep ∷ stated_in 3 End ∷ [],
    first_lexemes,
    inr (
      keep,
      stated_in 3 End ∷ [],
      second_lexemes,
      inr (End, [], third_lexemes, refl, refl),
      refl,
    ),
    refl,
  ),
  record {
    head_line = 1;
    number = None;
    behind_head = stated_in 2 keep ∷ stated_in 3 End ∷ [];
    before_end = stated_in 1 head ∷ stated_in 2 keep ∷ [];
    end_line = 3;
    sound = sound_stated;
    head = refl;
    end = refl;
    version = refl;
    rules = (Po, [], means KnownWords Po refl, refl, (refl, refl));
  },
)
