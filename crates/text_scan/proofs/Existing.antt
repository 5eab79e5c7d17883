-- Every line has tokens, a bad byte or a bad token.
use Rattle.std.proofs.Common.{◌≡◌, ◌⊎◌, inl, inr, ℕ, zero, suc, ◌+◌, ◌-◌, ◌*◌, ◌<◌, ◌≤◌, Bool, true, false, true≢false, List, [], ◌∷◌, ◌++◌, length, take, drop, Option, Some, None, IsTrue, refl, sym, ◌∙◌, ap, subst, arith, length-append}
use Rattle.std.proofs.lemmas.Bool.{cases_Bool}
use Rattle.std.proofs.lemmas.Bool.Decides.{eqb_tells}
use Rattle.text_scan.specs.declared.scanning.TokenKind.{TokenKind}
use Rattle.text_scan.specs.declared.scanning.TokenKind.TheVariants.{Word, Number, PathToken, TextToken, Sign}
use Rattle.text_scan.specs.declared.scanning.Token.{Token}
use Rattle.text_scan.specs.declared.scanning.ScanError.TheVariants.{BadByte, BadToken}
use Rattle.text_scan.specs.Bytes.{is_hex_digit}
use Rattle.text_scan.specs.Comments.{IsEnd}
use Rattle.text_scan.specs.Items.{is_plain, escaped, hex_value, IsItem, plain, short, hex, Spells, IsText}
use Rattle.text_scan.specs.Forms.{is_word, is_number, is_path, is_one_sign, HasForm}
use Rattle.text_scan.specs.Faults.{IsBad, HasBadToken, IsFault}
use Rattle.text_scan.specs.Kinds.{kind_of, kind_at_front, token_len}
use Rattle.text_scan.specs.Tokens.{behind_blanks, IsNext, IsTokens}
use Rattle.text_scan.proofs.Spelling.{no_item_none, no_item_first, no_item_lone, no_item_hex, no_item_short, plain_item, short_item, hex_item, left_all, left_none, behind_item}
use Rattle.text_scan.proofs.Fronts.{bad_or_not}
use Rattle.text_scan.proofs.Following.{IsReadTo, read_none, read_more, read_all, read_bad}

-- an item at the front of some bytes, and the rest
record Front (bytes : List ℕ) : Type 0 where
  item : List ℕ
  rest : List ℕ
  byte : ℕ
  cut : bytes ≡ item ++ rest
  is : IsItem item byte

abbrev NoFront : List ℕ → Type 0
NoFront bytes = (item rest : List ℕ) (byte : ℕ) → bytes ≡ item ++ rest → IsItem item byte → ⊥

front_from : (bytes rest : List ℕ) (byte : ℕ) → (item : List ℕ) × (bytes ≡ item ++ rest) × IsItem item byte → Front bytes
front_from bytes rest byte (item, cut, is) = record { item = item; rest = rest; byte = byte; cut = cut; is = is }

hex_or_not : (bytes behind : List ℕ) → bytes ≡ 92 ∷ 120 ∷ behind → Front bytes ⊎ NoFront bytes
hex_or_not bytes [] at = inr (λ item rest byte e is. no_item_hex item rest bytes [] byte (λ a b more f high low. cc f) at e is)
hex_or_not bytes (x ∷ []) at = inr (λ item rest byte e is. no_item_hex item rest bytes (x ∷ []) byte (λ a b more f high low. cc f) at e is)
hex_or_not bytes (x ∷ y ∷ more) at =
    elim (cases_Bool (is_hex_digit x)) [
      | inr wrong ↦ inr (λ item rest byte e is. no_item_hex item rest bytes (x ∷ y ∷ more) byte
          (λ a b r f high low. let same : x ≡ a = cc f in true≢false (sym high ∙ ap is_hex_digit (sym same) ∙ wrong)) at e is)
      | inl high' ↦ elim (cases_Bool (is_hex_digit y)) [
        | inr wrong ↦ inr (λ item rest byte e is. no_item_hex item rest bytes (x ∷ y ∷ more) byte
            (λ a b r f high low. let same : y ≡ b = cc f in true≢false (sym low ∙ ap is_hex_digit (sym same) ∙ wrong)) at e is)
        | inl low' ↦ inl (front_from bytes more (16 * hex_value x + hex_value y) (hex_item bytes (x ∷ y ∷ more) more (16 * hex_value x + hex_value y) x y refl high' low' refl at))
      ]
    ]

escape_or_not : (bytes behind : List ℕ) (c : ℕ) → (c ≡ 120 → ⊥) → bytes ≡ 92 ∷ c ∷ behind → (o : Option ℕ) → escaped c ≡ o → Front bytes ⊎ NoFront bytes
escape_or_not bytes behind c other at None none = inr (λ item rest byte e is. no_item_short item rest bytes behind byte c none other at e is)
escape_or_not bytes behind c other at (Some byte) means = inl (front_from bytes behind byte (short_item bytes behind c byte means at))

backslash_or_not : (bytes behind : List ℕ) → bytes ≡ 92 ∷ behind → Front bytes ⊎ NoFront bytes
backslash_or_not bytes [] at = inr (λ item rest byte e is. no_item_lone item rest bytes byte at e is)
backslash_or_not bytes (c ∷ cs) at =
    elim (eqb_tells c 120) [
      | inl (told, same) ↦ hex_or_not bytes cs (at ∙ ap (λ (x : ℕ). 92 ∷ x ∷ cs) same)
      | inr (told, other) ↦ escape_or_not bytes cs c other at (escaped c) refl
    ]

-- the bytes begin with an item, or they don't
front_or_not : (bytes : List ℕ) → Front bytes ⊎ NoFront bytes
front_or_not [] = inr (λ item rest byte e is. no_item_none item rest [] byte refl e is)
front_or_not (b ∷ bs) =
    elim (cases_Bool (is_plain b)) [
      | inl good ↦ inl (front_from (b ∷ bs) bs b (plain_item (b ∷ bs) bs b good refl))
      | inr bad ↦ elim (eqb_tells b 92) [
        | inl (told, same) ↦ backslash_or_not (b ∷ bs) bs (ap (λ (x : ℕ). x ∷ bs) same)
        | inr (told, other) ↦ inr (λ item rest byte e is. no_item_first item rest (b ∷ bs) bs byte b bad other refl e is)
      ]
    ]

item_some : (item : List ℕ) (byte : ℕ) → IsItem item byte → 0 < length item
item_some item byte (plain p e) = let len : length item ≡ 1 = ap length e in omega arith
item_some item byte (short b p e) = let len : length item ≡ 2 = ap length e in omega arith
item_some item byte (hex a b p q v e) = let len : length item ≡ 4 = ap length e in omega arith

quote_or_not : (bytes : List ℕ) → (bytes ≡ 34 ∷ []) ⊎ (bytes ≡ 34 ∷ [] → ⊥)
quote_or_not [] = inr (λ e. cc e)
quote_or_not (b ∷ c ∷ cs) = inr (λ e. cc e)
quote_or_not (b ∷ []) =
    elim (eqb_tells b 34) [ inl (told, same) ↦ inl (ap (λ (x : ℕ). x ∷ []) same) | inr (told, other) ↦ inr (λ e. other (cc e)) ]

abbrev SpelledOrNot : List ℕ → Type 0
SpelledOrNot written = ((bytes : List ℕ) × Spells written bytes) ⊎ ((bytes : List ℕ) → Spells written bytes → ⊥)

spelled_behind : (written : List ℕ) (f : Front written) → SpelledOrNot f.rest → SpelledOrNot written
spelled_behind written f (inl (bytes, s)) = inl (f.byte ∷ bytes, (f.item, f.rest, f.cut, f.is, s))
spelled_behind written f (inr none) =
    inr (λ bytes s. let one = behind_item written f.item f.rest f.byte bytes f.cut f.is s in none one.0 one.2)

shorter : (written : List ℕ) (f : Front written) → length f.rest < length written
shorter written f =
    let some : 0 < length f.item = item_some f.item f.byte f.is in
    let whole : length written ≡ length f.item + length f.rest = ap length f.cut ∙ length-append f.item f.rest in
    omega arith

spelled_now : (written : List ℕ) → ((f : Front written) → SpelledOrNot f.rest) → SpelledOrNot written
spelled_now written more =
    elim (front_or_not written) [
      | inl f ↦ spelled_behind written f (more f)
      | inr none ↦ elim (quote_or_not written) [
        | inl at ↦ inl ([], at)
        | inr other ↦ inr (λ bytes s. other (left_none written written (left_all written) none bytes s))
      ]
    ]

-- the bytes are items and a closing quote, or they aren't
spelled_or_not : (n : ℕ) (written : List ℕ) → length written ≤ n → SpelledOrNot written
spelled_or_not zero written few = spelled_now written (λ f. let less = shorter written f in absurd (omega arith))
spelled_or_not (suc n) written few = spelled_now written (λ f. let less = shorter written f in spelled_or_not n f.rest (omega arith))

text_or_not : (text : List ℕ) → IsText text ⊎ (IsText text → ⊥)
text_or_not [] = inr (λ (bytes, (written, e, s)). cc e)
text_or_not (b ∷ bs) =
    elim (eqb_tells b 34) [
      | inl (told, same) ↦ elim (spelled_or_not (length bs) bs (omega arith)) [
        | inl (bytes, s) ↦ inl (bytes, (bs, ap (λ (x : ℕ). x ∷ bs) same, s))
        | inr none ↦ inr (λ (bytes, (written, e, s)). let at : written ≡ bs = cc e in none bytes (subst (λ (x : List ℕ). Spells x bytes) at s))
      ]
      | inr (told, other) ↦ inr (λ (bytes, (written, e, s)). other (cc e))
    ]

true_or_not : (b : Bool) → IsTrue b ⊎ (IsTrue b → ⊥)
true_or_not true = inl refl
true_or_not false = inr (λ e. true≢false (sym e))

form_or_not : (kind : TokenKind) (bytes : List ℕ) → HasForm kind bytes ⊎ (HasForm kind bytes → ⊥)
form_or_not Word bytes = true_or_not (is_word bytes)
form_or_not Number bytes = true_or_not (is_number bytes)
form_or_not PathToken bytes = true_or_not (is_path bytes)
form_or_not TextToken bytes = text_or_not bytes
form_or_not Sign bytes = true_or_not (is_one_sign bytes)

-- a token at the front, of the form of its kind
record Good (front : List ℕ) : Type 0 where
  its_kind : TokenKind
  found : kind_at_front front ≡ Some its_kind
  formed : HasForm its_kind (take (token_len front) front)

kind_or_not : (front : List ℕ) → (IsEnd front → ⊥) → (o : Option TokenKind) → kind_at_front front ≡ o → Good front ⊎ IsBad front
kind_or_not front more None none = inr (record { more = more; formless = λ k is form. let clash : None ≡ Some k = sym none ∙ is in cc clash })
kind_or_not front more (Some kind) found =
    elim (form_or_not kind (take (token_len front) front)) [
      | inl form ↦ inl (record { its_kind = kind; found = found; formed = form })
      | inr none ↦ inr (record {
        more = more;
        formless = λ k is form.
            let both : Some k ≡ Some kind = sym is ∙ found in
            let same : k ≡ kind = cc both in
            let F : TokenKind → Type 0 = λ x. HasForm x (take (token_len front) front) in
            none (subst F same form);
      })
    ]

good_or_not : (front : List ℕ) → IsEnd front ⊎ (Good front ⊎ IsBad front)
good_or_not [] = inl tt
good_or_not (b ∷ bs) =
    elim (eqb_tells b 35) [
      | inl (told, same) ↦ inl same
      | inr (told, other) ↦ inr (kind_or_not (b ∷ bs) other (kind_of b) refl)
    ]

good_token : (line : List ℕ) (place : ℕ) → Good (drop (behind_blanks line place) line) → (t : Token) × IsNext line place t
good_token line place g =
    let start = behind_blanks line place in
    let front = drop start line in
    let t : Token = record { kind = g.its_kind; start = start; end = start + token_len front } in
    let span : token_len front ≡ start + token_len front - start = omega arith in
    let F : ℕ → Type 0 = λ n. HasForm g.its_kind (take n front) in
    (t, (refl, record { kind = g.found; longest = refl; form = subst F span g.formed }))

abbrev Answered : List ℕ → Type 0
Answered line = ((tokens : List Token) × IsTokens line tokens) ⊎ HasBadToken line

scanned_now : (line : List ℕ) (tokens : List Token) (place : ℕ) → IsReadTo line tokens place → ((more : List Token) (end : ℕ) → place < end → IsReadTo line more end → Answered line)
    → Answered line
scanned_now line tokens place h go =
    elim (good_or_not (drop (behind_blanks line place) line)) [
      | inl last ↦ inl (tokens, read_all line tokens place h last)
      | inr next ↦ elim next [
        | inl good ↦
            let (t, is) = good_token line place good in
            let more = read_more line tokens (tokens ++ t ∷ []) place t h is refl in
            go (tokens ++ t ∷ []) t.end more.0 more.1
        | inr bad ↦ inr (read_bad line tokens place h bad)
      ]
    ]

scanned : (n : ℕ) (line : List ℕ) (tokens : List Token) (place : ℕ) → length line ≤ place + n → IsReadTo line tokens place → Answered line
scanned zero line tokens place few h = scanned_now line tokens place h (λ more end above k. let within = k.within in absurd (omega arith))
scanned (suc n) line tokens place few h = scanned_now line tokens place h (λ more end above k. scanned n line more end (omega arith) k)

-- each line has tokens, or a bad byte, or no bad byte and a bad token
pub some_answer : (line : List ℕ) → ((tokens : List Token) × IsTokens line tokens) ⊎ IsFault line BadByte ⊎ IsFault line BadToken
some_answer line =
    elim (bad_or_not (length line) line (omega arith)) [
      | inl bad ↦ inr (inl bad)
      | inr clean ↦ elim (scanned (length line) line [] 0 (omega arith) (read_none line)) [
        | inl tokens ↦ inl tokens
        | inr bad ↦ inr (inr (clean, bad))
      ]
    ]
