-- A line with tokens has no bad byte.
use Rattle.std.proofs.Common.{◌≡◌, ◌≢◌, ℕ, suc, ◌+◌, Bool, cond, true, false, true≢false, ◌||◌, not, eqb, List, [], ◌∷◌, take, drop, Some, None, inl, inr, refl, sym, ◌∙◌, ap, subst, arith}
use Rattle.std.specs.List.{list_any, prefix_len}
use Rattle.std.proofs.lemmas.List.{drop-drop}
use Rattle.std.proofs.lemmas.Bool.{cases_Bool, eqb-true}
use Rattle.std.proofs.lemmas.Bool.Decides.{nat_tests}
use Rattle.text_scan.specs.declared.scanning.TokenKind.{TokenKind}
use Rattle.text_scan.specs.declared.scanning.TokenKind.TheVariants.{Word, Number, PathToken, TextToken, Sign}
use Rattle.text_scan.specs.declared.scanning.Token.{Token}
use Rattle.text_scan.specs.Bytes.{is_digit, is_name_byte, is_first_byte, is_path_byte, is_blank, is_sign, is_line_byte}
use Rattle.text_scan.specs.Texts.{text_len}
use Rattle.text_scan.specs.Comments.{byte, text, is_bad, HasBadByte}
use Rattle.text_scan.specs.Forms.{HasForm}
use Rattle.text_scan.specs.Kinds.{kind_of, kind_at_front, len_behind, token_len}
use Rattle.text_scan.specs.Tokens.{behind_blanks, IsNext, IsLast, Follow, IsTokens}
use Rattle.text_scan.proofs.Ends.{text_clean}
use Rattle.text_scan.proofs.Fronts.{end_clean, bad_further}
use Rattle.text_scan.proofs.Following.{span}

-- bytes that may stand in a line, and neither open a text nor begin a comment
record IsHarmless (p : ℕ → Bool) : Type 0 where
  good : (b : ℕ) → p b ≡ true → is_line_byte b ≡ true
  quote : p 34 ≡ false
  sharp : p 35 ≡ false

names : IsHarmless is_name_byte
names = record { good = λ b e. grind (arith, nat_tests); quote = refl; sharp = refl }

paths : IsHarmless is_path_byte
paths = record { good = λ b e. grind (arith, nat_tests); quote = refl; sharp = refl }

blanks : IsHarmless is_blank
blanks = record { good = λ b e. grind (arith, nat_tests); quote = refl; sharp = refl }

firsts : IsHarmless is_first_byte
firsts = record { good = λ b e. grind (arith, nat_tests); quote = refl; sharp = refl }

digits : IsHarmless is_digit
digits = record { good = λ b e. grind (arith, nat_tests); quote = refl; sharp = refl }

signs : IsHarmless is_sign
signs = record { good = λ b e. grind (arith, nat_tests); quote = refl; sharp = refl }

slashes : IsHarmless (λ b. eqb b 47)
slashes = record { good = λ b e. ap is_line_byte (eqb-true b 47 e); quote = refl; sharp = refl }

-- such a byte is a part of its own
past_one : (p : ℕ → Bool) → IsHarmless p → (b : ℕ) (bs : List ℕ) → p b ≡ true → HasBadByte (b ∷ bs) → HasBadByte bs
past_one p h b bs e =
    let quote : b ≢ 34 = λ same. true≢false (sym e ∙ ap p same ∙ h.quote) in
    let sharp : b ≢ 35 = λ same. true≢false (sym e ∙ ap p same ∙ h.sharp) in
    bad_further (b ∷ bs) (b ∷ []) bs (byte b quote sharp refl refl) (ap (λ (t : Bool). not t || false) (h.good b e))

one_more : (n b : ℕ) (bs : List ℕ) → drop (1 + n) (b ∷ bs) ≡ drop n bs
one_more n b bs = let same : 1 + n ≡ suc n = omega arith in ap (λ (k : ℕ). drop k (b ∷ bs)) same

-- and so is each of a run of them
past_run : (p : ℕ → Bool) → IsHarmless p → (bs : List ℕ) → HasBadByte bs → HasBadByte (drop (prefix_len p bs) bs)
past_run p h [] bad = bad
past_run p h (b ∷ bs) bad = elim (cases_Bool (p b)) [
  | inl e ↦
      let F : Bool → Type 0 = λ t. HasBadByte (drop (cond t (1 + prefix_len p bs) 0) (b ∷ bs)) in
      subst F (sym e) (subst HasBadByte (sym (one_more (prefix_len p bs) b bs)) (past_run p h bs (past_one p h b bs e bad)))
  | inr e ↦ let F : Bool → Type 0 = λ t. HasBadByte (drop (cond t (1 + prefix_len p bs) 0) (b ∷ bs)) in subst F (sym e) bad
]

-- what a token of this kind begins with
abbrev Begins : Bool → Bool → Bool → Bool → Bool → TokenKind → Type 0
Begins first digit slash quote sign Word = first ≡ true
Begins first digit slash quote sign Number = digit ≡ true
Begins first digit slash quote sign PathToken = slash ≡ true
Begins first digit slash quote sign TextToken = quote ≡ true
Begins first digit slash quote sign Sign = sign ≡ true

begins_one : (p q r s t : Bool) (kind : TokenKind)
    → cond p (Some Word) (cond q (Some Number) (cond r (Some PathToken) (cond s (Some TextToken) (cond t (Some Sign) None)))) ≡ Some kind → Begins p q r s t kind
begins_one true q r s t kind e = let same : Word ≡ kind = cc e in subst (Begins true q r s t) same refl
begins_one false true r s t kind e = let same : Number ≡ kind = cc e in subst (Begins false true r s t) same refl
begins_one false false true s t kind e = let same : PathToken ≡ kind = cc e in subst (Begins false false true s t) same refl
begins_one false false false true t kind e = let same : TextToken ≡ kind = cc e in subst (Begins false false false true t) same refl
begins_one false false false false true kind e = let same : Sign ≡ kind = cc e in subst (Begins false false false false true) same refl
begins_one false false false false false kind e = absurd cc

past_kind : (kind : TokenKind) (b : ℕ) (bs : List ℕ) → Begins (is_first_byte b) (is_digit b) (eqb b 47) (eqb b 34) (is_sign b) kind
    → HasForm kind (b ∷ take (len_behind (Some kind) bs) bs) → HasBadByte (b ∷ bs) → HasBadByte (drop (len_behind (Some kind) bs) bs)
past_kind Word b bs e form bad = past_run is_name_byte names bs (past_one is_first_byte firsts b bs e bad)
past_kind Number b bs e form bad = past_run is_name_byte names bs (past_one is_digit digits b bs e bad)
past_kind PathToken b bs e form bad = past_run is_path_byte paths bs (past_one (λ x. eqb x 47) slashes b bs e bad)
past_kind TextToken b bs e form bad =
    let same : b ≡ 34 = eqb-true b 34 e in
    let part : List ℕ = 34 ∷ take (text_len bs) bs in
    let clean : list_any is_bad part ≡ false = ap (λ (x : ℕ). list_any is_bad (x ∷ take (text_len bs) bs)) (sym same) ∙ text_clean (b ∷ take (text_len bs) bs) form in
    bad_further (b ∷ bs) part (drop (text_len bs) bs) (text bs (ap (λ (x : ℕ). x ∷ bs) same) refl refl) clean bad
past_kind Sign b bs e form bad = past_one is_sign signs b bs e bad

-- a token is made of parts
past_token : (front : List ℕ) (kind : TokenKind) → kind_at_front front ≡ Some kind → HasForm kind (take (token_len front) front)
    → HasBadByte front → HasBadByte (drop (token_len front) front)
past_token [] kind is form bad = absurd cc
past_token (b ∷ bs) kind is form bad =
    let long : token_len (b ∷ bs) ≡ suc (len_behind (Some kind) bs) = ap (λ o. 1 + len_behind o bs) is ∙ (omega arith) in
    let form' : HasForm kind (b ∷ take (len_behind (Some kind) bs) bs) = subst (λ (n : ℕ). HasForm kind (take n (b ∷ bs))) long form in
    let begins = begins_one (is_first_byte b) (is_digit b) (eqb b 47) (eqb b 34) (is_sign b) kind is in
    subst (λ (n : ℕ). HasBadByte (drop n (b ∷ bs))) (sym long) (past_kind kind b bs begins form' bad)

past_blanks : (line : List ℕ) (place : ℕ) → HasBadByte (drop place line) → HasBadByte (drop (behind_blanks line place) line)
past_blanks line place bad =
    subst HasBadByte (drop-drop (prefix_len is_blank (drop place line)) place line) (past_run is_blank blanks (drop place line) bad)

past_next : (line : List ℕ) (place : ℕ) (t : Token) → IsNext line place t → HasBadByte (drop place line) → HasBadByte (drop t.end line)
past_next line place t next bad =
    let here : HasBadByte (drop t.start line) = subst (λ (n : ℕ). HasBadByte (drop n line)) (sym next.0) (past_blanks line place bad) in
    let form : HasForm t.kind (take (token_len (drop t.start line)) (drop t.start line)) = subst (HasForm t.kind) (span line t next.1) next.1.form in
    let behind = past_token (drop t.start line) t.kind next.1.kind form here in
    subst (λ (n : ℕ). HasBadByte (drop n line)) (sym next.1.longest) (subst HasBadByte (drop-drop (token_len (drop t.start line)) t.start line) behind)

clean_from : (line : List ℕ) (place end : ℕ) (ts : List Token) → Follow line place ts end → IsLast line end → HasBadByte (drop place line) → ⊥
clean_from line place end [] f last bad =
    end_clean (drop (behind_blanks line end) line) last (past_blanks line end (subst (λ (n : ℕ). HasBadByte (drop n line)) f bad))
clean_from line place end (t ∷ ts) f last bad = clean_from line t.end end ts f.1 last (past_next line place t f.0 bad)

-- a line with tokens has no bad byte
pub no_bad_byte : (line : List ℕ) (a : List Token) → IsTokens line a → HasBadByte line → ⊥
no_bad_byte line a (end, f, last) bad = clean_from line 0 end a f last bad
