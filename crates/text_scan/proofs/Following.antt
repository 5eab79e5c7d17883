-- The tokens of a line follow one another in one way.
use Rattle.std.proofs.Common.{◌≡◌, ◌≢◌, Bool, true, false, cond, ℕ, zero, suc, ◌+◌, ◌-◌, ◌<◌, ◌≤◌, List, [], ◌∷◌, ◌++◌, length, take, drop, get_or, Some, None, refl, sym, ◌∙◌, ap, ap₂, subst, arith}
use Rattle.std.specs.List.{prefix_len, All}
use Rattle.std.proofs.lemmas.List.{length-drop}
use Rattle.std.proofs.lemmas.List.Sums.{prefix_len-le-length}
use Rattle.std.proofs.lemmas.List.Elements.{All-nil, All-push}
use Rattle.text_scan.specs.declared.scanning.TokenKind.{TokenKind}
use Rattle.text_scan.specs.declared.scanning.TokenKind.TheVariants.{Word, Number, PathToken, TextToken, Sign}
use Rattle.text_scan.specs.declared.scanning.Token.{Token}
use Rattle.text_scan.specs.Bytes.{is_name_byte, is_path_byte, is_blank}
use Rattle.text_scan.specs.Comments.{IsEnd}
use Rattle.text_scan.specs.Forms.{HasForm}
use Rattle.text_scan.specs.Faults.{IsBad, IsBadNext, HasBadToken}
use Rattle.text_scan.specs.Kinds.{kind_of, kind_at_front, len_behind, token_len}
use Rattle.text_scan.specs.Tokens.{behind_blanks, token_text, IsToken, IsNext, IsLast, Follow, IsTokens}
use Rattle.text_scan.proofs.Ends.{text_within}

-- two tokens that begin at one place are one token
same_token : (line : List ℕ) (t u : Token) → t.start ≡ u.start → IsToken line t → IsToken line u → t ≡ u
same_token line t u start a b =
    let kinds : Some t.kind ≡ Some u.kind = sym a.kind ∙ ap (λ (n : ℕ). kind_at_front (drop n line)) start ∙ b.kind in
    let ends : t.end ≡ u.end = a.longest ∙ ap (λ (n : ℕ). n + token_len (drop n line)) start ∙ sym b.longest in
    let kind : t.kind ≡ u.kind = cc kinds in
    equal t.kind u.kind t.start u.start t.end u.end kind start ends
  where
    equal : (k l : TokenKind) (i j m n : ℕ) → k ≡ l → i ≡ j → m ≡ n
        → (let t : Token = record { kind = k; start = i; end = m } in let u : Token = record { kind = l; start = j; end = n } in t ≡ u)
    equal k l i j m n e f g =
        let F : TokenKind → ℕ → ℕ → Token = λ a b c. record { kind = a; start = b; end = c } in
        ap (λ (x : TokenKind). F x i m) e ∙ ap (λ (x : ℕ). F l x m) f ∙ ap (λ (x : ℕ). F l j x) g

-- where the line ends or a comment begins, no token does
end_no_kind : (front : List ℕ) (kind : TokenKind) → IsEnd front → kind_at_front front ≡ Some kind → ⊥
end_no_kind [] kind end is = cc
end_no_kind (b ∷ bs) kind end is = let none : Some kind ≡ None = sym is ∙ ap kind_of end in cc

last_no_token : (line : List ℕ) (place : ℕ) (t : Token) → IsLast line place → IsNext line place t → ⊥
last_no_token line place t last next =
    end_no_kind (drop t.start line) t.kind (subst (λ (n : ℕ). IsEnd (drop n line)) (sym next.0) last) next.1.kind

pub span : (line : List ℕ) (t : Token) → IsToken line t → token_text line t ≡ take (token_len (drop t.start line)) (drop t.start line)
span line t is = let same : t.end - t.start ≡ token_len (drop t.start line) = let e = is.longest in omega arith in ap (λ (n : ℕ). take n (drop t.start line)) same

bad_no_token : (line : List ℕ) (place : ℕ) (t : Token) → IsBadNext line place → IsNext line place t → ⊥
bad_no_token line place t bad next =
    let here : IsBad (drop t.start line) = subst (λ (n : ℕ). IsBad (drop n line)) (sym next.0) bad in
    here.formless t.kind next.1.kind (subst (HasForm t.kind) (span line t next.1) next.1.form)

one_from : (line : List ℕ) (place end end' : ℕ) (ts us : List Token) → Follow line place ts end → IsLast line end → Follow line place us end' → IsLast line end' → ts ≡ us
one_from line place end end' [] [] f last g last' = refl
one_from line place end end' [] (u ∷ us) f last g last' = absurd (last_no_token line place u (subst (IsLast line) (sym f) last) g.0)
one_from line place end end' (t ∷ ts) [] f last g last' = absurd (last_no_token line place t (subst (IsLast line) (sym g) last') f.0)
one_from line place end end' (t ∷ ts) (u ∷ us) f last g last' =
    let same = same_token line t u (f.0.0 ∙ sym g.0.0) f.0.1 g.0.1 in
    let behind : Follow line t.end us end' = subst (λ (n : ℕ). Follow line n us end') (sym (ap (λ (x : Token). x.end) same)) g.1 in
    ap₂ (λ (x : Token) (xs : List Token). x ∷ xs) same (one_from line t.end end end' ts us f.1 last behind last')

-- a line has one list of tokens at most
pub one_list : (line : List ℕ) (a b : List Token) → IsTokens line a → IsTokens line b → a ≡ b
one_list line a b (end, f, last) (end', g, last') = one_from line 0 end end' a b f last g last'

bad_from : (line : List ℕ) (place end end' : ℕ) (ts us : List Token) → Follow line place ts end → IsLast line end → Follow line place us end' → IsBadNext line end' → ⊥
bad_from line place end end' [] [] f last g bad =
    let same : end ≡ end' = sym f ∙ g in
    bad.more (subst (IsLast line) same last)
bad_from line place end end' [] (u ∷ us) f last g bad = last_no_token line place u (subst (IsLast line) (sym f) last) g.0
bad_from line place end end' (t ∷ ts) [] f last g bad = bad_no_token line place t (subst (IsBadNext line) (sym g) bad) f.0
bad_from line place end end' (t ∷ ts) (u ∷ us) f last g bad =
    let same = same_token line t u (f.0.0 ∙ sym g.0.0) f.0.1 g.0.1 in
    let behind : Follow line t.end us end' = subst (λ (n : ℕ). Follow line n us end') (sym (ap (λ (x : Token). x.end) same)) g.1 in
    bad_from line t.end end end' ts us f.1 last behind bad

-- a line with tokens has no bad one
pub no_bad_token : (line : List ℕ) (a : List Token) → IsTokens line a → HasBadToken line → ⊥
no_bad_token line a (end, f, last) (us, end', g, bad) = bad_from line 0 end end' a us f last g bad

-- one token more
pub follow_more : (line : List ℕ) (place end : ℕ) (ts : List Token) (t : Token) → Follow line place ts end → IsNext line end t → Follow line place (ts ++ t ∷ []) t.end
follow_more line place end [] t f next = (subst (λ (n : ℕ). IsNext line n t) (sym f) next, refl)
follow_more line place end (u ∷ us) t f next = (f.0, follow_more line u.end end us t f.1 next)

behind_within : (kind : TokenKind) (bs : List ℕ) → len_behind (Some kind) bs ≤ length bs
behind_within Word bs = prefix_len-le-length is_name_byte bs
behind_within Number bs = prefix_len-le-length is_name_byte bs
behind_within PathToken bs = prefix_len-le-length is_path_byte bs
behind_within TextToken bs = text_within bs
behind_within Sign bs = omega arith

front_some : (front : List ℕ) (kind : TokenKind) → kind_at_front front ≡ Some kind → (0 < length front) × (0 < token_len front) × (token_len front ≤ length front)
front_some [] kind is = absurd cc
front_some (b ∷ bs) kind is =
    let len : token_len (b ∷ bs) ≡ 1 + len_behind (Some kind) bs = ap (λ o. 1 + len_behind o bs) is in
    let few : len_behind (Some kind) bs ≤ length bs = behind_within kind bs in
    (omega arith, omega arith, omega arith)

-- a token stands within the line, and has some bytes
pub token_some : (line : List ℕ) (t : Token) → IsToken line t → (t.start < length line) × (t.start < t.end) × (t.end ≤ length line)
token_some line t is =
    let some = front_some (drop t.start line) t.kind is.kind in
    let left : length (drop t.start line) ≡ length line - t.start = length-drop t.start line in
    let ends : t.end ≡ t.start + token_len (drop t.start line) = is.longest in
    let first : 0 < length (drop t.start line) = some.0 in
    let more : 0 < token_len (drop t.start line) = some.1 in
    let few : token_len (drop t.start line) ≤ length (drop t.start line) = some.2 in
    (omega arith, omega arith, omega arith)

-- the blanks end within the line
pub blanks_within : (line : List ℕ) (place : ℕ) → place ≤ length line → behind_blanks line place ≤ length line
blanks_within line place h =
    let few = prefix_len-le-length is_blank (drop place line) in
    let left : length (drop place line) ≡ length line - place = length-drop place line in
    omega arith

-- so many blanks end within the line
pub blanks_end : (line rest : List ℕ) (place blanks : ℕ) → place ≤ length line → rest ≡ drop place line → blanks ≡ prefix_len is_blank rest
    → (place + blanks ≡ behind_blanks line place) × (place + blanks ≤ length line)
blanks_end line rest place blanks h at is =
    let same : place + blanks ≡ behind_blanks line place = ap (λ (n : ℕ). place + n) (is ∙ ap (prefix_len is_blank) at) in
    (same, subst (λ (n : ℕ). n ≤ length line) (sym same) (blanks_within line place h))

-- the line ends here
pub end_of_line : (line : List ℕ) (start : ℕ) → start ≡ length line → IsEnd (drop start line)
end_of_line [] zero e = tt
end_of_line [] (suc n) e = tt
end_of_line (b ∷ bs) zero e = absurd (omega arith)
end_of_line (b ∷ bs) (suc n) e = end_of_line bs n (omega arith)

-- a comment begins here
pub comment_here : (line : List ℕ) (start : ℕ) → start < length line → get_or line start 0 ≡ 35 → IsEnd (drop start line)
comment_here [] start h e = absurd (omega arith)
comment_here (b ∷ bs) zero h e = e
comment_here (b ∷ bs) (suc n) h e = comment_here bs n (omega arith) e

-- something else begins here
pub no_end : (line : List ℕ) (start : ℕ) → start < length line → get_or line start 0 ≢ 35 → IsEnd (drop start line) → ⊥
no_end [] start h other end = absurd (omega arith)
no_end (b ∷ bs) zero h other end = other end
no_end (b ∷ bs) (suc n) h other end = no_end bs n (omega arith) other end

-- what stands at the front and has no form of a token is bad
pub bad_at : (line : List ℕ) (start : ℕ) (front behind : List ℕ) (first end : ℕ) (kind : TokenKind) → start < length line → get_or line start 0 ≢ 35 → front ≡ drop start line
    → front ≡ first ∷ behind → kind_of first ≡ Some kind → end ≡ start + 1 + len_behind (Some kind) behind
    → (HasForm kind (take (end - start) (drop start line)) → ⊥) → IsBad (drop start line)
bad_at line start front behind first end kind below other at is kinds to none = record {
  more = no_end line start below other;
  formless = λ k found form.
      let whole : first ∷ behind ≡ drop start line = sym is ∙ at in
      let its : kind_of first ≡ Some k = ap kind_at_front whole ∙ found in
      let both : Some kind ≡ Some k = sym kinds ∙ its in
      let same : k ≡ kind = cc both in
      let len : token_len (drop start line) ≡ 1 + len_behind (Some kind) behind = ap token_len (sym whole) ∙ ap (λ o. 1 + len_behind o behind) kinds in
      let span : token_len (drop start line) ≡ end - start = omega arith in
      let F : ℕ → Type 0 = λ n. HasForm kind (take n (drop start line)) in
      let G : TokenKind → Type 0 = λ x. HasForm x (take (token_len (drop start line)) (drop start line)) in
      none (subst F span (subst G same form));
}

-- what is known while the tokens of a line are read
pub record IsReadTo (line : List ℕ) (tokens : List Token) (place : ℕ) : Type 0 where
  pub within : place ≤ length line
  pub follow : Follow line 0 tokens place
  pub each : All (λ t. (t.start < t.end) × (t.end ≤ length line)) tokens

pub read_none : (line : List ℕ) → IsReadTo line [] 0
read_none line = record { within = omega arith; follow = refl; each = All-nil (λ t. (t.start < t.end) × (t.end ≤ length line)) }

pub read_more : (line : List ℕ) (tokens new : List Token) (place : ℕ) (t : Token) → IsReadTo line tokens place → IsNext line place t
    → new ≡ tokens ++ t ∷ [] → (place < t.end) × IsReadTo line new t.end
read_more line tokens new place t h next is =
    let some = token_some line t next.1 in
    let from : place ≤ t.start = let e = next.0 in omega arith in
    let above : t.start < t.end = some.1 in
    let to : t.end ≤ length line = some.2 in
    let E : Token → Type 0 = λ u. (u.start < u.end) × (u.end ≤ length line) in
    let F : List Token → Type 0 = λ ts. Follow line 0 ts t.end in (
      omega arith,
      record {
        within = to;
        follow = subst F (sym is) (follow_more line 0 place tokens t h.follow next);
        each = subst (All E) (sym is) (All-push E tokens t h.each (above, to));
      },
    )

pub read_all : (line : List ℕ) (tokens : List Token) (place : ℕ) → IsReadTo line tokens place → IsLast line place → IsTokens line tokens
read_all line tokens place h last = (place, h.follow, last)

pub read_bad : (line : List ℕ) (tokens : List Token) (place : ℕ) → IsReadTo line tokens place → IsBadNext line place → HasBadToken line
read_bad line tokens place h bad = (tokens, place, h.follow, bad)
