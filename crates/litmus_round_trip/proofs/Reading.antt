-- What follows in a line is read token by token, whatever stands before it.
use Rattle.std.proofs.Common.{◌≡◌, ℕ, ◌+◌, ◌-◌, List, [], ◌∷◌, ◌++◌, length, take, drop, Some, refl, sym, ◌∙◌, ap, subst, arith, append_assoc, append-nil, length-append}
use Rattle.std.specs.List.{prefix_len}
use Rattle.std.proofs.Math.Seq.{drop-append_seam, take-append_seam}
use Rattle.text_scan.specs.declared.scanning.TokenKind.{TokenKind}
use Rattle.text_scan.specs.declared.scanning.Token.{Token}
use Rattle.text_scan.specs.Bytes.{is_blank}
use Rattle.text_scan.specs.Forms.{HasForm}
use Rattle.text_scan.specs.Kinds.{kind_at_front, token_len}
use Rattle.text_scan.specs.Tokens.{behind_blanks, token_text, IsToken, IsLast, Follow}
use Rattle.text_scan.specs.Comments.{IsEnd}
use Rattle.lexeme_reader.specs.declared.reading.Lexeme.{Lexeme}
use Rattle.lexeme_reader.specs.Lexemes.{Says, AreSaid, AreLexemes}

-- the line from a place on has tokens that say this
abbrev pub ReadsAt : List ℕ → ℕ → List Lexeme → Type 0
ReadsAt line place ls = (tokens : List Token) × (end : ℕ) × Follow line place tokens end × IsLast line end × AreSaid line tokens ls

-- the bytes say this, whatever stands before them in the line
abbrev pub Reads : List ℕ → List Lexeme → Type 0
Reads rest ls = (front : List ℕ) → ReadsAt (front ++ rest) (length front) ls

-- a whole line says what its bytes say
pub reads_line : (line : List ℕ) (ls : List Lexeme) → Reads line ls → AreLexemes line ls
reads_line line ls reads = let r = reads [] in (r.0, (r.1, r.2, r.3), r.4)

-- the end of a list says what it says without it
pub reads_end : (bytes : List ℕ) (ls : List Lexeme) → Reads (bytes ++ []) ls → Reads bytes ls
reads_end bytes ls reads = subst (λ (b : List ℕ). Reads b ls) (append-nil bytes) reads

behind_front : (front rest : List ℕ) → behind_blanks (front ++ rest) (length front) ≡ length front + prefix_len is_blank rest
behind_front front rest = ap (λ (b : List ℕ). length front + prefix_len is_blank b) (drop-append_seam front rest)

-- nothing says nothing
pub reads_nothing : Reads [] []
reads_nothing front =
    let place : behind_blanks (front ++ []) (length front) ≡ length front + 0 = behind_front front [] in
    let same : behind_blanks (front ++ []) (length front) ≡ length front = omega (arith, place) in
    let none : drop (behind_blanks (front ++ []) (length front)) (front ++ []) ≡ [] =
    ap (λ (n : ℕ). drop n (front ++ [])) same ∙ drop-append_seam front [] in
    ([], length front, refl, subst IsEnd (sym none) tt, tt)

move_start : (line : List ℕ) (a b : ℕ) (tokens : List Token) (end : ℕ) (ls : List Lexeme) → behind_blanks line a ≡ behind_blanks line b
    → Follow line b tokens end → IsLast line end → AreSaid line tokens ls → ReadsAt line a ls
move_start line a b [] end ls same follows last said =
    let here : IsLast line b = subst (IsLast line) (sym follows) last in
    ([], a, refl, subst (λ (n : ℕ). IsEnd (drop n line)) (sym same) here, said)
move_start line a b (t ∷ ts) end ls same follows last said =
    (t ∷ ts, end, ((follows.0.0 ∙ sym same, follows.0.1), follows.1), last, said)

-- a blank says nothing
pub reads_blank : (rest : List ℕ) (ls : List Lexeme) → Reads rest ls → Reads (32 ∷ rest) ls
reads_blank rest ls reads front =
    let line : List ℕ = front ++ 32 ∷ rest in
    let longer : (front ++ 32 ∷ []) ++ rest ≡ line = append_assoc front (32 ∷ []) rest in
    let long : length (front ++ 32 ∷ []) ≡ length front + 1 = length-append front (32 ∷ []) in
    let r : ReadsAt line (length (front ++ 32 ∷ [])) ls = subst (λ (l : List ℕ). ReadsAt l (length (front ++ 32 ∷ [])) ls) longer (reads (front ++ 32 ∷ [])) in
    let before : behind_blanks line (length front) ≡ length front + (1 + prefix_len is_blank rest) = behind_front front (32 ∷ rest) in
    let behind : behind_blanks line (length (front ++ 32 ∷ [])) ≡ length (front ++ 32 ∷ []) + prefix_len is_blank rest =
    ap (λ (l : List ℕ). behind_blanks l (length (front ++ 32 ∷ []))) (sym longer) ∙ behind_front (front ++ 32 ∷ []) rest in
    let same : behind_blanks line (length front) ≡ behind_blanks line (length (front ++ 32 ∷ [])) = omega (arith, before, behind, long) in
    move_start line (length front) (length (front ++ 32 ∷ [])) r.0 r.1 ls same r.2 r.3 r.4

-- bytes that a token takes, before others
pub record IsLongest (kind : TokenKind) (word rest : List ℕ) : Type 0 where
  pub first : kind_at_front (word ++ rest) ≡ Some kind
  pub whole : token_len (word ++ rest) ≡ length word
  pub form : HasForm kind word
  pub unblank : prefix_len is_blank (word ++ rest) ≡ 0

-- a token says what its kind and its bytes say
pub reads_token : (kind : TokenKind) (word rest : List ℕ) (l : Lexeme) (ls : List Lexeme) → IsLongest kind word rest → Says kind word l → Reads rest ls → Reads (word ++ rest) (l ∷ ls)
reads_token kind word rest l ls taken says reads front =
    let line : List ℕ = front ++ (word ++ rest) in
    let longer : (front ++ word) ++ rest ≡ line = append_assoc front word rest in
    let long : length (front ++ word) ≡ length front + length word = length-append front word in
    let r : ReadsAt line (length (front ++ word)) ls = subst (λ (x : List ℕ). ReadsAt x (length (front ++ word)) ls) longer (reads (front ++ word)) in
    let t : Token = record { kind = kind; start = length front; end = length (front ++ word) } in
    let here : drop (length front) line ≡ word ++ rest = drop-append_seam front (word ++ rest) in
    let span : length (front ++ word) - length front ≡ length word = omega (arith, long) in
    let text : token_text line t ≡ word =
    ap (λ (n : ℕ). take n (drop (length front) line)) span ∙ ap (λ (b : List ℕ). take (length word) b) here ∙ take-append_seam word rest in
    let is : IsToken line t = record {
      kind = ap kind_at_front here ∙ taken.first;
      longest = long ∙ ap (λ (n : ℕ). length front + n) (sym (ap token_len here ∙ taken.whole));
      form = subst (HasForm kind) (sym text) taken.form;
    } in
    let place : behind_blanks line (length front) ≡ length front + prefix_len is_blank (word ++ rest) = behind_front front (word ++ rest) in
    let start : length front ≡ behind_blanks line (length front) = let none = taken.unblank in omega (arith, place, none) in
    (t ∷ r.0, r.1, ((start, is), r.2), r.3, (subst (λ (b : List ℕ). Says kind b l) (sym text) says, r.4))
