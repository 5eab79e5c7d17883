-- The items at the front of some bytes are read in one way.
use Rattle.std.proofs.Common.{◌≡◌, ℕ, Bool, ◌+◌, ◌*◌, true, false, true≢false, List, [], ◌∷◌, ◌++◌, drop, Option, Some, None, IsTrue, refl, sym, ◌∙◌, ap, ap₂, subst, append_assoc, append-nil}
use Rattle.std.specs.Option.{MatchOption}
use Rattle.std.specs.Bool.{MatchBool}
use Rattle.text_scan.specs.declared.items.Item.{Item}
use Rattle.text_scan.specs.Bytes.{is_hex_digit}
use Rattle.text_scan.specs.Items.{is_plain, escaped, hex_value, IsItem, plain, short, hex, Spells, IsTextOf, IsText}

-- a plain byte is no other one that isn't plain
not_plain : (a b : ℕ) (r s : List ℕ) → IsTrue (is_plain a) → is_plain b ≡ false → a ∷ r ≡ b ∷ s → ⊥
not_plain a b r s holds fails e = let same : a ≡ b = cc in true≢false (sym holds ∙ ap is_plain same ∙ fails)

-- what stands for nothing behind a backslash
not_short : (b c byte : ℕ) (r s : List ℕ) → escaped b ≡ Some byte → escaped c ≡ None → 92 ∷ b ∷ r ≡ 92 ∷ c ∷ s → ⊥
not_short b c byte r s holds fails e =
    let same : b ≡ c = cc in
    let both : Some byte ≡ None = sym holds ∙ ap escaped same ∙ fails in
    cc

in_front : (i j r bytes : List ℕ) → i ≡ j → bytes ≡ i ++ r → bytes ≡ j ++ r
in_front i j r bytes same e = e ∙ ap (λ (x : List ℕ). x ++ r) same

-- the bytes begin with one item at most
pub item_once : (bytes i j r s : List ℕ) (m n : ℕ) → IsItem i m → IsItem j n → bytes ≡ i ++ r → bytes ≡ j ++ s → (m ≡ n) × (r ≡ s)
item_once bytes i j r s m n (plain p e) (plain q f) at bt =
    let a : bytes ≡ m ∷ r = in_front i (m ∷ []) r bytes e at in
    let b : bytes ≡ n ∷ s = in_front j (n ∷ []) s bytes f bt in
    (cc, cc)
item_once bytes i j r s m n (plain p e) (short c q f) at bt =
    absurd (not_plain m 92 r (c ∷ s) p refl (sym (in_front i (m ∷ []) r bytes e at) ∙ in_front j (92 ∷ c ∷ []) s bytes f bt))
item_once bytes i j r s m n (plain p e) (hex a b x y v f) at bt =
    absurd (not_plain m 92 r (120 ∷ a ∷ b ∷ s) p refl (sym (in_front i (m ∷ []) r bytes e at) ∙ in_front j (92 ∷ 120 ∷ a ∷ b ∷ []) s bytes f bt))
item_once bytes i j r s m n (short c p e) (plain q f) at bt =
    absurd (not_plain n 92 s (c ∷ r) q refl (sym (in_front j (n ∷ []) s bytes f bt) ∙ in_front i (92 ∷ c ∷ []) r bytes e at))
item_once bytes i j r s m n (short c p e) (short d q f) at bt =
    let a : bytes ≡ 92 ∷ c ∷ r = in_front i (92 ∷ c ∷ []) r bytes e at in
    let b : bytes ≡ 92 ∷ d ∷ s = in_front j (92 ∷ d ∷ []) s bytes f bt in
    let same : c ≡ d = cc in
    let both : Some m ≡ Some n = sym p ∙ ap escaped same ∙ q in
    (cc, cc)
item_once bytes i j r s m n (short c p e) (hex x y u w v f) at bt =
    absurd (not_short c 120 m r (x ∷ y ∷ s) p refl (sym (in_front i (92 ∷ c ∷ []) r bytes e at) ∙ in_front j (92 ∷ 120 ∷ x ∷ y ∷ []) s bytes f bt))
item_once bytes i j r s m n (hex x y u w v e) (plain q f) at bt =
    absurd (not_plain n 92 s (120 ∷ x ∷ y ∷ r) q refl (sym (in_front j (n ∷ []) s bytes f bt) ∙ in_front i (92 ∷ 120 ∷ x ∷ y ∷ []) r bytes e at))
item_once bytes i j r s m n (hex x y u w v e) (short d q f) at bt =
    absurd (not_short d 120 n s (x ∷ y ∷ r) q refl (sym (in_front j (92 ∷ d ∷ []) s bytes f bt) ∙ in_front i (92 ∷ 120 ∷ x ∷ y ∷ []) r bytes e at))
item_once bytes i j r s m n (hex x y u w v e) (hex x' y' u' w' v' f) at bt =
    let a : bytes ≡ 92 ∷ 120 ∷ x ∷ y ∷ r = in_front i (92 ∷ 120 ∷ x ∷ y ∷ []) r bytes e at in
    let b : bytes ≡ 92 ∷ 120 ∷ x' ∷ y' ∷ s = in_front j (92 ∷ 120 ∷ x' ∷ y' ∷ []) s bytes f bt in
    let one : x ≡ x' = cc in
    let two : y ≡ y' = cc in
    (v ∙ ap₂ (λ (k l : ℕ). 16 * hex_value k + hex_value l) one two ∙ sym v', cc)

-- what an item does not begin
pub no_item_none : (item rest bytes : List ℕ) (byte : ℕ) → bytes ≡ [] → bytes ≡ item ++ rest → IsItem item byte → ⊥
no_item_none item rest bytes byte none e (plain p f) = let a : bytes ≡ byte ∷ rest = in_front item (byte ∷ []) rest bytes f e in cc
no_item_none item rest bytes byte none e (short c p f) = let a : bytes ≡ 92 ∷ c ∷ rest = in_front item (92 ∷ c ∷ []) rest bytes f e in cc
no_item_none item rest bytes byte none e (hex x y u w v f) =
    let a : bytes ≡ 92 ∷ 120 ∷ x ∷ y ∷ rest = in_front item (92 ∷ 120 ∷ x ∷ y ∷ []) rest bytes f e in cc

-- an item that begins with no plain byte begins with a backslash
pub no_item_first : (item rest bytes behind : List ℕ) (byte b : ℕ) → is_plain b ≡ false → (b ≡ 92 → ⊥) → bytes ≡ b ∷ behind → bytes ≡ item ++ rest → IsItem item byte → ⊥
no_item_first item rest bytes behind byte b fails other at e (plain p f) =
    not_plain byte b rest behind p fails (sym (in_front item (byte ∷ []) rest bytes f e) ∙ at)
no_item_first item rest bytes behind byte b fails other at e (short c p f) =
    let a : bytes ≡ 92 ∷ c ∷ rest = in_front item (92 ∷ c ∷ []) rest bytes f e in other cc
no_item_first item rest bytes behind byte b fails other at e (hex x y u w v f) =
    let a : bytes ≡ 92 ∷ 120 ∷ x ∷ y ∷ rest = in_front item (92 ∷ 120 ∷ x ∷ y ∷ []) rest bytes f e in other cc

-- something stands behind a backslash
pub no_item_lone : (item rest bytes : List ℕ) (byte : ℕ) → bytes ≡ 92 ∷ [] → bytes ≡ item ++ rest → IsItem item byte → ⊥
no_item_lone item rest bytes byte at e (plain p f) =
    not_plain byte 92 rest [] p refl (sym (in_front item (byte ∷ []) rest bytes f e) ∙ at)
no_item_lone item rest bytes byte at e (short c p f) =
    let a : bytes ≡ 92 ∷ c ∷ rest = in_front item (92 ∷ c ∷ []) rest bytes f e in cc
no_item_lone item rest bytes byte at e (hex x y u w v f) =
    let a : bytes ≡ 92 ∷ 120 ∷ x ∷ y ∷ rest = in_front item (92 ∷ 120 ∷ x ∷ y ∷ []) rest bytes f e in cc

-- two hexadecimal digits stand behind `\x`
pub no_item_hex : (item rest bytes behind : List ℕ) (byte : ℕ)
    → ((a b : ℕ) (more : List ℕ) → behind ≡ a ∷ b ∷ more → IsTrue (is_hex_digit a) → IsTrue (is_hex_digit b) → ⊥)
    → bytes ≡ 92 ∷ 120 ∷ behind → bytes ≡ item ++ rest → IsItem item byte → ⊥
no_item_hex item rest bytes behind byte none at e (plain p f) =
    not_plain byte 92 rest (120 ∷ behind) p refl (sym (in_front item (byte ∷ []) rest bytes f e) ∙ at)
no_item_hex item rest bytes behind byte none at e (short c p f) =
    not_short c 120 byte rest behind p refl (sym (in_front item (92 ∷ c ∷ []) rest bytes f e) ∙ at)
no_item_hex item rest bytes behind byte none at e (hex x y u w v f) =
    let a : bytes ≡ 92 ∷ 120 ∷ x ∷ y ∷ rest = in_front item (92 ∷ 120 ∷ x ∷ y ∷ []) rest bytes f e in
    let two : behind ≡ x ∷ y ∷ rest = cc in
    none x y rest two u w

-- any other byte behind a backslash makes no item
pub no_item_short : (item rest bytes behind : List ℕ) (byte b : ℕ) → escaped b ≡ None → (b ≡ 120 → ⊥)
    → bytes ≡ 92 ∷ b ∷ behind → bytes ≡ item ++ rest → IsItem item byte → ⊥
no_item_short item rest bytes behind byte b none other at e (plain p f) =
    not_plain byte 92 rest (b ∷ behind) p refl (sym (in_front item (byte ∷ []) rest bytes f e) ∙ at)
no_item_short item rest bytes behind byte b none other at e (short c p f) =
    not_short c b byte rest behind p none (sym (in_front item (92 ∷ c ∷ []) rest bytes f e) ∙ at)
no_item_short item rest bytes behind byte b none other at e (hex x y u w v f) =
    let a : bytes ≡ 92 ∷ 120 ∷ x ∷ y ∷ rest = in_front item (92 ∷ 120 ∷ x ∷ y ∷ []) rest bytes f e in other cc

-- the item that a plain byte is, that two bytes are, that four bytes are
pub plain_item : (bytes behind : List ℕ) (b : ℕ) → is_plain b ≡ true → bytes ≡ b ∷ behind → (item : List ℕ) × (bytes ≡ item ++ behind) × IsItem item b
plain_item bytes behind b holds at = (b ∷ [], at, plain holds refl)

pub short_item : (bytes behind : List ℕ) (b byte : ℕ) → escaped b ≡ Some byte → bytes ≡ 92 ∷ b ∷ behind → (item : List ℕ) × (bytes ≡ item ++ behind) × IsItem item byte
short_item bytes behind b byte holds at = (92 ∷ b ∷ [], at, short b holds refl)

pub hex_item : (bytes behind rest : List ℕ) (byte a b : ℕ) → behind ≡ a ∷ b ∷ rest → IsTrue (is_hex_digit a) → IsTrue (is_hex_digit b)
    → byte ≡ 16 * hex_value a + hex_value b → bytes ≡ 92 ∷ 120 ∷ behind → (item : List ℕ) × (bytes ≡ item ++ rest) × IsItem item byte
hex_item bytes behind rest byte a b e high low value at =
    (92 ∷ 120 ∷ a ∷ b ∷ [], at ∙ ap (λ (x : List ℕ). 92 ∷ 120 ∷ x) e, hex a b high low value refl)

-- a quote alone is no item
no_quote : (bytes item rest : List ℕ) (byte : ℕ) → bytes ≡ 34 ∷ [] → bytes ≡ item ++ rest → IsItem item byte → ⊥
no_quote bytes item rest byte at e i = no_item_first item rest bytes [] byte 34 refl (λ x. cc) at e i

-- the bytes that written items stand for are determined
pub one_spelling : (written a b : List ℕ) → Spells written a → Spells written b → a ≡ b
one_spelling written [] [] s t = refl
one_spelling written [] (n ∷ ns) s (item, rest, e, is, more) = absurd (no_quote written item rest n s e is)
one_spelling written (m ∷ ms) [] (item, rest, e, is, more) t = absurd (no_quote written item rest m t e is)
one_spelling written (m ∷ ms) (n ∷ ns) (item, rest, e, is, more) (item', rest', e', is', more') =
    let same = item_once written item item' rest rest' m n is is' e e' in
    let next = one_spelling rest' ms ns (subst (λ (x : List ℕ). Spells x ms) same.1 more) more' in
    ap₂ (λ (k : ℕ) (l : List ℕ). k ∷ l) same.0 next

pub one_meaning : (text a b : List ℕ) → IsTextOf text a → IsTextOf text b → a ≡ b
one_meaning text a b (w, e, s) (v, f, t) =
    let same : v ≡ w = cc in
    one_spelling w a b s (subst (λ (x : List ℕ). Spells x b) same t)

-- the items so far are read, and the rest is left
pub record IsLeft (written rest : List ℕ) : Type 0 where
  pub forth : (bytes : List ℕ) → Spells written bytes → (more : List ℕ) × Spells rest more
  pub back : (more : List ℕ) → Spells rest more → (bytes : List ℕ) × Spells written bytes

pub left_all : (written : List ℕ) → IsLeft written written
left_all written = record { forth = λ bytes s. (bytes, s); back = λ more s. (more, s) }

-- behind an item only what is spelled there is spelled
pub behind_item : (rest item more : List ℕ) (byte : ℕ) (bytes : List ℕ) → rest ≡ item ++ more → IsItem item byte → Spells rest bytes
    → (ms : List ℕ) × (bytes ≡ byte ∷ ms) × Spells more ms
behind_item rest item more byte [] e is s = absurd (no_quote rest item more byte s e is)
behind_item rest item more byte (m ∷ ms) e is (item', more', e', is', s) =
    let same = item_once rest item' item more' more m byte is' is e' e in
    (ms, ap (λ (k : ℕ). k ∷ ms) same.0, subst (λ (x : List ℕ). Spells x ms) same.1 s)

pub left_more : (written rest more : List ℕ) (byte : ℕ) → IsLeft written rest → (item : List ℕ) × (rest ≡ item ++ more) × IsItem item byte
    → IsLeft written more
left_more written rest more byte h (item, e, is) = record {
  forth = λ bytes s.
      let far = h.forth bytes s in
      let one = behind_item rest item more byte far.0 e is far.1 in
      (one.0, one.2);
  back = λ ms s. h.back (byte ∷ ms) (item, more, e, is, s);
}

-- where no item is left there is the closing quote
pub left_none : (written rest : List ℕ) → IsLeft written rest → ((item more : List ℕ) (byte : ℕ) → rest ≡ item ++ more → IsItem item byte → ⊥)
    → (bytes : List ℕ) → Spells written bytes → rest ≡ 34 ∷ []
left_none written rest h none bytes s = let far = h.forth bytes s in closed far.0 far.1
  where
    closed : (ms : List ℕ) → Spells rest ms → rest ≡ 34 ∷ []
    closed [] t = t
    closed (m ∷ ms) (item, more, e, is, t) = absurd (none item more m e is)

-- the bytes so far are read, and what is left is the end of a text
pub record IsReadTo (text bytes rest : List ℕ) : Type 0 where
  pub ends : (more : List ℕ) × Spells rest more
  pub whole : (more : List ℕ) → Spells rest more → IsTextOf text (bytes ++ more)

pub read_none : (text rest : List ℕ) → IsText text → rest ≡ drop 1 text → IsReadTo text [] rest
read_none text rest (bytes, (written, e, s)) at =
    let same : rest ≡ written = at ∙ ap (drop 1) e in
    record {
      ends = (bytes, subst (λ (x : List ℕ). Spells x bytes) (sym same) s);
      whole = λ more t. (rest, e ∙ ap (λ (x : List ℕ). 34 ∷ x) (sym same), t);
    }

pub read_more : (text bytes bytes' rest more : List ℕ) (byte : ℕ) → IsReadTo text bytes rest → (item : List ℕ) × (rest ≡ item ++ more) × IsItem item byte
    → bytes' ≡ bytes ++ byte ∷ [] → IsReadTo text bytes' more
read_more text bytes bytes' rest more byte h (item, e, is) new =
    let one = behind_item rest item more byte h.ends.0 e is h.ends.1 in
    record {
      ends = (one.0, one.2);
      whole = λ ms s.
          let joined : bytes ++ (byte ∷ ms) ≡ bytes' ++ ms = sym (append_assoc bytes (byte ∷ []) ms) ∙ ap (λ (x : List ℕ). x ++ ms) (sym new) in
          subst (IsTextOf text) joined (h.whole (byte ∷ ms) (item, more, e, is, s));
    }

pub read_all : (text bytes rest : List ℕ) → IsReadTo text bytes rest → ((item more : List ℕ) (byte : ℕ) → rest ≡ item ++ more → IsItem item byte → ⊥)
    → IsTextOf text bytes
read_all text bytes rest h none = all h.ends.0 h.ends.1
  where
    all : (ms : List ℕ) → Spells rest ms → IsTextOf text bytes
    all [] t = subst (IsTextOf text) (append-nil bytes) (h.whole [] t)
    all (m ∷ ms) (item, more, e, is, t) = absurd (none item more m e is)

-- the item that `\x` begins
pub hex_match : (bytes behind : List ℕ) (found : Option Item) → bytes ≡ 92 ∷ 120 ∷ behind
    → MatchOption found
    ((a b : ℕ) (rest : List ℕ) → behind ≡ a ∷ b ∷ rest → IsTrue (is_hex_digit a) → IsTrue (is_hex_digit b) → ⊥)
    (λ r. (a b : ℕ) × (behind ≡ a ∷ b ∷ r.rest.now) × IsTrue (is_hex_digit a) × IsTrue (is_hex_digit b) × (r.byte ≡ 16 * hex_value a + hex_value b))
    → MatchOption found
    ((item rest : List ℕ) (byte : ℕ) → bytes ≡ item ++ rest → IsItem item byte → ⊥)
    (λ r. (item : List ℕ) × (bytes ≡ item ++ r.rest.now) × IsItem item r.byte)
hex_match bytes behind None at none = λ item rest byte e is. no_item_hex item rest bytes behind byte none at e is
hex_match bytes behind (Some r) at (a, b, e, high, low, value) = hex_item bytes behind r.rest.now r.byte a b e high low value at

-- whether something is spelled shows where no item is left
pub spelled_match : (written rest : List ℕ) (closed : Bool) → IsLeft written rest
    → ((item more : List ℕ) (byte : ℕ) → rest ≡ item ++ more → IsItem item byte → ⊥)
    → MatchBool closed (rest ≡ 34 ∷ []) (rest ≡ 34 ∷ [] → ⊥)
    → MatchBool closed ((bytes : List ℕ) × Spells written bytes) ((bytes : List ℕ) → Spells written bytes → ⊥)
spelled_match written rest true h none at = h.back [] at
spelled_match written rest false h none other = λ bytes s. other (left_none written rest h none bytes s)
