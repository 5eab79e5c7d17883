-- What kind of token begins with a byte, and how many bytes it takes.
use Rattle.std.specs.Prelude.{ℕ, ◌+◌, ◌==◌, if◌then◌else◌, List, [], ◌∷◌, Option, Some, None}
use Rattle.std.specs.List.{prefix_len}
use Rattle.text_scan.specs.declared.scanning.TokenKind.{TokenKind}
use Rattle.text_scan.specs.declared.scanning.TokenKind.TheVariants.{Word, Number, PathToken, TextToken, Sign}
use Rattle.text_scan.specs.Bytes.{is_first_byte, is_digit, is_name_byte, is_path_byte, is_sign}
use Rattle.text_scan.specs.Texts.{text_len}

-- the kind of the token that begins with this byte, if one does
abbrev pub kind_of : ℕ → Option TokenKind
kind_of b =
    if is_first_byte b then Some Word
    else (if is_digit b then Some Number
    else (if b == 47 then Some PathToken
    else (if b == 34 then Some TextToken
    else (if is_sign b then Some Sign
    else None))))

-- the kind of the token at the front
abbrev pub kind_at_front : List ℕ → Option TokenKind
kind_at_front [] = None
kind_at_front (b ∷ bs) = kind_of b

-- how many bytes a token takes behind its first one, as many as it can; what begins no token takes none
abbrev pub len_behind : Option TokenKind → List ℕ → ℕ
len_behind None bs = 0
len_behind (Some Word) bs = prefix_len is_name_byte bs
len_behind (Some Number) bs = prefix_len is_name_byte bs
len_behind (Some PathToken) bs = prefix_len is_path_byte bs
len_behind (Some TextToken) bs = text_len bs
len_behind (Some Sign) bs = 0

-- how many bytes the token at the front takes
abbrev pub token_len : List ℕ → ℕ
token_len [] = 0
token_len (b ∷ bs) = 1 + len_behind (kind_of b) bs
