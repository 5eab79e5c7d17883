-- The form that each kind of token has.
use Rattle.std.specs.Prelude.{ℕ, Bool, false, ◌&&◌, ◌==◌, nat_le, not, List, [], ◌∷◌, length, bytes_eq, codes, IsTrue, if◌then◌else◌}
use Rattle.std.specs.List.{list_all, slice_split}
use Rattle.text_scan.specs.declared.scanning.TokenKind.{TokenKind}
use Rattle.text_scan.specs.declared.scanning.TokenKind.TheVariants.{Word, Number, PathToken, TextToken, Sign}
use Rattle.text_scan.specs.Bytes.{is_first_byte, is_name_byte, is_digit, is_sign}
use Rattle.text_scan.specs.Items.{IsText}

-- a letter or `_`, and then name characters
abbrev pub is_word : List ℕ → Bool
is_word [] = false
is_word (b ∷ bs) = is_first_byte b && list_all is_name_byte bs

-- one or more digits
abbrev pub is_number : List ℕ → Bool
is_number [] = false
is_number (b ∷ bs) = is_digit b && list_all is_digit bs

-- 1 to 64 name characters other than `.` and `..`
abbrev pub is_component : List ℕ → Bool
is_component bs = nat_le 1 (length bs) && nat_le (length bs) 64 && not (bytes_eq bs (codes ".")) && not (bytes_eq bs (codes ".."))
    && list_all is_name_byte bs

-- the components of a path, which stand behind its slashes; `/` alone has none
abbrev pub components : List ℕ → List (List ℕ)
components [] = []
components (b ∷ bs) = if length bs == 0 then [] else slice_split (λ x. x == 47) bs

-- `/` alone, or one or more times `/` and a component
abbrev pub is_path : List ℕ → Bool
is_path [] = false
is_path (b ∷ bs) = b == 47 && list_all is_component (components (b ∷ bs))

-- one sign
abbrev pub is_one_sign : List ℕ → Bool
is_one_sign [] = false
is_one_sign (b ∷ bs) = is_sign b && length bs == 0

-- the bytes have the form of this kind of token
abbrev pub HasForm : TokenKind → List ℕ → Type 0
HasForm Word bytes = IsTrue (is_word bytes)
HasForm Number bytes = IsTrue (is_number bytes)
HasForm PathToken bytes = IsTrue (is_path bytes)
HasForm TextToken bytes = IsText bytes
HasForm Sign bytes = IsTrue (is_one_sign bytes)
