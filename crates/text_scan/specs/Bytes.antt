-- What a byte of a line may be part of: a name, a number, a path, a sign or what separates them.
use Rattle.std.specs.Prelude.{ℕ, Bool, ◌&&◌, ◌||◌, ◌==◌, nat_le}

-- A to Z, a to z
abbrev pub is_letter : ℕ → Bool
is_letter b = (nat_le 65 b && nat_le b 90) || (nat_le 97 b && nat_le b 122)

-- 0 to 9
abbrev pub is_digit : ℕ → Bool
is_digit b = nat_le 48 b && nat_le b 57

-- a hexadecimal digit of either case
abbrev pub is_hex_digit : ℕ → Bool
is_hex_digit b = is_digit b || (nat_le 65 b && nat_le b 70) || (nat_le 97 b && nat_le b 102)

-- what a name is made of: letters, digits, `_`, `-` and `.`
abbrev pub is_name_byte : ℕ → Bool
is_name_byte b = is_letter b || is_digit b || b == 95 || b == 45 || b == 46

-- what a word begins with: a letter or `_`
abbrev pub is_first_byte : ℕ → Bool
is_first_byte b = is_letter b || b == 95

-- what a path is made of: name characters and `/`
abbrev pub is_path_byte : ℕ → Bool
is_path_byte b = is_name_byte b || b == 47

-- one of `(` `)` `[` `]` `=` `:` `,` `|` `&` `;` `+`
abbrev pub is_sign : ℕ → Bool
is_sign b = b == 40 || b == 41 || b == 91 || b == 93 || b == 61 || b == 58 || b == 44 || b == 124 || b == 38 || b == 59 || b == 43

-- what separates tokens: a space or a tab
abbrev pub is_blank : ℕ → Bool
is_blank b = b == 32 || b == 9

-- what may stand in a line: a tab, or a byte from 0x20 to 0x7E
abbrev pub is_line_byte : ℕ → Bool
is_line_byte b = b == 9 || (nat_le 32 b && nat_le b 126)
