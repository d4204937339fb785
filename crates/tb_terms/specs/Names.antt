-- Which bytes form the name of a term, the name of a process or a variable, or a string.
use Rattle.std.specs.Prelude.{ℕ, Bool, false, ◌&&◌, ◌||◌, ◌==◌, nat_le, List, [], ◌∷◌}
use Rattle.std.specs.List.{list_all}
use Rattle.std.specs.Str.{is_utf8}

abbrev pub is_lower : ℕ → Bool
is_lower c = nat_le 97 c && nat_le c 122

abbrev pub is_upper : ℕ → Bool
is_upper c = nat_le 65 c && nat_le c 90

abbrev pub is_digit : ℕ → Bool
is_digit c = nat_le 48 c && nat_le c 57

-- the bytes that can follow the first letter of a name
abbrev pub is_name_byte : ℕ → Bool
is_name_byte c = is_lower c || is_upper c || is_digit c || (c == 45) || (c == 95)

-- the name of a term
abbrev pub is_name : List ℕ → Bool
is_name [] = false
is_name (c ∷ cs) = is_lower c && list_all is_name_byte cs

-- the name of a process or a variable
abbrev pub is_ident : List ℕ → Bool
is_ident [] = false
is_ident (c ∷ cs) = is_upper c && list_all is_name_byte cs

-- the bytes that a string can have: of those below 32, only tab, newline, and carriage return
abbrev pub is_text_byte : ℕ → Bool
is_text_byte c = nat_le 32 c || (c == 9) || (c == 10) || (c == 13)

abbrev pub is_text : List ℕ → Bool
is_text bytes = list_all is_text_byte bytes

-- the bytes of a string: well-formed UTF-8, of bytes that a string can have
abbrev pub is_string : List ℕ → Bool
is_string bytes = is_utf8 bytes && is_text bytes
