-- The token at the beginning of bytes, or the first error in it. The bytes end a source of length `total`, from whose beginning a
-- position counts.
use Rattle.std.specs.Prelude.{ℕ, suc, ◌-◌, ◌^◌, ℤ, pos, neg_ℤ, Bool, true, false, not, ◌&&◌, ◌||◌, ◌==◌, nat_lt, nat_le, List, [], ◌∷◌, ◌++◌, length, take, drop, Option, Some, None, Result, Ok, Err, if◌then◌else◌}
use Rattle.std.specs.List.{prefix_len}
use Rattle.tb_terms.specs.Names.{is_digit, is_lower, is_name_byte}
use Rattle.tb_read.specs.Spelling.{is_blank, digits_value}
use Rattle.tb_read.specs.declared.token.Token.{Token}
use Rattle.tb_read.specs.declared.token.Token.TheVariants.{Int, Str, Name, LeftParen, RightParen, LeftBracket, RightBracket, Comma}
use Rattle.tb_read.specs.declared.quoted.Within.{Within}
use Rattle.tb_read.specs.declared.quoted.Within.TheVariants.{Between, Escaped, Going}
use Rattle.tb_read.specs.declared.quoted.Turn.{Turn}
use Rattle.tb_read.specs.declared.quoted.Turn.TheVariants.{Ends, Goes, Puts, Bad}
use Rattle.tb_read.specs.declared.fault.TermFault.{TermFault}
use Rattle.tb_read.specs.declared.fault.TermFault.TheVariants.{Syntax, Real, IntRange}
use Rattle.tb_read.specs.declared.kind.Kind.{Kind}
use Rattle.tb_read.specs.declared.kind.Kind.TheVariants as kind

abbrev pub skip_blanks : List ℕ → List ℕ
skip_blanks [] = []
skip_blanks (byte ∷ bytes) = if is_blank byte then skip_blanks bytes else byte ∷ bytes

-- the byte that this letter represents after a backslash
abbrev pub unescaped : ℕ → Option ℕ
unescaped letter =
    if letter == 92 then Some 92
    else (if letter == 34 then Some 34
    else (if letter == 110 then Some 10
    else (if letter == 114 then Some 13
    else (if letter == 116 then Some 9 else None))))

-- the effect of the first byte of a character; `Going` has the number of bytes to come, and the range of the next one
abbrev pub lead : ℕ → Turn
lead byte =
    if nat_lt byte 128 then Puts byte Between
    else (if nat_lt byte 194 then Bad
    else (if nat_lt byte 224 then Puts byte (Going 1 128 191)
    else (if byte == 224 then Puts byte (Going 2 160 191)
    else (if byte == 237 then Puts byte (Going 2 128 159)
    else (if nat_lt byte 240 then Puts byte (Going 2 128 191)
    else (if byte == 240 then Puts byte (Going 3 144 191)
    else (if nat_lt byte 244 then Puts byte (Going 3 128 191)
    else (if byte == 244 then Puts byte (Going 3 128 143) else Bad))))))))

-- the effect of a byte after a whole character: the closing quote, a backslash, or the first byte of a character
abbrev pub between_turn : ℕ → Turn
between_turn byte =
    if byte == 34 then Ends
    else (if byte == 92 then Goes Escaped
    else (if nat_lt byte 32 && not (byte == 9) then Bad else lead byte))

abbrev pub escaped_turn : Option ℕ → Turn
escaped_turn None = Bad
escaped_turn (Some byte) = Puts byte Between

abbrev pub going_turn : ℕ → ℕ → ℕ → ℕ → Turn
going_turn more low high byte =
    if nat_le low byte && nat_le byte high
    then Puts byte (if nat_lt more 2 then Between else Going (more - 1) 128 191)
    else Bad

-- the effect of the next byte of a string
abbrev pub string_turn : Within → ℕ → Turn
string_turn Between byte = between_turn byte
string_turn Escaped byte = escaped_turn (unescaped byte)
string_turn (Going more low high) byte = going_turn more low high byte

abbrev pub with_prefix : List ℕ → Result (List ℕ × List ℕ) TermFault → Result (List ℕ × List ℕ) TermFault
with_prefix prefix (Ok found) = Ok (prefix ++ found.0, found.1)
with_prefix prefix (Err fault) = Err fault

-- the bytes of a string up to its closing quote, and the bytes after the quote
abbrev pub string_rest : ℕ → Within → List ℕ → Result (List ℕ × List ℕ) TermFault
string_rest total within [] = Err (Syntax total)
string_rest total within (byte ∷ bytes) = elim (string_turn within byte) [
  | Ends ↦ Ok ([], bytes)
  | Goes next ↦ string_rest total next bytes
  | Puts put next ↦ with_prefix (put ∷ []) (string_rest total next bytes)
  | Bad ↦ Err (Syntax (total - suc (length bytes)))
]

abbrev pub string_of : Result (List ℕ × List ℕ) TermFault → Result (Token × List ℕ) TermFault
string_of (Err fault) = Err fault
string_of (Ok found) = Ok (Str found.0, found.1)

abbrev pub string_at : ℕ → List ℕ → Result (Token × List ℕ) TermFault
string_at total [] = Err (Syntax total)
string_at total (quote ∷ bytes) = string_of (string_rest total Between bytes)

abbrev pub name_at : List ℕ → Result (Token × List ℕ) TermFault
name_at bytes = let len = prefix_len is_name_byte bytes in Ok (Name (take len bytes), drop len bytes)

abbrev pub is_negative : List ℕ → Bool
is_negative [] = false
is_negative (byte ∷ bytes) = byte == 45

-- the bytes begin with a point and a digit
abbrev pub is_real : List ℕ → Bool
is_real [] = false
is_real (point ∷ []) = false
is_real (point ∷ digit ∷ bytes) = (point == 46) && is_digit digit

-- the number with this sign and this absolute value, if 64 bits hold it
abbrev pub number_of : Bool → ℕ → Option ℤ
number_of true value = if nat_le value (2 ^ 63) then Some (neg_ℤ (pos value)) else None
number_of false value = if nat_lt value (2 ^ 63) then Some (pos value) else None

abbrev pub in_range : ℕ → Option ℤ → List ℕ → Result (Token × List ℕ) TermFault
in_range position None rest = Err (IntRange position)
in_range position (Some number) rest = Ok (Int number, rest)

-- the number with these digits, and the bytes after it
abbrev pub number_from : ℕ → ℕ → Bool → List ℕ → List ℕ → Result (Token × List ℕ) TermFault
number_from total position negative [] rest = Err (Syntax (total - length rest))
number_from total position negative (digit ∷ digits) rest =
    if is_real rest then Err (Real position) else in_range position (number_of negative (digits_value (digit ∷ digits))) rest

abbrev pub number_at : ℕ → List ℕ → Result (Token × List ℕ) TermFault
number_at total bytes =
    let negative = is_negative bytes in
    let unsigned = drop (if negative then 1 else 0) bytes in
    let len = prefix_len is_digit unsigned in
    number_from total (total - length bytes) negative (take len unsigned) (drop len unsigned)

-- the kind of the token that begins with this byte
abbrev pub kind_of : ℕ → Kind
kind_of byte =
    if byte == 40 then kind.LeftParen
    else (if byte == 41 then kind.RightParen
    else (if byte == 91 then kind.LeftBracket
    else (if byte == 93 then kind.RightBracket
    else (if byte == 44 then kind.Comma
    else (if byte == 34 then kind.Str
    else (if is_lower byte then kind.Name
    else (if is_digit byte || (byte == 45) then kind.Int else kind.Other)))))))

abbrev pub token_of : Kind → ℕ → List ℕ → Result (Token × List ℕ) TermFault
token_of kind.LeftParen total bytes = Ok (LeftParen, drop 1 bytes)
token_of kind.RightParen total bytes = Ok (RightParen, drop 1 bytes)
token_of kind.LeftBracket total bytes = Ok (LeftBracket, drop 1 bytes)
token_of kind.RightBracket total bytes = Ok (RightBracket, drop 1 bytes)
token_of kind.Comma total bytes = Ok (Comma, drop 1 bytes)
token_of kind.Str total bytes = string_at total bytes
token_of kind.Name total bytes = name_at bytes
token_of kind.Int total bytes = number_at total bytes
token_of kind.Other total bytes = Err (Syntax (total - length bytes))
