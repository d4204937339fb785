-- How the lexer splits a source into tokens from the left. These functions serve the proof. `total` is the length of the source.
use Rattle.std.specs.Prelude.{◌≡◌, ℕ, ℤ, suc, ◌+◌, ◌-◌, Bool, true, false, not, ◌&&◌, ◌||◌, ◌==◌, List, [], ◌∷◌, ◌++◌, length, take, drop, Option, Some, None, Result, Ok, Err, if◌then◌else◌}
use Rattle.std.specs.List.{prefix_len}
use Rattle.tb_terms.specs.Names.{is_digit, is_lower, is_upper, is_name_byte}
use Rattle.tb_read.specs.Spelling.{is_blank, digits_value}
use Rattle.tb_read.specs.Lexing.{string_turn, is_negative, is_real, number_of}
use Rattle.tb_read.specs.declared.quoted.Within.{Within}
use Rattle.tb_read.specs.declared.quoted.Within.TheVariants.{Between, Escaped, Going}
use Rattle.tb_read.specs.declared.quoted.Turn.TheVariants as turn
use Rattle.tb_lex.specs.Tokens.{most_tokens, symbol_text}
use Rattle.tb_lex.specs.declared.symbol.Symbol.{Symbol}
use Rattle.tb_lex.specs.declared.symbol.Symbol.TheVariants as symbol
use Rattle.tb_lex.specs.declared.head.Head.{Head}
use Rattle.tb_lex.specs.declared.head.Head.TheVariants as head
use Rattle.tb_lex.specs.declared.token.Token.{Token}
use Rattle.tb_lex.specs.declared.kind.TokenKind.{TokenKind}
use Rattle.tb_lex.specs.declared.kind.TokenKind.TheVariants as kind
use Rattle.tb_lex.specs.declared.fault.LexFault.{LexFault}
use Rattle.tb_lex.specs.declared.fault.LexFault.TheVariants as fault

abbrev pub begins_with : ℕ → List ℕ → Bool
begins_with byte [] = false
begins_with byte (first ∷ bytes) = first == byte

-- none if the byte belongs neither to whitespace nor to a comment; otherwise, whether a comment continues after it
abbrev pub gap_step : Bool → ℕ → List ℕ → Option Bool
gap_step true byte behind = Some (not (byte == 10))
gap_step false byte behind =
    if (byte == 37) && begins_with 37 behind then Some true
    else (if is_blank byte then Some false else None)

-- the bytes after whitespace and comments
abbrev pub skip_gap : Bool → List ℕ → List ℕ
skip_gap in_comment [] = []
skip_gap in_comment (byte ∷ bytes) = elim (gap_step in_comment byte bytes) [
  | None ↦ byte ∷ bytes
  | Some next ↦ skip_gap next bytes
]

-- the kind of token that this byte can begin
abbrev pub head_of : ℕ → Head
head_of byte =
    if is_lower byte then head.Lower
    else (if is_upper byte then head.Upper
    else (if byte == 34 then head.Quote
    else (if is_digit byte || (byte == 45) then head.Numeral else head.Other)))

abbrev pub has_head : Head → List ℕ → Bool
has_head next [] = false
has_head head.Lower (byte ∷ bytes) = is_lower byte
has_head head.Upper (byte ∷ bytes) = is_upper byte
has_head head.Quote (byte ∷ bytes) = byte == 34
has_head head.Numeral (byte ∷ bytes) = is_digit byte || (byte == 45)
has_head head.Other (byte ∷ bytes) = true

-- a piece that was read, with the bytes after it, or its error
abbrev pub Read : Type 0
Read = Result (TokenKind × List ℕ) LexFault

abbrev pub lower_at : List ℕ → Read
lower_at bytes = let len = prefix_len is_name_byte bytes in Ok (kind.Lower (take len bytes), drop len bytes)

abbrev pub upper_at : List ℕ → Read
upper_at bytes = let len = prefix_len is_name_byte bytes in Ok (kind.Upper (take len bytes), drop len bytes)

abbrev pub in_range : ℕ → Option ℤ → List ℕ → Read
in_range from None rest = Err (fault.IntRange from)
in_range from (Some number) rest = Ok (kind.Int number, rest)

-- the number with these digits, before this rest, or its error
abbrev pub number_from : ℕ → Bool → List ℕ → List ℕ → Read
number_from from negative [] rest = Err (fault.BadByte from)
number_from from negative (digit ∷ digits) rest =
    if is_real rest then Err (fault.Real from) else in_range from (number_of negative (digits_value (digit ∷ digits))) rest

abbrev pub number_at : ℕ → List ℕ → Read
number_at total bytes =
    let negative = is_negative bytes in
    let unsigned = drop (if negative then 1 else 0) bytes in
    let len = prefix_len is_digit unsigned in
    number_from (total - length bytes) negative (take len unsigned) (drop len unsigned)

-- the position of a byte that can't continue the string, or of the backslash before it
abbrev pub bad_position : Within → ℕ → ℕ
bad_position Between position = position
bad_position Escaped position = position - 1
bad_position (Going more low high) position = position

abbrev pub string_fault : ℕ → ℕ → Within → ℕ → LexFault
string_fault quote position within byte = if byte == 10 then fault.OpenString quote else fault.BadByte (bad_position within position)

abbrev pub with_prefix : List ℕ → Result (List ℕ × List ℕ) LexFault → Result (List ℕ × List ℕ) LexFault
with_prefix prefix (Ok found) = Ok (prefix ++ found.0, found.1)
with_prefix prefix (Err fault) = Err fault

-- the content of a string up to its closing quote, and the bytes after the quote
abbrev pub string_rest : ℕ → ℕ → Within → List ℕ → Result (List ℕ × List ℕ) LexFault
string_rest quote total within [] = Err (fault.OpenString quote)
string_rest quote total within (byte ∷ bytes) = elim (string_turn within byte) [
  | turn.Ends ↦ Ok ([], bytes)
  | turn.Goes next ↦ string_rest quote total next bytes
  | turn.Puts put next ↦ with_prefix (put ∷ []) (string_rest quote total next bytes)
  | turn.Bad ↦ Err (string_fault quote (total - suc (length bytes)) within byte)
]

abbrev pub string_of : Result (List ℕ × List ℕ) LexFault → Read
string_of (Err fault) = Err fault
string_of (Ok found) = Ok (kind.Str found.0, found.1)

abbrev pub string_at : ℕ → List ℕ → Read
string_at total [] = Err (fault.BadByte total)
string_at total (quote ∷ bytes) = string_of (string_rest (total - suc (length bytes)) total Between bytes)

abbrev pub colon_of : List ℕ → Symbol
colon_of behind = if begins_with 61 behind then symbol.Assign else symbol.Colon

abbrev pub bars_of : List ℕ → Option Symbol
bars_of behind = if begins_with 124 behind then Some symbol.Bars else None

abbrev pub greater_of : List ℕ → Symbol
greater_of behind = if begins_with 62 behind then symbol.Angles else symbol.Greater

-- the longest symbol that begins with this byte, before these bytes
abbrev pub symbol_of : ℕ → List ℕ → Option Symbol
symbol_of byte behind =
    if byte == 40 then Some symbol.LeftParen
    else (if byte == 41 then Some symbol.RightParen
    else (if byte == 91 then Some symbol.LeftBracket
    else (if byte == 93 then Some symbol.RightBracket
    else (if byte == 123 then Some symbol.LeftBrace
    else (if byte == 125 then Some symbol.RightBrace
    else (if byte == 44 then Some symbol.Comma
    else (if byte == 46 then Some symbol.Point
    else (if byte == 58 then Some (colon_of behind)
    else (if byte == 61 then Some symbol.Equals
    else (if byte == 63 then Some symbol.Question
    else (if byte == 43 then Some symbol.Plus
    else (if byte == 42 then Some symbol.Star
    else (if byte == 124 then bars_of behind
    else (if byte == 60 then Some symbol.Less
    else (if byte == 62 then Some (greater_of behind) else None)))))))))))))))

abbrev pub symbol_found : ℕ → List ℕ → Option Symbol → Read
symbol_found from bytes None = Err (fault.BadByte from)
symbol_found from bytes (Some symbol) = Ok (kind.Symbol symbol, drop (length (symbol_text symbol)) bytes)

abbrev pub symbol_at : ℕ → List ℕ → Read
symbol_at total [] = Err (fault.BadByte total)
symbol_at total (byte ∷ bytes) = symbol_found (total - suc (length bytes)) (byte ∷ bytes) (symbol_of byte bytes)

abbrev pub piece_at : Head → ℕ → List ℕ → Read
piece_at head.Lower total bytes = lower_at bytes
piece_at head.Upper total bytes = upper_at bytes
piece_at head.Quote total bytes = string_at total bytes
piece_at head.Numeral total bytes = number_at total bytes
piece_at head.Other total bytes = symbol_at total bytes

-- the next token with the bytes after it, or the end: with no error, or with the first one
pub data Next : Type 0 where
  Makes : Token → List ℕ → Next
  Ends : Option LexFault → Next

abbrev pub made : ℕ → ℕ → Read → Next
made total from (Ok found) = Makes (record { kind = found.0; from = from; to = total - length found.1 }) found.1
made total from (Err fault) = Ends (Some fault)

abbrev pub next_at : ℕ → ℕ → ℕ → List ℕ → Next
next_at limit count total [] = Ends None
next_at limit count total (byte ∷ bytes) =
    if count == limit then Ends (Some fault.TooMany)
    else made total (total - length (byte ∷ bytes)) (piece_at (head_of byte) total (byte ∷ bytes))

abbrev pub next_of : ℕ → ℕ → ℕ → List ℕ → Next
next_of limit count total bytes = next_at limit count total (skip_gap false bytes)

-- After `count` tokens, the bytes give these tokens and then end: with no error, or with this one.
abbrev pub Runs : ℕ → ℕ → ℕ → List ℕ → List Token → Option LexFault → Type 0
Runs limit count total bytes [] end = next_of limit count total bytes ≡ Ends end
Runs limit count total bytes (token ∷ tokens) end = (rest : List ℕ) × (next_of limit count total bytes ≡ Makes token rest) × Runs limit (count + 1) total rest tokens end

-- the tokens of a whole source before its end, and its error, if any
abbrev pub Scans : List ℕ → List Token → Option LexFault → Type 0
Scans bytes tokens end = Runs most_tokens 0 (length bytes) bytes tokens end
