-- The size and the depth of a term, counted over its tokens.
use Rattle.std.specs.Prelude.{ℕ, ◌+◌, ◌-◌, nat_lt, List, [], ◌∷◌, length, max, sum_by, Option, Some, None, if◌then◌else◌}
use Rattle.tb_read.specs.declared.token.Token.{Token}
use Rattle.tb_read.specs.declared.token.Token.TheVariants.{Int, Str, Name, LeftParen, RightParen, LeftBracket, RightBracket, Comma}
use Rattle.tb_read.specs.declared.fault.TermFault.{TermFault}
use Rattle.tb_read.specs.declared.fault.TermFault.TheVariants.{TooLarge, TooDeep}

abbrev pub token_size : Token → ℕ
token_size (Int number) = 1
token_size (Str bytes) = 1 + length bytes
token_size (Name name) = 1 + length name
token_size LeftBracket = 1
token_size LeftParen = 0
token_size RightParen = 0
token_size RightBracket = 0
token_size Comma = 0

abbrev pub tokens_size : List Token → ℕ
tokens_size tokens = sum_by token_size tokens

-- the level of the node that begins with this token, within this number of open brackets
abbrev pub token_level : ℕ → Token → ℕ
token_level nested (Int number) = nested + 1
token_level nested (Str bytes) = nested + 1
token_level nested (Name name) = nested + 1
token_level nested LeftBracket = nested + 1
token_level nested LeftParen = 0
token_level nested RightParen = 0
token_level nested RightBracket = 0
token_level nested Comma = 0

abbrev pub nested_after : ℕ → Token → ℕ
nested_after nested (Int number) = nested
nested_after nested (Str bytes) = nested
nested_after nested (Name name) = nested
nested_after nested LeftBracket = nested + 1
nested_after nested LeftParen = nested + 1
nested_after nested RightParen = nested - 1
nested_after nested RightBracket = nested - 1
nested_after nested Comma = nested

-- the deepest level of tokens within this number of open brackets
abbrev pub tokens_levels : ℕ → List Token → ℕ
tokens_levels nested [] = 0
tokens_levels nested (token ∷ tokens) = max (token_level nested token) (tokens_levels (nested_after nested token) tokens)

-- the limit that the term with these tokens exceeds: of size, or else of depth
abbrev pub over_limit : ℕ → ℕ → List Token → Option TermFault
over_limit size levels tokens =
    if nat_lt size (tokens_size tokens) then Some TooLarge
    else (if nat_lt levels (tokens_levels 0 tokens) then Some TooDeep else None)
