-- The printed text of tokens: between each two tokens nothing, a space, or a newline (LF).
use Rattle.std.specs.Prelude.{ℕ, Bool, true, false, List, [], ◌∷◌, ◌++◌, codes, if◌then◌else◌}
use Rattle.std.specs.Fmt.{signed_decimal}
use Rattle.tb_terms.specs.Texts.{quoted}
use Rattle.tb_lex.specs.declared.kind.TokenKind.{TokenKind}
use Rattle.tb_lex.specs.declared.kind.TokenKind.TheVariants.{Int, Str, Lower, Upper, Symbol as Sign}
use Rattle.tb_lex.specs.Tokens.{symbol_text}
use Rattle.tb_lex.specs.declared.symbol.Symbol.{Symbol}
use Rattle.tb_lex.specs.declared.symbol.Symbol.TheVariants.{LeftParen, RightParen, LeftBracket, RightBracket, Comma, Question, Less, Greater}
use Rattle.tb_syntax.specs.declared.gap.Before.{Before}
use Rattle.tb_syntax.specs.declared.gap.Before.TheVariants.{Nothing, Opening, Name, Other}
use Rattle.tb_syntax.specs.Words.{is_among}

-- the words that begin a line of a printed script
abbrev pub definition_words : List (List ℕ)
definition_words = codes "process" ∷ codes "tool" ∷ codes "toolbus" ∷ []

-- the words after which a process can come
abbrev pub leading_words : List (List ℕ)
leading_words = codes "is" ∷ codes "in" ∷ codes "then" ∷ codes "else" ∷ []

abbrev pub token_text : TokenKind → List ℕ
token_text (Int number) = signed_decimal number
token_text (Str text) = quoted text
token_text (Lower name) = name
token_text (Upper name) = name
token_text (Sign symbol) = symbol_text symbol

-- the symbols with no space after them
abbrev pub symbol_before : Symbol → Before
symbol_before LeftParen = Opening
symbol_before LeftBracket = Opening
symbol_before Less = Opening
symbol_before _ = Other

-- what a token is to the token after it
abbrev pub before_next : TokenKind → Before
before_next (Int number) = Other
before_next (Str text) = Other
before_next (Lower name) = if is_among leading_words name then Other else Name
before_next (Upper name) = Name
before_next (Sign symbol) = symbol_before symbol

-- the symbols with no space before them
abbrev pub is_closing : Symbol → Bool
is_closing RightParen = true
is_closing RightBracket = true
is_closing Comma = true
is_closing Question = true
is_closing _ = false

-- the symbols with no space between a name and them
abbrev pub is_joining : Symbol → Bool
is_joining LeftParen = true
is_joining Greater = true
is_joining _ = false

-- the space before a token that doesn't follow an opening symbol: a definition begins a line
abbrev pub space : TokenKind → List ℕ
space (Int number) = 32 ∷ []
space (Str text) = 32 ∷ []
space (Lower name) = if is_among definition_words name then 10 ∷ [] else 32 ∷ []
space (Upper name) = 32 ∷ []
space (Sign symbol) = if is_closing symbol then [] else 32 ∷ []

abbrev pub space_after_name : TokenKind → List ℕ
space_after_name (Int number) = space (Int number)
space_after_name (Str text) = space (Str text)
space_after_name (Lower name) = space (Lower name)
space_after_name (Upper name) = space (Upper name)
space_after_name (Sign symbol) = if is_joining symbol then [] else space (Sign symbol)

abbrev pub gap : Before → TokenKind → List ℕ
gap Nothing kind = []
gap Opening kind = []
gap Name kind = space_after_name kind
gap Other kind = space kind

abbrev pub text_from : Before → List TokenKind → List ℕ
text_from before [] = []
text_from before (kind ∷ kinds) = gap before kind ++ token_text kind ++ text_from (before_next kind) kinds

-- the text of tokens, with a newline (LF) at its end
abbrev pub tokens_text : List TokenKind → List ℕ
tokens_text kinds = text_from Nothing kinds ++ 10 ∷ []
