-- How a source is scanned from the left, token by token, until the source ends or has an error.
use Rattle.std.specs.Prelude.{◌≡◌, ℕ, ◌-◌, Bool, true, false, ◌||◌, List, [], ◌∷◌, length, Option, Some, None, Result, Ok, Err, if◌then◌else◌}
use Rattle.tb_read.specs.Lexing.{skip_blanks, kind_of, token_of}
use Rattle.tb_read.specs.declared.token.Token.{Token}
use Rattle.tb_read.specs.declared.token.Token.TheVariants as token
use Rattle.tb_read.specs.declared.fault.TermFault.{TermFault}
use Rattle.tb_read.specs.declared.fault.TermFault.TheVariants.{Syntax}
use Rattle.tb_read.specs.declared.kind.Kind.{Kind}
use Rattle.tb_read.specs.declared.kind.Kind.TheVariants as kind
use Rattle.tb_read.specs.declared.shape.Expect.{Expect}
use Rattle.tb_read.specs.declared.shape.Expect.TheVariants as expect
use Rattle.tb_read.specs.declared.shape.Bracket.{Bracket}
use Rattle.tb_read.specs.declared.shape.Bracket.TheVariants.{Paren, Square}
use Rattle.tb_read.specs.declared.shape.Shape.{Shape}

-- a term can begin with a token of this kind
abbrev pub is_begin : Kind → Bool
is_begin kind.Int = true
is_begin kind.Str = true
is_begin kind.Name = true
is_begin kind.LeftBracket = true
is_begin _ = false

abbrev pub is_right_bracket : Kind → Bool
is_right_bracket kind.RightBracket = true
is_right_bracket _ = false

abbrev pub is_left_paren : Kind → Bool
is_left_paren kind.LeftParen = true
is_left_paren _ = false

-- a token of this kind can follow a term within these open brackets, the innermost first: a comma, or the closing bracket
abbrev pub may_continue : List Bracket → Kind → Bool
may_continue [] next = false
may_continue (bracket ∷ brackets) kind.Comma = true
may_continue (Paren ∷ brackets) kind.RightParen = true
may_continue (Square ∷ brackets) kind.RightBracket = true
may_continue (bracket ∷ brackets) _ = false

abbrev pub expects : Expect → List Bracket → Kind → Bool
expects expect.Term brackets next = is_begin next
expects expect.First brackets next = is_begin next || is_right_bracket next
expects expect.Further brackets next = may_continue brackets next
expects expect.Named brackets next = is_left_paren next || may_continue brackets next

-- the next token can be of this kind
abbrev pub allows : Shape → Kind → Bool
allows shape next = expects shape.expect shape.brackets next

abbrev pub without_first : List Bracket → List Bracket
without_first [] = []
without_first (bracket ∷ brackets) = brackets

-- the open brackets, and what is expected, after a token
abbrev pub after : Shape → Token → Shape
after shape (token.Int number) = record { expect = expect.Further; brackets = shape.brackets }
after shape (token.Str bytes) = record { expect = expect.Further; brackets = shape.brackets }
after shape (token.Name name) = record { expect = expect.Named; brackets = shape.brackets }
after shape token.LeftParen = record { expect = expect.Term; brackets = Paren ∷ shape.brackets }
after shape token.LeftBracket = record { expect = expect.First; brackets = Square ∷ shape.brackets }
after shape token.Comma = record { expect = expect.Term; brackets = shape.brackets }
after shape token.RightParen = record { expect = expect.Further; brackets = without_first shape.brackets }
after shape token.RightBracket = record { expect = expect.Further; brackets = without_first shape.brackets }

-- the source can end here
abbrev pub may_end : Expect → List Bracket → Bool
may_end expect.Further [] = true
may_end expect.Named [] = true
may_end _ _ = false

abbrev pub start : Shape
start = record { expect = expect.Term; brackets = [] }

-- the next token with the bytes after it, or the end of the scan: without an error, or with the first error
pub data Next : Type 0 where
  Makes : Token → List ℕ → Next
  Ends : Option TermFault → Next

abbrev pub made : Result (Token × List ℕ) TermFault → Next
made (Ok found) = Makes found.0 found.1
made (Err fault) = Ends (Some fault)

abbrev pub next_at : Shape → ℕ → List ℕ → Next
next_at shape total [] = if may_end shape.expect shape.brackets then Ends None else Ends (Some (Syntax total))
next_at shape total (byte ∷ bytes) =
    if allows shape (kind_of byte)
    then made (token_of (kind_of byte) total (byte ∷ bytes))
    else Ends (Some (Syntax (total - length (byte ∷ bytes))))

abbrev pub next_of : Shape → ℕ → List ℕ → Next
next_of shape total bytes = next_at shape total (skip_blanks bytes)

-- From this shape, the scan of the bytes gives these tokens, and then ends with this error or without an error.
abbrev pub Runs : Shape → ℕ → List ℕ → List Token → Option TermFault → Type 0
Runs shape total bytes [] end = next_of shape total bytes ≡ Ends end
Runs shape total bytes (token ∷ tokens) end = (rest : List ℕ) × (next_of shape total bytes ≡ Makes token rest) × Runs (after shape token) total rest tokens end

-- the scan of a whole source gives these tokens, and then ends with this error or without an error
abbrev pub Scans : List ℕ → List Token → Option TermFault → Type 0
Scans bytes tokens end = Runs start (length bytes) bytes tokens end
